-- `walk_extents` meets its contract: what is left of the extents is all of them. Assumes nothing.
use mathlib.Core.Path.{◌∙◌}
use Prim.Native.Nat.{◌-◌, ◌≤◌}
use native.Mathlib.Omega.{arith}
use borrow.Author.Rules.{rules}
use Rattle.memory_records.specs.Rows.{records_in}
use Rattle.memory_layout.specs.Decode.{head_word}
use Rattle.memory_rows.specs.Lookup.{picker_in}
use Rattle.pick_state.specs.Requests.{request_of}
use Rattle.pick_extents.specs.Extents.{first_walk}
use Rattle.pick_extents.proofs.ExtentLaws.{ExtentsGoing, extents_start, extents_next, extents_stop, extents_end, extents_lengths, extents_long, as_extents, found_all}
use Rattle.pick_extents.proofs.walk_extents.Goals as goal

pub num_recent_extents-n-requires : goal.num_recent_extents-n-requires
num_recent_extents-n-requires c = c.requires.picks.asked.stands.bounds.spans.in_words

pub loop-k-init : goal.loop-k-init
unfolding first_walk
loop-k-init c = let r = request_of c.args.q c.args.bytes.now in
    (omega arith, extents_start r c.num_recent_extents-n.result c.requires.piece_room c.requires.le_left)

pub extent_step-cur-requires : goal.extent_step-cur-requires
extent_step-cur-requires c = record {
  picks = c.requires.picks;
  piece_room = c.loop-k.invariant.1.now;
  le_left = (c.loop-k.invariant.1.wanted, omega arith, c.loop-k.invariant.1.found);
}

pub shape_of-out-then-cur-eq0 : goal.shape_of-out-then-cur-eq0
shape_of-out-then-cur-eq0 c = (extents_long c.extent_step-cur.ensures.extents_beside c.loop-k.invariant.1.now).0 ∙ (extents_lengths c.loop-k.invariant.1 c.requires.piece_room).0

pub shape_of-aside-then-cur-eq0 : goal.shape_of-aside-then-cur-eq0
shape_of-aside-then-cur-eq0 c = (extents_long c.extent_step-cur.ensures.extents_beside c.loop-k.invariant.1.now).1 ∙ (extents_lengths c.loop-k.invariant.1 c.requires.piece_room).1

pub shape_of-ignored-then-cur-eq0 : goal.shape_of-ignored-then-cur-eq0
shape_of-ignored-then-cur-eq0 c = (extents_long c.extent_step-cur.ensures.extents_beside c.loop-k.invariant.1.now).2 ∙ (extents_lengths c.loop-k.invariant.1 c.requires.piece_room).2

pub returns-then-cur-eq0 : goal.returns-then-cur-eq0
unfolding first_walk
returns-then-cur-eq0 c = let r = request_of c.args.q c.args.bytes.now in
    let e = c.num_recent_extents-n.ensures.1.is (records_in c.args.live c.args.rows.now) c.args.cells.now in
    record {
      extents_beside = as_extents r c.num_recent_extents-n.result e (extents_stop c.loop-k.invariant.1 (omega arith) c.extent_step-cur.ensures.extents_beside c.if-cur-eq0.true);
      found_below = found_all (head_word c.args.words.now 8) (omega arith) c.extent_step-cur.ensures.found_below;
    }

pub loop-k-smaller : goal.loop-k-smaller
loop-k-smaller c = omega arith

pub loop-k-preserved : goal.loop-k-preserved
loop-k-preserved c = (omega arith, extents_next c.loop-k.invariant.1 (omega arith) c.extent_step-cur.ensures.extents_beside c.if-cur-eq0.false c.extent_step-cur.ensures.found_below)

pub shape_of-out : goal.shape_of-out
shape_of-out c = (extents_lengths c.loop-k.invariant.1 c.requires.piece_room).0

pub shape_of-aside : goal.shape_of-aside
shape_of-aside c = (extents_lengths c.loop-k.invariant.1 c.requires.piece_room).1

pub shape_of-ignored : goal.shape_of-ignored
shape_of-ignored c = (extents_lengths c.loop-k.invariant.1 c.requires.piece_room).2

pub returns : goal.returns
unfolding first_walk
returns c = let r = request_of c.args.q c.args.bytes.now in
    let e = c.num_recent_extents-n.ensures.1.is (records_in c.args.live c.args.rows.now) c.args.cells.now in
    record {
      extents_beside = as_extents r c.num_recent_extents-n.result e (extents_end c.loop-k.invariant.1 (omega arith));
      found_below = found_all (head_word c.args.words.now 8) (omega arith) c.loop-k.invariant.1.found;
    }
