-- `pick_with` meets its contract. Assumes nothing.
use mathlib.Core.Path.{refl}
use Prim.Native.Nat.{ℕ}
use mathlib.Core.Bool.{Bool, false}
use native.Mathlib.Omega.{arith}
use lib.ListN.{length-replicate}
use borrow.Author.Rules.{rules}
use Rattle.types.specs.Piece.{number_of}
use Rattle.model.specs.Lists.{each}
use Rattle.memory_rows.specs.Lookup.{picker_in}
use Rattle.memory_queues.proofs.StandLaws.{in_queues}
use Rattle.pick_start.specs.Starting.{request_with}
use Rattle.pick_start.proofs.StartLaws.{start_underway}
use Rattle.pick_pieces.proofs.GaveLaws.{whole_begun, whole_picks, whole_gave, whole_left, low_zero}
use Rattle.pick_pieces.proofs.pieces.pick_with.Goals as goal

pub is_forced-forced-requires : goal.is_forced-forced-requires
is_forced-forced-requires c = record {
  cells_span = c.requires.picks.asked.stands.bounds.spans.in_cells;
  in_queues = in_queues c.args.s c.args.live c.args.rows.now c.args.words.now c.args.cells.now (record { bounds = c.requires.picks.asked.stands.bounds; many = c.requires.picks.asked.many })
      c.requires.picks.asked.stands.sound;
  rows_len = (c.requires.picks.asked.wide, c.requires.pick_room.peers);
}

pub pick_phases-r-requires : goal.pick_phases-r-requires
pick_phases-r-requires c = let d = picker_in c.args.live c.args.rows.now c.args.words.now c.args.cells.now in
    let b = whole_begun c.args.q c.args.end c.is_forced-forced.result c.effective_request-asked.result c.effective_request-asked.ensures c.start_pick-t.result c.start_pick-t.ensures in
    let n = b.left in
    record {
      picks = whole_picks c.args.q c.args.end c.is_forced-forced.result c.effective_request-asked.result c.effective_request-asked.ensures c.start_pick-t.result c.start_pick-t.ensures c.requires.picks;
      counts_held = c.requires.counts_held;
      underway = start_underway d c.args.q c.args.end c.start_pick-t.result b c.args.out.now c.args.aside.now _ _ c.requires.pick_room.wanted c.requires.pick_room.contiguous c.requires.pick_room.room
          c.requires.wanted_in_bounds (length-replicate {A = Bool} 4096 false) (length-replicate {A = ℕ} 7 0);
      le_left = (omega arith, b.aside, b.used, c.requires.pick_room.suggestions, low_zero);
    }

pub shape_of-words : goal.shape_of-words
shape_of-words c = c.pick_phases-r.ensures.words_kept.long

pub shape_of-out : goal.shape_of-out
shape_of-out c = c.pick_phases-r.ensures.kept.long

pub shape_of-aside : goal.shape_of-aside
shape_of-aside c = c.pick_phases-r.ensures.long_aside

pub returns : goal.returns
unfolding request_with
returns c = let is = each number_of c.args.suggestions.now in
    let r = request_with c.args.q c.args.bytes.now is in
    let e = c.is_forced-forced.ensures.is c.args.words.now (record { bounds = c.requires.picks.asked.stands.bounds; many = c.requires.picks.asked.many }) r refl in record {
      pick_gave = whole_gave c.args.q c.args.end c.is_forced-forced.result c.effective_request-asked.result c.effective_request-asked.ensures c.start_pick-t.result c.start_pick-t.ensures c.args.draws.now c.args.bytes.now is e refl
          refl c.pick_phases-r.ensures;
      pick_left = whole_left c.args.q c.args.end c.is_forced-forced.result c.effective_request-asked.result c.effective_request-asked.ensures c.start_pick-t.result c.start_pick-t.ensures c.args.draws.now c.args.bytes.now is e refl
          refl c.pick_phases-r.ensures;
    }
