-- `partial_step` meets its contract. Assumes nothing.
use Rattle.model.specs.Options.{prioritized_partials}
use mathlib.Core.List.{[]}
use borrow.Author.Tests.{le-leb}
use Rattle.memory_layout.specs.Changes.{partial_in}
use Rattle.pick_state.specs.Requests.{request_of}
use Rattle.pick_scan.proofs.KeyLaws.{blocks_small}
use Rattle.pick_visits.proofs.VisitLaws.{picks_sound, flag_wanted, flag_underway}
use Rattle.pick_blocks.proofs.AddingLaws.{partial_room}
use Rattle.memory_rows.specs.Lookup.{picker_in}
use Rattle.pick_laws.proofs.BoundLaws.{small}
use Rattle.pick_partials.proofs.WalkLaws.{partial_stepped}
use borrow.Author.Rules.{rules}
use Rattle.pick_partials.proofs.walks.partial_step.Goals as goal

pub add_blocks_downloading-requires : goal.add_blocks_downloading-requires
add_blocks_downloading-requires c = let l = flag_wanted prioritized_partials c.args.t _ c.flagged-u.ensures c.requires.le_left.0 in
    record {
      picks = (c.requires.picks, c.requires.le_left.1);
      has_room = partial_room (flag_underway prioritized_partials _ c.flagged-u.ensures c.requires.partial_room.underway) l;
    }

pub shape_of-out : goal.shape_of-out
shape_of-out c = (c.add_blocks_downloading.ensures.is
    (picker_in c.args.live c.args.rows.now c.args.words.now c.args.cells.now) [] []).kept.long

pub shape_of-aside : goal.shape_of-aside
shape_of-aside c = (c.add_blocks_downloading.ensures.is
    (picker_in c.args.live c.args.rows.now c.args.words.now c.args.cells.now) [] []).long_aside

pub returns : goal.returns
unfolding small
returns c = let d = picker_in c.args.live c.args.rows.now c.args.words.now c.args.cells.now in
    partial_stepped (request_of c.args.q c.args.bytes.now) (partial_in d c.args.k) _ c.flagged-u.ensures c.requires.le_left.0 (picks_sound c.requires.picks)
    (le-leb _ 256 (blocks_small c.args.s c.args.live c.args.rows.now c.args.words.now c.args.cells.now c.requires.picks.asked c.args.k c.requires.le_left.1))
    c.add_blocks_downloading.ensures
