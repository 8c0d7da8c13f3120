-- `worth_recording` meets its contract. Assumes nothing.
use mathlib.Core.Path.{◌∙◌}
use native.Mathlib.Omega.{arith}
use Rattle.change_extents.proofs.NeighbourLaws.{end_within, extent_found, worth_found}
use borrow.Author.Rules.{rules}
use Rattle.change_extents.proofs.neighbours.worth_recording.Goals as goal

pub extent_pieces-pieces-requires : goal.extent_pieces-pieces-requires
extent_pieces-pieces-requires c = extent_found c.args.s _ _ _ _ _ c.usize_to_u64.ensures c.usize_to_u64-b.ensures
    c.at.ensures.1 c.extent_for-e.ensures c.requires.i_lt_pieces.0 c.requires.i_lt_pieces.1 c.requires.i_lt_pieces.2

pub worth_among-requires : goal.worth_among-requires
worth_among-requires c = let within = end_within c.usize_to_u64.result c.usize_to_u64-b.result c.extent_for-e.result in
    record {
      cells_span = c.requires.cells_span;
      i_lt_pieces = (c.requires.i_lt_pieces.0, omega (arith, c.u64_to_usize-2.ensures, c.extent_pieces-pieces.ensures.1, within, c.usize_to_u64.ensures));
    }

pub returns : goal.returns
returns c = worth_found _ _ _ _ _ _ c.usize_to_u64.ensures c.usize_to_u64-b.ensures c.at.ensures.1
    c.extent_for-e.ensures _ _ _ (c.u64_to_usize.ensures ∙ c.extent_pieces-pieces.ensures.0)
    (c.u64_to_usize-2.ensures ∙ c.extent_pieces-pieces.ensures.1) _ c.worth_among.ensures
