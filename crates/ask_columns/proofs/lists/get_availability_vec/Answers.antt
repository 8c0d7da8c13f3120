-- `get_availability_vec` meets its contract. Assumes nothing.
use mathlib.Core.Path.{◌∙◌}
use native.Mathlib.Omega.{arith}
use borrow.Author.Rules.{rules}
use Rattle.ask_columns.proofs.FillLaws.{seeds_few, availability_told, availability_fits}
use Rattle.ask_columns.proofs.lists.get_availability_vec.Goals as goal

pub u64_to_u16-more-requires : goal.u64_to_u16-more-requires
u64_to_u16-more-requires c = omega (arith, c.seeds.ensures.is c.requires.stands_beside.records c.args.cells.now, seeds_few _ _ _ c.requires.stands_beside)

pub fill-requires : goal.fill-requires
fill-requires c = let e = c.u64_to_u16-more.ensures ∙ c.seeds.ensures.is c.requires.stands_beside.records c.args.cells.now in
    record {
      cells_span = c.requires.stands_beside.stands.bounds.spans.in_cells;
      f_bound = (omega arith, c.requires.pieces_in_bounds);
      column_fits = rw e (availability_fits _ _ _ c.requires.stands_beside);
    }

pub returns : goal.returns
returns c = let e = c.u64_to_u16-more.ensures
    ∙ c.seeds.ensures.is c.requires.stands_beside.records c.args.cells.now in
    availability_told _ _ _ _ _ _ c.requires.pieces_in_bounds e c.fill.ensures
