-- `distributed_copies` meets its contract. Assumes nothing.
use mathlib.Core.Path.{ap₂}
use Prim.Native.Nat.{ℕ, ◌+◌, ◌*◌, ◌/◌}
use native.Mathlib.Omega.{arith}
use borrow.Author.Rules.{rules}
use Rattle.ask_picker.proofs.AskedLaws.{some_piece}
use Rattle.ask_columns.proofs.FillLaws.{seeds_few}
use Rattle.ask_columns.proofs.LeastLaws.{few_copies, least_few, least_most, copies_told}
use Rattle.ask_columns.proofs.copies.distributed_copies.Goals as goal

pub least_copies-least-requires : goal.least_copies-least-requires
least_copies-least-requires c = record {
  cells_span = c.requires.stands.bounds.spans.in_cells;
  few_copies = few_copies _ _ _ c.requires;
}

pub overflow_add-result : goal.overflow_add-result
overflow_add-result c = let e = c.seeds.ensures.is c.requires.records c.args.cells.now in
    omega (arith, e, c.u16_to_u64.ensures, seeds_few _ _ _ c.requires, least_most _ _ _ c.least_copies-least.result c.least_copies-least.ensures)

pub overflow_mul-result : goal.overflow_mul-result
overflow_mul-result c = omega (arith, c.requires.stands.bounds.spans.in_cells.sizes.many, c.usize_to_u64.ensures, least_few _ _ _ c.least_copies-least.result c.least_copies-least.ensures)

pub nonzero_div-result : goal.nonzero_div-result
nonzero_div-result c = omega (arith, c.usize_to_u64-2.ensures, some_piece _ c.requires.records _ _ c.requires.stands)

pub returns : goal.returns
returns c = let e = c.seeds.ensures.is c.requires.records c.args.cells.now in
    copies_told _ _ _ c.least_copies-least.result c.least_copies-least.ensures _ (ap₂ (λ (x y : ℕ). x + y) c.u16_to_u64.ensures e)
    (ap₂ (λ (x y : ℕ). x * 1000 / y) c.usize_to_u64.ensures c.usize_to_u64-2.ensures)
