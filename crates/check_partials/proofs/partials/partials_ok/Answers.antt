-- `partials_ok` meets its contract: the pass and the count come to the test side by side. Assumes nothing.
use mathlib.Core.Path.{sym}
use mathlib.Core.Bool.{true≢false}
use native.Mathlib.Omega.{arith}
use borrow.Author.Tests.{not-true, not-false}
use borrow.Author.Rules.{rules}
use Rattle.check_partials.proofs.ReadyLaws.{ready, placed, pass_fails, pass_counts, counts_held}
use Rattle.check_partials.proofs.partials.partials_ok.Goals as goal

pub records_pass-requires : goal.records_pass-requires
records_pass-requires c = record {
  ready = (
    ready _ _ _ _ c.requires.shape_of.0 c.requires.shape_of.1 c.requires.cells_value.0 c.requires.cells_value.1,
    placed _ _ _ _ c.requires.shape_of.0 c.requires.shape_of.1 c.requires.cells_value.0 c.requires.cells_value.1 c.requires.cells_value.2
        _ c.requires.live_value.0,
  );
  rows_len = (c.requires.live_value.1, c.requires.live_value.2);
}

pub returns-then-not-records_pass : goal.returns-then-not-records_pass
returns-then-not-records_pass c = record {
  test = pass_fails _ _ _ _ c.requires.shape_of.0 c.requires.shape_of.1 c.requires.cells_value.0 c.requires.cells_value.1 (λ k. omega
      (arith, c.shared_slice_known-1.given k)) _ c.requires.live_value.0 _
      c.records_pass.ensures.test (not-true _ c.if-not-records_pass.true-raw);
  long = c.records_pass.ensures.long;
  counted = λ e. absurd (true≢false (sym e));
}

pub pieces_at_work-requires : goal.pieces_at_work-requires
pieces_at_work-requires c = c.requires.shape_of.1.in_cells

pub returns : goal.returns
returns c = let ok = not-false _
    c.if-not-records_pass.false-raw in record {
      test = pass_counts _ _ _ _ c.requires.shape_of.0 c.requires.shape_of.1 c.requires.cells_value.0 c.requires.cells_value.1
          (λ k. omega (arith, c.shared_slice_known-1.given k)) _
          c.requires.live_value.0 _ c.records_pass.ensures.test ok _ c.pieces_at_work.ensures;
      long = c.records_pass.ensures.long;
      counted = λ _. counts_held _ _ _ _ c.requires.shape_of.0 c.requires.shape_of.1 c.requires.cells_value.0 c.requires.cells_value.1
          (λ k. omega (arith, c.shared_slice_known-1.given k)) _
          c.requires.live_value.0 _ c.records_pass.ensures.test ok _
          (c.records_pass.ensures.counted ok);
    }
