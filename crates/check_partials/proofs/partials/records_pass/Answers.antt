-- `records_pass` meets its contract: after k records, all passed, the counts are those of the first k. Assumes nothing.
use Prim.Native.Nat.{◌≤◌, ◌-◌}
use mathlib.Core.Path.{◌≡◌, sym, ◌∙◌}
use native.Mathlib.Omega.{arith}
use lib.ListN.{length}
use borrow.Author.Tests.{not-true, not-false}
use Rattle.memory_records.specs.Rows.{records_in}
use Rattle.memory_layout.proofs.OffsetLaws.{places_min}
use Rattle.check_partials.specs.Records.{Columns}
use mathlib.Core.Bool.{true≢false}
use Rattle.check_partials.proofs.GoodLaws.{index_below}
use Rattle.check_partials.proofs.StoreLaws.{columns_turn, columns_end, columns_start}
use Rattle.check_partials.proofs.PlaceLaws.{turn_is, turn_index, turn_place, turn_good}
use Rattle.check_partials.proofs.PassLaws.{Passing, pass_start, pass_end, pass_falls, pass_bad, pass_next}
use borrow.Author.Rules.{rules}
use Rattle.check_partials.proofs.partials.records_pass.Goals as goal

pub loop-k-init : goal.loop-k-init
loop-k-init c = (omega arith, pass_start _ _ _ _ _, c.requires.rows_len.1, columns_start _ _ _ _ _ _)

pub row-r-requires : goal.row-r-requires
row-r-requires c = (
  omega (
    arith,
    c.requires.ready.1.few,
    c.requires.ready.0.spans.in_cells.sizes.places,
    places_min
        c.args.s.pieces,
  ),
  c.requires.rows_len.0,
)

pub returns-then-r-lo : goal.returns-then-r-lo
returns-then-r-lo c = record {
  test = pass_falls _ _ _ _ _ _ _ c.loop-k.invariant.1 _ (omega arith) _
      (turn_index _ _ _ (omega arith) _ c.row-r.ensures) (omega arith);
  long = c.loop-k.invariant.2;
  counted = λ e. absurd (true≢false (sym e));
}

pub record_ok-x-requires : goal.record_ok-x-requires
record_ok-x-requires c = record {
  ready = c.requires.ready.0;
  info_idx_bound = omega (
    arith,
    turn_place c.args.live
        c.args.rows.now
        c.loop-k.k (omega arith) c.row-r.result c.row-r.ensures,
    c.requires.ready.1.there c.loop-k.k
        (omega arith),
  );
}

pub returns-then-not-x : goal.returns-then-not-x
returns-then-not-x c = record {
  test = pass_bad _ _ _ _ _ _ _ c.loop-k.invariant.1 _ (omega arith) _
      (turn_index _ _ _ (omega arith) _ c.row-r.ensures) _
      (turn_good _ _ _ (omega arith) _ c.row-r.ensures _ _ _ _ _
      c.record_ok-x.ensures.0) (not-true _ c.if-not-x.true);
  long = c.loop-k.invariant.2;
  counted = λ e. absurd (true≢false (sym e));
}

pub set_counts-requires : goal.set_counts-requires
set_counts-requires c = (
  omega (
    arith,
    c.requires.ready.1.few,
    c.requires.ready.0.spans.in_cells.sizes.places,
    places_min c.args.s.pieces,
  ),
  c.loop-k.invariant.2,
)

pub overflow_add-lo : goal.overflow_add-lo
overflow_add-lo c = omega (
  arith,
  index_below _ _ _ _ c.row-r.result (sym c.record_ok-x.ensures.0
      ∙ not-false _ c.if-not-x.false),
  c.requires.ready.0.spans.in_cells.sizes.many,
)

pub loop-k-preserved : goal.loop-k-preserved
loop-k-preserved c = let ok = not-false _ c.if-not-x.false in let t = columns_turn
    c.loop-k.counts
    c.loop-k.k
    c.record_ok-x.result.counts
    (omega (
      arith,
      c.requires.ready.1.few,
      c.requires.ready.0.spans.in_cells.sizes.places,
      places_min
          c.args.s.pieces,
    )) c.loop-k.invariant.2 _ _ _ _ _ c.row-r.result
    (turn_is _ _ _ (omega arith) _ c.row-r.ensures)
    (c.record_ok-x.ensures.1 ok)
    c.loop-k.invariant.3 _
    c.set_counts.ensures in (
      omega arith,
      pass_next _ _ _ _ _ _ _
          c.loop-k.invariant.1
          c.args.live (omega arith) _ (turn_index _ _ _ (omega arith) _
          c.row-r.ensures) _
          (turn_good _ _ _ (omega arith) _ c.row-r.ensures _ _ _
          _ _ c.record_ok-x.ensures.0) (omega arith) ok,
      t.0,
      t.1,
    )

pub returns : goal.returns
returns c = record {
  test = pass_end _ _ _ _ _ _ _ _ c.loop-k.invariant.1 (omega arith);
  long = c.loop-k.invariant.2;
  counted = λ e. columns_end _ _ _ _ _ _ _ _ c.loop-k.invariant.3 (omega arith);
}
