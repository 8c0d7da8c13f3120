-- `rows_pass` meets its contract: after j blocks the joined cells are in range exactly where the first j are good, and the numbers are
-- those of the first j. Assumes nothing.
use Prim.Native.Nat.{◌≤◌, ◌-◌}
use native.Mathlib.Omega.{arith}
use Rattle.check_blocks.specs.Rows.{row_in}
use Rattle.check_blocks.proofs.CountLaws.{Counting, counting_start, counting_next, counting_end, numbers_few}
use borrow.Author.Rules.{rules}
use Rattle.check_blocks.proofs.blocks.rows_pass.Goals as goal

pub loop-j-init : goal.loop-j-init
loop-j-init c = (omega arith, counting_start _ _ _)

pub count_block-counts-requires : goal.count_block-counts-requires
count_block-counts-requires c = let f = numbers_few _ _ _ c.loop-j.invariant.1.numbers in
    (omega (arith, f.0), omega (arith, f.1), omega (arith, f.2))

pub loop-j-preserved : goal.loop-j-preserved
unfolding row_in
loop-j-preserved c = (
  omega arith,
  counting_next _ _ _ _ _ _ _ _ c.loop-j.invariant.1
      c.join-sum.ensures c.count_block-counts.ensures,
)

pub returns : goal.returns
returns c = let all = counting_end _ _ _ _ _ _ _ _ c.loop-j.invariant.1 (omega arith) c.joined_ok.ensures in
    record {
      all = all.0;
      requested = all.1.0;
      writing = all.1.1.0;
      finished = all.1.1.1;
    }
