-- `set_counts` meets its contract: three stores. Assumes nothing.
use Prim.Native.Nat.{◌+◌}
use native.Mathlib.Omega.{arith}
use lib.ListN.{set, length-set}
use Rattle.check_blocks.specs.Rows.{counts_put}
use borrow.Author.Rules.{rules}
use Rattle.check_blocks.proofs.counts.set_counts.Goals as goal

pub bounds-counts-k-2 : goal.bounds-counts-k-2
bounds-counts-k-2 c = omega (
  arith,
  c.requires.0,
  c.requires.1,
  length-set c.args.counts.now c.args.k
      c.args.c.requested,
)

pub bounds-counts-k-3 : goal.bounds-counts-k-3
bounds-counts-k-3 c = omega (
  arith,
  c.requires.0,
  c.requires.1,
  length-set c.args.counts.now c.args.k
      c.args.c.requested,
  length-set (set c.args.counts.now c.args.k c.args.c.requested) (512 + c.args.k) c.args.c.writing,
)

pub returns : goal.returns
unfolding counts_put
returns c = search rules
