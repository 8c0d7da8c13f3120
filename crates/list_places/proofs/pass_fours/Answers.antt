-- `pass_fours` meets its contract. The invariant: the word does not stand before k. Assumes nothing.
use Prim.Native.Nat.{◌-◌}
use native.Mathlib.Omega.{arith}
use Rattle.list_places.proofs.Seeking.{Seeks, seeks_fours}
use Rattle.list_places.proofs.pass_fours.Goals as goal

pub loop-k-preserved : goal.loop-k-preserved
loop-k-preserved c = seeks_fours c.args.w c.args.end c.args.list.now c.requires.end_in_bounds
    c.loop-k.invariant c.if-list-k.false
