-- `check_pieces::rest_ok` meets its contract. The loop's invariant: the places from `start` to k pass. Assumes nothing.
use Prim.Native.Nat.{◌-◌}
use native.Mathlib.Omega.{arith}
use Rattle.check_list.proofs.WalkLaws.{Walking, walking_start, walking_next, walking_stop, walking_end}
use borrow.Author.Rules.{rules}
use Rattle.check_list.proofs.list.rest_ok.Goals as goal

pub loop-k-init : goal.loop-k-init
loop-k-init c = walking_start _ _ _ _ _ _ c.requires.start_le_many.0 c.requires.le_least

pub step-last-requires : goal.step-last-requires
step-last-requires c = record {
  n_bound = (
    c.requires.n_bound.0,
    omega
        (arith, c.requires.n_bound.1, c.loop-k.invariant.long),
  );
  le_last = c.loop-k.invariant.low;
}

pub returns-then-last-eq0 : goal.returns-then-last-eq0
returns-then-last-eq0 c = walking_stop _ _ _ _ _ _ _ c.loop-k.last
    c.loop-k.k
    c.loop-k.invariant (omega arith) _ _ c.step-last.ensures
    c.if-last-eq0.true

pub loop-k-preserved : goal.loop-k-preserved
loop-k-preserved c = walking_next _ _ _ _ _ _ _ c.loop-k.last
    c.loop-k.k
    c.loop-k.invariant (omega arith) _ _ c.step-last.ensures
    c.if-last-eq0.false

pub returns : goal.returns
returns c = walking_end _ _ _ _ _ _ _ c.loop-k.last c.loop-k.k c.loop-k.invariant (omega arith)
