-- `check_pieces::extents_ok` meets its contract. The loop's invariant: the extents that are left decide.
use mathlib.Core.Path.{sym, ◌∙◌}
use Prim.Native.Nat.{◌-◌}
use native.Mathlib.Omega.{arith}
use Rattle.check_pieces.proofs.HeadLaws.{headed, head_there}
use Rattle.check_pieces.proofs.ExtentTests.{Extending, extending_start, far_extent, twice_extent, next_extent, extents_end}
use borrow.Author.Rules.{rules}
use Rattle.check_pieces.proofs.extents.extents_ok.Goals as goal

pub head_word-requires : goal.head_word-requires
head_word-requires c = record {
  in_bounds = head_there _ _ c.requires;
  k_bound = omega arith;
}

pub loop-k-init : goal.loop-k-init
loop-k-init c = extending_start _

pub overflow_add-k : goal.overflow_add-k
overflow_add-k c = omega (arith, (headed _ _ c.requires).recent_extents)

pub head_word-e-requires : goal.head_word-e-requires
head_word-e-requires c = record {
  in_bounds = head_there _ _ c.requires;
  k_bound = omega (arith, (headed _ _ c.requires).recent_extents);
}

pub returns-then-limit-e : goal.returns-then-limit-e
returns-then-limit-e c = far_extent _ _ c.requires c.loop-k.k c.loop-k.invariant (omega arith) _
    c.usize_to_u64.result c.usize_to_u64-2.result _ c.num_extents-limit.ensures c.usize_to_u64.ensures
    c.usize_to_u64-2.ensures c.head_word-e.ensures c.if-limit-e.true

pub among-requires : goal.among-requires
among-requires c = record {
  in_bounds = head_there _ _ c.requires;
  k_bound = omega (arith, (headed _ _ c.requires).recent_extents);
}

pub returns-then-among : goal.returns-then-among
returns-then-among c = twice_extent _ _ c.requires c.loop-k.k c.loop-k.invariant (omega arith) _ c.usize_to_u64.result c.usize_to_u64-2.result _
    c.num_extents-limit.ensures c.usize_to_u64.ensures c.usize_to_u64-2.ensures c.head_word-e.ensures
    (omega arith) (sym c.among.ensures ∙ c.if-among.true)

pub loop-k-preserved : goal.loop-k-preserved
loop-k-preserved c = next_extent _ _ c.requires c.loop-k.k c.loop-k.invariant (omega arith) _ c.usize_to_u64.result c.usize_to_u64-2.result _
    c.num_extents-limit.ensures c.usize_to_u64.ensures c.usize_to_u64-2.ensures c.head_word-e.ensures
    (omega arith) (sym c.among.ensures ∙ c.if-among.false)

pub returns : goal.returns
returns c = extents_end _ _ c.requires c.loop-k.k c.loop-k.invariant (omega arith)
