-- `blocks_of_rows` meets its contract: after k turns the blocks of k rows are summed up. Assumes nothing.
use Prim.Native.Nat.{◌+◌}
use mathlib.Core.Path.{◌≡◌, refl, ◌∙◌}
use Prim.Native.Nat.{◌-◌, ◌≤◌}
use lib.ListN.{get_or}
use Rattle.model.specs.Bep3.{sum_to}
use Rattle.memory_layout.specs.Decode.{blocks_of}
use Rattle.memory_layout.proofs.OffsetLaws.{head_in}
use Rattle.memory_layout.proofs.StandingLaws.{stands_shape}
use Rattle.ask_picker.proofs.AskedLaws.{asked_queues}
use Rattle.image_parts.proofs.RowLaws.{piece_there, blocks_there}
use Rattle.image_write.proofs.LengthLaws.{sum_next, sum_end, blocks_small}
use borrow.Author.Rules.{rules}
use native.Mathlib.Omega.{arith}
use Rattle.image_write.proofs.lengths.blocks_of_rows.Goals as goal

pub head_word-total-requires : goal.head_word-total-requires
head_word-total-requires c = record {
  in_bounds = head_in _ _ c.requires.asked.stands.bounds.spans.in_words;
  k_bound = omega arith;
}

pub head_word-size-requires : goal.head_word-size-requires
head_word-size-requires c = record {
  in_bounds = head_in _ _ c.requires.asked.stands.bounds.spans.in_words;
  k_bound = omega arith;
}

pub loop-k-init : goal.loop-k-init
unfolding sum_to
loop-k-init c = (omega arith, refl)

pub offset_bounds-rows-k : goal.offset_bounds-rows-k
offset_bounds-rows-k c = omega (arith, c.loop-k-test.true, (asked_queues _ _ _ _ _ c.requires.asked).few)

pub bounds-rows-k : goal.bounds-rows-k
bounds-rows-k c = omega (arith, c.loop-k-test.true, c.requires.asked.wide, (asked_queues _ _ _ _ _ c.requires.asked).few)

pub blocks_at-sum-requires : goal.blocks_at-sum-requires
blocks_at-sum-requires c = piece_there _ _ _ _ _ _ (stands_shape _ _ _ _ c.requires.asked.stands.bounds) (c.usize_to_u64.ensures ∙ c.u32_to_usize.ensures) c.head_word-total.ensures
    c.head_word-size.ensures ((asked_queues _ _ _ _ _ c.requires.asked).there _ c.loop-k-test.true)

pub overflow_add-sum : goal.overflow_add-sum
overflow_add-sum c = let v = blocks_there _ _ _ _ _ _ (c.usize_to_u64.ensures ∙ c.u32_to_usize.ensures) c.head_word-total.ensures c.head_word-size.ensures
    c.blocks_at-sum.ensures in
    omega (arith, sum_next _ _ _ _ c.loop-k.invariant.1 v, blocks_small _ _ _ _ _ c.requires.asked (c.loop-k.k + 1) (omega (arith, c.loop-k-test.true)))

pub loop-k-preserved : goal.loop-k-preserved
loop-k-preserved c = let v = blocks_there _ _ _ _ _ _ (c.usize_to_u64.ensures ∙ c.u32_to_usize.ensures) c.head_word-total.ensures c.head_word-size.ensures
    c.blocks_at-sum.ensures in
    (omega arith, sum_next _ _ _ _ c.loop-k.invariant.1 v)

pub returns : goal.returns
returns c = sum_end _ _ _ _ c.loop-k.invariant.1 (omega (arith, c.loop-k.invariant.0))
