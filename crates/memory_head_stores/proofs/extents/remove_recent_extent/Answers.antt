-- `remove_recent_extent` meets its contract: those behind p are moved down at once. Assumes nothing.
use mathlib.Core.Path.{◌≡◌, ◌∙◌}
use Prim.Native.Nat.{◌+◌, ◌-◌, ◌≤◌}
use lib.ListN.{length}
use Rattle.memory_layout.specs.Decode.{head_word}
use native.Mathlib.Omega.{arith}
use Rattle.memory_layout.proofs.OffsetLaws.{head_in}
use Rattle.memory_layout.proofs.stores.ExtentStores.{closing_moved}
use Rattle.memory_head_stores.proofs.ExtentLaws.{extent_gone}
use borrow.Author.Rules.{rules}
use Rattle.memory_head_stores.proofs.extents.remove_recent_extent.Goals as goal

pub head_word-requires : goal.head_word-requires
head_word-requires c = record {
  in_bounds = head_in c.args.s c.args.words.now c.requires.words_span;
  k_bound = omega arith;
}

-- the extents are in the head, and the head is there
pub copy_within-requires-clause-in_bounds : goal.copy_within-requires-clause-in_bounds
copy_within-requires-clause-in_bounds c =
    omega (arith, c.u64_to_usize-n.ensures, c.head_word.ensures, c.requires.p_bound.1, head_in c.args.s c.args.words.now c.requires.words_span)

pub copy_within-requires-clause-dest_in_bounds : goal.copy_within-requires-clause-dest_in_bounds
copy_within-requires-clause-dest_in_bounds c =
    let within : 9 + c.args.p + (9 + c.u64_to_usize-n.result - (10 + c.args.p)) ≤ length c.args.words.now =
    omega (arith, c.u64_to_usize-n.ensures, c.head_word.ensures, c.requires.p_bound, head_in c.args.s c.args.words.now c.requires.words_span) in
    within

pub set_head_word-requires-clause-in_bounds : goal.set_head_word-requires-clause-in_bounds
set_head_word-requires-clause-in_bounds c = omega (arith, c.copy_within.ensures.len, head_in c.args.s c.args.words.now c.requires.words_span)

pub returns : goal.returns
returns c =
    let n = c.u64_to_usize-n.result in
    let number : n ≡ head_word c.args.words.now 8 = c.u64_to_usize-n.ensures ∙ c.head_word.ensures in
    let moved = closing_moved c.args.s c.args.words.now c.args.p n c.copy_within.new.self c.requires.words_span
    (omega (arith, number, c.requires.p_bound.1)) (omega (arith, number, c.requires.p_bound.0)) c.copy_within.ensures.len
    c.copy_within.ensures.by_index.0 c.copy_within.ensures.by_index.1 c.copy_within.ensures.by_index.2 in
    extent_gone c.args.s c.args.words.now c.requires.words_span c.args.p n (n - 1) c.copy_within.new.self _ moved number
    (omega (arith, number, c.requires.p_bound.0)) c.usize_to_u64-w.result c.usize_to_u64-w.ensures c.set_head_word.ensures
