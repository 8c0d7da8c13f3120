-- `pass_whole` meets its contract. The loop's invariant: so many blocks were passed, and are well where no peer stands without its flag.
use mathlib.Core.Path.{sym, ◌∙◌}
use Prim.{tt}
use native.Mathlib.Omega.{arith}
use borrow.Author.Tests.{not-false}
use Rattle.image_pass.specs.Blocks.{BlocksWell}
use Rattle.image_pass.proofs.PassLaws.{passing_start, passing_next, passing_end, block_well, range_state, weight_most}
use Rattle.image_pass.proofs.pass.pass_whole.Goals as goal

pub loop-j-init : goal.loop-j-init
loop-j-init c = passing_start _ _ _ (omega (arith, c.requires.0)) c.requires.1

pub returns-then-not-in_range : goal.returns-then-not-in_range
unfolding BlocksWell
returns-then-not-in_range c = tt

pub offset_bounds-counts-u64_to_usize : goal.offset_bounds-counts-u64_to_usize
offset_bounds-counts-u64_to_usize c = omega (arith, c.u64_to_usize.ensures, range_state _ _ _ _ (sym c.in_range.ensures ∙ not-false _ c.if-not-in_range.false-raw))

pub bounds-counts-u64_to_usize : goal.bounds-counts-u64_to_usize
bounds-counts-u64_to_usize c = omega (arith, c.u64_to_usize.ensures, range_state _ _ _ _ (sym c.in_range.ensures ∙ not-false _ c.if-not-in_range.false-raw))

pub overflow_add-sum : goal.overflow_add-sum
overflow_add-sum c = omega (arith, weight_most c.u64_to_usize.result, c.loop-j.invariant.most, c.loop-j.invariant.within, c.requires.2)

pub loop-j-preserved : goal.loop-j-preserved
loop-j-preserved c = let t = sym c.in_range.ensures ∙ not-false _ c.if-not-in_range.false-raw in
    passing_next _ _ _ _ _ _ _ c.loop-j.invariant (omega arith) _ _
    (λ z.
    block_well c.loop-j.at c.args.bytes.now (λ i. omega (arith, c.shared_slice_known-1.given i)) (omega (arith, c.requires.0, c.loop-j.invariant.place)) _ _ _ _ _
    c.read1-kind.ensures c.read1-state.ensures c.read2-num_peers.ensures c.read1-has.ensures c.read8-peer.ensures t
    (sym c.only_if-lone.ensures ∙ z)) _ c.u64_to_usize.ensures (omega (arith, c.u64_to_usize.ensures, range_state _ _ _ _ t))

pub returns-then-lone-ne0 : goal.returns-then-lone-ne0
unfolding BlocksWell
returns-then-lone-ne0 c = tt

pub returns : goal.returns
unfolding BlocksWell
returns c = passing_end _ _ _ _ _ _ _ c.loop-j.invariant (omega arith) c.requires.2 (omega (arith, c.if-lone-ne0.false))
