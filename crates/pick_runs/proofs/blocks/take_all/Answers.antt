-- `take_all` meets its contract. Assumes nothing.
use Rattle.pick_runs.proofs.AllLaws.{AllRest, all_start, all_next, all_stop, all_end, all_flagged}
use Rattle.pick_runs.specs.Spans.{HasBlocks}
use Rattle.pick_state.specs.PickStates.{with_flags}
use Rattle.pick_state.specs.declared.numbers.PickNumbers.{PickNumbers}
use Rattle.model.specs.Lists.{set_nth}
use lib.ListN.{length, length-set}
use native.Mathlib.Omega.{arith}
use Prim.Native.Nat.{◌-◌}
use mathlib.Core.List.{[]}
use mathlib.Core.Path.{sym, ap, ◌∙◌}
use borrow.Author.Rules.{rules}
use Rattle.pick_runs.proofs.blocks.take_all.Goals as goal

pub loop-j-init : goal.loop-j-init
loop-j-init c = all_start (HasBlocks c.args.k c.args.n) c.args.k c.args.n c.flagged-cur.result c.args.out.now c.args.loops.now

pub count-requires : goal.count-requires
count-requires c = let l = (c.loop-j.invariant.run []).counters in
    (omega (arith, c.requires.count_room.long), omega (arith, c.loop-j.invariant.counts.blocks, c.requires.count_room.blocks))

pub take-cur-requires : goal.take-cur-requires
unfolding with_flags
take-cur-requires c = let u = ap (λ (x : PickNumbers). x.end) c.flagged-cur.ensures in
    let g = ap (λ (x : PickNumbers). x.given) c.flagged-cur.ensures in
    let l = (c.loop-j.invariant.run []).kept.long in
    record {
      end_in_bounds = (omega (arith, (c.loop-j.invariant.run []).few, c.requires.n_in_bounds.0), omega (arith, (c.loop-j.invariant.run []).given, c.requires.n_in_bounds.1));
      i_bound = (c.requires.k_bound.0, omega (arith, c.requires.k_bound.1));
    }

pub contiguous_over-requires : goal.contiguous_over-requires
unfolding with_flags
contiguous_over-requires c = let g = ap (λ (x : PickNumbers). x.given) c.flagged-cur.ensures in
    omega (arith, (c.loop-j.invariant.run []).given, c.requires.n_in_bounds.1, c.take-cur.ensures.given)

pub shape_of-out-then-contiguous_over : goal.shape_of-out-then-contiguous_over
shape_of-out-then-contiguous_over c = c.take-cur.ensures.kept.long ∙ (c.loop-j.invariant.run []).kept.long

pub shape_of-loops-then-contiguous_over : goal.shape_of-loops-then-contiguous_over
unfolding set_nth
shape_of-loops-then-contiguous_over c = ap length c.count.ensures ∙ (simp length-set (c.loop-j.invariant.run []).counters)

pub returns-then-contiguous_over : goal.returns-then-contiguous_over
returns-then-contiguous_over c = let l = (c.loop-j.invariant.run []).counters in
    all_flagged c.args.k c.args.n c.flagged-cur.ensures
    (all_stop c.loop-j.invariant (omega arith) (omega (arith, c.requires.count_room.long)) c.take-cur.ensures c.count.ensures
    (sym c.contiguous_over.ensures ∙ c.if-contiguous_over.true))

pub loop-j-preserved : goal.loop-j-preserved
loop-j-preserved c = let l = (c.loop-j.invariant.run []).counters in
    all_next c.loop-j.invariant (omega arith) (omega (arith, c.requires.count_room.long)) c.take-cur.ensures c.count.ensures
    (sym c.contiguous_over.ensures ∙ c.if-contiguous_over.false)

pub shape_of-out : goal.shape_of-out
shape_of-out c = (c.loop-j.invariant.run []).kept.long

pub shape_of-loops : goal.shape_of-loops
shape_of-loops c = (c.loop-j.invariant.run []).counters

pub returns : goal.returns
returns c = all_flagged c.args.k c.args.n c.flagged-cur.ensures (all_end c.loop-j.invariant (omega arith))
