-- `add` meets its contract: w pushed in at a drawn place of its group. Assumes nothing.
use borrow.Author.Rules.{rules}
use mathlib.Core.Path.{ap, ◌∙◌}
use Prim.Native.Nat.{ℕ, ◌+◌, ◌-◌}
use native.Mathlib.Omega.{arith}
use lib.Dec.{ltb}
use Rattle.model.proofs.base.Counts.{bit_le}
use Rattle.list_moves.specs.Moves.{pushed}
use Rattle.list_changes.proofs.Adding.{added_in, pushed-added, added_draws}
use Rattle.list_changes.proofs.add.Goals as goal

pub group_of-g-requires : goal.group_of-g-requires
group_of-g-requires c = record {
  from_le_end = omega arith;
  end_in_bounds = omega (arith, c.requires.n_in_bounds);
  rises = c.requires.rises;
  w_nonzero = c.requires.w_nonzero;
}

pub overflow_sub-size : goal.overflow_sub-size
overflow_sub-size c = c.group_of-g.ensures.rises

pub draw-d-requires : goal.draw-d-requires
draw-d-requires c = omega (arith, c.group_of-g.ensures.ends, c.requires.n_in_bounds)

pub overflow_add-g : goal.overflow_add-g
overflow_add-g c = let h = added_in c.args.w c.group_of-g.ensures (omega (arith, c.requires.n_in_bounds)) c.args.draws.now c.args.used in
    omega (arith, h, c.draw-d.ensures, c.requires.n_in_bounds)

pub push-requires : goal.push-requires
push-requires c = let h = added_in c.args.w c.group_of-g.ensures (omega (arith, c.requires.n_in_bounds)) c.args.draws.now c.args.used in record {
  k_le_end = omega (arith, h, c.draw-d.ensures);
  end_in_bounds = c.requires.n_in_bounds;
  rises = λ k m a f d. c.requires.rises k m (omega arith) f d;
}

pub overflow_add-result : goal.overflow_add-result
overflow_add-result c = omega (arith, c.some.ensures, bit_le (ltb 0 (c.group_of-g.result.high - c.group_of-g.result.low)), c.requires.used_in_bounds)

pub returns : goal.returns
returns c = record {
  list_after = c.push.ensures
      ∙ ap (λ (d : ℕ). pushed (c.group_of-g.result.low + d) c.args.n c.args.w c.args.list.now)
      c.draw-d.ensures
      ∙ pushed-added c.args.w c.group_of-g.ensures (omega arith) c.args.draws.now c.args.used;
  value = ap (λ (d : ℕ). c.args.used + d)
      (c.some.ensures ∙ added_draws c.args.w c.group_of-g.ensures (omega arith) c.args.draws.now c.args.used);
}
