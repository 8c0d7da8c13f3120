-- `to_earlier` meets its contract: a move, and an exchange with a drawn place. Assumes nothing.
use borrow.Author.Rules.{rules}
use mathlib.Core.Path.{ap, ◌∙◌}
use mathlib.Core.List.{List}
use Prim.Native.Nat.{ℕ, suc, ◌+◌, ◌-◌}
use native.Mathlib.Omega.{arith}
use lib.ListN.{set}
use Rattle.model.specs.list.Order.{earlier, swap}
use Rattle.list_entries.specs.Words.{listed_rank}
use Rattle.list_draws.proofs.Moving.{earlier-pushed}
use Rattle.list_draws.proofs.Draws.{drawn_in}
use Rattle.list_draws.proofs.to_earlier.Goals as goal

pub push_within-requires : goal.push_within-requires
push_within-requires c = record {
  k_le_end = c.requires.high_le_k;
  end_in_bounds = c.requires.k_in_bounds;
  rises = c.requires.rises;
}

pub overflow_add-low : goal.overflow_add-low
overflow_add-low c = omega (
  arith,
  drawn_in c.args.low c.args.high (suc c.args.k) c.args.draws.now c.args.used c.requires.low_le_high
      (omega (arith, c.requires.high_le_k)),
  c.draw-d.ensures,
  c.requires.k_in_bounds,
)

pub swap-requires : goal.swap-requires
swap-requires c = record {
  k_in_bounds = omega (arith, c.requires.high_le_k, c.requires.k_in_bounds);
  m_in_bounds = omega (
    arith,
    drawn_in c.args.low c.args.high (suc c.args.k) c.args.draws.now c.args.used c.requires.low_le_high (omega (arith, c.requires.high_le_k)),
    c.draw-d.ensures,
    c.requires.k_in_bounds,
  );
}

pub returns : goal.returns
returns c = let moved = earlier listed_rank c.args.high c.args.k (set c.args.list.now c.args.k c.args.w) in
    c.swap.ensures
    ∙ ap (λ (z : List ℕ). swap z c.args.high (c.args.low + c.draw-d.result))
    (c.push_within.ensures
    ∙ earlier-pushed c.args.high c.args.k c.args.w c.args.list.now c.requires.high_le_k c.requires.k_in_bounds)
    ∙ ap (λ (z : ℕ). swap moved c.args.high (c.args.low + z)) c.draw-d.ensures
