-- `to_later` meets its contract: a move, and an exchange with a drawn place. Assumes nothing.
use borrow.Author.Rules.{rules}
use mathlib.Core.Path.{ap, ◌∙◌}
use mathlib.Core.List.{List}
use Prim.Native.Nat.{ℕ, ◌+◌, ◌-◌}
use native.Mathlib.Omega.{arith}
use lib.ListN.{set, length-set}
use Rattle.model.specs.list.Order.{later, swap}
use Rattle.model.proofs.list.GroupMoves.{draw_le}
use Rattle.list_entries.specs.Words.{listed_rank}
use Rattle.list_draws.proofs.Moving.{later-pulled}
use Rattle.list_draws.proofs.to_later.Goals as goal

pub pull_within-requires : goal.pull_within-requires
pull_within-requires c = record {
  k_le_last = omega (arith, c.requires.k_lt_low);
  last_in_bounds = omega (arith, c.requires.k_lt_low, c.requires.low_le_high, c.requires.high_in_bounds);
  rises = λ k m f g q. c.requires.rises k m f g (omega (arith, c.requires.k_lt_low));
}

pub overflow_add-to : goal.overflow_add-to
overflow_add-to c = omega (
  arith,
  draw_le c.args.draws.now c.args.used
      (c.args.high - c.args.low),
  c.draw-d.ensures,
  c.requires.k_lt_low,
  c.requires.low_le_high,
  c.requires.high_in_bounds,
)

pub swap-requires : goal.swap-requires
swap-requires c = let kept = length-set c.pull_within.new.list (c.args.low - 1) c.args.w in
    record {
      k_in_bounds = omega (arith, kept, c.list-1.given);
      m_in_bounds = omega (
        arith,
        kept,
        c.list-1.given,
        draw_le c.args.draws.now c.args.used (c.args.high - c.args.low),
        c.draw-d.ensures,
      );
    }

pub shape_of-list : goal.shape_of-list
shape_of-list c = omega (
  arith,
  length-set c.pull_within.new.list (c.args.low - 1)
      c.args.w,
  c.list-1.given,
  c.list-2-1.given,
)

pub returns : goal.returns
returns c = let to = c.args.low - 1 in
    let moved = later listed_rank c.args.k to (set c.args.list.now c.args.k c.args.w) in
    c.swap.ensures
    ∙ ap (λ (z : List ℕ). swap (set z to c.args.w) to (to + c.draw-d.result))
    c.pull_within.ensures
    ∙ ap (λ (z : List ℕ). swap z to (to + c.draw-d.result)) (later-pulled c.args.k to c.args.w c.args.list.now (omega arith)
    (omega arith))
    ∙ ap (λ (z : ℕ). swap moved to (to + z)) c.draw-d.ensures
