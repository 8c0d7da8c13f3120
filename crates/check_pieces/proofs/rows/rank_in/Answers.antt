-- `check_pieces::rank_in` meets its contract: the product has room whatever the cells hold, and is the rank where they are in range.
use Prim.Native.Nat.{ℕ, min}
use mathlib.Core.Path.{ap, ◌∙◌}
use native.Mathlib.Omega.{arith}
use Rattle.check_pieces.proofs.RowLaws.{room, rank_nothing, rank_product}
use borrow.Author.Rules.{rules}
use Rattle.check_pieces.proofs.rows.rank_in.Goals as goal

pub overflow_mul-full-2 : goal.overflow_mul-full-2
overflow_mul-full-2 c = omega (arith, (room c.args.count c.args.priority).1)

pub overflow_sub-full-2 : goal.overflow_sub-full-2
overflow_sub-full-2 c = omega (arith, (room c.args.count c.args.priority).0, c.min-taken_off.ensures)

pub returns-then-unlisted : goal.returns-then-unlisted
returns-then-unlisted c = rank_nothing _ _ _ _ _ c.if-unlisted.true

pub returns : goal.returns
returns c = rank_product _ _ _ _ _ c.if-unlisted.false _ (c.min-taken_off.ensures ∙ ap (λ (n : ℕ). min n 2) c.saturating_sub.ensures)
