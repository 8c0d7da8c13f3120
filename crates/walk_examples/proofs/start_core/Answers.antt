-- `start_core` meets its contract, by whether a record is lent.
use mathlib.Core.Path.{◌≡◌, refl}
use Prim.Native.Nat.{ℕ, zero, suc, ◌<◌}
use native.Mathlib.Omega.{arith}
use borrow.Author.Rules.{rules}
use Rattle.memory_records.specs.declared.edits.Edit.TheVariants.{Insert}
use Rattle.walk_examples.specs.Starting.{start_edit}
use Rattle.walk_examples.proofs.start_core.Goals as goal

starts : (lent a : ℕ) → 0 < lent → Insert record { index = a; info_idx = 0; flags = 0 } ≡ start_edit lent a
starts zero a h = absurd (omega arith)
starts (suc n) a h = refl

pub returns : goal.returns
returns c = let x = c.args in (refl, refl, starts x.lent x.a (omega (arith, c.if-lent-eq0.false)))
