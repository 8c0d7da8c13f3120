-- `peer_or_zero` meets its contract. Assumes nothing.
use mathlib.Core.Bool.{Bool, cond}
use mathlib.Core.Path.{sym, ap}
use Prim.Native.Nat.{ℕ}
use Rattle.ask_records.proofs.words.peer_or_zero.Goals as goal

pub returns-then-has : goal.returns-then-has
returns-then-has c = ap (λ (t : Bool). cond {A = ℕ} t c.args.peer 0) (sym c.if-has.true)

pub returns-else-has : goal.returns-else-has
returns-else-has c = ap (λ (t : Bool). cond {A = ℕ} t c.args.peer 0) (sym c.if-has.false)
