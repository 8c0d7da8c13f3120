-- Facts of the definitions of `specs/`: the answer of a search that stopped at k, by what a truth value is.
use Rattle.std.specs.Prelude.{None, Some}
use mathlib.Core.Path.{◌≡◌, refl, ap}
use Prim.Native.Nat.{ℕ, ◌<◌, ◌≤◌}
use mathlib.Core.Bool.{Bool, true, false}
use native.Mathlib.Nat.{lt_irrefl, lt_of_lt_of_le}
use lib.Dec.{T, ltb, lt→ltb, ltb→lt}
use Rattle.memory_records.specs.Records.{choice_of, answer_of}

pub holds : (t : Bool) → T t → t ≡ true
holds true _ = refl
holds false a = absurd a

pub fails : (t : Bool) → (T t → ⊥) → t ≡ false
fails true f = absurd (f tt)
fails false _ = refl

pub at_hit : (k n : ℕ) → k < n → answer_of k n ≡ Some k
at_hit k n l = ap (λ (t : Bool). choice_of t (Some k) None) (holds (ltb k n) (lt→ltb k n l))

pub at_miss : (k n : ℕ) → n ≤ k → answer_of k n ≡ None
at_miss k n l = ap (λ (t : Bool). choice_of t (Some k) None) (fails (ltb k n) (λ a. lt_irrefl k (lt_of_lt_of_le (ltb→lt k n a) l)))
