-- Answers of one number that are equal are of equal numbers. Assumes nothing.
use mathlib.Core.Path.{◌≡◌, ap}
use mathlib.Core.List.{List, [], ◌∷◌}
use mathlib.Core.Option.{Option, none, some}
use Prim.Native.Nat.{ℕ}
use Rattle.model.specs.Lists.{each}
use Rattle.model.specs.ask.Questions.{Reply, numbers, nothing, stale_list, plain, one}

or_zero : (x : Option ℕ) → ℕ
or_zero none = 0
or_zero (some n) = n

first_of : (xs : List (Option ℕ)) → ℕ
first_of [] = 0
first_of (x ∷ xs) = or_zero x

-- the first number of an answer
first_in : (r : Reply) → ℕ
first_in (numbers xs) = first_of xs
first_in nothing = 0
first_in stale_list = 0

pub one_is : (m n : ℕ) → one m ≡ one n → m ≡ n
unfolding one plain each first_in first_of or_zero
one_is m n e = ap first_in e
