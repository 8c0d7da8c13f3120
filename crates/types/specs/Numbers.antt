-- The case of an enum that has a number. Assumes nothing.
use Rattle.std.specs.Prelude.{ℕ, cond, List, [], ◌∷◌, eqb}

-- the first of the cases whose number is n, as an answer, or the answer for nothing where no case has that number
unfoldable pub case_with : {A B : Type 0} → (number : A → ℕ) (found : A → B) (nothing : B) (cases : List A) (n : ℕ) → B
case_with number found nothing [] n = nothing
case_with number found nothing (x ∷ xs) n = cond (eqb (number x) n) (found x) (case_with number found nothing xs n)
