-- A list made of a function on its places, and a field chosen by its number. Assumes nothing.
use Rattle.std.specs.Prelude.{ℕ, zero, suc, cond, List, [], ◌∷◌, take, eqb}

-- f 0, f 1, .. up to n of them
unfoldable pub tabulate : {A : Type 0} → (n : ℕ) (f : ℕ → A) → List A
tabulate zero f = []
tabulate (suc n) f = f zero ∷ tabulate n (λ k. f (suc k))

-- the first k elements
unfoldable pub front : {A : Type 0} → (k : ℕ) (l : List A) → List A
front k l = take k l

-- the new value in field f, the old one in any other
unfoldable pub choose : {A : Type 0} → (f k : ℕ) (new old : A) → A
choose f k new old = cond (eqb f k) new old
