-- A table in two parts. Assumes nothing.
use mathlib.Core.Path.{◌≡◌, ap, ◌∙◌}
use mathlib.Core.List.{List, ◌∷◌, ◌++◌}
use Prim.Native.Nat.{ℕ, zero, suc, ◌+◌}
use native.Mathlib.Omega.{arith}
use Rattle.memory_layout.specs.Tables.{tabulate}
use Rattle.memory_layout.proofs.TableLaws.{tabulate_ext}

-- up to a place, and from there on
pub tabulate_split : {A : Type 0} (n m : ℕ) (f : ℕ → A) → tabulate (n + m) f ≡ tabulate n f ++ tabulate m (λ j. f (n + j))
unfolding tabulate
tabulate_split {A = A} zero m f =
    let e : 0 + m ≡ m = omega arith in
    ap (λ (k : ℕ). tabulate k f) e ∙ tabulate_ext m f (λ j. f (0 + j)) (λ j h. ap f (omega arith))
tabulate_split {A = A} (suc n) m f =
    let e : suc n + m ≡ suc (n + m) = omega arith in
    ap (λ (k : ℕ). tabulate k f) e
    ∙ ap (λ (l : List A). f zero ∷ l) (tabulate_split n m (λ k. f (suc k))
    ∙ ap (λ (l : List A). tabulate n (λ k. f (suc k)) ++ l)
    (tabulate_ext m (λ j. f (suc (n + j))) (λ j. f (suc n + j)) (λ j h. ap f (omega arith))))
