-- One reader after another: how they come apart. Assumes nothing.
use mathlib.Core.Path.{◌≡◌, refl, sym, ap}
use mathlib.Core.List.{List, [], ◌∷◌, ◌++◌, append_assoc}
use Prim.Native.Nat.{ℕ}
use Rattle.model.specs.image.Image.{Got, got, fault, Reader, ret, next}

module _ {A B : Type 0} where
  -- what was found goes on
  pub next-got : (g : Got A) (f : A → Reader B) (a : A) (rest : List ℕ) → g ≡ got a rest → next g f ≡ f a rest
  unfolding next
  next-got g f a rest e = rw e

  -- a fault stays
  pub next-fault : (g : Got A) (f : A → Reader B) (rest : List ℕ) → g ≡ fault rest → next g f ≡ fault rest
  unfolding next
  next-fault g f rest e = rw e

-- a list that is read in parts: one more in front of what is left is one more behind what was read
pub next_behind : {A : Type 0} (before : List A) (a : A) (g : Got (List A))
    → next (next g (λ l. ret (a ∷ l))) (λ l. ret (before ++ l)) ≡ next g (λ l. ret ((before ++ (a ∷ [])) ++ l))
unfolding next
next_behind before a (got l rest) = ap (λ (m : List _). got m rest) (sym (append_assoc before (a ∷ []) l))
next_behind before a (fault rest) = refl

-- nothing was read yet
pub next_start : {A : Type 0} (g : Got (List A)) → g ≡ next g (λ l. ret ([] ++ l))
unfolding next
next_start (got l rest) = refl
next_start (fault rest) = refl
