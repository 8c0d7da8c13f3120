-- What holds after a choice holds after both of its arms; each arm knows how the test came out.
use mathlib.Core.Path.{◌≡◌, refl}
use mathlib.Core.Bool.{Bool, true, false, cond}
use Rattle.model.specs.Lists.{unless, when, branch}

module _ {S : Type 0} (P : S → Type 0) where
  -- one of two
  pub cond_arms : (b : Bool) (x y : S) → (b ≡ true → P x) → (b ≡ false → P y) → P (cond b x y)
  cond_arms true x y f g = f refl
  cond_arms false x y f g = g refl

  -- a phase where a condition holds
  pub when_arms : (b : Bool) (f : S → S) (s : S) → (b ≡ true → P (f s)) → (b ≡ false → P s) → P (when b f s)
  unfolding when
  when_arms true f s g h = g refl
  when_arms false f s g h = h refl

  -- one phase or another
  pub branch_arms : (b : Bool) (f g : S → S) (s : S) → (b ≡ true → P (f s)) → (b ≡ false → P (g s)) → P (branch b f g s)
  unfolding branch
  branch_arms true f g s h k = h refl
  branch_arms false f g s h k = k refl

  -- a phase unless the work is done
  pub unless_arms : (b : Bool) (f : S → S) (s : S) → (b ≡ false → P (f s)) → (b ≡ true → P s) → P (unless b f s)
  unfolding unless
  unless_arms true f s g h = h refl
  unless_arms false f s g h = g refl
