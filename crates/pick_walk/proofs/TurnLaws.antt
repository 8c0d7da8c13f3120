-- Turns that suffice: one made leaves the same end, and fewer to make. Assumes nothing.
use mathlib.Core.Path.{◌≡◌, refl, sym, ap, ◌∙◌}
use mathlib.Core.Bool.{Bool, true, false, cond, true≢false}
use Prim.Native.Nat.{ℕ, zero, suc, ◌+◌, ◌≤◌}
use native.Mathlib.Omega.{arith}
use Rattle.model.specs.Lists.{unless, repeat}
use Rattle.model.proofs.base.WalkLaws.{repeat_enough}

module _ {S : Type 0} (turn : S → S) (done : S → Bool) where
  -- nothing is left to do
  pub turns_none : (n : ℕ) (s : S) → done s ≡ true → repeat n turn done s ≡ s
  unfolding repeat unless
  turns_none zero s e = refl
  turns_none (suc n) s e = rw e

  once : (n : ℕ) (s : S) → done s ≡ false → repeat (suc n) turn done s ≡ repeat n turn done (turn s)
  unfolding repeat unless
  once n s e = rw e

  -- n turns suffice, and one is made: n suffice still
  pub turns_next : (n : ℕ) (s : S) → done s ≡ false → done (repeat n turn done s) ≡ true → repeat n turn done (turn s) ≡ repeat n turn done s
  unfolding repeat
  turns_next zero s e h = absurd (true≢false (sym h ∙ e))
  turns_next (suc n) s e h =
      let q = once n s e in
      let k : n + 1 ≡ suc n = omega arith in
      (rw k at (repeat_enough turn done n 1 (turn s) (ap done (sym q) ∙ h))) ∙ sym q

  -- the turns that are made, of n
  unfoldable pub turns_left : (n : ℕ) (s : S) → ℕ
  turns_left zero s = 0
  turns_left (suc n) s = cond (done s) 0 (suc (turns_left n (turn s)))

  pub turns_most : (n : ℕ) (s : S) → turns_left n s ≤ n
  unfolding turns_left
  turns_most zero s = omega arith
  turns_most (suc n) s = go (done s) (turns_most n (turn s))
    where
      go : (b : Bool) → turns_left n (turn s) ≤ n → cond b 0 (suc (turns_left n (turn s))) ≤ suc n
      go true h = omega arith
      go false h = omega arith

  -- more turns than are made change nothing
  more : (n : ℕ) (s : S) → done (repeat n turn done s) ≡ true → turns_left (suc n) s ≡ turns_left n s
  unfolding turns_left repeat unless
  more zero s h = rw h
  more (suc n) s h = go (done s) (λ e. more n (turn s) e) h
    where
      go : (b : Bool) → (done (repeat n turn done (turn s)) ≡ true → turns_left (suc n) (turn s) ≡ turns_left n (turn s))
          → done (unless b (λ t. repeat n turn done (turn t)) s) ≡ true
          → cond b 0 (suc (turns_left (suc n) (turn s))) ≡ cond b 0 (suc (turns_left n (turn s)))
      go true f e = refl
      go false f e = ap suc (f e)

  -- one made leaves one fewer
  pub turns_fewer : (n : ℕ) (s : S) → done s ≡ false → done (repeat n turn done s) ≡ true → turns_left n (turn s) + 1 ≡ turns_left n s
  unfolding turns_left repeat
  turns_fewer zero s e h = absurd (true≢false (sym h ∙ e))
  turns_fewer (suc n) s e h =
      let m = more n (turn s) (ap done (sym (once n s e)) ∙ h) in
      let k : turns_left (suc n) s ≡ suc (turns_left n (turn s)) = rw e in
      omega (arith, m, k)
