-- The number of live records: never more than 512. Assumes nothing.
use mathlib.Core.Path.{◌≡◌, refl, sym, ap, subst, ◌∙◌}
use mathlib.Core.Bool.{Bool, true, false, cond}
use Prim.Native.Nat.{ℕ, ◌<◌, ◌≤◌}
use mathlib.Core.List.{List}
use native.Mathlib.Omega.{arith}
use lib.Dec.{T, ltb, lt→ltb, ltb→lt}
use lib.ListN.{length, get_or}
use Rattle.std.specs.Prelude.{min}
use borrow.Author.Tests.{ltb-false}
use Rattle.memory_records.specs.Rows.{lesser, live_records}
use Rattle.memory_records.proofs.laws.SearchLaws.{holds, fails}

pub lesser_left : (a b : ℕ) → a < b → lesser a b ≡ a
lesser_left a b h = ap (λ (t : Bool). cond {A = ℕ} t a b) (holds (ltb a b) (lt→ltb a b h))

pub lesser_right : (a b : ℕ) → b ≤ a → lesser a b ≡ b
lesser_right a b h = ap (λ (t : Bool). cond {A = ℕ} t a b) (fails (ltb a b) (λ l. omega (arith, ltb→lt a b l, h)))

pub lesser_min : (a b : ℕ) → min a b ≡ lesser a b
lesser_min a b = go (ltb a b) refl
  where
    go : (t : Bool) → ltb a b ≡ t → min a b ≡ cond {A = ℕ} t a b
    go true e = omega (arith, ltb→lt a b (subst T (sym e) tt))
    go false e = omega (arith, ltb-false a b e)

-- the smaller one is at most either
pub lesser_both : (a b : ℕ) → (lesser a b ≤ a) × (lesser a b ≤ b)
lesser_both a b = go (ltb a b) refl
  where
    go : (t : Bool) → ltb a b ≡ t → (cond {A = ℕ} t a b ≤ a) × (cond {A = ℕ} t a b ≤ b)
    go true e = (omega arith, omega (arith, ltb→lt a b (subst T (sym e) tt)))
    go false e = (above (λ h. subst T e (lt→ltb a b h)), omega arith)
      where
        above : (a < b → ⊥) → b ≤ a
        above f = omega (arith, f)

-- what is below both is below the smaller one
pub below_lesser : (a b k : ℕ) → k ≤ a → k ≤ b → k ≤ lesser a b
below_lesser a b k ka kb = go (ltb a b)
  where
    go : (t : Bool) → k ≤ cond {A = ℕ} t a b
    go true = ka
    go false = kb

-- no head: no record is live
pub live_none : (words : List ℕ) → length words < 16 → live_records words ≡ 0
unfolding live_records
live_none words h = ap (λ (t : Bool). cond {A = ℕ} t 0 (lesser (get_or words 7 0) 512))
    (holds (ltb (length words) 16) (lt→ltb (length words) 16 h))

pub live_head : (words : List ℕ) → 16 ≤ length words → live_records words ≡ lesser (get_or words 7 0) 512
unfolding live_records
live_head words h =
    ap (λ (t : Bool). cond {A = ℕ} t 0 (lesser (get_or words 7 0) 512)) (fails (ltb (length words) 16)
    (λ l. omega (arith, ltb→lt (length words) 16 l, h)))

-- where word 7 is in range it is the number
pub live_few : (words : List ℕ) → 16 ≤ length words → get_or words 7 0 ≤ 512 → live_records words ≡ get_or words 7 0
live_few words h few = live_head words h ∙ go (ltb (get_or words 7 0) 512) refl
  where
    go : (t : Bool) → ltb (get_or words 7 0) 512 ≡ t → cond {A = ℕ} t (get_or words 7 0) 512 ≡ get_or words 7 0
    go true e = refl
    go false e = full (λ l. subst T e (lt→ltb (get_or words 7 0) 512 l))
      where
        full : (get_or words 7 0 < 512 → ⊥) → 512 ≡ get_or words 7 0
        full f = omega (arith, f, few)

pub live_most : (words : List ℕ) → live_records words ≤ 512
unfolding live_records
live_most words = go (ltb (length words) 16)
  where
    go : (t : Bool) → cond {A = ℕ} t 0 (lesser (get_or words 7 0) 512) ≤ 512
    go true = omega arith
    go false = (lesser_both (get_or words 7 0) 512).1
