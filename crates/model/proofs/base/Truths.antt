-- Tests that all pass: taken apart, and put together.
use mathlib.Core.Path.{◌≡◌, refl, sym, ◌∙◌}
use mathlib.Core.Logic.{◌⊎◌, inl, inr}
use mathlib.Core.Bool.{Bool, true, false, ◌&&◌, ◌||◌, true≢false}

-- both pass where one after the other does
pub both_true : (p q : Bool) → (p && q) ≡ true → (p ≡ true) × (q ≡ true)
both_true true q h = (refl, h)
both_true false q h = absurd (true≢false (sym h))

-- and the other way
pub true_both : (p q : Bool) → p ≡ true → q ≡ true → (p && q) ≡ true
true_both p q h g = rw (h, g)

-- a test passes or fails
pub true_or_false : (t : Bool) → (t ≡ true) ⊎ (t ≡ false)
true_or_false true = inl refl
true_or_false false = inr refl

-- and not both
pub not_both : (t : Bool) → t ≡ true → t ≡ false → ⊥
not_both t h g = true≢false (sym h ∙ g)

-- the same, handed on
pub both : (a b : Bool) → {X : Type 0} → a && b ≡ true → (a ≡ true → b ≡ true → X) → X
both a b h f = f (both_true a b h).0 (both_true a b h).1

pub by_test : {X : Type 0} (t : Bool) → (t ≡ true → X) → (t ≡ false → X) → X
by_test true f g = f refl
by_test false f g = g refl

-- one of two, three and four that all pass
pub and_left : (a b : Bool) → (a && b) ≡ true → a ≡ true
and_left a b h = (both_true a b h).0

pub and_right : (a b : Bool) → (a && b) ≡ true → b ≡ true
and_right a b h = (both_true a b h).1

pub three_true : (a b c : Bool) → (a && (b && c)) ≡ true → (a ≡ true) × (b ≡ true) × (c ≡ true)
three_true a b c h =
    let g = and_right a (b && c) h in
    (and_left a (b && c) h, and_left b c g, and_right b c g)

pub four_true : (a b c d : Bool) → (a && (b && (c && d))) ≡ true → (a ≡ true) × (b ≡ true) × (c ≡ true) × (d ≡ true)
four_true a b c d h =
    let g = three_true b c d (and_right a (b && (c && d)) h) in
    (and_left a (b && (c && d)) h, g.0, g.1, g.2)

-- neither passes where not one does
pub or_no_left : (a b : Bool) → (a || b) ≡ false → a ≡ false
or_no_left true b h = h
or_no_left false b h = refl

pub or_no_right : (a b : Bool) → (a || b) ≡ false → b ≡ false
or_no_right true b h = absurd (true≢false h)
or_no_right false b h = h
