-- Several numbers of a record put into one and taken out again. Assumes nothing.
use mathlib.Core.Path.{◌≡◌, refl, ap, ◌∙◌}
use mathlib.Core.List.{List}
use Prim.Native.Nat.{ℕ, ◌+◌, ◌*◌, ◌/◌, ◌%◌, ◌≤◌, ◌<◌}
use native.Mathlib.Decide.{ℕ_discrete}
use native.Mathlib.Omega.{arith}
use lib.ListN.{length, get_or, set, length-set}
use lib.Seq.{get_or-set_same, get_or-set_other}
use Rattle.model.specs.image.Image.{field}
use Rattle.image_lay.specs.Laid.{fields_at, Laid, LaidThree, LaidFour}
use Rattle.image_lay.specs.Quads.{Filled, part_of}
use Rattle.image_lay.proofs.LaidLaws.{below_column}

-- ---- put in, one after another
module _ (such : ℕ → ℕ → Type 0) (a : List ℕ) where
  pub filled_start : Filled 0 such a a
  filled_start = record { long = refl; each = λ j h. absurd (omega arith) }

  module _ (j : ℕ) (b : List ℕ) (p : Filled j such a b) where
    pub filled_next : j < length a → (r : ℕ) → such j r → Filled (j + 1) such a (set b j r)
    filled_next h r s =
        let room : j < length b = omega (arith, p.long) in
        record {
          long = length-set b j r ∙ p.long;
          each = λ i l. elim (ℕ_discrete i j) [
            | yes q ↦ rw (q, get_or-set_same b j r 0 room) s
            | no q ↦ rw (get_or-set_other b j i r 0 q) (p.each i (omega (arith, q)))
          ];
        }

    pub filled_end : (many : ℕ) → j ≡ many → Filled many such a b
    filled_end many e = rw e at p

-- ---- taken out
pub part_is : (below size start k step w : ℕ) (bytes quads : List ℕ) (j : ℕ)
    → get_or quads j 0 / below % size ≡ field (start + step * j + k) w bytes → part_of below size quads j ≡ fields_at (start + k) step w bytes j
unfolding part_of fields_at
part_is below size start k step w bytes quads j h =
    let e : start + step * j + k ≡ start + k + step * j = omega arith in
    h ∙ ap (λ (p : ℕ). field p w bytes) e

-- ---- columns one behind another
pub three_columns : (x y z many : ℕ) (f g h : ℕ → ℕ) (a b c d : List ℕ) → x + many ≤ y → y + many ≤ z → Laid x many f a b
    → Laid y many g b c → Laid z many h c d → LaidThree x y z many f g h a d
three_columns x y z many f g h a b c d hx hy p q r = record {
  long = r.long ∙ q.long ∙ p.long;
  first = λ j l.
      r.other (x + j) (below_column _ _ _ (omega arith)) ∙ q.other (x + j) (below_column _ _ _ (omega arith)) ∙ p.inside j l;
  second = λ j l. r.other (y + j) (below_column _ _ _ (omega arith)) ∙ q.inside j l;
  third = λ j l. r.inside j l;
  other = λ k u v w. r.other k w ∙ q.other k v ∙ p.other k u;
}

pub four_columns : (x y z t many : ℕ) (f g h i : ℕ → ℕ) (a b c : List ℕ) → x + many ≤ y → y + many ≤ z → z + many ≤ t
    → Laid x many f a b
    → LaidThree y z t many g h i b c → LaidFour x y z t many f g h i a c
four_columns x y z t many f g h i a b c hx hy hz p q = record {
  long = q.long ∙ p.long;
  first = λ j l.
      q.other (x + j) (below_column _ _ _ (omega arith)) (below_column _ _ _ (omega arith)) (below_column _ _ _ (omega arith))
      ∙ p.inside j l;
  second = q.first;
  third = q.second;
  fourth = q.third;
  other = λ k u v w o. q.other k v w o ∙ p.other k u;
}
