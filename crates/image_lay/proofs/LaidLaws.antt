-- A column laid number by number. Assumes nothing.
use mathlib.Core.Path.{◌≡◌, refl, ap, ◌∙◌, subst}
use mathlib.Core.List.{List}
use Prim.Native.Nat.{ℕ, ◌+◌, ◌*◌, ◌-◌, ◌≤◌, ◌<◌}
use native.Mathlib.Decide.{ℕ_discrete, dec_lt}
use native.Mathlib.Omega.{arith}
use lib.ListN.{length, get_or, set, length-set}
use lib.Seq.{get_or-set_same, get_or-set_other}
use Rattle.model.specs.image.Image.{field}
use Rattle.image_bytes.specs.Put.{FieldRead}
use Rattle.image_lay.specs.Laid.{fields_at, Elsewhere, Laid, LaidThree, LaidFour}

-- ---- frames
pub below_column : (start many q : ℕ) → q < start → Elsewhere start many q
below_column start many q h j l e = omega arith

pub behind_column : (start many q : ℕ) → start + many ≤ q → Elsewhere start many q
behind_column start many q h j l e = omega arith

-- ---- one column
pub laid_start : (start : ℕ) (f : ℕ → ℕ) (l : List ℕ) → Laid start 0 f l l
laid_start start f l = record { long = refl; inside = λ j h. absurd (omega arith); other = λ q e. refl }

-- one more
pub laid_next : (start j : ℕ) (f : ℕ → ℕ) (a b : List ℕ) → Laid start j f a b → start + j < length a → (v : ℕ) → v ≡ f j
    → Laid start (j + 1) f a (set b (start + j) v)
laid_next start j f a b p h v e =
    let room : start + j < length b = omega (arith, p.long) in
    record {
      long = length-set b (start + j) v ∙ p.long;
      inside = λ i l. elim (ℕ_discrete i j) [
        | yes q ↦ rw q (get_or-set_same b (start + j) v 0 room ∙ e)
        | no q ↦ get_or-set_other b (start + j) (start + i) v 0 (λ z. q (omega arith)) ∙ p.inside i (omega (arith, q))
      ];
      other = λ q n. get_or-set_other b (start + j) q v 0 (λ z. n j (omega arith) z) ∙ p.other q (λ i l z. n i (omega arith) z);
    }

pub laid_end : (start j many : ℕ) (f : ℕ → ℕ) (a b : List ℕ) → Laid start j f a b → j ≡ many → Laid start many f a b
laid_end start j many f a b p e = rw e at p

-- at the front of a buffer
pub front_next : (j : ℕ) (f : ℕ → ℕ) (a b : List ℕ) → Laid 0 j f a b → j < length a → (r : ℕ) → r ≡ f j → Laid 0 (j + 1) f a (set b j r)
front_next j f a b p h r e =
    let z : 0 + j ≡ j = omega arith in
    subst (λ (k : ℕ). Laid 0 (j + 1) f a (set b k r)) z (laid_next 0 j f a b p (omega arith) r e)

-- the same numbers by another rule
pub laid_same : (start many : ℕ) (f g : ℕ → ℕ) (a b : List ℕ) → Laid start many f a b → ((j : ℕ) → j < many → f j ≡ g j)
    → Laid start many g a b
laid_same start many f g a b p e = record { long = p.long; inside = λ j h. p.inside j h ∙ e j h; other = p.other }

-- a number that was read is the field's
pub field_is : (first step w : ℕ) (bytes : List ℕ) (j r : ℕ) → FieldRead (first + step * j) w bytes r → r ≡ fields_at first step w bytes j
unfolding fields_at
field_is first step w bytes j r f = f.is

-- one that was read in a record's place is
pub record_field_is : (start k step w : ℕ) (bytes : List ℕ) (j r : ℕ) → FieldRead (start + step * j + k) w bytes r
    → r ≡ fields_at (start + k) step w bytes j
unfolding fields_at
record_field_is start k step w bytes j r f =
    let e : start + step * j + k ≡ start + k + step * j = omega arith in
    f.is ∙ ap (λ (p : ℕ). field p w bytes) e

-- ---- three columns
pub three_start : (x y z : ℕ) (f g h : ℕ → ℕ) (l : List ℕ) → LaidThree x y z 0 f g h l l
three_start x y z f g h l = record {
  long = refl;
  first = λ j h. absurd (omega arith);
  second = λ j h. absurd (omega arith);
  third = λ j h. absurd (omega arith);
  other = λ q d e i. refl;
}

-- a number of each more, where the columns stand apart
module _ (x y z j many : ℕ) (f g h : ℕ → ℕ) (a b : List ℕ) (p : LaidThree x y z j f g h a b) (hj : j < many) (hx : x + many ≤ y)
    (hy : y + many ≤ z) (hz : z + many ≤ length a) (u v w : ℕ) where
  past : (q : ℕ) → (q ≡ x + j → ⊥) → (q ≡ y + j → ⊥) → (q ≡ z + j → ⊥)
      → get_or (set (set (set b (x + j) u) (y + j) v) (z + j) w) q 0 ≡ get_or b q 0
  past q d e i =
      get_or-set_other (set (set b (x + j) u) (y + j) v) (z + j) q w 0 i
      ∙ get_or-set_other (set b (x + j) u) (y + j) q v 0 e ∙ get_or-set_other b (x + j) q u 0 d

  pub three_next : u ≡ f j → v ≡ g j → w ≡ h j
      → LaidThree x y z (j + 1) f g h a (set (set (set b (x + j) u) (y + j) v) (z + j) w)
  three_next eu ev ew =
      let b₁ = set b (x + j) u in
      let b₂ = set b₁ (y + j) v in
      let long₀ = p.long in
      let long₁ = length-set b (x + j) u in
      let long₂ = length-set b₁ (y + j) v in
      record {
        long = length-set b₂ (z + j) w ∙ long₂ ∙ long₁ ∙ long₀;
        first = λ i l. elim (ℕ_discrete i j) [
          | yes q ↦ rw q (get_or-set_other b₂ (z + j) (x + j) w 0 (λ o. omega arith)
              ∙ get_or-set_other b₁ (y + j) (x + j) v 0 (λ o. omega arith)
              ∙ get_or-set_same b (x + j) u 0 (omega arith) ∙ eu)
          | no q ↦ past (x + i) (λ o. q (omega arith)) (λ o. omega arith) (λ o. omega arith) ∙ p.first i (omega (arith, q))
        ];
        second = λ i l. elim (ℕ_discrete i j) [
          | yes q ↦ rw q (get_or-set_other b₂ (z + j) (y + j) w 0 (λ o. omega arith) ∙ get_or-set_same b₁ (y + j) v 0 (omega arith) ∙ ev)
          | no q ↦ past (y + i) (λ o. omega arith) (λ o. q (omega arith)) (λ o. omega arith) ∙ p.second i (omega (arith, q))
        ];
        third = λ i l. elim (ℕ_discrete i j) [
          | yes q ↦ rw q (get_or-set_same b₂ (z + j) w 0 (omega arith) ∙ ew)
          | no q ↦ past (z + i) (λ o. omega arith) (λ o. omega arith) (λ o. q (omega arith)) ∙ p.third i (omega (arith, q))
        ];
        other = λ q d e i.
            past q (λ o. d j (omega arith) o) (λ o. e j (omega arith) o) (λ o. i j (omega arith) o)
            ∙ p.other q (λ k l o. d k (omega arith) o) (λ k l o. e k (omega arith) o) (λ k l o. i k (omega arith) o);
      }

pub three_end : (x y z j many : ℕ) (f g h : ℕ → ℕ) (a b : List ℕ) → LaidThree x y z j f g h a b → j ≡ many → LaidThree x y z many f g h a b
three_end x y z j many f g h a b p e = rw e at p

-- ---- four columns
pub four_start : (x y z t : ℕ) (f g h i : ℕ → ℕ) (l : List ℕ) → LaidFour x y z t 0 f g h i l l
four_start x y z t f g h i l = record {
  long = refl;
  first = λ j l. absurd (omega arith);
  second = λ j l. absurd (omega arith);
  third = λ j l. absurd (omega arith);
  fourth = λ j l. absurd (omega arith);
  other = λ q d e k o. refl;
}

module _ (x y z t j many : ℕ) (f g h i : ℕ → ℕ) (a b : List ℕ) (p : LaidFour x y z t j f g h i a b) (hj : j < many) (hx : x + many ≤ y)
    (hy : y + many ≤ z) (hz : z + many ≤ t) (ht : t + many ≤ length a) (u v w r : ℕ) where
  beyond : (q : ℕ) → (q ≡ x + j → ⊥) → (q ≡ y + j → ⊥) → (q ≡ z + j → ⊥) → (q ≡ t + j → ⊥)
      → get_or (set (set (set (set b (x + j) u) (y + j) v) (z + j) w) (t + j) r) q 0 ≡ get_or b q 0
  beyond q d e k o =
      get_or-set_other (set (set (set b (x + j) u) (y + j) v) (z + j) w) (t + j) q r 0 o
      ∙ get_or-set_other (set (set b (x + j) u) (y + j) v) (z + j) q w 0 k
      ∙ get_or-set_other (set b (x + j) u) (y + j) q v 0 e ∙ get_or-set_other b (x + j) q u 0 d

  pub four_next : u ≡ f j → v ≡ g j → w ≡ h j → r ≡ i j
      → LaidFour x y z t (j + 1) f g h i a (set (set (set (set b (x + j) u) (y + j) v) (z + j) w) (t + j) r)
  four_next eu ev ew er =
      let b₁ = set b (x + j) u in
      let b₂ = set b₁ (y + j) v in
      let b₃ = set b₂ (z + j) w in
      let long₀ = p.long in
      let long₁ = length-set b (x + j) u in
      let long₂ = length-set b₁ (y + j) v in
      let long₃ = length-set b₂ (z + j) w in
      record {
        long = length-set b₃ (t + j) r ∙ long₃ ∙ long₂ ∙ long₁ ∙ long₀;
        first = λ k l. elim (ℕ_discrete k j) [
          | yes q ↦ rw q (get_or-set_other b₃ (t + j) (x + j) r 0 (λ o. omega arith)
              ∙ get_or-set_other b₂ (z + j) (x + j) w 0 (λ o. omega arith)
              ∙ get_or-set_other b₁ (y + j) (x + j) v 0 (λ o. omega arith) ∙ get_or-set_same b (x + j) u 0 (omega arith) ∙ eu)
          | no q ↦ beyond (x + k) (λ o. q (omega arith)) (λ o. omega arith) (λ o. omega arith) (λ o. omega arith)
              ∙ p.first k (omega (arith, q))
        ];
        second = λ k l. elim (ℕ_discrete k j) [
          | yes q ↦ rw q (get_or-set_other b₃ (t + j) (y + j) r 0 (λ o. omega arith)
              ∙ get_or-set_other b₂ (z + j) (y + j) w 0 (λ o. omega arith)
              ∙ get_or-set_same b₁ (y + j) v 0 (omega arith) ∙ ev)
          | no q ↦ beyond (y + k) (λ o. omega arith) (λ o. q (omega arith)) (λ o. omega arith) (λ o. omega arith)
              ∙ p.second k (omega (arith, q))
        ];
        third = λ k l. elim (ℕ_discrete k j) [
          | yes q ↦ rw q (get_or-set_other b₃ (t + j) (z + j) r 0 (λ o. omega arith) ∙ get_or-set_same b₂ (z + j) w 0 (omega arith) ∙ ew)
          | no q ↦ beyond (z + k) (λ o. omega arith) (λ o. omega arith) (λ o. q (omega arith)) (λ o. omega arith)
              ∙ p.third k (omega (arith, q))
        ];
        fourth = λ k l. elim (ℕ_discrete k j) [
          | yes q ↦ rw q (get_or-set_same b₃ (t + j) r 0 (omega arith) ∙ er)
          | no q ↦ beyond (t + k) (λ o. omega arith) (λ o. omega arith) (λ o. omega arith) (λ o. q (omega arith))
              ∙ p.fourth k (omega (arith, q))
        ];
        other = λ q d e k m.
            beyond q (λ o. d j (omega arith) o) (λ o. e j (omega arith) o) (λ o. k j (omega arith) o) (λ o. m j (omega arith) o)
            ∙ p.other q (λ n l o. d n (omega arith) o) (λ n l o. e n (omega arith) o) (λ n l o. k n (omega arith) o)
            (λ n l o. m n (omega arith) o);
      }

pub four_end : (x y z t j many : ℕ) (f g h i : ℕ → ℕ) (a b : List ℕ) → LaidFour x y z t j f g h i a b → j ≡ many
    → LaidFour x y z t many f g h i a b
four_end x y z t j many f g h i a b p e = rw e at p

-- ---- more of a column behind the first of it
module _ (start j k : ℕ) (f g : ℕ → ℕ) (c : List ℕ) (same : (i : ℕ) → i < k → g i ≡ f (j + i)) where
  column_on : ((i : ℕ) → i < j → get_or c (start + i) 0 ≡ f i) → ((i : ℕ) → i < k → get_or c (start + j + i) 0 ≡ g i)
      → (i : ℕ) → i < j + k → get_or c (start + i) 0 ≡ f i
  column_on p q i l = elim (dec_lt i j) [
    | yes h ↦ p i h
    | no h ↦ let e : start + i ≡ start + j + (i - j) = omega arith in
        let u : j + (i - j) ≡ i = omega arith in
        ap (λ (x : ℕ). get_or c x 0) e ∙ q (i - j) (omega arith) ∙ same (i - j) (omega arith) ∙ ap f u
  ]

  pub laid_on : (a b : List ℕ) → Laid start j f a b → Laid (start + j) k g b c → Laid start (j + k) f a c
  laid_on a b p q = record {
    long = q.long ∙ p.long;
    inside = column_on (λ i h. q.other (start + i) (below_column _ _ _ (omega arith)) ∙ p.inside i h) q.inside;
    other = λ x n. q.other x (λ i l e. n (j + i) (omega arith) (omega arith)) ∙ p.other x (λ i l e. n i (omega arith) e);
  }

module _ (x y z t j k many : ℕ) (f g h i f' g' h' i' : ℕ → ℕ) (a b c : List ℕ) (hj : j + k ≤ many) (hx : x + many ≤ y)
    (hy : y + many ≤ z) (hz : z + many ≤ t) where
  pub four_on : LaidFour x y z t j f g h i a b → LaidFour (x + j) (y + j) (z + j) (t + j) k f' g' h' i' b c
      → ((n : ℕ) → n < k → f' n ≡ f (j + n)) → ((n : ℕ) → n < k → g' n ≡ g (j + n)) → ((n : ℕ) → n < k → h' n ≡ h (j + n))
      → ((n : ℕ) → n < k → i' n ≡ i (j + n)) → LaidFour x y z t (j + k) f g h i a c
  four_on p q ef eg eh ei = record {
    long = q.long ∙ p.long;
    first = column_on x j k f f' c ef
        (λ n l.
        q.other (x + n) (below_column _ _ _ (omega arith)) (below_column _ _ _ (omega arith)) (below_column _ _ _ (omega arith))
        (below_column _ _ _ (omega arith))
        ∙ p.first n l) q.first;
    second = column_on y j k g g' c eg
        (λ n l.
        q.other (y + n) (behind_column _ _ _ (omega arith)) (below_column _ _ _ (omega arith)) (below_column _ _ _ (omega arith))
        (below_column _ _ _ (omega arith))
        ∙ p.second n l) q.second;
    third = column_on z j k h h' c eh
        (λ n l.
        q.other (z + n) (behind_column _ _ _ (omega arith)) (behind_column _ _ _ (omega arith)) (below_column _ _ _ (omega arith))
        (below_column _ _ _ (omega arith))
        ∙ p.third n l) q.third;
    fourth = column_on t j k i i' c ei
        (λ n l.
        q.other (t + n) (behind_column _ _ _ (omega arith)) (behind_column _ _ _ (omega arith)) (behind_column _ _ _ (omega arith))
        (below_column _ _ _ (omega arith))
        ∙ p.fourth n l) q.fourth;
    other = λ w d e u o.
        q.other w (λ n l r. d (j + n) (omega arith) (omega arith)) (λ n l r. e (j + n) (omega arith) (omega arith))
        (λ n l r. u (j + n) (omega arith) (omega arith)) (λ n l r. o (j + n) (omega arith) (omega arith))
        ∙ p.other w (λ n l r. d n (omega arith) r) (λ n l r. e n (omega arith) r) (λ n l r. u n (omega arith) r)
        (λ n l r. o n (omega arith) r);
  }

-- the fields of pieces behind the first j
pub fields_on : (start k w : ℕ) (bytes : List ℕ) (j n : ℕ)
    → fields_at (start + 10 * j + k) 10 w bytes n ≡ fields_at (start + k) 10 w bytes (j + n)
unfolding fields_at
fields_on start k w bytes j n =
    let e : start + 10 * j + k + 10 * n ≡ start + k + 10 * (j + n) = omega arith in
    ap (λ (p : ℕ). field p w bytes) e
