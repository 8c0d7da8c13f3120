-- Bytes put one after another: a byte, a part behind a part, and a number in two halves. Assumes nothing.
use mathlib.Core.Path.{◌≡◌, refl, sym, ap, ap₂, ◌∙◌, subst}
use mathlib.Core.List.{List, [], ◌∷◌, ◌++◌, append_assoc}
use Prim.Native.Nat.{ℕ, zero, suc, ◌+◌, ◌/◌, ◌%◌, ◌^◌, ◌≤◌}
use native.Mathlib.Nat.{add-zero, div-div-eq-div-mul, mul_comm}
use native.Mathlib.Numerals.{add-one}
use native.Mathlib.Omega.{arith}
use lib.Pow.{pow-add}
use lib.ListN.{length, take, drop, set, length-append, length-set, take-append-drop}
use lib.Seq.{length-take-le, set_split, take_at, drop_at, drop-drop}
use Rattle.model.specs.image.Image.{bytes_of}
use Rattle.image_bytes.specs.Put.{Put}

-- nothing
pub put_none : (at : ℕ) (l : List ℕ) → at ≤ length l → Put at [] l l
put_none at l h = record {
  fits = omega arith;
  long = refl;
  is = sym (ap (λ (k : ℕ). take at l ++ drop k l) (add-zero at) ∙ take-append-drop at l);
}

-- one byte
pub put_one : (at v : ℕ) (l : List ℕ) → at + 1 ≤ length l → Put at (v ∷ []) l (set l at v)
put_one at v l h = record {
  fits = omega arith;
  long = length-set l at v;
  is = set_split l at v (omega arith) ∙ ap (λ (k : ℕ). take at l ++ (v ∷ drop k l)) (sym (add-one at));
}

-- a part behind a part
pub put_then : (at next : ℕ) (xs ys a b c : List ℕ) → Put at xs a b → next ≡ at + length xs → Put next ys b c → Put at (xs ++ ys) a c
put_then at next xs ys a b c p e q =
    let front = take at a ++ xs in
    let back = drop (at + length xs) a in
    let lf : length front ≡ next = omega (arith, length-append (take at a) xs, length-take-le at a (omega (arith, p.fits)), e) in
    let bi : b ≡ front ++ back = p.is ∙ sym (append_assoc (take at a) xs back) in
    let t : take next b ≡ front = ap (take next) bi ∙ take_at front back next lf in
    let m : at + length xs + length ys ≡ at + length (xs ++ ys) = omega (arith, length-append xs ys) in
    let d : drop (next + length ys) b ≡ drop (at + length (xs ++ ys)) a =
    sym (drop-drop (length ys) next b)
    ∙ ap (drop (length ys)) (ap (drop next) bi ∙ drop_at front back next lf)
    ∙ drop-drop (length ys) (at + length xs) a
    ∙ ap (λ (k : ℕ). drop k a) m in
    record {
      fits = omega (arith, length-append xs ys, p.long, q.fits);
      long = q.long ∙ p.long;
      is =
          q.is
          ∙ ap₂ (λ (x y : List ℕ). x ++ (ys ++ y)) t d
          ∙ append_assoc (take at a) xs (ys ++ drop (at + length (xs ++ ys)) a)
          ∙ ap (λ (l : List ℕ). take at a ++ l) (sym (append_assoc xs ys (drop (at + length (xs ++ ys)) a)));
    }

-- the same bytes under another name
pub put_as : (at : ℕ) (xs ys a b : List ℕ) → Put at xs a b → xs ≡ ys → Put at ys a b
put_as at xs ys a b p e = subst (λ (l : List ℕ). Put at l a b) e p

-- ---- a number
-- its bytes
pub bytes_long : (w n : ℕ) → length (bytes_of w n) ≡ w
unfolding bytes_of
bytes_long zero n = refl
bytes_long (suc w) n = ap suc (bytes_long w n)

-- one byte of it
pub put_byte : (at n v : ℕ) (l : List ℕ) → at + 1 ≤ length l → v ≡ n % 256 → Put at (bytes_of 1 n) l (set l at v)
unfolding bytes_of
put_byte at n v l h e =
    let d : v ≡ n / 256 ^ 0 % 256 = omega arith in
    put_as at (v ∷ []) _ l (set l at v) (put_one at v l h) (ap (λ (x : ℕ). x ∷ []) d)

-- in two parts
pub bytes_parts : (w v n : ℕ) → bytes_of w (n / 256 ^ v) ++ bytes_of v n ≡ bytes_of (w + v) n
unfolding bytes_of
bytes_parts zero v n = let e : v ≡ zero + v = omega arith in ap (λ (k : ℕ). bytes_of k n) e
bytes_parts (suc w) v n =
    let e : suc (w + v) ≡ suc w + v = omega arith in
    let m : n / 256 ^ v / 256 ^ w ≡ n / 256 ^ (w + v) =
    div-div-eq-div-mul n (256 ^ v) (256 ^ w) ∙ ap (λ (k : ℕ). n / k) (mul_comm (256 ^ v) (256 ^ w) ∙ sym (pow-add 256 w v)) in
    ap₂ ◌∷◌ (ap (λ (k : ℕ). k % 256) m) (bytes_parts w v n) ∙ ap (λ (k : ℕ). bytes_of k n) e

-- put in two halves of w bytes
pub put_halves : (at w n high : ℕ) (a b c : List ℕ) → high ≡ n / 256 ^ w → Put at (bytes_of w high) a b → Put (at + w) (bytes_of w n) b c
    → Put at (bytes_of (w + w) n) a c
put_halves at w n high a b c e p q =
    put_as at _ _ a c
    (put_then at (at + w) (bytes_of w high) (bytes_of w n) a b c p (omega (arith, bytes_long w high)) q)
    (ap (λ (k : ℕ). bytes_of w k ++ bytes_of w n) e ∙ bytes_parts w w n)
