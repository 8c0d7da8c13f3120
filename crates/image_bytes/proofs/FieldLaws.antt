-- A number read from bytes: one byte, two halves, and a field inside a record's body. Assumes nothing.
use mathlib.Core.Path.{◌≡◌, refl, sym, ap, ap₂, subst, ◌∙◌}
use mathlib.Core.List.{List, [], ◌∷◌, ◌++◌}
use Prim.Native.Nat.{ℕ, zero, suc, ◌+◌, ◌*◌, ◌-◌, ◌^◌, ◌≤◌, ◌<◌}
use native.Mathlib.Nat.{pow-succ'}
use native.Mathlib.Omega.{arith}
use lib.Arith.{digits_lt}
use lib.Pow.{pow-add}
use lib.ListN.{length, take, drop, get_or, length-drop}
use lib.Seq.{take-take, take-add, drop-cons, drop-drop, length-take-le}
use Rattle.model.specs.Lists.{nth}
use Rattle.model.specs.image.Image.{body_length, number_of, field}
use Rattle.image_bytes.specs.Put.{FieldRead}

-- ---- numbers
-- behind what was read before
number_start : (a : ℕ) (bs : List ℕ) → number_of a bs ≡ a * 256 ^ length bs + number_of 0 bs
unfolding number_of
number_start a [] = omega arith
number_start a (b ∷ bs) =
    let p : 256 ^ suc (length bs) ≡ 256 * 256 ^ length bs = pow-succ' 256 (length bs) in
    rw p (omega (arith, number_start (a * 256 + b) bs, number_start (0 * 256 + b) bs))

number_append : (a : ℕ) (xs ys : List ℕ) → number_of a (xs ++ ys) ≡ number_of (number_of a xs) ys
unfolding number_of
number_append a [] ys = refl
number_append a (x ∷ xs) ys = number_append (a * 256 + x) xs ys

-- ---- fields
-- a byte
pub read_one : (at : ℕ) (bytes : List ℕ) (r : ℕ) → at + 1 ≤ length bytes → r ≡ get_or bytes at 0 → r < 256 → FieldRead at 1 bytes r
unfolding field number_of
read_one at bytes r h e l = record {
  is =
      let n : r ≡ 0 * 256 + get_or bytes at 0 = omega arith in
      n ∙ ap (λ (k : List ℕ). number_of 0 (take 1 k)) (sym (drop-cons bytes at 0 (omega arith)));
  small = omega arith;
}

-- two parts
field_parts : (at w v : ℕ) (bytes : List ℕ) → at + (w + v) ≤ length bytes
    → field at (w + v) bytes ≡ field at w bytes * 256 ^ v + field (at + w) v bytes
unfolding field
field_parts at w v bytes h =
    let xs = take w (drop at bytes) in
    let ys = take v (drop (at + w) bytes) in
    let l : length ys ≡ v = length-take-le v (drop (at + w) bytes) (omega (arith, length-drop (at + w) bytes)) in
    ap (number_of 0) (take-add w v (drop at bytes) ∙ ap (λ (k : List ℕ). xs ++ take v k) (drop-drop w at bytes))
    ∙ number_append 0 xs ys
    ∙ number_start (number_of 0 xs) ys
    ∙ ap (λ (k : ℕ). number_of 0 xs * 256 ^ k + number_of 0 ys) l

-- two halves of w bytes
pub read_halves : (at w : ℕ) (bytes : List ℕ) (high low r : ℕ) → at + (w + w) ≤ length bytes → FieldRead at w bytes high
    → FieldRead (at + w) w bytes low → r ≡ high * 256 ^ w + low → FieldRead at (w + w) bytes r
read_halves at w bytes high low r h p q e = record {
  is = e ∙ ap₂ (λ (x y : ℕ). x * 256 ^ w + y) p.is q.is ∙ sym (field_parts at w w bytes h);
  small = rw (e, pow-add 256 w w) (digits_lt p.small q.small);
}

-- four pairs of bytes, each by its own weight
pub read_pairs : (at : ℕ) (bytes : List ℕ) (a b c d r : ℕ) → at + 8 ≤ length bytes → FieldRead at 2 bytes a → FieldRead (at + 2) 2 bytes b
    → FieldRead (at + 4) 2 bytes c → FieldRead (at + 6) 2 bytes d
    → r ≡ a * 281474976710656 + b * 4294967296 + (c * 65536 + d) → FieldRead at 8 bytes r
read_pairs at bytes a b c d r h p q s t e =
    let z : at + 6 ≡ at + 4 + 2 = omega arith in
    let high = read_halves at 2 bytes a b (a * 65536 + b) (omega arith) p q refl in
    let low = read_halves (at + 4) 2 bytes c d (c * 65536 + d) (omega arith) s (subst (λ (k : ℕ). FieldRead k 2 bytes d) z t) refl in
    read_halves at 4 bytes (a * 65536 + b) (c * 65536 + d) r h high low (omega arith)

-- a field of a body is the number in the bytes around it
pub field_inside : (start long k w : ℕ) (bytes : List ℕ) → k + w ≤ long → field k w (take long (drop start bytes)) ≡ field (start + k) w bytes
unfolding field
field_inside start long k w bytes h =
    ap (number_of 0) (inside k long (drop start bytes) h ∙ ap (take w) (drop-drop k start bytes))
  where
    inside : (k long : ℕ) (l : List ℕ) → k + w ≤ long → take w (drop k (take long l)) ≡ take w (drop k l)
    inside zero long l h = take-take w long l (omega arith)
    inside (suc k) zero l h = absurd (omega arith)
    inside (suc k) (suc long) [] h = refl
    inside (suc k) (suc long) (x ∷ xs) h = inside k long xs (omega arith)

-- ---- the table
-- no body has more than 23 bytes
pub body_short : (kind : ℕ) → body_length kind ≤ 23
unfolding body_length nth
body_short kind = short (kind - 1)
  where
    short : (k : ℕ) → get_or (23 ∷ 9 ∷ 5 ∷ 12 ∷ 4 ∷ 4 ∷ 17 ∷ []) k 0 ≤ 23
    short zero = omega arith
    short (suc zero) = omega arith
    short (suc (suc zero)) = omega arith
    short (suc (suc (suc zero))) = omega arith
    short (suc (suc (suc (suc zero)))) = omega arith
    short (suc (suc (suc (suc (suc zero))))) = omega arith
    short (suc (suc (suc (suc (suc (suc zero)))))) = omega arith
    short (suc (suc (suc (suc (suc (suc (suc k))))))) = omega arith
