-- Laws of the bytes of an image: a number and its bytes give each other back, and a field of a body gives the number written there.
use mathlib.Core.Path.{◌≡◌, refl, sym, ap, ap₂, ◌∙◌}
use mathlib.Core.Bool.{Bool, true}
use mathlib.Core.List.{List, [], ◌∷◌, ◌++◌, append-nil}
use Prim.Native.Nat.{ℕ, zero, suc, ◌+◌, ◌*◌, ◌/◌, ◌%◌, ◌^◌, ◌≤◌, ◌<◌}
use native.Mathlib.Nat.{mod-lt, mod-eq_of_lt, pow-succ', one-le-pow, add-mul-div_right, add-mul-mod_self_right}
use native.Mathlib.Omega.{arith}
use lib.Arith.{digits_lt, digits_div, mod-mul}
use lib.ListN.{length, take, drop, length-append, length-take, length-drop, take-append-drop, drop_of_length-le}
use lib.Seq.{take_at, drop_at, take_all, drop-drop}
use lib.Dec.{ltb}
use borrow.Author.Tests.{ltb-true, lt-ltb}
use Rattle.model.specs.Lists.{len, every}
use Rattle.model.specs.image.Image.{bytes_of, number_of, field}
use Rattle.model.proofs.base.Truths.{both, true_both}

-- ---- tests
module _ {A : Type 0} where
  -- the size of lists one after another
  pub size_append : (xs ys : List A) → len (xs ++ ys) ≡ len xs + len ys
  unfolding len
  size_append xs ys = length-append xs ys

  -- a test of each element of lists one after another
  pub every_append : (t : A → Bool) (xs ys : List A) → every t xs ≡ true → every t ys ≡ true → every t (xs ++ ys) ≡ true
  unfolding every
  every_append t [] ys p q = q
  every_append t (x ∷ xs) ys p q =
      both (t x) (every t xs) p λ a b. true_both (t x) (every t (xs ++ ys)) a (every_append t xs ys b q)

  every-take : (t : A → Bool) (n : ℕ) (xs : List A) → every t xs ≡ true → every t (take n xs) ≡ true
  unfolding every
  every-take t zero xs p = refl
  every-take t (suc n) [] p = refl
  every-take t (suc n) (x ∷ xs) p = both (t x) (every t xs) p λ a b. true_both (t x) (every t (take n xs)) a (every-take t n xs b)

  every-drop : (t : A → Bool) (n : ℕ) (xs : List A) → every t xs ≡ true → every t (drop n xs) ≡ true
  unfolding every
  every-drop t zero xs p = p
  every-drop t (suc n) [] p = refl
  every-drop t (suc n) (x ∷ xs) p = both (t x) (every t xs) p λ a b. every-drop t n xs b

-- each element is a byte
abbrev pub Bytes : List ℕ → Type 0
Bytes bs = every (λ c. ltb c 256) bs ≡ true

-- bytes after bytes are bytes
pub bytes_append : (xs ys : List ℕ) → Bytes xs → Bytes ys → Bytes (xs ++ ys)
bytes_append xs ys p q = every_append (λ c. ltb c 256) xs ys p q

-- ---- a number and its bytes
power_pos : (w : ℕ) → 0 < 256 ^ w
power_pos w = one-le-pow w 256 (omega arith)

-- a number in w bytes takes w bytes
pub bytes_of_size : (w n : ℕ) → len (bytes_of w n) ≡ w
unfolding bytes_of len
bytes_of_size zero n = refl
bytes_of_size (suc w) n = ap suc (bytes_of_size w n)

-- all of them are bytes
pub bytes_of_bytes : (w n : ℕ) → Bytes (bytes_of w n)
unfolding bytes_of every
bytes_of_bytes zero n = refl
bytes_of_bytes (suc w) n =
    true_both (ltb (n / 256 ^ w % 256) 256) (every (λ c. ltb c 256) (bytes_of w n)) (lt-ltb (n / 256 ^ w % 256) 256 (mod-lt (n / 256 ^ w) (omega arith)))
    (bytes_of_bytes w n)

number_of-bytes_of : (w a n : ℕ) → number_of a (bytes_of w n) ≡ a * 256 ^ w + n % 256 ^ w
unfolding bytes_of number_of
number_of-bytes_of zero a n = omega arith
number_of-bytes_of (suc w) a n =
    let e = number_of-bytes_of w (a * 256 + n / 256 ^ w % 256) n in
    let m = mod-mul n {m = 256} {c = 256 ^ w} (omega arith) (power_pos w) in
    let p : 256 ^ suc w ≡ 256 * 256 ^ w = pow-succ' 256 w in
    rw p (omega (arith, e, m))

-- the bytes of a number give it back
pub number_back : (w n : ℕ) → n < 256 ^ w → number_of 0 (bytes_of w n) ≡ n
number_back w n h = omega (arith, number_of-bytes_of w 0 n, mod-eq_of_lt h)

number_of_start : (a : ℕ) (bs : List ℕ) → number_of a bs ≡ a * 256 ^ len bs + number_of 0 bs
unfolding number_of len
number_of_start a [] = omega arith
number_of_start a (b ∷ bs) =
    let p : 256 ^ suc (length bs) ≡ 256 * 256 ^ length bs = pow-succ' 256 (length bs) in
    rw p (omega (arith, number_of_start (a * 256 + b) bs, number_of_start (0 * 256 + b) bs))

-- bytes are a number below the power of their size
pub number_of_below : (bs : List ℕ) → Bytes bs → number_of 0 bs < 256 ^ len bs
unfolding number_of len every
number_of_below [] v = omega arith
number_of_below (b ∷ bs) v =
    both (ltb b 256) (every (λ c. ltb c 256) bs) v λ t u.
    let p : 256 ^ suc (length bs) ≡ 256 * 256 ^ length bs = pow-succ' 256 (length bs) in
    rw p (omega (arith, number_of_start (0 * 256 + b) bs, digits_lt (ltb-true b 256 t) (number_of_below bs u)))

bytes_of_low : (w n k : ℕ) → bytes_of w (n + k * 256 ^ w) ≡ bytes_of w n
unfolding bytes_of
bytes_of_low zero n k = refl
bytes_of_low (suc w) n k =
    let p : n + k * 256 ^ suc w ≡ n + k * 256 * 256 ^ w = omega (arith, ap (λ (x : ℕ). k * x) (pow-succ' 256 w)) in
    rw p (ap₂ ◌∷◌ (ap (λ (x : ℕ). x % 256) (add-mul-div_right n (k * 256) (power_pos w)) ∙ add-mul-mod_self_right (n / 256 ^ w) k 256) (bytes_of_low w n (k * 256)))

-- a number gives its bytes back
pub bytes_back : (bs : List ℕ) → Bytes bs → bytes_of (len bs) (number_of 0 bs) ≡ bs
unfolding bytes_of number_of len every
bytes_back [] v = refl
bytes_back (b ∷ bs) v =
    both (ltb b 256) (every (λ c. ltb c 256) bs) v λ t u.
    let p : number_of (0 * 256 + b) bs ≡ number_of 0 bs + b * 256 ^ len bs = omega (arith, number_of_start (0 * 256 + b) bs) in
    let q : number_of (0 * 256 + b) bs ≡ b * 256 ^ len bs + number_of 0 bs = omega (arith, number_of_start (0 * 256 + b) bs) in
    ap₂ ◌∷◌
    (ap (λ (x : ℕ). x / 256 ^ len bs % 256) q ∙ ap (λ (x : ℕ). x % 256) (digits_div b (number_of_below bs u)) ∙ mod-eq_of_lt (ltb-true b 256 t))
    (ap (bytes_of (len bs)) p ∙ bytes_of_low (len bs) (number_of 0 bs) b ∙ bytes_back bs u)

-- ---- the fields of a body
-- the number written in front
pub field_first : (w n : ℕ) (rest : List ℕ) → n < 256 ^ w → field 0 w (bytes_of w n ++ rest) ≡ n
unfolding field len
field_first w n rest h = ap (number_of 0) (take_at (bytes_of w n) rest w (bytes_of_size w n)) ∙ number_back w n h

-- the number written alone, or last
pub field_last : (w n : ℕ) → n < 256 ^ w → field 0 w (bytes_of w n) ≡ n
unfolding field len
field_last w n h = ap (number_of 0) (take_all w (bytes_of w n) (omega (arith, bytes_of_size w n))) ∙ number_back w n h

-- what is written behind a number
pub field_behind : (w k v n : ℕ) (rest : List ℕ) → field (w + k) v (bytes_of w n ++ rest) ≡ field k v rest
unfolding field len
field_behind w k v n rest =
    ap (λ (l : List ℕ). number_of 0 (take v l))
    (sym (drop-drop k w (bytes_of w n ++ rest)) ∙ ap (drop k) (drop_at (bytes_of w n) rest w (bytes_of_size w n)))

field_bytes : (k w : ℕ) (b : List ℕ) → k + w ≤ len b → Bytes b → bytes_of w (field k w b) ≡ take w (drop k b)
unfolding field len
field_bytes k w b h v =
    let e : length (take w (drop k b)) ≡ w = omega (arith, length-take w (drop k b), length-drop k b) in
    ap (λ (x : ℕ). bytes_of x (number_of 0 (take w (drop k b)))) (sym e)
    ∙ bytes_back (take w (drop k b)) (every-take (λ c. ltb c 256) w (drop k b) (every-drop (λ c. ltb c 256) k b v))

field_split : (k w : ℕ) (b : List ℕ) → k + w ≤ len b → Bytes b → drop k b ≡ bytes_of w (field k w b) ++ drop (k + w) b
field_split k w b h v =
    sym (take-append-drop w (drop k b)) ∙ ap₂ ◌++◌ (sym (field_bytes k w b h v)) (drop-drop w k b)

-- bytes from place k on are the number in their front, and what is behind it
pub field_part : (k w n : ℕ) (b rest : List ℕ) → k + w ≤ len b → Bytes b → field k w b ≡ n → drop (k + w) b ≡ rest
    → drop k b ≡ bytes_of w n ++ rest
field_part k w n b rest h v e f = field_split k w b h v ∙ ap₂ ◌++◌ (ap (bytes_of w) e) f

-- the last bytes are the number in them
pub field_end : (k w n : ℕ) (b : List ℕ) → k + w ≡ len b → Bytes b → field k w b ≡ n → drop k b ≡ bytes_of w n
unfolding len
field_end k w n b h v e =
    field_part k w n b [] (omega arith) v e (drop_of_length-le b {i = k + w} (omega arith)) ∙ append-nil (bytes_of w n)
