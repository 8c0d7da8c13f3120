-- Laws of `put_run` and `filled`: the bits of a run, how runs join, and which stores write one.
use mathlib.Core.Path.{◌≡◌, refl, sym, ◌∙◌, ap}
use mathlib.Core.Bool.{Bool, true, false, ◌&&◌, cond}
use mathlib.Core.List.{List}
use Prim.Native.Nat.{ℕ, ◌+◌, ◌-◌, ◌*◌, ◌/◌, ◌%◌, ◌^◌, ◌≤◌, ◌<◌, min}
use native.Mathlib.Decide.{ℕ_discrete, dec_le, dec_lt}
use native.Mathlib.Omega.{arith}
use lib.Dec.{leb, ltb}
use lib.ListN.{length, get_or, set, length-set}
use lib.Seq.{get_or-set_same, get_or-set_other}
use borrow.Author.Tests.{lt-ltb, le-ltb, le-leb, lt-leb, eq-eqb, ne_eqb}
use Rattle.model.specs.Bep3.{bitfield_bytes, bit_of, bit_at}
use Rattle.model.proofs.base.Bep3Laws.{bit_at_past, bitfield_bytes_room}
use Rattle.bitfield_writes.specs.Writing.{with_mask, put_run, filled}
use Rattle.bitfield_writes.proofs.ByteLaws.{Bytes, digits_lt, byte_bit, length-from_bits, from_bits_bytes, from_bits_at, from_bits_is, at_byte}
use Rattle.bitfield_writes.proofs.ByteLaws.{one_bit, rest_bits}

-- ---- a run of bits
-- whether i lies in the run
abbrev pub inside : ℕ → ℕ → ℕ → Bool
inside from to i = leb from i && ltb i to

pub inside_yes : (from to i : ℕ) → from ≤ i → i < to → inside from to i ≡ true
inside_yes from to i l u = rw (le-leb from i l, lt-ltb i to u)

pub inside_low : (from to i : ℕ) → i < from → inside from to i ≡ false
inside_low from to i l = rw (lt-leb from i l)

and_false : (b : Bool) → (b && false) ≡ false
and_false true = refl
and_false false = refl

pub inside_high : (from to i : ℕ) → to ≤ i → inside from to i ≡ false
inside_high from to i l = rw (le-ltb i to l) (and_false (leb from i))

module _ (from to : ℕ) (f : ℕ → Bool) (xs : List ℕ) where
  pub length-put_run : length (put_run from to f xs) ≡ length xs
  unfolding put_run
  length-put_run = length-from_bits (λ i. cond (inside from to i) (f i) (bit_at xs i)) (length xs)

  pub put_run_bytes : Bytes (put_run from to f xs)
  unfolding put_run
  put_run_bytes = from_bits_bytes (λ i. cond (inside from to i) (f i) (bit_at xs i)) (length xs)

  put_run_at : (i : ℕ) → i < 8 * length xs → bit_at (put_run from to f xs) i ≡ cond (inside from to i) (f i) (bit_at xs i)
  unfolding put_run
  put_run_at i h = from_bits_at (λ k. cond (inside from to k) (f k) (bit_at xs k)) (length xs) i h

  pub run_in : (i : ℕ) → from ≤ i → i < to → i < 8 * length xs → bit_at (put_run from to f xs) i ≡ f i
  run_in i l u h = put_run_at i h ∙ rw (inside_yes from to i l u)

  pub run_out : (i : ℕ) → inside from to i ≡ false → bit_at (put_run from to f xs) i ≡ bit_at xs i
  run_out i e = elim (dec_lt i (8 * length xs)) [
    | yes l ↦ put_run_at i l ∙ rw e
    | no g ↦ bit_at_past (put_run from to f xs) i (omega (arith, length-put_run)) ∙ sym (bit_at_past xs i (omega arith))
  ]

  pub run_low : (i : ℕ) → i < from → bit_at (put_run from to f xs) i ≡ bit_at xs i
  run_low i l = run_out i (inside_low from to i l)

  pub run_high : (i : ℕ) → to ≤ i → bit_at (put_run from to f xs) i ≡ bit_at xs i
  run_high i l = run_out i (inside_high from to i l)

  -- bytes with these bits are the run written
  pub put_run_is : (ys : List ℕ) → length ys ≡ length xs → Bytes ys
      → ((i : ℕ) → i < 8 * length xs → from ≤ i → i < to → bit_at ys i ≡ f i)
      → ((i : ℕ) → i < 8 * length xs → i < from → bit_at ys i ≡ bit_at xs i)
      → ((i : ℕ) → i < 8 * length xs → to ≤ i → bit_at ys i ≡ bit_at xs i)
      → ys ≡ put_run from to f xs
  unfolding put_run
  put_run_is ys e b here low high =
      from_bits_is (λ i. cond (inside from to i) (f i) (bit_at xs i)) (length xs) ys e b
      (λ i h. elim (dec_le from i) [
        | yes l ↦ elim (dec_lt i to) [
          | yes u ↦ here i h l u ∙ rw (inside_yes from to i l u)
          | no g ↦ high i h (omega arith) ∙ rw (inside_high from to i (omega arith))
        ]
        | no g ↦ low i h (omega arith) ∙ rw (inside_low from to i (omega arith))
      ])

-- a run of no bits below the end changes nothing
pub run_none : (from to : ℕ) (f : ℕ → Bool) (xs : List ℕ) → Bytes xs → min to (8 * length xs) ≤ from → xs ≡ put_run from to f xs
run_none from to f xs b h = put_run_is from to f xs xs refl b (λ i p l u. absurd (omega arith)) (λ i p l. refl) (λ i p l. refl)

-- two runs of one function that meet are one run
pub run_run : (a b c : ℕ) (f : ℕ → Bool) (xs : List ℕ) → a ≤ b → b ≤ c → put_run b c f (put_run a b f xs) ≡ put_run a c f xs
run_run a b c f xs h k =
    let ys = put_run a b f xs in
    let e = length-put_run a b f xs in
    put_run_is a c f xs (put_run b c f ys) (length-put_run b c f ys ∙ e) (put_run_bytes b c f ys)
    (λ i p l u. elim (dec_lt i b) [
      | yes m ↦ run_low b c f ys i m ∙ run_in a b f xs i l m p
      | no m ↦ run_in b c f ys i (omega arith) u (omega arith)
    ])
    (λ i p l. run_low b c f ys i (omega arith) ∙ run_low a b f xs i l)
    (λ i p l. run_high b c f ys i l ∙ run_high a b f xs i (omega arith))

-- the end of a run matters only below the end of the bytes
pub run_upto : (from to end : ℕ) (f : ℕ → Bool) (xs : List ℕ)
    → ((i : ℕ) → i < 8 * length xs → from ≤ i → i < to → i < end) → ((i : ℕ) → i < 8 * length xs → from ≤ i → to ≤ i → end ≤ i)
    → put_run from end f xs ≡ put_run from to f xs
run_upto from to end f xs less more =
    put_run_is from to f xs (put_run from end f xs) (length-put_run from end f xs) (put_run_bytes from end f xs)
    (λ i p l u. run_in from end f xs i l (less i p l u) p)
    (λ i p l. run_low from end f xs i l)
    (λ i p l. elim (dec_lt i from) [
      | yes m ↦ run_low from end f xs i m
      | no m ↦ run_high from end f xs i (more i p (omega arith) l)
    ])

-- ---- a byte stored is a run written
-- the bits of the byte stored, and those of the other bytes
set_here : (xs : List ℕ) (j w i : ℕ) → j < length xs → i / 8 ≡ j → bit_at (set xs j w) i ≡ bit_of w (7 - i % 8)
unfolding bit_at
set_here xs j w i h e = rw (e, get_or-set_same)

set_else : (xs : List ℕ) (j w i : ℕ) → (i / 8 ≡ j → ⊥) → bit_at (set xs j w) i ≡ bit_at xs i
unfolding bit_at
set_else xs j w i n = rw (get_or-set_other xs j (i / 8) w 0 n)

pub set_bytes : (xs : List ℕ) (j w : ℕ) → Bytes xs → w < 256 → j < length xs → Bytes (set xs j w)
set_bytes xs j w b small h i = elim (ℕ_discrete i j) [
  | yes e ↦ rw (e, get_or-set_same xs j w 0 h) small
  | no n ↦ rw (get_or-set_other xs j i w 0 n) (b i)
]

-- the byte has the run's bits, and its own where the run does not reach
module _ (from to j w : ℕ) (f : ℕ → Bool) (xs : List ℕ) (h : j < length xs)
    (g : (r : ℕ) → r < 8 → bit_of w (7 - r) ≡ cond (inside from to (8 * j + r)) (f (8 * j + r)) (bit_at xs (8 * j + r))) where
  set_in : (i : ℕ) → i / 8 ≡ j → bit_at (set xs j w) i ≡ cond (inside from to i) (f i) (bit_at xs i)
  set_in i e =
      let s : 8 * j + i % 8 ≡ i = omega arith in
      set_here xs j w i h e ∙ (rw s at (g (i % 8) (omega arith)))

  set_out : (i : ℕ) → inside from to i ≡ false → bit_at (set xs j w) i ≡ bit_at xs i
  set_out i o = elim (ℕ_discrete (i / 8) j) [
    | yes e ↦ set_in i e ∙ rw o
    | no n ↦ set_else xs j w i n
  ]

  pub set_run : Bytes xs → w < 256 → 8 * j ≤ from → to ≤ 8 * j + 8 → set xs j w ≡ put_run from to f xs
  set_run b small l u =
      put_run_is from to f xs (set xs j w) (length-set xs j w) (set_bytes xs j w b small h)
      (λ i p m n. set_in i (omega arith) ∙ rw (inside_yes from to i m n))
      (λ i p m. set_out i (inside_low from to i m))
      (λ i p m. set_out i (inside_high from to i m))

-- one byte more of a run
pub run_step : (from j w : ℕ) (f : ℕ → Bool) (xs ys : List ℕ) → ys ≡ put_run from (8 * j) f xs → from ≤ 8 * j → w < 256 → j < length ys
    → ((r : ℕ) → r < 8 → bit_of w (7 - r) ≡ f (8 * j + r))
    → set ys j w ≡ put_run from (8 * (j + 1)) f xs
run_step from j w f xs ys e l small h g =
    let t : 8 * (j + 1) ≡ 8 * j + 8 = omega arith in
    rw t
    (set_run (8 * j) (8 * j + 8) j w f ys h (λ r k. rw (inside_yes (8 * j) (8 * j + 8) (8 * j + r) (omega arith) (omega arith)) (g r k))
    (rw e (put_run_bytes from (8 * j) f xs)) small (omega arith) (omega arith)
    ∙ rw e (run_run from (8 * j) (8 * j + 8) f xs l (omega arith)))

-- storing a byte under a mask writes a run, where the mask has the run's bits
pub mask_run : (from to j m : ℕ) (v : Bool) (xs : List ℕ) → Bytes xs → j < length xs → 8 * j ≤ from → to ≤ 8 * j + 8
    → ((r : ℕ) → r < 8 → bit_of m (7 - r) ≡ inside from to (8 * j + r))
    → set xs j (with_mask (get_or xs j 0) m v) ≡ put_run from to (λ i. v) xs
unfolding with_mask
mask_run from to j m v xs b h l u g =
    set_run from to j (with_mask (get_or xs j 0) m v) (λ i. v) xs h
    (λ r k. byte_bit (λ q. cond (bit_of m (7 - q)) v (bit_of (get_or xs j 0) (7 - q))) r k ∙ rw (g r k, at_byte xs j r k))
    b (digits_lt _ 8) l u

-- ---- the masks in their places
-- bit i alone
pub bit_mask : (i r : ℕ) → r < 8 → bit_of (128 / 2 ^ (i % 8)) (7 - r) ≡ inside i (i + 1) (8 * (i / 8) + r)
bit_mask i r h = one_bit (i % 8) r (omega arith) h ∙ elim (ℕ_discrete r (i % 8)) [
  | yes e ↦ eq-eqb r (i % 8) e ∙ sym (inside_yes i (i + 1) (8 * (i / 8) + r) (omega arith) (omega arith))
  | no n ↦ ne_eqb r (i % 8) n ∙ elim (dec_lt r (i % 8)) [
    | yes l ↦ sym (inside_low i (i + 1) (8 * (i / 8) + r) (omega arith))
    | no l ↦ sym (inside_high i (i + 1) (8 * (i / 8) + r) (omega arith))
  ]
]

-- bit i and those behind it in its byte
pub rest_mask : (i r : ℕ) → r < 8 → bit_of (255 / 2 ^ (i % 8)) (7 - r) ≡ inside i (8 * (i / 8 + 1)) (8 * (i / 8) + r)
rest_mask i r h = rest_bits (i % 8) r (omega arith) h ∙ elim (dec_le (i % 8) r) [
  | yes l ↦ le-leb (i % 8) r l ∙ sym (inside_yes i (8 * (i / 8 + 1)) (8 * (i / 8) + r) (omega arith) (omega arith))
  | no l ↦ lt-leb (i % 8) r (omega arith) ∙ sym (inside_low i (8 * (i / 8 + 1)) (8 * (i / 8) + r) (omega arith))
]

-- ---- fills
-- only the bits below `bits` matter
pub filled_same : (bits : ℕ) (f g : ℕ → Bool) (xs : List ℕ) → ((i : ℕ) → i < bits → f i ≡ g i) → filled bits f xs ≡ filled bits g xs
unfolding filled
filled_same bits f g xs h =
    let to = 8 * bitfield_bytes bits in
    let p : ℕ → Bool = λ i. ltb i bits && f i in
    put_run_is 0 to (λ i. ltb i bits && g i) xs (put_run 0 to p xs) (length-put_run 0 to p xs) (put_run_bytes 0 to p xs)
    (λ i q l u. run_in 0 to p xs i l u q ∙ elim (dec_lt i bits) [
      | yes m ↦ ap (λ (b : Bool). ltb i bits && b) (h i m)
      | no m ↦ rw (le-ltb i bits (omega arith))
    ])
    (λ i q l. absurd (omega arith))
    (λ i q l. run_high 0 to p xs i l)

-- a run to the end of the last byte, and then the spare bits cleared
pub tail_fill : (bits from : ℕ) (f : ℕ → Bool) (xs : List ℕ)
    → put_run bits (8 * bitfield_bytes bits) (λ i. false) (put_run from (8 * bitfield_bytes bits) f xs)
    ≡ filled bits (λ i. cond (ltb i from) (bit_at xs i) (f i)) xs
unfolding filled
tail_fill bits from f xs =
    let to = 8 * bitfield_bytes bits in
    let ys = put_run from to f xs in
    let e = length-put_run from to f xs in
    let room = bitfield_bytes_room bits in
    put_run_is 0 to (λ i. ltb i bits && cond (ltb i from) (bit_at xs i) (f i)) xs
    (put_run bits to (λ i. false) ys) (length-put_run bits to (λ i. false) ys ∙ e) (put_run_bytes bits to (λ i. false) ys)
    (λ i p l u. elim (dec_lt i bits) [
      | yes m ↦ run_low bits to (λ k. false) ys i m ∙ rw (lt-ltb i bits m) (elim (dec_lt i from) [
        | yes n ↦ run_low from to f xs i n ∙ rw (lt-ltb i from n)
        | no n ↦ run_in from to f xs i (omega arith) u p ∙ rw (le-ltb i from (omega arith))
      ])
      | no m ↦ run_in bits to (λ k. false) ys i (omega arith) u (omega arith) ∙ rw (le-ltb i bits (omega arith))
    ])
    (λ i p l. absurd (omega arith))
    (λ i p l. run_high bits to (λ k. false) ys i l ∙ run_high from to f xs i l)

-- from bit 0 on, nothing of the old stays
pub fill_all : (bits : ℕ) (f : ℕ → Bool) (xs : List ℕ) → filled bits (λ i. cond (ltb i 0) (bit_at xs i) (f i)) xs ≡ filled bits f xs
fill_all bits f xs = filled_same bits (λ i. cond (ltb i 0) (bit_at xs i) (f i)) f xs (λ i h. rw (le-ltb i 0 (omega arith)))
