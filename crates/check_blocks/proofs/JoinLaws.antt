-- Cells joined by `|` are in range exactly where each is; so the joined cells of blocks are where each block is good. Assumes nothing.
use mathlib.Core.Path.{◌≡◌, refl, sym, ap, ap₂, ◌∙◌}
use mathlib.Core.Bool.{Bool, true, false, ◌&&◌}
use Prim.Native.Nat.{ℕ, ◌+◌, ◌-◌, ◌^◌, ◌≤◌}
use native.Mathlib.Decide.{dec_lt}
use native.Mathlib.Omega.{arith}
use lib.Dec.{ltb, leb}
use lib.Bits.{bit_or, and_le_l, and_le_r, or_add_and, or_lt}
use borrow.Author.Tests.{lt-ltb, le-ltb, lt-leb, le-leb}
use Rattle.model.proofs.base.Counts.{and_false}
use Rattle.check_blocks.specs.declared.blocks.Joined.{Joined}
use Rattle.check_blocks.specs.Rows.{row_ok, joined_ok}

-- ---- a joined cell is below a power of two exactly where its parts are
or_least : (a b : ℕ) → (a ≤ bit_or a b) × (b ≤ bit_or a b)
or_least a b = (omega (arith, or_add_and a b, and_le_r a b), omega (arith, or_add_and a b, and_le_l a b))

or_below : (k a b : ℕ) → ltb (bit_or a b) (2 ^ k) ≡ (ltb a (2 ^ k) && ltb b (2 ^ k))
or_below k a b =
    let m = or_least a b in
    elim (dec_lt a (2 ^ k)) [
      | no n ↦ rw (le-ltb a (2 ^ k) (omega arith)) (le-ltb (bit_or a b) (2 ^ k) (omega (arith, m.0)))
      | yes la ↦ elim (dec_lt b (2 ^ k)) [
        | no n ↦ rw (le-ltb b (2 ^ k) (omega arith), and_false) (le-ltb (bit_or a b) (2 ^ k) (omega (arith, m.1)))
        | yes lb ↦ rw (lt-ltb a (2 ^ k) la, lt-ltb b (2 ^ k) lb) (lt-ltb (bit_or a b) (2 ^ k) (or_lt k a b la lb))
      ]
    ]

-- ---- one block
-- at most so many, as the code asks it
most_test : (x m k : ℕ) → k ≡ m + 1 → leb x m ≡ ltb x k
most_test x m k e = elim (dec_lt m x) [
  | yes l ↦ lt-leb x m l ∙ sym (le-ltb x k (omega arith))
  | no l ↦ le-leb x m (omega arith) ∙ sym (lt-ltb x k (omega arith))
]

beyond_test : (x m : ℕ) → leb x m ≡ ltb (x - m) 1
beyond_test x m = elim (dec_lt m x) [
  | yes l ↦ lt-leb x m l ∙ sym (le-ltb (x - m) 1 (omega arith))
  | no l ↦ le-leb x m (omega arith) ∙ sym (lt-ltb (x - m) 1 (omega arith))
]

row_cells : (s r h o : ℕ) → o ≡ r - 1000 → row_ok s r h ≡ ((ltb s 4 && ltb o 1) && ltb h 2)
unfolding row_ok
row_cells s r h o e =
    ap₂ ◌&&◌ (ap₂ ◌&&◌ (most_test s 3 4 refl) (beyond_test r 1000 ∙ ap (λ (x : ℕ). ltb x 1) (sym e))) (most_test h 1 2 refl)

-- ---- joined to those before it
cross : (a b c d : Bool) → ((a && b) && (c && d)) ≡ ((a && c) && (b && d))
cross true true c d = refl
cross true false c d = sym (and_false c)
cross false b c d = refl

gather : (a b c d e f : Bool) → (((a && b) && (c && d)) && (e && f)) ≡ (((a && c) && e) && ((b && d) && f))
gather a b c d e f = ap (λ (x : Bool). x && (e && f)) (cross a b c d) ∙ cross (a && c) (b && d) e f

pub join_row : (j : Joined) (s r h o : ℕ) → o ≡ r - 1000
    → joined_ok (record { states = bit_or j.states s; beyond = bit_or j.beyond o; flags = bit_or j.flags h })
    ≡ (joined_ok j && row_ok s r h)
unfolding joined_ok
join_row j s r h o e =
    ap₂ ◌&&◌ (ap₂ ◌&&◌ (or_below 2 j.states s) (or_below 0 j.beyond o)) (or_below 1 j.flags h)
    ∙ gather (ltb j.states 4) (ltb s 4) (ltb j.beyond 1) (ltb o 1) (ltb j.flags 2) (ltb h 2)
    ∙ ap (λ (x : Bool). joined_ok j && x) (sym (row_cells s r h o e))
