-- The cells of one piece: the tests on its state as tests on a number, what is wrong with them, and its rank by a product. Assumes nothing.
use mathlib.Core.Path.{◌≡◌, refl, sym, ap, ap₂, ◌∙◌}
use mathlib.Core.Bool.{Bool, true, false, not, ◌&&◌, ◌||◌, and-true, and-false}
use mathlib.Core.Logic.{◌≢◌}
use Prim.Native.Nat.{ℕ, zero, suc, ◌+◌, ◌-◌, ◌*◌, ◌%◌, ◌≤◌, min}
use native.Mathlib.Nat.{mul_assoc, mul-le-mul}
use native.Mathlib.Decide.{dec_le}
use native.Mathlib.Omega.{arith}
use lib.Bits.{bit_or}
use lib.Dec.{eqb, ltb, leb}
use borrow.Author.Tests.{eq-eqb, ne_eqb, le-leb, lt-leb, leb-true, lt-ltb, le-ltb}
use Rattle.model.specs.State.{same_queue, is_open}
use Rattle.model.specs.list.Order.{unlisted, bucket_number, bucket, rank_of}
use Rattle.model.proofs.base.Truths.{both_true}
use Rattle.memory_layout.specs.Decode.{queue_from, yes?}
use Rattle.memory_layout.proofs.Numbers.{queue_number_lem}
use Rattle.list_rank.specs.Ranks.{Numbers, adjustment_of}
use Rattle.list_rank.proofs.Ranking.{tests, product, taken_off, rank_none, rank_some}
use Rattle.check_pieces.specs.declared.rows.Joined.{Joined}
use Rattle.check_pieces.specs.Rows.{piece_from, rank_from, cells_ok, wrongless, joined_ok, Ranked}
use Rattle.check_pieces.proofs.Joins.{or_zero, or_below, over_zero}

-- ---- the state that a cell means
open_test : (w : ℕ) → w ≤ 6 → is_open (queue_from w) ≡ eqb w 4
unfolding is_open same_queue
open_test w h = ap (λ (n : ℕ). eqb n 4) (queue_number_lem w (omega arith))

-- ---- what is wrong with the cells
-- a flushed piece that is not Open
module _ (state flushed : ℕ) where
  pub at_work : flushed ≡ 1 → state ≢ 4 → false ≡ (not (eqb flushed 1) || eqb state 4)
  at_work e n = rw (eq-eqb flushed 1 e, ne_eqb state 4 n)

  pub flushed_open : state ≡ 4 → true ≡ (not (eqb flushed 1) || eqb state 4)
  flushed_open e = rw (eq-eqb state 4 e) (go (eqb flushed 1))
    where
      go : (t : Bool) → true ≡ (not t || true)
      go true = refl
      go false = refl

  pub not-flushed : flushed ≢ 1 → true ≡ (not (eqb flushed 1) || eqb state 4)
  not-flushed n = rw (ne_eqb flushed 1 n)

-- five tests in another order
in_order : (c s w p f : Bool) → ((((c && s) && w) && p) && f) ≡ ((s && f) && (c && (p && w)))
in_order true true true true f = sym (and-true f)
in_order true true true false f = sym (and-false f)
in_order true true false p f = sym (ap (λ (t : Bool). f && t) (and-false p) ∙ and-false f)
in_order true false w p f = refl
in_order false true w p f = sym (and-false f)
in_order false false w p f = refl

count_over : (seeds count : ℕ) → seeds ≤ 1000 → eqb (count - (1000 - seeds)) 0 ≡ leb (count + seeds) 1000
count_over seeds count h = elim (dec_le (count + seeds) 1000) [
  | yes l ↦ rw (le-leb (count + seeds) 1000 l) (eq-eqb (count - (1000 - seeds)) 0 (omega arith))
  | no l ↦ rw (lt-leb (count + seeds) 1000 (omega arith)) (ne_eqb (count - (1000 - seeds)) 0 (λ e. l (omega arith)))
]

-- the state is read by its number where there is such a state
by_number : (seeds count state priority flushed : ℕ)
    → ((leb state 6 && leb flushed 1) && (leb (count + seeds) 1000 && (leb priority 7 && (not (eqb flushed 1) || eqb state 4))))
    ≡ cells_ok seeds count state priority flushed
unfolding cells_ok yes?
by_number seeds count state priority flushed = elim (dec_le state 6) [
  | yes l ↦ rw (open_test state l)
  | no l ↦ rw (lt-leb state 6 (omega arith))
]

pub wrong_is : (seeds count state flushed a b w : ℕ) → seeds ≤ 1000 → a ≡ count - (1000 - seeds) → b ≡ state - 6
    → eqb w 0 ≡ (not (eqb flushed 1) || eqb state 4) → eqb (bit_or (bit_or a b) w) 0 ≡ wrongless seeds count state flushed
unfolding wrongless
wrong_is seeds count state flushed a b w h ea eb ew =
    or_zero (bit_or a b) w ∙ rw (or_zero a b, ea, eb, count_over seeds count h, over_zero state 6, ew)

-- at most so many, as the code asks it
most_test : (x m k : ℕ) → k ≡ m + 1 → ltb x k ≡ leb x m
most_test x m k e = elim (dec_le x m) [
  | yes l ↦ lt-ltb x k (omega arith) ∙ sym (le-leb x m l)
  | no l ↦ le-ltb x k (omega arith) ∙ sym (lt-leb x m (omega arith))
]

-- a piece's cells, joined to those before it
cross : (a b c d : Bool) → ((a && b) && (c && d)) ≡ ((a && c) && (b && d))
cross true true c d = refl
cross true false c d = sym (and-false c)
cross false b c d = refl

pub join_row : (j : Joined) (seeds count state priority flushed x : ℕ) → eqb x 0 ≡ wrongless seeds count state flushed
    → joined_ok (record { wrong = bit_or j.wrong x; priorities = bit_or j.priorities priority; flushed = bit_or j.flushed flushed })
    ≡ (joined_ok j && cells_ok seeds count state priority flushed)
unfolding joined_ok wrongless
join_row j seeds count state priority flushed x e =
    let rest = ltb j.flushed 2 && ltb flushed 2 in
    ap₂ ◌&&◌ (ap₂ ◌&&◌ (or_zero j.wrong x) (or_below 3 j.priorities priority)) (or_below 1 j.flushed flushed)
    ∙ ap (λ (t : Bool). t && rest) (cross (eqb j.wrong 0) (eqb x 0) (ltb j.priorities 8) (ltb priority 8))
    ∙ cross (eqb j.wrong 0 && ltb j.priorities 8) (eqb x 0 && ltb priority 8) (ltb j.flushed 2) (ltb flushed 2)
    ∙ ap (λ (t : Bool). ((eqb j.wrong 0 && ltb j.priorities 8) && ltb j.flushed 2) && t)
    (rw (e, most_test priority 7 8 refl, most_test flushed 1 2 refl)
    (in_order (leb (count + seeds) 1000) (leb state 6) (not (eqb flushed 1) || eqb state 4) (leb priority 7) (leb flushed 1)
    ∙ by_number seeds count state priority flushed))

-- cells that pass have a rank
pub ok_ranked : (seeds count state priority flushed : ℕ) → cells_ok seeds count state priority flushed ≡ true → Ranked count state priority
unfolding cells_ok
ok_ranked seeds count state priority flushed h =
    let a = both_true (leb state 6 && leb flushed 1) _ h in
    let b = both_true (leb state 6) (leb flushed 1) a.0 in
    let c = both_true (leb (count + seeds) 1000) _ a.1 in
    let d = both_true (leb priority 7) _ c.1 in
    record {
      count_most = let l = leb-true (count + seeds) 1000 c.0 in omega arith;
      state_most = leb-true state 6 b.0;
      priority_most = leb-true priority 7 d.0;
    }

-- ---- the rank
-- pad bytes do not matter to it
pub rank_pad : (seeds count state priority flushed pad : ℕ)
    → rank_from seeds count state priority flushed ≡ rank_of (bucket seeds (piece_from count state priority flushed pad))
unfolding rank_from bucket unlisted bucket_number piece_from
rank_pad seeds count state priority flushed pad = refl

-- the cells are those of the piece that they mean
numbers_of : (count state priority flushed : ℕ) → Ranked count state priority
    → Numbers count state priority (eqb flushed 1) (piece_from count state priority flushed 0)
unfolding piece_from yes?
numbers_of count state priority flushed h =
    record { peer_count_is = refl; state_is = queue_number_lem state (omega (arith, h.state_most)); priority_is = refl; flushed_is = refl }

-- what the state takes off
off_is : (state : ℕ) → state ≤ 6 → min (5 - state) 2 + 1 ≡ adjustment_of state
unfolding adjustment_of
off_is zero h = refl
off_is (suc zero) h = refl
off_is (suc (suc zero)) h = refl
off_is (suc (suc (suc zero))) h = refl
off_is (suc (suc (suc (suc zero)))) h = refl
off_is (suc (suc (suc (suc (suc zero))))) h = refl
off_is (suc (suc (suc (suc (suc (suc zero)))))) h = refl
off_is (suc (suc (suc (suc (suc (suc (suc w))))))) h = absurd (omega arith)

-- whatever the cells hold, the product has room and is enough to take that off
pub room : (count priority : ℕ) → (3 ≤ (count % 1024 + 1) * (24 - 3 * (priority % 8))) × ((count % 1024 + 1) * (24 - 3 * (priority % 8)) ≤ 24576)
room count priority =
    let a : 1 ≤ count % 1024 + 1 = omega arith in
    let b : 3 ≤ 24 - 3 * (priority % 8) = omega arith in
    let c : count % 1024 + 1 ≤ 1024 = omega arith in
    let d : 24 - 3 * (priority % 8) ≤ 24 = omega arith in
    (mul-le-mul a b, mul-le-mul c d)

module _ (seeds count state priority flushed : ℕ) where
  pub rank_nothing : ((((eqb priority 0 || eqb flushed 1) || (eqb count 0 && eqb seeds 0)) || eqb state 1) || eqb state 2) ≡ true
      → Ranked count state priority → 0 ≡ rank_from seeds count state priority flushed
  unfolding rank_from
  rank_nothing e h =
      (rank_none seeds count state priority (eqb flushed 1) (sym (tests seeds count state priority (eqb flushed 1)) ∙ e)).is _
      (numbers_of count state priority flushed h)

  pub rank_product : ((((eqb priority 0 || eqb flushed 1) || (eqb count 0 && eqb seeds 0)) || eqb state 1) || eqb state 2) ≡ false
      → (off : ℕ) → off ≡ min (5 - state) 2
      → Ranked count state priority → (count % 1024 + 1) * (24 - 3 * (priority % 8)) - off ≡ rank_from seeds count state priority flushed
  unfolding rank_from
  rank_product e off eo h =
      let u = sym (tests seeds count state priority (eqb flushed 1)) ∙ e in
      let p = product seeds count state priority (eqb flushed 1) u h.count_most h.priority_most in
      let i = (rank_some seeds count state priority (eqb flushed 1) u h.count_most h.priority_most (adjustment_of state) refl).is _ (numbers_of count state priority flushed h) in
      let a : count % 1024 + 1 ≡ count + 1 = omega (arith, h.count_most) in
      let b : 24 - 3 * (priority % 8) ≡ (8 - priority) * 3 = omega (arith, h.priority_most) in
      let m : (count % 1024 + 1) * (24 - 3 * (priority % 8)) ≡ (count + 1) * (8 - priority) * 3 = ap₂ ◌*◌ a b ∙ sym (mul_assoc (count + 1) (8 - priority) 3) in
      let o = off_is state h.state_most in
      let t = taken_off seeds count state priority (eqb flushed 1) u h.count_most h.priority_most in
      omega (arith, p.0, m, o, eo, t.0, t.1, i)
