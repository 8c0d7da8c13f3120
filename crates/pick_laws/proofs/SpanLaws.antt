-- The run around a piece: it holds the piece, lies in the torrent, and has few pieces and few blocks. Assumes nothing.
use mathlib.Core.Path.{◌≡◌}
use Prim.Native.Nat.{ℕ, zero, suc, ◌+◌, ◌-◌, ◌*◌, ◌/◌, ◌%◌, ◌≤◌, ◌<◌}
use native.Mathlib.Nat.{mod-lt, div-mul-le_self, mul-le-mul_right}
use native.Mathlib.Omega.{arith}
use mathlib.Core.Bool.{cond}
use lib.Dec.{leb}
use borrow.Author.Tests.{leb-true, leb-false}
use Rattle.model.specs.Lists.{least, range, from, len}
use Rattle.model.specs.State.{Picker, pieces_in}
use Rattle.model.specs.Options.{align_expanded_pieces}
use Rattle.model.specs.pick.Blocks.{PickRequest, option, Contiguous, whole_pieces, can_pick, down_by, up_by, Span, alone, lowest_start}
use Rattle.model.specs.pick.Blocks.{span_from, span_of, pieces_of}
use Rattle.model.proofs.base.Counts.{length-from}
use Rattle.model.proofs.base.Phases.{cond_arms}

-- the lesser of two numbers is at most the first
pub least_left : (a b : ℕ) → least a b ≤ a
unfolding least
least_left a b = cond_arms (λ x. x ≤ a) (leb a b) a b (λ e. omega arith) (λ e. omega (arith, leb-false a b e))

-- and at most the second
pub least_right : (a b : ℕ) → least a b ≤ b
unfolding least
least_right a b = cond_arms (λ x. x ≤ b) (leb a b) a b (λ e. leb-true a b e) (λ e. omega arith)

module _ (a : PickRequest) (s : Picker) where
  down_low : (n i : ℕ) → i - n ≤ down_by a s n i
  unfolding down_by
  down_low zero i = omega arith
  down_low (suc n) i =
      cond_arms (λ x. i - suc n ≤ x) (can_pick a s (i - 1)) (down_by a s n (i - 1)) i (λ e. omega (arith, down_low n (i - 1))) (λ e. omega arith)

  down_high : (n i : ℕ) → down_by a s n i ≤ i
  unfolding down_by
  down_high zero i = omega arith
  down_high (suc n) i =
      cond_arms (λ x. x ≤ i) (can_pick a s (i - 1)) (down_by a s n (i - 1)) i (λ e. omega (arith, down_high n (i - 1))) (λ e. omega arith)

  up_low : (n k : ℕ) → k ≤ up_by a s n k
  unfolding up_by
  up_low zero k = omega arith
  up_low (suc n) k = cond_arms (λ x. k ≤ x) (can_pick a s k) (up_by a s n (suc k)) k (λ e. omega (arith, up_low n (suc k))) (λ e. omega arith)

  up_high : (n k : ℕ) → up_by a s n k ≤ k + n
  unfolding up_by
  up_high zero k = omega arith
  up_high (suc n) k =
      cond_arms (λ x. x ≤ k + suc n) (can_pick a s k) (up_by a s n (suc k)) k (λ e. omega (arith, up_high n (suc k))) (λ e. omega arith)

-- the span holds piece i, ends in the torrent, and has at most n pieces
pub record Around (s : Picker) (i n : ℕ) (x : Span) : Type 0 where
  pub from : x.first ≤ i
  pub to : i < x.end
  pub inside : i < pieces_in s → x.end ≤ pieces_in s
  pub few : x.end ≤ x.first + n

lowest_le : (a : PickRequest) (i n : ℕ) → (lowest_start a i (suc n) ≤ i) × (i < lowest_start a i (suc n) + suc n)
unfolding lowest_start
lowest_le a i n =
    cond_arms (λ x. (x ≤ i) × (i < x + suc n)) (option align_expanded_pieces a) (i - i % suc n) (suc i - suc n)
    (λ e. let l = mod-lt i {m = suc n} (omega arith) in omega arith) (λ e. omega arith)

from_around : (a : PickRequest) (s : Picker) (i n lowest first : ℕ) → lowest ≤ first → first ≤ i → i < lowest + n → Around s i n (span_from a s i n lowest first)
unfolding span_from
from_around a s i n lowest first l f h =
    let e = least (cond (option align_expanded_pieces a) lowest first + n) (pieces_in s) in
    let u = up_high a s (e - suc i) (suc i) in
    let d = up_low a s (e - suc i) (suc i) in
    let x = least_left (cond (option align_expanded_pieces a) lowest first + n) (pieces_in s) in
    let y = least_right (cond (option align_expanded_pieces a) lowest first + n) (pieces_in s) in
    let c = cond_arms (λ z. z ≤ first) (option align_expanded_pieces a) lowest first (λ q. l) (λ q. omega arith) in
    record { from = f; to = d; inside = λ p. omega arith; few = omega arith }

-- of no pieces it is the piece alone
pub span_around : (a : PickRequest) (s : Picker) (i n : ℕ) → (m : ℕ) × Around s i m (span_of a s i n) × (m ≤ n + (1 - n))
unfolding span_of alone
span_around a s i zero = (1, record { from = omega arith; to = omega arith; inside = λ p. p; few = omega arith }, omega arith)
span_around a s i (suc n) =
    let lowest = lowest_start a i (suc n) in
    let l = lowest_le a i n in
    (suc n, from_around a s i (suc n) lowest (down_by a s (i - lowest) i) (omega (arith, down_low a s (i - lowest) i)) (down_high a s (i - lowest) i) l.1, omega arith)

-- the pieces of a span
pub pieces_size : (x : Span) → len (pieces_of x) ≡ x.end - x.first
unfolding pieces_of range len
pieces_size x = length-from x.first (x.end - x.first)

-- a run's pieces hold fewer than b blocks more than the run, or are one piece
pub span_blocks : (a : PickRequest) (s : Picker) (i b : ℕ) (r : Contiguous) → 1 ≤ b → len (pieces_of (span_of a s i (whole_pieces b r))) * b ≤ r.asked - r.given + b
unfolding whole_pieces
span_blocks a s i b r h =
    let n = (r.asked - r.given + b - 1) / b in
    let x = span_of a s i n in
    let p = span_around a s i n in
    let f = p.1.few in
    let e = pieces_size x in
    let m = mul-le-mul_right {m = len (pieces_of x)} {n = n + (1 - n)} b (omega (arith, p.2)) in
    let d = div-mul-le_self (r.asked - r.given + b - 1) b in
    bound n (len (pieces_of x)) d m
  where
    bound : (n k : ℕ) → n * b ≤ r.asked - r.given + b - 1 → k * b ≤ (n + (1 - n)) * b → k * b ≤ r.asked - r.given + b
    bound zero k d m = omega arith
    bound (suc n) k d m = let z : suc n + (1 - suc n) ≡ suc n = omega arith in let g = rw z at m in omega arith
