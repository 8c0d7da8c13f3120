-- The test of the extents: a pass over those before, and one turn of the pass over all. Assumes nothing.
use mathlib.Core.Path.{◌≡◌, sym, ap, ap₂, ◌∙◌}
use mathlib.Core.Bool.{true, false, not, ◌&&◌, ◌||◌}
use mathlib.Core.List.{List, []}
use Prim.Native.Nat.{ℕ, ◌+◌, ◌≤◌, ◌<◌}
use native.Mathlib.Omega.{arith}
use lib.Dec.{eqb, ltb}
use borrow.Author.Tests.{eq-eqb, ne_eqb, lt-ltb, le-ltb}
use Rattle.model.specs.Lists.{len, any, member}
use Rattle.model.specs.State.{pieces_in, blocks_per_piece, num_extents}
use Rattle.model.specs.image.WellFormed.{extent_ok, extents_ok}
use Rattle.memory_layout.specs.Tables.{tabulate}
use Rattle.memory_layout.proofs.TableLaws.{tabulate-len}
use Rattle.memory_layout.specs.declared.shape.Shape.{Shape}
use Rattle.memory_records.specs.declared.record.DownloadingPiece.{DownloadingPiece as Record}
use Rattle.memory_layout.specs.Decode.{head_word, pieces_on, blocks_on, piece_held, pieces_held, extents_held, decode}
use Rattle.memory_layout.specs.Good.{good_extents}
use Rattle.check_pieces.specs.Parts.{HeadPassed, ExtentTest, extents_before}
use Rattle.check_pieces.proofs.HeadLaws.{headed}
use Rattle.check_pieces.proofs.Tails.{tail, tail_all, tail_next, tail_end, front_next}

-- extent k
unfoldable pub extent_at : List ℕ → ℕ → ℕ
extent_at words k = head_word words (9 + k)

-- ---- whether one of the first k is e
-- what is left of them decides
pub record Sought (words : List ℕ) (k e j : ℕ) : Type 0 where
  pub within : j ≤ k
  pub left : member e (tail (extent_at words) j k) ≡ member e (extents_before words k)

pub sought_start : (words : List ℕ) (k e : ℕ) → Sought words k e 0
unfolding extents_before extent_at
sought_start words k e = record { within = omega arith; left = ap (member e) (tail_all (extent_at words) k) }

module _ (words : List ℕ) (k e j : ℕ) (p : Sought words k e j) where
  seek : j < k → member e (tail (extent_at words) j k) ≡ (eqb e (extent_at words j) || member e (tail (extent_at words) (j + 1) k))
  unfolding member any
  seek h = ap (any (eqb e)) (tail_next (extent_at words) j k h)

  module _ (h : j < k) (w : ℕ) (ew : w ≡ head_word words (9 + j)) where
    pub sought_found : e ≡ w → true ≡ member e (extents_before words k)
    unfolding extent_at
    sought_found q = sym (sym p.left ∙ seek h ∙ rw (eq-eqb e (head_word words (9 + j)) (q ∙ ew)))

    pub sought_next : (e ≡ w → ⊥) → Sought words k e (j + 1)
    unfolding extent_at
    sought_next q =
        record { within = omega arith; left = sym (seek h ∙ rw (ne_eqb e (head_word words (9 + j)) (λ m. q (m ∙ sym ew)))) ∙ p.left }

  pub sought_end : k ≤ j → false ≡ member e (extents_before words k)
  unfolding member any
  sought_end h = sym (ap (any (eqb e)) (tail_end (extent_at words) j k h)) ∙ p.left

-- ---- all extents
pub record Extending (words : List ℕ) (k : ℕ) : Type 0 where
  pub within : k ≤ head_word words 8
  pub left : (records : List Record) (cells : List ℕ) → extents_ok (decode records words cells) (extents_before words k) (tail (extent_at words) k (head_word words 8)) ≡ good_extents records words cells

pub extending_start : (words : List ℕ) → Extending words 0
unfolding good_extents extents_held extents_before extent_at tabulate
extending_start words =
    record { within = omega arith; left = λ records cells. ap (extents_ok (decode records words cells) []) (tail_all (extent_at words) (head_word words 8)) }

pub pieces_in_lem : (records : List Record) (words cells : List ℕ) → pieces_in (decode records words cells) ≡ pieces_on words
unfolding pieces_in pieces_held
pieces_in_lem records words cells = tabulate-len (pieces_on words) (piece_held words cells (pieces_on words))

module _ (s : Shape) (words : List ℕ) (r : HeadPassed s words) (k : ℕ) (p : Extending words k) where
  step : (records : List Record) (cells : List ℕ) → k < head_word words 8 → extents_ok (decode records words cells) (extents_before words k) (tail (extent_at words) k (head_word words 8))
      ≡ (extent_ok (decode records words cells) (extents_before words k) (extent_at words k) && extents_ok (decode records words cells) (extents_before words (k + 1)) (tail (extent_at words) (k + 1) (head_word words 8)))
  unfolding extents_ok extents_before extent_at
  step records cells h =
      ap (extents_ok (decode records words cells) (tabulate k (extent_at words))) (tail_next (extent_at words) k (head_word words 8) h)
      ∙ ap (λ (l : List ℕ). extent_ok (decode records words cells) (tabulate k (extent_at words)) (extent_at words k) && extents_ok (decode records words cells) l (tail (extent_at words) (k + 1) (head_word words 8))) (sym (front_next (extent_at words) k))

  -- by the words that were read
  module _ (h : k < head_word words 8) (limit n b e : ℕ) (el : limit ≡ num_extents n b) (en : n ≡ s.pieces) (eb : b ≡ s.blocks) (ee : e ≡ head_word words (9 + k)) where
    limit_is : (records : List Record) (cells : List ℕ) → num_extents (pieces_in (decode records words cells)) (blocks_per_piece (decode records words cells)) ≡ limit
    unfolding blocks_per_piece blocks_on
    limit_is records cells = ap₂ num_extents (pieces_in_lem records words cells ∙ sym (en ∙ r.pieces)) (sym (eb ∙ r.blocks)) ∙ sym el

    test_is : (records : List Record) (cells : List ℕ) → extent_ok (decode records words cells) (extents_before words k) (extent_at words k) ≡ (ltb e limit && not (member e (extents_before words k)))
    unfolding extent_ok extent_at
    test_is records cells =
        let z : ltb (len (extents_before words k)) 5 ≡ true = unfold extents_before in (rw (tabulate-len k (λ j. head_word words (9 + j))) (lt-ltb k 5 (omega (arith, (headed s words r).recent_extents)))) in
        rw (z, limit_is records cells, ← ee)

    pub far_extent : limit ≤ e → ExtentTest false words
    far_extent f records cells = sym (sym (p.left records cells) ∙ step records cells h ∙ rw (test_is records cells, le-ltb e limit f))

    pub twice_extent : e < limit → member e (extents_before words k) ≡ true → ExtentTest false words
    twice_extent f g records cells = sym (sym (p.left records cells) ∙ step records cells h ∙ rw (test_is records cells, lt-ltb e limit f, g))

    pub next_extent : e < limit → member e (extents_before words k) ≡ false → Extending words (k + 1)
    next_extent f g = record { within = omega arith; left = λ records cells. sym (step records cells h ∙ rw (test_is records cells, lt-ltb e limit f, g)) ∙ p.left records cells }

  pub extents_end : head_word words 8 ≤ k → ExtentTest true words
  unfolding extents_ok
  extents_end h records cells = sym (ap (extents_ok (decode records words cells) (extents_before words k)) (tail_end (extent_at words) k (head_word words 8) h)) ∙ p.left records cells
