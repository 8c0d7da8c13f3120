-- The scans' loops: what is left gives what the whole would, whatever records and words stand beside the cells. Assumes nothing.
use mathlib.Core.Path.{◌≡◌, refl, sym, ap, ◌∙◌}
use mathlib.Core.Bool.{Bool, true, false}
use mathlib.Core.List.{List}
use Prim.Native.Nat.{ℕ, suc, ◌+◌, ◌≤◌, ◌<◌}
use native.Mathlib.Omega.{arith}
use native.Mathlib.Numerals.{add-one}
use Rattle.model.specs.State.{Picker, piece_at}
use Rattle.model.specs.change.Changes.{flushed_or_filtered, cursor_from, reverse_from}
use Rattle.memory_records.specs.declared.record.DownloadingPiece.{DownloadingPiece as Record}
use Rattle.memory_layout.specs.declared.shape.Shape.{Shape}
use Rattle.memory_layout.specs.Decode.{decode}
use Rattle.memory_layout.specs.Bounds.{InBounds}
use Rattle.memory_layout.proofs.Meanings.{pieces_number}
use Rattle.memory_fields.specs.Reading.{CellsSay}
use Rattle.change_cursors.proofs.CursorLaws.{cursor_stops, cursor_passes, cursor_ends, reverse_stops, reverse_passes, reverse_ends}

-- a scan that began at i and has come to k
pub record Scanned (s : Shape) (cells : List ℕ) (scan : Picker → ℕ → ℕ) (i k : ℕ) : Type 0 where
  pub within : k ≤ s.pieces
  pub left : (records : List Record) (words : List ℕ) → InBounds s records words cells
      → scan (decode records words cells) k ≡ scan (decode records words cells) i

-- it begins
pub scan_begins : (s : Shape) (cells : List ℕ) (scan : Picker → ℕ → ℕ) (i : ℕ) → i ≤ s.pieces → Scanned s cells scan i i
scan_begins s cells scan i h = record { within = h; left = λ records words q. refl }

-- ---- upward
module _ (s : Shape) (cells : List ℕ) (i k : ℕ) (o : Scanned s cells cursor_from i k) where
  module _ (h : k < s.pieces) (t : Bool) (r : CellsSay s cells (λ d. flushed_or_filtered (piece_at d k)) t) where
    -- piece k is wanted
    pub up_stops : t ≡ false → CellsSay s cells (λ d. cursor_from d i) k
    up_stops e = record {
      is = λ records words q.
          let d = decode records words cells in
          sym (cursor_stops d k (omega (arith, pieces_number s records words cells q)) (sym (r.is records words q) ∙ e))
          ∙ o.left records words q;
    }

    -- piece k is not
    pub up_passes : t ≡ true → Scanned s cells cursor_from i (k + 1)
    up_passes e = record {
      within = omega arith;
      left = λ records words q.
          let d = decode records words cells in
          sym (cursor_passes d k (omega (arith, pieces_number s records words cells q)) (sym (r.is records words q) ∙ e))
          ∙ o.left records words q;
    }

  -- there is no piece k
  pub up_ends : s.pieces ≤ k → CellsSay s cells (λ d. cursor_from d i) s.pieces
  up_ends h = record {
    is = λ records words q.
        let e : s.pieces ≡ k = omega (arith, o.within) in
        e ∙ sym (cursor_ends (decode records words cells) k (omega (arith, pieces_number s records words cells q))) ∙ o.left records words q;
  }

-- ---- downward
module _ (s : Shape) (cells : List ℕ) (i k : ℕ) (o : Scanned s cells reverse_from i k) where
  module _ (m : ℕ) (h : k ≡ suc m) (t : Bool) (r : CellsSay s cells (λ d. flushed_or_filtered (piece_at d m)) t) where
    -- piece m is wanted
    pub down_stops : t ≡ false → CellsSay s cells (λ d. reverse_from d i) (m + 1)
    down_stops e = record {
      is = λ records words q.
          let d = decode records words cells in
          add-one m ∙ sym (reverse_stops d m (sym (r.is records words q) ∙ e)) ∙ sym (ap (reverse_from d) h) ∙ o.left records words q;
    }

    -- piece m is not
    pub down_passes : t ≡ true → Scanned s cells reverse_from i m
    down_passes e = record {
      within = omega (arith, o.within);
      left = λ records words q.
          let d = decode records words cells in
          sym (reverse_passes d m (sym (r.is records words q) ∙ e)) ∙ sym (ap (reverse_from d) h) ∙ o.left records words q;
    }

  -- there is none
  pub down_ends : k ≡ 0 → CellsSay s cells (λ d. reverse_from d i) 0
  down_ends h = record {
    is = λ records words q.
        let d = decode records words cells in
        sym (reverse_ends d) ∙ sym (ap (reverse_from d) h) ∙ o.left records words q;
  }
