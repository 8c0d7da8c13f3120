-- The flags of a partial, by its row. Assumes nothing.
use Rattle.std.specs.Prelude.{None, Option as Optional, Some}
use Rattle.std.specs.Option.{unwrap_or}
use mathlib.Core.Path.{◌≡◌, refl, sym, ap, ◌∙◌}
use mathlib.Core.Logic.{◌⊎◌, ⊎_elim}
use mathlib.Core.Bool.{Bool, true, false, ◌||◌}
use mathlib.Core.List.{List}
use mathlib.Core.Option.{Option, none, some}
use Prim.Native.Nat.{ℕ, ◌+◌, ◌/◌, ◌%◌, ◌≤◌, ◌<◌}
use native.Mathlib.Omega.{arith}
use lib.Dec.{eqb}
use lib.ListN.{get_or}
use Rattle.model.specs.Bep3.{bit_of}
use Rattle.model.specs.State.{DownloadingPiece, piece_at}
use Rattle.model.specs.change.Partials.{partial_of}
use Rattle.model.specs.ask.Questions.{of_partial, flag, have_piece, passed_in, hashing_in}
use Rattle.memory_records.specs.declared.record.DownloadingPiece.{DownloadingPiece as Record}
use Rattle.memory_records.specs.Rows.{row_at, records_in}
use Rattle.ask_picker.proofs.RecordRows.{record_row}
use Rattle.memory_layout.specs.declared.shape.Shape.{Shape}
use Rattle.memory_layout.specs.Decode.{record_at}
use Rattle.memory_layout.specs.Changes.{partial_in}
use Rattle.memory_layout.proofs.Meanings.{passed_is, locked_is, hashing_is}
use Rattle.memory_fields.specs.Reading.{CellsSay}
use Rattle.memory_rows.specs.Lookup.{LiveRows, picker_in, FoundIn}
use Rattle.ask_picker.specs.Telling.{RowsSay}
use Rattle.ask_partial.specs.Flags.{IsWeight, flag_in, flag_found, flag_reply, RowsCellsSay}

-- a weight can be divided by
pub weight_some : (weight : ℕ) → IsWeight weight → 1 ≤ weight
weight_some weight h = ⊎_elim (λ e. omega arith) (λ g. ⊎_elim (λ e. omega arith) (λ e. omega arith) g) h

-- ---- the flag in a row
module _ (s : Shape) (live : ℕ) (rows words cells : List ℕ) (v : LiveRows s live rows words cells) (k : ℕ) (h : k < live) where
  row_flags : (record_at (records_in live rows) k).flags ≡ get_or rows (1024 + k) 0
  unfolding row_at
  row_flags = ap (λ (r : Record). r.flags) (record_row live rows k h)

  pub row_flag : (weight : ℕ) → IsWeight weight
      → eqb (get_or rows (1024 + k) 0 / weight % 2) 1 ≡ flag_in weight (partial_in (picker_in live rows words cells) k)
  unfolding flag_in bit_of
  row_flag weight w =
      let rs = records_in live rows in
      let l = v.many in
      let f : (b : ℕ) → eqb (get_or rows (1024 + k) 0 / b % 2) 1 ≡ eqb ((record_at rs k).flags / b % 2) 1 =
      λ b. ap (λ (n : ℕ). eqb (n / b % 2) 1) (sym row_flags) in
      ⊎_elim (λ e. rw e (f 1 ∙ sym (passed_is s rs words cells v.bounds k (omega arith)))) (λ g.
      ⊎_elim (λ e. rw e (f 2 ∙ sym (locked_is s rs words cells v.bounds k (omega arith)))) (λ e.
      rw e (f 4 ∙ sym (hashing_is s rs words cells v.bounds k (omega arith)))) g) w

-- ---- what a lookup answers
module _ (live : ℕ) (rows : List ℕ) (i weight : ℕ) where
  -- the flag of the piece's row
  pub flag_there : IsWeight weight → (k : ℕ) → FoundIn live rows i (Some k)
      → RowsSay live rows (λ d. flag_found weight (partial_of d i)) (Some (eqb (get_or rows (1024 + k) 0 / weight % 2) 1))
  unfolding flag_found
  flag_there w k f = record {
    is = λ s words cells v.
        ap Some (row_flag s live rows words cells v k f.row.0 weight w) ∙ ap (flag_found weight) (sym (f.is s words cells v).1);
  }

  -- no row is the piece's
  pub flag_none : FoundIn live rows i None → RowsSay live rows (λ d. flag_found weight (partial_of d i)) None
  unfolding flag_found
  flag_none f = record { is = λ s words cells v. ap (flag_found weight) (sym (f.is s words cells v)) }

-- ---- flags as answers
pub flag_asked : (weight : ℕ) (found : Option DownloadingPiece)
    → flag_reply (flag_found weight found) ≡ of_partial (λ d. flag (flag_in weight d)) found
unfolding flag_reply flag_found of_partial
flag_asked weight none = refl
flag_asked weight (some d) = refl

-- set, where a partial stands
hashing_truth : (found : Option DownloadingPiece) → unwrap_or (flag_found 4 found) false ≡ hashing_in found
unfolding flag_found flag_in hashing_in
hashing_truth none = refl
hashing_truth (some d) = refl

passed_truth : (found : Option DownloadingPiece) → unwrap_or (flag_found 1 found) false ≡ passed_in found
unfolding flag_found flag_in passed_in
passed_truth none = refl
passed_truth (some d) = refl

module _ (live : ℕ) (rows : List ℕ) (i : ℕ) (r : Optional Bool) where
  -- the truth of a flag that is answered
  pub hashing_says : RowsSay live rows (λ d. flag_found 4 (partial_of d i)) r → RowsSay live rows (λ d. hashing_in (partial_of d i)) (unwrap_or r false)
  hashing_says f = record {
    is = λ s words cells v. ap (λ (o : Optional Bool). unwrap_or o false) (f.is s words cells v) ∙ hashing_truth (partial_of (picker_in live rows words cells) i);
  }

  module _ (s : Shape) (cells : List ℕ) (t : Bool) (e : CellsSay s cells (λ d. (piece_at d i).flushed) t) where
    -- flushed, or passed while still a partial
    pub have_says : RowsSay live rows (λ d. flag_found 1 (partial_of d i)) r
        → RowsCellsSay s live rows cells (λ d. have_piece d i) (t || unwrap_or r false)
    unfolding have_piece
    have_says f = record {
      is = λ words v.
          let d = picker_in live rows words cells in
          λ j. e.is (records_in live rows) words v.bounds j
          || (ap (λ (o : Optional Bool). unwrap_or o false) (f.is s words cells v) ∙ passed_truth (partial_of d i)) j;
    }

-- flushed
pub have_flushed : (s : Shape) (live : ℕ) (rows cells : List ℕ) (i : ℕ) → CellsSay s cells (λ d. (piece_at d i).flushed) true
    → RowsCellsSay s live rows cells (λ d. have_piece d i) true
unfolding have_piece
have_flushed s live rows cells i e = record {
  is = λ words v.
      ap (λ (t : Bool). t || passed_in (partial_of (picker_in live rows words cells) i)) (e.is (records_in live rows) words v.bounds);
}
