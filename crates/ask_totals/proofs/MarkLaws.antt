-- The marks, row by row, and that a piece's mark is whether it passed as a partial: what the rows say and what a lookup would. Assumes
-- nothing.
use mathlib.Core.Path.{◌≡◌, refl, sym, ap, ◌∙◌}
use mathlib.Core.Logic.{◌≢◌, ◌⊎◌, ⊎_elim}
use mathlib.Core.Bool.{true}
use mathlib.Core.List.{List}
use mathlib.Core.Option.{none-ne-some}
use Prim.Native.Nat.{ℕ, zero, suc, ◌+◌, ◌%◌, ◌<◌}
use native.Mathlib.Nat.{div-one}
use native.Mathlib.Decide.{ℕ_discrete}
use native.Mathlib.Omega.{arith}
use lib.Dec.{eqb}
use lib.ListN.{get_or, set, replicate, length-set, length-replicate}
use lib.Seq.{get_or-set_same, get_or-set_other}
use Rattle.model.specs.Bep3.{bit_of}
use Rattle.model.specs.Lists.{nth}
use Rattle.model.specs.State.{DownloadingPiece}
use Rattle.model.specs.pick.Pick.{no_partial}
use Rattle.model.specs.change.Partials.{find_dl_piece, partial_of}
use Rattle.model.specs.ask.Questions.{passed_in}
use Rattle.model.proofs.sound.PartialLaws.{found_or_none, find_dl_piece-piece, find_dl_piece_at, find_dl_piece_place}
use Rattle.memory_records.specs.declared.record.DownloadingPiece.{DownloadingPiece as Record}
use Rattle.memory_records.specs.Records.{rising_from}
use Rattle.memory_records.specs.Rows.{row_at, records_in}
use Rattle.memory_records.proofs.laws.RowLaws.{records_at}
use Rattle.memory_layout.specs.declared.shape.Shape.{Shape}
use Rattle.memory_layout.specs.Decode.{record_at, partial_from, partial_held}
use Rattle.memory_layout.proofs.Meanings.{partial_nth}
use Rattle.memory_rows.specs.Lookup.{LiveRows, picker_in}
use Rattle.memory_halving.proofs.RowLaws.{rows_rise}
use Rattle.memory_rows.proofs.RisingLaws.{live_number, live-nth, rise_is}
use Rattle.ask_totals.specs.Marks.{PiecesLow, Marked}

zeros_at : (n i : ℕ) → get_or (replicate {A = ℕ} n 0) i 0 ≡ 0
zeros_at zero i = refl
zeros_at (suc n) zero = refl
zeros_at (suc n) (suc i) = zeros_at n i

-- ---- row by row
-- no row
pub marked_start : (rows : List ℕ) → Marked rows 0 (replicate 4096 0)
marked_start rows = record {
  long = length-replicate {A = ℕ} 4096 0;
  passed = λ j h. absurd (omega arith);
  others = λ i h. zeros_at 4096 i;
}

-- one row more
pub marked_next : (rows : List ℕ) (live k : ℕ) (marks : List ℕ) → rising_from 0 (records_in live rows) ≡ true → PiecesLow live rows → k < live
    → Marked rows k marks → (piece : ℕ) → piece ≡ get_or rows k 0
    → Marked rows (k + 1) (set marks piece (get_or rows (1024 + k) 0 % 2))
marked_next rows live k marks r low h g piece e = rw e (record {
  long = length-set marks (get_or rows k 0) _ ∙ g.long;
  passed = λ j l. elim (ℕ_discrete j k) [
    | yes f ↦ rw f (get_or-set_same marks (get_or rows k 0) _ 0 (omega (arith, g.long, low k h)))
    | no n ↦
        get_or-set_other marks (get_or rows k 0) (get_or rows j 0) _ 0
        (λ q. omega (arith, rows_rise live rows r j k (omega (arith, n)) h)) ∙ g.passed j (omega (arith, n))
  ];
  others = λ i n. get_or-set_other marks (get_or rows k 0) i _ 0 (λ q. n k (omega arith) (sym q)) ∙ g.others i (λ j l. n j (omega arith));
})

-- ---- what a mark says
module _ (s : Shape) (live : ℕ) (rows words cells : List ℕ) (v : LiveRows s live rows words cells)
    (r : rising_from 0 (records_in live rows) ≡ true) (marks : List ℕ) (g : Marked rows live marks) where
  -- row k passed
  row_passed : (k : ℕ) → k < live → (d : DownloadingPiece)
      → (nth d (picker_in live rows words cells).partials k).passed_hash_check ≡ eqb (get_or rows (1024 + k) 0 % 2) 1
  unfolding record_at partial_held partial_from bit_of row_at
  row_passed k h d =
      let e = v.many in
      ap (λ (x : DownloadingPiece). x.passed_hash_check) (partial_nth s (records_in live rows) words cells v.bounds k (omega arith) d)
      ∙ ap (λ (x : Record). bit_of x.flags 0) (records_at live rows k h)
      ∙ ap (λ (x : ℕ). eqb (x % 2) 1) (div-one (get_or rows (1024 + k) 0))

  -- the mark of piece i
  pub mark_says : (i : ℕ) → eqb (get_or marks i 0) 1 ≡ passed_in (partial_of (picker_in live rows words cells) i)
  unfolding partial_of passed_in
  mark_says i =
      let d = picker_in live rows words cells in
      let m = live_number s live rows words cells v in
      ⊎_elim (λ e.
      let none_there : (j : ℕ) → j < live → get_or rows j 0 ≢ i = λ j l q.
      none-ne-some (nth no_partial d.partials j) (sym e
      ∙ ap (λ (p : ℕ). find_dl_piece p d.partials) (sym (live-nth s live rows words cells v j l no_partial ∙ q))
      ∙ find_dl_piece_at 0 j no_partial d.partials (sym (rise_is s live rows words cells v) ∙ r) (omega arith)) in
      ap (λ (x : ℕ). eqb x 1) (g.others i none_there) ∙ sym (ap passed_in e)) (λ w.
      let p = find_dl_piece_place i w.0 d.partials w.1 in
      let l : p.0 < live = omega (arith, p.1) in
      let q : get_or rows p.0 0 ≡ i = sym (live-nth s live rows words cells v p.0 l w.0)
      ∙ ap (λ (x : DownloadingPiece). x.piece) p.2 ∙ find_dl_piece-piece i d.partials w.0 w.1 in
      ap (λ (j : ℕ). eqb (get_or marks j 0) 1) (sym q) ∙ ap (λ (x : ℕ). eqb x 1) (g.passed p.0 l)
      ∙ sym (row_passed p.0 l w.0) ∙ ap (λ (x : DownloadingPiece). x.passed_hash_check) p.2 ∙ sym (ap passed_in w.1))
      (found_or_none i d.partials)
