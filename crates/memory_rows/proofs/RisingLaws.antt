-- The rows of rising pieces, as records and as the partials of a picker. Assumes nothing.
use mathlib.Core.Path.{◌≡◌, refl, sym, ap, ap₂, ◌∙◌}
use mathlib.Core.Bool.{true, ◌&&◌}
use mathlib.Core.List.{List, [], ◌∷◌}
use Prim.Native.Nat.{ℕ, suc, ◌<◌}
use native.Mathlib.Omega.{arith}
use lib.Dec.{ltb}
use lib.ListN.{length, get_or}
use Rattle.model.specs.Lists.{nth, len}
use Rattle.model.specs.State.{DownloadingPiece}
use Rattle.model.specs.pick.Pick.{no_partial}
use Rattle.model.specs.image.WellFormed.{well_formed}
use Rattle.model.specs.image.Sound.{partials_from}
use Rattle.model.proofs.sound.SoundLaws.{well_formed_sound}
use Rattle.memory_records.specs.declared.record.DownloadingPiece.{DownloadingPiece as Record}
use Rattle.memory_records.specs.Records.{no_record, rising_from}
use Rattle.memory_records.specs.Rows.{records_in}
use Rattle.memory_records.proofs.laws.RowLaws.{length_records}
use Rattle.memory_layout.specs.declared.shape.Shape.{Shape}
use Rattle.memory_layout.specs.Decode.{record_at, partial_from, partial_held}
use Rattle.memory_layout.specs.Changes.{partial_in}
use Rattle.memory_layout.proofs.Meanings.{partials_number, partial_nth}
use Rattle.memory_halving.proofs.RowLaws.{row_index}
use Rattle.memory_rows.specs.Lookup.{LiveRows, picker_in}

-- ---- records
-- records of the same pieces as partials rise where they do
rise_same : (low : ℕ) (rs : List Record) (ds : List DownloadingPiece) → length rs ≡ len ds
    → ((k : ℕ) → k < length rs → (get_or rs k no_record).index ≡ (nth no_partial ds k).piece) → rising_from low rs ≡ partials_from low ds
unfolding len nth rising_from partials_from
rise_same low [] [] e h = refl
rise_same low [] (d ∷ ds) e h = absurd (omega arith)
rise_same low (x ∷ xs) [] e h = absurd (omega arith)
rise_same low (x ∷ xs) (d ∷ ds) e h =
    let f : x.index ≡ d.piece = h 0 (omega arith) in
    ap₂ ◌&&◌ (ap (λ (i : ℕ). ltb low (suc i)) f)
    (ap (λ (i : ℕ). rising_from (suc i) xs) f ∙ rise_same (suc d.piece) xs ds (omega arith) (λ k l. h (suc k) (omega arith)))

-- ---- a picker's rows
module _ (s : Shape) (live : ℕ) (rows words cells : List ℕ) (g : LiveRows s live rows words cells) where
  -- as many as partials
  pub live_number : len (picker_in live rows words cells).partials ≡ live
  live_number = partials_number s (records_in live rows) words cells g.bounds ∙ sym g.many

  -- the piece of partial k, whatever stands past the last one
  pub live-nth : (k : ℕ) → k < live → (d : DownloadingPiece) → (nth d (picker_in live rows words cells).partials k).piece ≡ get_or rows k 0
  unfolding record_at partial_held partial_from
  live-nth k h d =
      let e = g.many in
      ap (λ (x : DownloadingPiece). x.piece) (partial_nth s (records_in live rows) words cells g.bounds k (omega arith) d)
      ∙ row_index live rows k h

  pub live-piece : (k : ℕ) → k < live → (partial_in (picker_in live rows words cells) k).piece ≡ get_or rows k 0
  unfolding partial_in
  live-piece k h = live-nth k h no_partial

  -- rows and partials rise together
  pub rise_is : rising_from 0 (records_in live rows) ≡ partials_from 0 (picker_in live rows words cells).partials
  unfolding partial_in
  rise_is =
      let m = length_records live rows in
      rise_same 0 (records_in live rows) (picker_in live rows words cells).partials (m ∙ sym live_number) (λ k h.
      let l : k < live = omega arith in
      row_index live rows k l ∙ sym (live-piece k l))

  -- those of a well-formed picker rise
  pub well_formed_rise : well_formed (picker_in live rows words cells) ≡ true → rising_from 0 (records_in live rows) ≡ true
  well_formed_rise w = rise_is ∙ (well_formed_sound (picker_in live rows words cells) w).rising
