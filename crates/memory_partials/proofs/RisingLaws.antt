-- The live records of a picker whose partials rise: the only one of a piece, and the partial that is found by the piece. Assumes nothing.
use mathlib.Core.Path.{◌≡◌, refl, sym, ap, ◌∙◌}
use mathlib.Core.Bool.{true}
use mathlib.Core.Option.{some}
use mathlib.Core.List.{List, [], ◌∷◌}
use Prim.Native.Nat.{ℕ, zero, suc, ◌≤◌, ◌<◌}
use native.Mathlib.Nat.{le_of_suc-le-suc, not-suc-le-zero}
use native.Mathlib.Omega.{arith}
use lib.ListN.{length, get_or, take}
use lib.Seq.{length-take-le}
use Rattle.model.specs.Lists.{each}
use Rattle.model.specs.State.{DownloadingPiece}
use Rattle.model.specs.pick.Pick.{no_partial}
use Rattle.model.specs.change.Partials.{find_dl_piece, partial_of}
use Rattle.model.specs.image.Sound.{partials_from}
use Rattle.model.proofs.sound.PartialLaws.{find_dl_piece_at}
use Rattle.memory_records.specs.declared.record.DownloadingPiece.{DownloadingPiece as Record}
use Rattle.memory_records.specs.Records.{no_record, rising_from, has_record}
use Rattle.memory_records.proofs.laws.EditLaws.{RisesBy, rises}
use Rattle.memory_layout.specs.declared.shape.Shape.{Shape}
use Rattle.memory_layout.specs.Decode.{head_word, record_at, pieces_on, blocks_on, partial_from, partial_held, partials_held, decode}
use Rattle.memory_layout.specs.Changes.{partial_in}
use Rattle.memory_layout.specs.Bounds.{InBounds}
use Rattle.memory_layout.proofs.Meanings.{partials_number, partial_piece_is}
use Rattle.memory_partials.proofs.RecordLaws.{at_live, tabulate_live, rising_each, has_each}

-- ---- rising records
rising_above : (low : ℕ) (ds : List Record) (k : ℕ) → k < length ds → rising_from low ds ≡ true → low ≤ (get_or ds k no_record).index
unfolding RisesBy
rising_above low [] k h e = absurd (not-suc-le-zero h)
rising_above low (d ∷ ds) zero h e = (rises low d ds e).0
rising_above low (d ∷ ds) (suc k) h e =
    omega (arith, (rises low d ds e).0, rising_above (suc d.index) ds k (le_of_suc-le-suc h) (rises low d ds e).1)

-- each has a piece of its own
rising_one : (low : ℕ) (ds : List Record) (k l : ℕ) → k < length ds → l < length ds → rising_from low ds ≡ true
    → (get_or ds k no_record).index ≡ (get_or ds l no_record).index → k ≡ l
unfolding RisesBy
rising_one low [] k l h m e q = absurd (not-suc-le-zero h)
rising_one low (d ∷ ds) zero zero h m e q = refl
rising_one low (d ∷ ds) zero (suc l) h m e q =
    absurd (omega (arith, q, rising_above (suc d.index) ds l (le_of_suc-le-suc m) (rises low d ds e).1))
rising_one low (d ∷ ds) (suc k) zero h m e q =
    absurd (omega (arith, q, rising_above (suc d.index) ds k (le_of_suc-le-suc h) (rises low d ds e).1))
rising_one low (d ∷ ds) (suc k) (suc l) h m e q =
    ap suc (rising_one (suc d.index) ds k l (le_of_suc-le-suc h) (le_of_suc-le-suc m) (rises low d ds e).1 q)

has_some : (i : ℕ) (ds : List Record) → has_record i ds ≡ true → 0 < length ds
unfolding has_record
has_some i [] e = absurd (let z : ◌≡◌ {A = ℕ} 0 1 = cc in omega arith)
has_some i (d ∷ ds) e = omega arith

-- ---- as partials
pub held_piece : (words cells : List ℕ) (n b : ℕ) (x : Record) → (partial_held words cells n b x).piece ≡ x.index
unfolding partial_held partial_from
held_piece words cells n b x = refl

pub held_each : (records : List Record) (words cells : List ℕ) (n b : ℕ) → head_word words 7 ≤ length records
    → partials_held records words cells n b ≡ each (partial_held words cells n b) (take (head_word words 7) records)
unfolding partials_held
held_each records words cells n b h = tabulate_live (partial_held words cells n b) (head_word words 7) records h

module _ (s : Shape) (records : List Record) (words cells : List ℕ) (r : InBounds s records words cells)
    (rising : partials_from 0 (decode records words cells).partials ≡ true) where
  -- the records rise
  pub live_rising : rising_from 0 (take (head_word words 7) records) ≡ true
  live_rising =
      rising_each (partial_held words cells (pieces_on words) (blocks_on words)) (held_piece words cells (pieces_on words) (blocks_on words)) 0
      (take (head_word words 7) records)
      ∙ ap (partials_from 0) (sym (held_each records words cells (pieces_on words) (blocks_on words) r.live)) ∙ rising

  -- one live record of each piece
  pub live_one : (k l : ℕ) → k < head_word words 7 → l < head_word words 7 → (record_at records k).index ≡ (record_at records l).index → k ≡ l
  live_one k l h m e =
      let long = length-take-le (head_word words 7) records r.live in
      rising_one 0 (take (head_word words 7) records) k l (omega (arith, long)) (omega (arith, long)) live_rising
      (ap (λ (x : Record). x.index) (sym (at_live records (head_word words 7) k h)) ∙ e
      ∙ ap (λ (x : Record). x.index) (at_live records (head_word words 7) l m))

  -- the partial of record k is the one of its piece
  pub live_found : (k : ℕ) → k < head_word words 7
      → partial_of (decode records words cells) (record_at records k).index ≡ some (partial_in (decode records words cells) k)
  unfolding partial_of partial_in
  live_found k h =
      ap (λ (i : ℕ). find_dl_piece i (decode records words cells).partials) (sym (partial_piece_is s records words cells r k h))
      ∙ find_dl_piece_at 0 k no_partial (decode records words cells).partials rising (omega (arith, partials_number s records words cells r))

  -- a piece with a partial has a live record
  module _ (i : ℕ) (d : DownloadingPiece) (found : partial_of (decode records words cells) i ≡ some d) where
    pub live_has : has_record i (take (head_word words 7) records) ≡ true
    unfolding partial_of
    live_has =
        has_each (partial_held words cells (pieces_on words) (blocks_on words)) (held_piece words cells (pieces_on words) (blocks_on words)) i
        (take (head_word words 7) records) d
        (ap (find_dl_piece i) (sym (held_each records words cells (pieces_on words) (blocks_on words) r.live)) ∙ found)

    pub live_some : 0 < head_word words 7
    live_some =
        omega (arith, has_some i (take (head_word words 7) records) live_has, length-take-le (head_word words 7) records r.live)
