-- A mark that opens a piece, as a whole change. Assumes nothing.
use mathlib.Core.Path.{◌≡◌, refl, sym, ap, subst, ◌∙◌}
use mathlib.Core.Bool.{Bool, true}
use mathlib.Core.List.{List, ◌∷◌}
use Prim.Native.Nat.{ℕ, zero, suc, ◌<◌, ◌≤◌}
use native.Mathlib.Omega.{arith}
use lib.ListN.{length, take}
use Rattle.types.specs.declared.queue.DownloadQueue.{DownloadQueue}
use Rattle.model.specs.State.{Picker}
use Rattle.model.specs.list.Order.{Draws, Drawing, drawing}
use Rattle.model.specs.change.Partials.{partial_of}
use Rattle.model.specs.change.Changes.{mark_opening}
use Rattle.model.proofs.sound.SoundLaws.{well_formed_sound}
use Rattle.memory_records.specs.declared.record.DownloadingPiece.{DownloadingPiece as Record}
use Rattle.memory_records.specs.declared.edits.Edit.TheVariants.{Insert}
use Rattle.memory_records.specs.Records.{edited, rising_from}
use Rattle.memory_records.specs.Rows.{row_at, records_from, records_in}
use Rattle.memory_records.proofs.laws.EditLaws.{length-edited}
use Rattle.memory_records.proofs.laws.RowLaws.{length_records, records_at}
use Rattle.memory_layout.specs.declared.shape.Shape.{Shape}
use Rattle.memory_layout.specs.Decode.{head_word, record_at, decode}
use Rattle.memory_layout.specs.Standing.{Stands, Changed, edit_records}
use Rattle.memory_layout.proofs.EditedRecords.{decode_live, stands_live, changed_live, live_rise, insert_number, edited_at}
use Rattle.memory_blocks.specs.declared.info.BlockInfo.{BlockInfo}
use Rattle.memory_blocks.specs.Blocks.{block_of}
use Rattle.change_steps.proofs.MendLaws.{stands_works, went_changed}
use Rattle.change_adding.specs.Adding.{Vacant, VacantBeside}
use Rattle.change_first_mark.specs.declared.marks.Marked.{Marked}
use Rattle.change_opening.specs.Marking.{OpeningMarked}
use Rattle.change_vacant.specs.Marks.{RowsVacant, MarkDone}

front_rows : (n k : ℕ) (rows : List ℕ) → take n (records_from (suc n) k rows) ≡ records_from n k rows
front_rows zero k rows = refl
front_rows (suc n) k rows = ap (λ (rs : List Record). row_at rows k ∷ rs) (front_rows n (suc k) rows)

module _ (s : Shape) (live : ℕ) (rows words cells : List ℕ) (i : ℕ) (g : RowsVacant s live rows words cells i) where
  abbrev rs : List Record
  rs = records_in live rows

  -- one row more is room for the record
  abbrev more : List Record
  more = records_in (suc live) rows

  front : take live more ≡ rs
  unfolding records_in
  front = front_rows live 0 rows

  at_front : (k : ℕ) → k < head_word words 7 → record_at more k ≡ record_at rs k
  unfolding record_at
  at_front k h =
      let e = g.many in
      records_at (suc live) rows k (omega arith) ∙ sym (records_at live rows k (omega arith))

  same : decode more words cells ≡ decode rs words cells
  same = decode_live s rs more words cells at_front

  more_stands : Stands s more words cells
  more_stands =
      stands_live s rs more words cells at_front (omega (arith, g.many, length_records (suc live) rows)) g.stands

  fits : live < length more
  fits = omega (arith, length_records (suc live) rows)

  room : Vacant s i live rows more words cells
  room = record {
    works = stands_works s more words cells more_stands;
    rising = (well_formed_sound (decode more words cells) more_stands.sound).rising;
    vacant = ap (λ (d : Picker). partial_of d i) same ∙ g.vacant;
    count = g.many;
    rows_are = front;
    fits = fits;
  }

  rises : rising_from 0 (take live more) ≡ true
  rises = subst (λ (n : ℕ). rising_from 0 (take n more) ≡ true) (sym g.many) (live_rise s more words cells more_stands)

  pub room_beside : VacantBeside s i live rows words cells
  room_beside = record { records = more; stands = room }

  module _ (draws : Draws) (q : DownloadQueue) (affinity : Bool) (j : ℕ) (x : BlockInfo) (words' cells' : List ℕ) (m : Marked)
      (o : OpeningMarked s draws i q affinity j x live rows words cells 0 words' cells' m) where
    abbrev step : Drawing → Drawing
    step w = (mark_opening draws i q affinity j (block_of x) w).after

    -- with the live records alone
    live_alone : (after : Picker) → Changed s after words cells (edited live (Insert m.partial) more) words' cells'
        → Changed s after words cells (edit_records (Insert m.partial) rs) words' cells'
    live_alone after c =
        let p = m.partial in
        let few : head_word words' 7 ≤ length (edit_records (Insert p) (take live more)) =
        omega (
          arith,
          c.bounds.live,
          length-edited live (Insert p) more,
          length_records (suc live) rows,
          insert_number live more rises p fits,
        ) in
        subst (λ (l : List Record). Changed s after words cells (edit_records (Insert p) l) words' cells') front
        (changed_live s (edited live (Insert p) more) (edit_records (Insert p) (take live more)) words' cells'
        (λ k h. sym (edited_at live more rises s (Insert p) fits words' cells' few k h)) after words cells few c)

    pub opened_done : MarkDone s (mark_opening draws i q affinity j (block_of x)) rs words cells (edit_records (Insert m.partial) rs)
        words' cells' m.answer m.used
    opened_done =
        let c = went_changed s more words cells step 0 (edited live (Insert m.partial) more) words' cells' m.used
        (o.went more room) in
        record {
          done = record {
            changed = live_alone (step (drawing 0 (decode rs words cells))).picker
                (subst (λ (d : Picker). Changed s (step (drawing 0 d)).picker words cells (edited live (Insert m.partial) more)
                words' cells') same c.0);
            draws = c.1 ∙ ap (λ (d : Picker). (step (drawing 0 d)).used) same;
          };
          says = ap (λ (d : Picker). (mark_opening draws i q affinity j (block_of x) (drawing 0 d)).answer) (sym same) ∙ o.answer more room;
        }
