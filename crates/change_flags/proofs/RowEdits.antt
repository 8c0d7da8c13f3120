-- The one edit of the live rows that goes with a change: none, other flags of a partial, or a partial closed. Assumes nothing.
use Rattle.std.specs.Prelude.{Some}
use mathlib.Core.Path.{◌≡◌, sym, ap, ◌∙◌, subst}
use mathlib.Core.Bool.{Bool, true, not}
use mathlib.Core.Option.{some}
use mathlib.Core.List.{List}
use Prim.Native.Nat.{ℕ, ◌≤◌, ◌<◌}
use native.Mathlib.Omega.{arith}
use lib.Dec.{eqb}
use lib.ListN.{length, take}
use lib.Seq.{take_all}
use Rattle.model.specs.Lists.{each, filter, len}
use Rattle.model.specs.State.{Picker, with_partials, with_flags}
use Rattle.model.specs.change.Partials.{partial_of, replace_partial, drop_partial}
use Rattle.model.proofs.sound.PieceLaws.{size_each}
use Rattle.model.proofs.sound.SoundLaws.{well_formed_sound}
use Rattle.memory_records.specs.declared.record.DownloadingPiece.{DownloadingPiece as Record}
use Rattle.memory_records.specs.declared.edits.Edit.{Edit}
use Rattle.memory_records.specs.declared.edits.Edit.TheVariants.{Keep, Replace, Remove}
use Rattle.memory_records.specs.Records.{HasRoom, edited, rising_from, without_record}
use Rattle.memory_records.specs.Rows.{row_at, records_in}
use Rattle.memory_records.proofs.laws.RowLaws.{length_records, records_at}
use Rattle.memory_layout.specs.declared.shape.Shape.{Shape}
use Rattle.memory_layout.specs.Decode.{head_word, record_at, pieces_on, blocks_on, partial_held, decode}
use Rattle.memory_layout.specs.Standing.{Stands, Changed, edit_records}
use Rattle.memory_layout.specs.Changes.{partial_in}
use Rattle.memory_layout.proofs.BoundsLaws.{words_kept_none, cells_kept_none}
use Rattle.memory_layout.proofs.EditedRecords.{edited_at, changed_live, live_rise, replace_number}
use Rattle.memory_layout.proofs.Meanings.{partials_number}
use Rattle.memory_layout.proofs.OffsetLaws.{places_min}
use Rattle.memory_list.proofs.Moving.{ranks_right}
use Rattle.memory_partials.specs.Partials.{Flagged}
use Rattle.memory_partials.proofs.RecordLaws.{without_each}
use Rattle.memory_partials.proofs.RisingLaws.{held_piece, held_each}
use Rattle.memory_rows.specs.Lookup.{LiveRows, FoundIn}
use Rattle.change_steps.proofs.MendLaws.{stands_works}
use Rattle.change_closing.specs.Closing.{HasPartial, without}
use Rattle.change_flags.specs.Flagging.{RowsChanged}

module _ (s : Shape) (live : ℕ) (rows words cells : List ℕ) (g : Stands s (records_in live rows) words cells)
    (many : live ≡ head_word words 7) where
  abbrev rs : List Record
  rs = records_in live rows

  abbrev d : Picker
  d = decode (records_in live rows) words cells

  -- ---- the live rows
  -- all of them are live
  whole : take (head_word words 7) rs ≡ rs
  whole =
      let e = many in
      let m = length_records live rows in
      take_all (head_word words 7) rs (omega arith)

  pub rows_rising : rising_from 0 rs ≡ true
  rows_rising = subst (λ (l : List Record). rising_from 0 l ≡ true) whole (live_rise s rs words cells g)

  pub rows-live : LiveRows s live rows words cells
  rows-live = record { bounds = g.bounds; many = many }

  pub rows_within : live ≤ s.places
  rows_within = omega (arith, many, g.bounds.partials)

  pub rows_few : live ≤ 512
  rows_few =
      let b = g.bounds in
      omega (arith, many, b.partials, b.spans.in_words.sizes.places ∙ places_min s.pieces)

  -- ---- from the lent records to the live ones
  pub rows-edited : (change : Picker → Picker) (edit : Edit) → HasRoom (head_word words 7) edit rs → (words' cells' : List ℕ)
      → head_word words' 7 ≤ length (edit_records edit rs)
      → Changed s (change d) words cells (edited (head_word words 7) edit rs) words' cells'
      → RowsChanged s change live rows words cells edit words' cells'
  rows-edited change edit fits words' cells' few c =
      let n = head_word words 7 in
      let same : (k : ℕ) → k < head_word words' 7 → record_at (edit_records edit rs) k ≡ record_at (edited n edit rs) k = λ k h.
      ap (λ (l : List Record). record_at (edit_records edit l) k) (sym whole)
      ∙ sym (edited_at n rs (live_rise s rs words cells g) s edit fits words' cells'
      (subst (λ (l : List Record). head_word words' 7 ≤ length (edit_records edit l)) (sym whole) few) k h) in
      changed_live s (edited n edit rs) (edit_records edit rs) words' cells' same (change d) words cells few c

  -- ---- no edit
  pub rows_kept : (change : Picker → Picker) → change d ≡ d → RowsChanged s change live rows words cells Keep words cells
  unfolding edit_records
  rows_kept change e =
      record {
        is = sym e;
        bounds = g.bounds;
        plain = g.plain;
        ranks = g.ranks;
        words_kept = words_kept_none s words;
        cells_kept = cells_kept_none s cells;
      }

  -- ---- the partial of piece i is number k
  module _ (i k : ℕ) (f : FoundIn live rows i (Some k)) where
    pub low : k < head_word words 7
    low = omega (arith, f.row.0, many)

    -- it has a row
    pub row_there : k < 512
    row_there = omega (arith, f.row.0, rows_few)

    pub found_is_lem : partial_of d i ≡ some (partial_in d k)
    found_is_lem = (f.is s words cells rows-live).1

    pub has_partial : HasPartial s i rs words cells
    has_partial =
        record {
          works = stands_works s rs words cells g;
          rising = (well_formed_sound d g.sound).rising;
          partial = partial_in d k;
          found = found_is_lem;
        }

    pub row_is : record_at rs k ≡ row_at rows k
    unfolding record_at
    row_is = records_at live rows k f.row.0

    -- it gets other flags
    pub rows_flagged : (passed locked : Bool) (r : Record) → Flagged passed locked (row_at rows k) r → (change : Picker → Picker)
        → replace_partial (with_flags passed locked (partial_in d k)) d ≡ change d
        → RowsChanged s change live rows words cells (Replace r) words cells
    rows_flagged passed locked r x change e =
        let n = head_word words 7 in
        let v = x.became s rs words cells g.bounds (well_formed_sound d g.sound).rising k low row_is in
        let few : n ≤ length (edit_records (Replace r) rs) =
        subst (λ (l : List Record). n ≤ length (edit_records (Replace r) l)) whole
        (omega (arith, replace_number n rs (live_rise s rs words cells g) r g.bounds.live)) in
        rows-edited change (Replace r) g.bounds.live words cells few (record {
          is = v.is ∙ e;
          bounds = v.bounds;
          plain = v.plain g.plain;
          ranks = ranks_right s rs words cells g.ranks (edited n (Replace r) rs);
          words_kept = words_kept_none s words;
          cells_kept = cells_kept_none s cells;
        })

    -- it is closed: so many records are live as the picker has partials then
    pub rows_closed : (change : Picker → Picker) → (change d).partials ≡ (drop_partial i d).partials → (words' cells' : List ℕ)
        → Changed s (change d) words cells (without i words rs) words' cells'
        → RowsChanged s change live rows words cells (Remove i) words' cells'
    unfolding edit_records drop_partial with_partials len
    rows_closed change e words' cells' c =
        let n = head_word words 7 in
        let h = partial_held words cells (pieces_on words) (blocks_on words) in
        let a : d.partials ≡ each h rs =
        held_each rs words cells (pieces_on words) (blocks_on words) g.bounds.live ∙ ap (each h) whole in
        let b : (decode (without i words rs) words' cells').partials ≡ each h (without_record i rs) =
        ap (λ (p : Picker). p.partials) c.is ∙ e ∙ ap (filter (λ x. not (eqb x.piece i))) a
        ∙ sym (without_each h (held_piece words cells (pieces_on words) (blocks_on words)) i rs) in
        let m : head_word words' 7 ≡ length (without_record i rs) =
        sym (partials_number s (without i words rs) words' cells' c.bounds) ∙ ap len b ∙ size_each h (without_record i rs) in
        rows-edited change (Remove i) g.bounds.live words' cells' (omega (arith, m)) c
