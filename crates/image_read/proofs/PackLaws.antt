-- A picker that was read into rows, once its rows are packed as records: for the public call, whose records are lent. Assumes nothing.
use mathlib.Core.Path.{◌≡◌, sym, ap, ◌∙◌}
use mathlib.Core.List.{List}
use mathlib.Core.Option.{none}
use Prim.Native.Nat.{ℕ, ◌+◌, ◌-◌, ◌≤◌}
use native.Mathlib.Omega.{arith}
use lib.ListN.{length, get_or}
use lib.Seq.{get_or-take, get_or-drop}
use Rattle.model.specs.Lists.{len}
use Rattle.model.specs.State.{Picker, pieces_in}
use Rattle.memory_records.specs.declared.record.DownloadingPiece.{DownloadingPiece as Record}
use Rattle.memory_records.specs.Records.{no_record}
use Rattle.memory_records.specs.Rows.{records_in, packed}
use Rattle.memory_records.proofs.laws.RowLaws.{length_records, records_at, length-packed, packed_live, packed_behind}
use Rattle.memory_layout.specs.Offsets.{places_for}
use Rattle.memory_layout.specs.Decode.{head_word, record_at, decode}
use Rattle.memory_layout.specs.Standing.{Stands}
use Rattle.memory_layout.specs.Good.{memory_refusal}
use Rattle.memory_layout.proofs.OffsetLaws.{places_min}
use Rattle.memory_layout.proofs.Meanings.{pieces_number, partials_number}
use Rattle.check_memory.proofs.Passing.{stands_passes}
use Rattle.image_store.specs.Stored.{RowsAre}
use Rattle.image_read.specs.Reading.{Made}

module _ (lent count : ℕ) (bytes words cells words' cells' rows' : List ℕ) (m : Made lent count bytes words cells words' cells' rows') where
  -- the rows themselves, as records
  rows_own : RowsAre count rows' (records_in count rows')
  unfolding record_at
  rows_own = record {
    many = omega (arith, length_records count rows');
    are = λ k h. records_at count rows' k h;
  }

  pub own_stands : Stands m.standing.shape (records_in count rows') words' cells'
  own_stands = m.standing.stands (records_in count rows') rows_own

  pub own_is : decode (records_in count rows') words' cells' ≡ m.picker
  own_is = m.standing.is (records_in count rows') rows_own

  pub count_is : count ≡ head_word words' 7
  count_is =
      m.standing.many ∙ ap (λ (p : Picker). len p.partials) (sym own_is)
      ∙ partials_number m.standing.shape (records_in count rows') words' cells' own_stands.bounds

  pieces_are : pieces_in m.picker ≡ m.standing.shape.pieces
  pieces_are = ap pieces_in (sym own_is) ∙ pieces_number m.standing.shape (records_in count rows') words' cells' own_stands.bounds

  places_are : places_for (pieces_in m.picker) ≡ m.standing.shape.places
  places_are = ap places_for pieces_are ∙ sym own_stands.bounds.spans.in_words.sizes.places

  -- no more partials than there are places
  pub count_few : count ≤ places_for (pieces_in m.picker)
  count_few = omega (arith, count_is, places_are, own_stands.bounds.partials)

  module _ (partials : List Record) (long : length partials ≡ lent) where
    abbrev after : List Record
    after = packed count rows' partials

    -- the rows have room
    pub pack_fits : (count ≤ 512) × (count ≤ length partials)
    pack_fits = (omega (arith, count_few, places_min (pieces_in m.picker)), omega (arith, count_few, m.room))

    pub rows_packed : RowsAre count rows' (packed count rows' partials)
    unfolding record_at
    rows_packed = record {
      many = omega (arith, length-packed count rows' partials, pack_fits.1);
      are = λ k h.
          sym (get_or-take count (packed count rows' partials) k no_record h)
          ∙ ap (λ (l : List Record). get_or l k no_record) (packed_live count rows' partials pack_fits.1) ∙ records_at count rows' k h;
    }

    -- the buffers mean the picker that was read
    pub packed_is : decode (packed count rows' partials) words' cells' ≡ m.picker
    packed_is = m.standing.is (packed count rows' partials) rows_packed

    -- the next call finds it well-formed
    pub packed_good : memory_refusal lent (packed count rows' partials) words' cells' ≡ none
    packed_good =
        stands_passes m.standing.shape (packed count rows' partials) words' cells'
        (m.standing.stands (packed count rows' partials) rows_packed) lent (omega (arith, places_are, m.room))

    -- records beyond the need are as they were
    pub packed_beyond : (k : ℕ) → places_for (pieces_in m.picker) ≤ k
        → get_or (packed count rows' partials) k no_record ≡ get_or partials k no_record
    packed_beyond k h =
        let z : count + (k - count) ≡ k = omega (arith, count_few) in
        ap (λ (j : ℕ). get_or (packed count rows' partials) j no_record) (sym z)
        ∙ sym (get_or-drop count (packed count rows' partials) (k - count) no_record)
        ∙ ap (λ (l : List Record). get_or l (k - count) no_record) (packed_behind count rows' partials)
        ∙ get_or-drop count partials (k - count) no_record ∙ ap (λ (j : ℕ). get_or partials j no_record) z
