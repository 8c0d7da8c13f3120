-- A whole change on the partial that the rows name, if one stands. Assumes nothing.
use Rattle.std.specs.Prelude.{None, Option as Optional, Some}
use mathlib.Core.Path.{◌≡◌, refl, sym, ap, ◌∙◌, subst}
use mathlib.Core.Bool.{Bool, true, false}
use mathlib.Core.List.{List}
use mathlib.Core.Option.{Option, none, some}
use Prim.Native.Nat.{ℕ, ◌≤◌, ◌<◌}
use lib.ListN.{length}
use Rattle.types.specs.declared.block.BlockState.TheVariants.{Finished}
use Rattle.model.specs.State.{Picker, DownloadingPiece}
use Rattle.model.specs.list.Order.{Drawing, drawing}
use Rattle.model.specs.change.Partials.{partial_of, blocks_in_state, drop_partial}
use Rattle.model.proofs.sound.SoundLaws.{well_formed_sound}
use Rattle.memory_records.specs.declared.record.DownloadingPiece.{DownloadingPiece as Record}
use Rattle.memory_records.specs.declared.edits.Edit.{Edit}
use Rattle.memory_records.specs.declared.edits.Edit.TheVariants.{Keep, Remove}
use Rattle.memory_records.specs.Records.{edited, rising_from}
use Rattle.memory_records.specs.Rows.{records_in}
use Rattle.memory_layout.specs.declared.shape.Shape.{Shape}
use Rattle.memory_layout.specs.Decode.{head_word, record_at, blocks_of, decode}
use Rattle.memory_layout.specs.Changes.{partial_in}
use Rattle.memory_layout.specs.Standing.{edit_records}
use Rattle.memory_rows.specs.Lookup.{LiveRows, FoundIn}
use Rattle.change_steps.specs.Working.{Went}
use Rattle.change_steps.specs.Whole.{Done, EditRoom}
use Rattle.change_steps.proofs.WorkLaws.{went_nowhere, went_named}
use Rattle.change_steps.proofs.MendLaws.{stands_works, went_changed, went_done}
use Rattle.change_steps.proofs.RoomLaws.{keep_room, remove_room}
use Rattle.change_tally.specs.declared.standing.Standing.{Standing}
use Rattle.change_tally.specs.Tallied.{TalliesBeside, StandsIn}
use Rattle.change_tally.specs.RowsStanding.{RowsStand}
use Rattle.change_blocks.specs.Replacing.{TallyAt, TallyBeside}
use Rattle.change_flags.proofs.RowEdits.{rows-live, rows_within, rows_few, rows_rising, low, found_is_lem, row_is, rows_closed}
use Rattle.change_returns.specs.Giving.{closing, PartialChanged}

module _ (s : Shape) (live : ℕ) (rows counts words cells : List ℕ) (g : RowsStand s live rows counts words cells) where
  abbrev rs : List Record
  rs = records_in live rows

  abbrev d : Picker
  d = decode (records_in live rows) words cells

  live-rows : LiveRows s live rows words cells
  live-rows = rows-live s live rows words cells g.stands g.many

  -- what the lookup asks
  pub find_asks : ((live ≤ 512) × (length rows ≡ 1536)) × (rising_from 0 rs ≡ true)
  find_asks = (
    (rows_few s live rows words cells g.stands g.many, g.long_rows),
    rows_rising s live rows words cells g.stands g.many,
  )

  -- room for the edit
  within : live ≤ s.places
  within = rows_within s live rows words cells g.stands g.many

  pub kept_room : EditRoom s live Keep
  kept_room = keep_room s live within

  closing_room : (i : ℕ) (closed : Bool) → EditRoom s live (closing i closed)
  closing_room i true = remove_room s live within i
  closing_room i false = kept_room

  -- no row is the piece's
  pub nothing_found : (i : ℕ) (found : Optional ℕ) → found ≡ None → FoundIn live rows i found → partial_of d i ≡ none
  nothing_found i found n f = (subst (FoundIn live rows i) n f).is s words cells live-rows

  -- ---- row k is the one found
  module _ (i k : ℕ) (found : Optional ℕ) (e : found ≡ Some k) (f : FoundIn live rows i found) where
    found_at : FoundIn live rows i (Some k)
    found_at = subst (FoundIn live rows i) e f

    pub partial_found : partial_of d i ≡ some (partial_in d k)
    partial_found = found_is_lem s live rows words cells g.stands g.many i k found_at

    pub standing_asks : i < s.pieces
        → TalliesBeside s words rows counts k i × ((i < s.pieces) × ((length rows ≡ 1536) × (length counts ≡ 1536)))
    standing_asks h = (
      record {
        live = live;
        cells = cells;
        rows_live = live-rows;
        counted = g.counted;
        there = found_at.row.0;
        piece = found_at.row.1;
      },
      (h, (g.long_rows, g.long_counts)),
    )

    -- its partial stands at the place that it names, with the numbers counted
    module _ (r : Standing) (y : StandsIn s words rows counts k r) where
      pub flags_here : (record_at rs k).flags ≡ r.flags
      flags_here = ap (λ (q : Record). q.flags) (row_is s live rows words cells g.stands g.many i k found_at) ∙ sym y.flags

      pub finished_here : r.finished ≡ blocks_in_state Finished (partial_in d k)
      finished_here = y.finished.is d live g.counted found_at.row.0

      module _ (j : ℕ) (h : j < blocks_of words i) where
        pub tally_here : TallyAt s rs words cells i r.place j r.tally k
        tally_here =
            let z = row_is s live rows words cells g.stands g.many i k found_at in
            record {
              stands = record {
                works = stands_works s rs words cells g.stands;
                rising = (well_formed_sound d g.stands.sound).rising;
                low = low s live rows words cells g.stands g.many i k found_at;
                index = ap (λ (q : Record). q.index) z ∙ found_at.row.1;
                place = ap (λ (q : Record). q.info_idx) z ∙ sym y.place;
                block = h;
              };
              tally = y.tally.is live cells live-rows g.counted;
            }

        pub tally_beside : TallyBeside s words cells i r.place j r.tally
        tally_beside = record { records = rs; k = k; there = tally_here }

  -- ---- the change of the partial that stands, if any
  module _ (i : ℕ) (change : (found : Option DownloadingPiece) (w : Drawing) → Drawing) where
    abbrev whole : (w : Drawing) → Drawing
    whole w = change (partial_of w.picker i) w

    pub whole_nothing : (found : Optional ℕ) → found ≡ None → FoundIn live rows i found → change none (drawing 0 d) ≡ drawing 0 d
        → Done s (λ w. change (partial_of w.picker i) w) rs words cells (edit_records Keep rs) words cells 0 × EditRoom s live Keep
    unfolding edit_records drawing
    whole_nothing found n f e = (
      went_done s rs words cells whole rs words cells 0
          (went_nowhere s rs words cells 0 whole (stands_works s rs words cells g.stands)
          (ap (λ (o : Option DownloadingPiece). change o (drawing 0 d)) (nothing_found i found n f) ∙ e)),
      kept_room,
    )

    module _ (k : ℕ) (found : Optional ℕ) (e : found ≡ Some k) (f : FoundIn live rows i found) (words' cells' : List ℕ) (next : ℕ) where
      here : change (some (partial_in d k)) (drawing 0 d) ≡ whole (drawing 0 d)
      unfolding drawing
      here = ap (λ (o : Option DownloadingPiece). change o (drawing 0 d)) (sym (partial_found i k found e f))

      by_edit : (closed : Bool)
          → Went s (change (some (partial_in d k))) rs words cells 0 (edited (head_word words 7) (closing i closed) rs) words' cells' next
          → (closed ≡ true → (change (some (partial_in d k)) (drawing 0 d)).picker.partials ≡ (drop_partial i d).partials)
          → Done s whole rs words cells (edit_records (closing i closed) rs) words' cells' next
      unfolding edit_records
      by_edit false w o =
          went_done s rs words cells whole rs words' cells' next
          (went_named s rs words cells 0 rs words' cells' next (change (some (partial_in d k))) whole here w)
      by_edit true w o =
          let gone = edited (head_word words 7) (Remove i) rs in
          let c = went_changed s rs words cells whole 0 gone words' cells' next
          (went_named s rs words cells 0 gone words' cells' next (change (some (partial_in d k))) whole here w) in
          record {
            changed = rows_closed s live rows words cells g.stands g.many i k (found_at i k found e f)
                (λ q. (whole (drawing 0 q)).picker) (ap (λ (v : Drawing). v.picker.partials) (sym here) ∙ o refl) words' cells' c.0;
            draws = c.1;
          }

      pub whole_found : (Placed : (records : List Record) (k : ℕ) → Type 0) → Placed rs k → (edit : Edit)
          → PartialChanged s change i Placed words cells 0 words' cells' edit next
          → Done s (λ w. change (partial_of w.picker i) w) rs words cells (edit_records edit rs) words' cells' next × EditRoom s live edit
      whole_found Placed a edit v =
          let done = by_edit v.closed
          (subst (λ (x : Edit). Went s (change (some (partial_in d k))) rs words cells 0 (edited (head_word words 7) x rs) words' cells' next)
          v.edits (v.went rs k a))
          (λ c. v.others c rs k a) in (
            subst (λ (x : Edit). Done s whole rs words cells (edit_records x rs) words' cells' next) (sym v.edits) done,
            subst (EditRoom s live) (sym v.edits) (closing_room i v.closed),
          )
