-- The marks of a piece without a partial as whole changes. Assumes nothing.
use Rattle.std.specs.Prelude.{None, Option}
use mathlib.Core.Path.{◌≡◌, refl, sym, ap, subst, ◌∙◌}
use mathlib.Core.Bool.{Bool, true, false, cond}
use mathlib.Core.List.{List}
use Prim.Native.Nat.{ℕ, ◌<◌}
use native.Mathlib.Omega.{arith}
use Rattle.types.specs.declared.queue.DownloadQueue.{DownloadQueue}
use Rattle.types.specs.declared.queue.DownloadQueue.TheVariants.{Downloading, DownloadingReverse}
use Rattle.types.specs.Peer.{named_peer}
use Rattle.model.specs.Lists.{nth}
use Rattle.model.specs.State.{Block, Picker, piece_at}
use Rattle.model.specs.list.Order.{Draws, Drawing, drawing}
use Rattle.model.specs.change.Changes.{Change, saying, reverse_asked, affinity_asked, mark_opening, requested_by, written_by, finished_by}
use Rattle.model.specs.change.Changes.{mark_downloading_in, mark_as_downloading, mark_writing_in, mark_as_writing, mark_finished_in, mark_as_finished}
use Rattle.model.specs.Calls.{no_partial_left}
use Rattle.model.proofs.sound.SoundLaws.{well_formed_sound}
use Rattle.memory_records.specs.declared.record.DownloadingPiece.{DownloadingPiece as Record}
use Rattle.memory_records.specs.declared.edits.Edit.TheVariants.{Keep}
use Rattle.memory_records.specs.Rows.{records_in}
use Rattle.memory_layout.specs.declared.shape.Shape.{Shape}
use Rattle.memory_layout.specs.Decode.{decode, state_from}
use Rattle.memory_layout.specs.Standing.{Changed, edit_records}
use Rattle.memory_layout.proofs.Meanings.{pieces_number, partials_number}
use Rattle.memory_layout.proofs.OffsetLaws.{places_min}
use Rattle.memory_blocks.specs.Blocks.{block_of}
use Rattle.memory_rows.specs.Lookup.{FoundIn}
use Rattle.change_steps.specs.Whole.{Done}
use Rattle.change_steps.proofs.WorkLaws.{went_nowhere}
use Rattle.change_steps.proofs.MendLaws.{stands_works, went_done}
use Rattle.change_tally.specs.RowsStanding.{RowsStand}
use Rattle.change_returns.proofs.WholeLaws.{nothing_found}
use Rattle.change_vacant.specs.Marks.{RowsVacant, MarkDone, mark_arrived}
use Rattle.change_vacant.proofs.RoomLaws.{one_without, not_all}

-- ---- by another name
done_named : (s : Shape) (step other : (w : Drawing) → Drawing) (records : List Record) (words cells : List ℕ) (records' : List Record)
    (words' cells' : List ℕ) (used : ℕ) → step (drawing 0 (decode records words cells)) ≡ other (drawing 0 (decode records words cells))
    → Done s step records words cells records' words' cells' used → Done s other records words cells records' words' cells' used
done_named s step other records words cells records' words' cells' used e m = record {
  changed = subst (λ (w : Drawing). Changed s w.picker words cells records' words' cells') e m.changed;
  draws = m.draws ∙ ap (λ (w : Drawing). w.used) e;
}

mark_named : (s : Shape) (mark other : (w : Drawing) → Change) (records : List Record) (words cells : List ℕ) (records' : List Record)
    (words' cells' : List ℕ) (answer : Bool) (used : ℕ)
    → mark (drawing 0 (decode records words cells)) ≡ other (drawing 0 (decode records words cells))
    → MarkDone s mark records words cells records' words' cells' answer used
    → MarkDone s other records words cells records' words' cells' answer used
mark_named s mark other records words cells records' words' cells' answer used e m = record {
  done = done_named s (λ w. (mark w).after) (λ w. (other w).after) records words cells records' words' cells' used
      (ap (λ (c : Change). c.after) e) m.done;
  says = ap (λ (c : Change). c.answer) (sym e) ∙ m.says;
}

after-cond : (b : Bool) (c e : Change) → (cond b c e).after ≡ cond b c.after e.after
after-cond true c e = refl
after-cond false c e = refl

-- ---- a piece without a partial
module _ (s : Shape) (live : ℕ) (rows words cells : List ℕ) (i : ℕ) (g : RowsVacant s live rows words cells i) where
  abbrev d₀ : Picker
  d₀ = decode (records_in live rows) words cells

  -- there is room for one where it may be opened
  pub vacant_room : i < s.pieces → (piece_at d₀ i).flushed ≡ false → no_partial_left d₀ i ≡ false → live < s.places
  vacant_room h f n =
      let v = well_formed_sound d₀ g.stands.sound in
      let b = g.stands.bounds in
      let m = pieces_number s (records_in live rows) words cells b in
      omega (
        arith,
        g.many,
        partials_number s (records_in live rows) words cells b,
        m,
        one_without d₀ i v (omega (arith, h, m)) g.vacant,
        not_all d₀ i v g.vacant f n,
        b.spans.in_words.sizes.places ∙ places_min s.pieces,
      )

  -- a flushed piece ignores the block
  pub vacant_ignored : (draws : Draws) (j : ℕ) (b : Block) → (piece_at d₀ i).flushed ≡ true
      → MarkDone s (mark_arrived draws i j b) (records_in live rows) words cells (edit_records Keep (records_in live rows)) words cells false 0
  unfolding edit_records saying drawing
  vacant_ignored draws j b f =
      let rs = records_in live rows in
      record {
        done = went_done s rs words cells (λ w. (mark_arrived draws i j b w).after) rs words cells 0
            (went_nowhere s rs words cells 0 (λ w. (mark_arrived draws i j b w).after) (stands_works s rs words cells g.stands)
            (rw f refl));
        says = rw f refl;
      }

  -- any other is opened
  pub vacant_opened : (draws : Draws) (j : ℕ) (b : Block) → (piece_at d₀ i).flushed ≡ false
      → (records' : List Record) (words' cells' : List ℕ) (answer : Bool) (used : ℕ)
      → MarkDone s (mark_opening draws i Downloading false j b) (records_in live rows) words cells records' words' cells' answer used
      → MarkDone s (mark_arrived draws i j b) (records_in live rows) words cells records' words' cells' answer used
  unfolding drawing
  vacant_opened draws j b f records' words' cells' answer used m =
      mark_named s (mark_opening draws i Downloading false j b) (mark_arrived draws i j b) (records_in live rows) words cells
      records' words' cells' answer used (rw f refl) m

  -- the marks of a piece without a partial
  module _ (draws : Draws) (j : ℕ) (has : Bool) (peer : ℕ) (records' : List Record) (words' cells' : List ℕ) (answer : Bool)
      (used : ℕ) where
    pub downloading_opened : (options : ℕ) (back affinity : Bool) (q : DownloadQueue) → back ≡ reverse_asked options
        → affinity ≡ affinity_asked options → q ≡ cond back DownloadingReverse Downloading
        → MarkDone s (mark_opening draws i q affinity j (block_of (record { state = 1; num_peers = 1; has_peer = has; peer = peer })))
        (records_in live rows) words cells records' words' cells' answer used
        → MarkDone s (mark_as_downloading draws i j (named_peer has peer) options)
        (records_in live rows) words cells records' words' cells' answer used
    unfolding mark_as_downloading mark_downloading_in requested_by block_of state_from nth drawing
    downloading_opened options back affinity q eb ea eq m =
        mark_named s (mark_opening draws i q affinity j (block_of (record { state = 1; num_peers = 1; has_peer = has; peer = peer })))
        (mark_as_downloading draws i j (named_peer has peer) options) (records_in live rows) words cells records' words' cells' answer used
        (rw (g.vacant, eq, eb, ea) refl) m

    pub writing_opened :
        MarkDone s (mark_arrived draws i j (block_of (record { state = 2; num_peers = 0; has_peer = has; peer = peer })))
        (records_in live rows) words cells records' words' cells' answer used
        → MarkDone s (mark_as_writing draws i j (named_peer has peer)) (records_in live rows) words cells records' words' cells' answer used
    unfolding mark_as_writing mark_writing_in written_by block_of state_from nth drawing
    writing_opened m =
        mark_named s (mark_arrived draws i j (block_of (record { state = 2; num_peers = 0; has_peer = has; peer = peer })))
        (mark_as_writing draws i j (named_peer has peer)) (records_in live rows) words cells records' words' cells' answer used
        (rw g.vacant refl) m

    pub finished_opened :
        MarkDone s (mark_arrived draws i j (block_of (record { state = 3; num_peers = 0; has_peer = has; peer = peer })))
        (records_in live rows) words cells records' words' cells' answer used
        → Done s (mark_as_finished draws i j (named_peer has peer)) (records_in live rows) words cells records' words' cells' used
    unfolding mark_as_finished mark_finished_in finished_by block_of state_from nth drawing saying
    finished_opened m =
        done_named s
        (λ w. (mark_arrived draws i j (block_of (record { state = 3; num_peers = 0; has_peer = has; peer = peer })) w).after)
        (mark_as_finished draws i j (named_peer has peer)) (records_in live rows) words cells records' words' cells' used
        (rw g.vacant (after-cond (piece_at d₀ i).flushed _ _)) m.done

-- where the rows name none
pub rows_vacant : (s : Shape) (live : ℕ) (rows counts words cells : List ℕ) → RowsStand s live rows counts words cells → (i : ℕ)
    (found : Option ℕ) → found ≡ None → FoundIn live rows i found → RowsVacant s live rows words cells i
rows_vacant s live rows counts words cells g i found n f = record {
  stands = g.stands;
  many = g.many;
  long = g.long_rows;
  vacant = nothing_found s live rows counts words cells g i found n f;
}
