-- A partial locked or passed: the definition by what the rows and the counts say. Assumes nothing.
use Rattle.std.specs.Prelude.{None, Some}
use mathlib.Core.Path.{◌≡◌, sym, ap, ap₂, ◌∙◌, subst}
use mathlib.Core.Bool.{Bool, true, false}
use mathlib.Core.Option.{Option, some}
use mathlib.Core.List.{List}
use Prim.Native.Nat.{ℕ, ◌≤◌, ◌<◌}
use lib.Dec.{leb}
use borrow.Author.Tests.{le-leb, lt-leb}
use Rattle.types.specs.declared.queue.DownloadQueue.TheVariants.{Open}
use Rattle.types.specs.declared.block.BlockState.TheVariants.{Finished}
use Rattle.model.specs.Lists.{when, unless}
use Rattle.model.specs.Bep3.{bit_of}
use Rattle.model.specs.State.{DownloadingPiece, Picker, with_piece, with_state, with_flushed, with_partials, with_flags, blocks_in_piece}
use Rattle.model.specs.list.Order.{drawing, no_draw}
use Rattle.model.specs.change.Partials.{partial_of, replace_partial, drop_partial, erase_download_piece}
use Rattle.model.specs.change.Changes.{advance_cursors, piece_flushed, all_finished, lock_in, lock_piece, pass_in, piece_passed}
use Rattle.model.proofs.keep.KeepClose.{finished_rank}
use Rattle.model.proofs.sound.PartialLaws.{drop_put}
use Rattle.model.proofs.sound.SoundLaws.{well_formed_sound}
use Rattle.memory_records.specs.declared.record.DownloadingPiece.{DownloadingPiece as Record}
use Rattle.memory_records.specs.declared.edits.Edit.TheVariants.{Keep, Replace, Remove}
use Rattle.memory_records.specs.Rows.{row_at, records_in}
use Rattle.memory_layout.specs.declared.shape.Shape.{Shape}
use Rattle.memory_layout.specs.Decode.{record_at, partial_from, partial_held, blocks_of, decode}
use Rattle.memory_layout.specs.Standing.{Changed}
use Rattle.memory_layout.specs.Changes.{partial_in}
use Rattle.memory_layout.proofs.Meanings.{partial_is, partial_piece_is, blocks_of_is}
use Rattle.memory_partials.specs.Partials.{Flagged}
use Rattle.memory_rows.specs.Lookup.{FoundIn}
use Rattle.memory_counts.specs.Counted.{CountSays}
use Rattle.change_steps.proofs.MendLaws.{went_changed}
use Rattle.change_steps.proofs.RoomLaws.{keep_room, replace_room}
use Rattle.change_tally.specs.RowsStanding.{RowsStand}
use Rattle.change_closing.specs.Closing.{without, Flushed}
use Rattle.change_closing.proofs.FlushLaws.{flushed_partials}
use Rattle.change_flags.specs.Flagging.{RowsChanged, EditAlone}
use Rattle.change_flags.proofs.RowEdits.{rows-live, rows_kept, low, found_is_lem, has_partial, row_is, rows_flagged, rows_closed}

-- ---- locked
module _ (live : ℕ) (rows : List ℕ) (i : ℕ) where
  pub lock_nothing : FoundIn live rows i None → EditAlone (lock_piece i) live rows Keep
  unfolding lock_piece lock_in
  lock_nothing f = record {
    changed = λ s words cells g many.
        rows_kept s live rows words cells g many (lock_piece i) (rw (f.is s words cells (rows-live s live rows words cells g many)));
    room = λ s h. keep_room s live h;
  }

  pub lock_found : (k : ℕ) → FoundIn live rows i (Some k) → (q r : Record) → q ≡ row_at rows k → Flagged false true q r
      → EditAlone (lock_piece i) live rows (Replace r)
  unfolding lock_piece lock_in
  lock_found k f q r e x = record {
    changed = λ s words cells g many.
        rows_flagged s live rows words cells g many i k f false true r
        (subst (λ (y : Record). Flagged false true y r) e x) (lock_piece i) (rw (found_is_lem s live rows words cells g many i k f));
    room = λ s h. replace_room s live h r;
  }

-- ---- a partial replaced and closed is one closed
flushed_again : (i : ℕ) (x : DownloadingPiece) (d : Picker) → x.piece ≡ i → piece_flushed i (replace_partial x d) ≡ piece_flushed i d
unfolding piece_flushed erase_download_piece drop_partial replace_partial with_partials
flushed_again i x d q =
    ap (λ (l : List DownloadingPiece). advance_cursors i (with_piece i with_flushed (with_piece i (with_state Open) (with_partials l d))))
    (drop_put i x d.partials q)

-- ---- passed
-- a locked partial stays so
passed_locked : (i : ℕ) (d : Picker) (p : DownloadingPiece) → partial_of d i ≡ some p → p.locked ≡ true → piece_passed i d ≡ d
unfolding piece_passed pass_in unless
passed_locked i d p f l =
    ap (λ (o : Option DownloadingPiece). pass_in i o d) f
    ∙ ap (λ (b : Bool). unless b (λ t. when (all_finished t p) (piece_flushed i) (replace_partial (with_flags true false p) t)) d) l

-- another one is passed, and flushed where every block is on disk
passed_is : (i : ℕ) (d : Picker) (p : DownloadingPiece) → partial_of d i ≡ some p → p.locked ≡ false → (b : Bool) → all_finished d p ≡ b
    → piece_passed i d ≡ when b (piece_flushed i) (replace_partial (with_flags true false p) d)
unfolding piece_passed pass_in unless
passed_is i d p f l b e =
    ap (λ (o : Option DownloadingPiece). pass_in i o d) f
    ∙ ap (λ (c : Bool). unless c (λ t. when (all_finished t p) (piece_flushed i) (replace_partial (with_flags true false p) t)) d) l
    ∙ ap (λ (c : Bool). when c (piece_flushed i) (replace_partial (with_flags true false p) d)) e

module _ (s : Shape) (live : ℕ) (rows counts words cells : List ℕ) (g : RowsStand s live rows counts words cells)
    (i : ℕ) where
  abbrev d : Picker
  d = decode (records_in live rows) words cells

  pub pass_nothing : FoundIn live rows i None → RowsChanged s (piece_passed i) live rows words cells Keep words cells
  unfolding piece_passed pass_in
  pass_nothing f =
      rows_kept s live rows words cells g.stands g.many (piece_passed i)
      (rw (f.is s words cells (rows-live s live rows words cells g.stands g.many)))

  -- row k holds the record `q` of its partial, which `t` says is locked
  module _ (k : ℕ) (f : FoundIn live rows i (Some k)) (q : Record) (eq : q ≡ row_at rows k) (t : Bool) (et : t ≡ bit_of q.flags 1) where
    abbrev p : DownloadingPiece
    p = partial_in (decode (records_in live rows) words cells) k

    there : partial_of d i ≡ some p
    there = found_is_lem s live rows words cells g.stands g.many i k f

    row_here : record_at (records_in live rows) k ≡ q
    row_here = row_is s live rows words cells g.stands g.many i k f ∙ sym eq

    locked_is : p.locked ≡ t
    unfolding partial_held partial_from
    locked_is =
        ap (λ (x : DownloadingPiece). x.locked)
        (partial_is s (records_in live rows) words cells g.stands.bounds k (low s live rows words cells g.stands g.many i k f))
        ∙ ap (λ (x : Record). bit_of x.flags 1) row_here ∙ sym et

    piece_is : p.piece ≡ i
    piece_is =
        partial_piece_is s (records_in live rows) words cells g.stands.bounds k
        (low s live rows words cells g.stands g.many i k f)
        ∙ ap (λ (x : Record). x.index) (row_is s live rows words cells g.stands g.many i k f) ∙ f.row.1

    pub pass_locked : t ≡ true → RowsChanged s (piece_passed i) live rows words cells Keep words cells
    pass_locked l = rows_kept s live rows words cells g.stands g.many (piece_passed i) (passed_locked i d p there (locked_is ∙ l))

    -- it is not, and its piece has `many` blocks, of which `fin` are on disk
    module _ (l : t ≡ false) (many : ℕ) (em : many ≡ blocks_of words i) (narrow : ℕ)
        (ef : CountSays counts k Finished narrow) (fin : ℕ) (en : fin ≡ narrow) where
      finished_is : all_finished d p ≡ leb many fin
      unfolding all_finished
      finished_is =
          ap₂ (λ (x y : ℕ). leb x y)
          (ap (blocks_in_piece d) piece_is ∙ sym (blocks_of_is (records_in live rows) words cells i) ∙ sym em)
          (sym (en ∙ ef.is d live g.counted f.row.0))

      -- not all
      pub pass_flagged : fin < many → (r : Record) → Flagged true false q r
          → RowsChanged s (piece_passed i) live rows words cells (Replace r) words cells
      unfolding when
      pass_flagged o r x =
          rows_flagged s live rows words cells g.stands g.many i k f true false r
          (subst (λ (y : Record). Flagged true false y r) eq x) (piece_passed i)
          (sym (passed_is i d p there (locked_is ∙ l) false (finished_is ∙ lt-leb many fin o)))

      -- all
      flush_is : many ≤ fin → piece_flushed i d ≡ piece_passed i d
      unfolding when with_flags
      flush_is o =
          sym (passed_is i d p there (locked_is ∙ l) true (finished_is ∙ le-leb many fin o)
          ∙ flushed_again i (with_flags true false p) d piece_is)

      pub pass_flushed : many ≤ fin → (words' cells' : List ℕ) → Flushed s i words cells words' cells'
          → RowsChanged s (piece_passed i) live rows words cells (Remove q.index) words' cells'
      unfolding no_draw drawing
      pass_flushed o words' cells' x =
          let z = finished_rank d i p (well_formed_sound d g.stands.sound) there (finished_is ∙ le-leb many fin o) in
          let w = x.went (records_in live rows) (has_partial s live rows words cells g.stands g.many i k f) z 0 in
          let c = (went_changed s (records_in live rows) words cells (no_draw (piece_flushed i)) 0 (without i words (records_in live rows))
          words' cells' 0 w).0 in
          subst (λ (y : ℕ). RowsChanged s (piece_passed i) live rows words cells (Remove y) words' cells')
          (sym (ap (λ (y : Record). y.index) eq ∙ f.row.1))
          (rows_closed s live rows words cells g.stands g.many i k f (piece_passed i)
          (ap (λ (y : Picker). y.partials) (sym (flush_is o)) ∙ flushed_partials i d) words' cells'
          (subst (λ (y : Picker). Changed s y words cells (without i words (records_in live rows)) words' cells') (flush_is o) c))
