-- A priority that turns from or to 0: the test, and the cursors left or moved. Assumes nothing.
use mathlib.Core.Path.{◌≡◌, refl, ap}
use mathlib.Core.Bool.{Bool, true, false, not, ◌&&◌}
use mathlib.Core.Logic.{◌≢◌}
use mathlib.Core.List.{List}
use Prim.Native.Nat.{ℕ, ◌<◌}
use lib.Dec.{eqb}
use borrow.Author.Tests.{eq-eqb, ne_eqb}
use Rattle.model.specs.Lists.{bit, when}
use Rattle.model.specs.State.{Picker, piece_at, with_cursors}
use Rattle.model.specs.list.Order.{drawing, no_draw, rank}
use Rattle.model.specs.change.Changes.{cursors_on_filter}
use Rattle.model.proofs.keep.KeepCursors.{Turned, cursors_on_filter_turned, turned_blind, turned_keeps}
use Rattle.model.proofs.sound.SoundBody.{sound_body}
use Rattle.model.proofs.sound.SoundLaws.{well_formed_sound, sound_well_formed}
use Rattle.memory_records.specs.declared.record.DownloadingPiece.{DownloadingPiece as Record}
use Rattle.memory_layout.specs.declared.shape.Shape.{Shape}
use Rattle.memory_layout.specs.Decode.{decode}
use Rattle.memory_layout.specs.Standing.{Stands, Changed}
use Rattle.memory_layout.proofs.Meanings.{pieces_number}
use Rattle.memory_layout.proofs.StandingLaws.{ranks_again, became_changed, changed_stands}
use Rattle.memory_fields.specs.Reading.{CellsSay}
use Rattle.memory_fields.specs.Storing.{StoredBeside}
use Rattle.change_steps.specs.Working.{Went}
use Rattle.change_steps.specs.Whole.{Begins}
use Rattle.change_steps.proofs.WorkLaws.{went_nowhere}
use Rattle.change_steps.proofs.MendLaws.{stands_works}
use Rattle.change_filter.specs.Turning.{cursors_turned}

-- ---- turned from or to 0
module _ (old new : ℕ) where
  -- from 0
  pub filter_from : old ≡ 0 → not (eqb new 0) ≡ not (eqb (bit (eqb new 0)) (bit (eqb old 0)))
  filter_from e = rw (eq-eqb old 0 e) (go (eqb new 0))
    where
      go : (t : Bool) → not t ≡ not (eqb (bit t) 1)
      go true = refl
      go false = refl

  -- to 0
  pub filter_to : old ≢ 0 → eqb new 0 ≡ not (eqb (bit (eqb new 0)) (bit (eqb old 0)))
  filter_to e = rw (ne_eqb old 0 e) (go (eqb new 0))
    where
      go : (t : Bool) → t ≡ not (eqb (bit t) 0)
      go true = refl
      go false = refl

-- ---- the cursors
module _ (s : Shape) (i : ℕ) (h : i < s.pieces) (priority : ℕ) (turned : Bool) (words cells : List ℕ) (held : Bool)
    (say : CellsSay s cells (λ d. (piece_at d i).flushed) held) where
  -- left
  pub cursors_left : (turned && not held) ≡ false → Begins s (cursors_turned i priority turned) words cells words cells 0
  unfolding cursors_turned when drawing
  cursors_left o = record {
    went = λ records t.
        went_nowhere s records words cells 0 (cursors_turned i priority turned) (stands_works s records words cells t)
        (rw (← say.is records words t.bounds, o));
  }

  -- moved
  module _ (words' : List ℕ) (c : StoredBeside s (cursors_on_filter i priority) cells words words') (records : List Record)
      (t : Stands s records words cells) where
    turn : Turned (decode records words cells) (cursors_on_filter i priority (decode records words cells))
    turn =
        let d = decode records words cells in
        cursors_on_filter_turned d (sound_body d (well_formed_sound d t.sound)).frame i priority
        (rw (pieces_number s records words cells t.bounds) h)

    same_rank : (d d' : Picker) → Turned d d' → (k : ℕ) → rank d' k ≡ rank d k
    unfolding with_cursors rank piece_at
    same_rank d d' v k = turned_blind (λ u. rank u k ≡ rank d k) (λ a b u p. p) d d' v refl

    moved : Changed s (cursors_on_filter i priority (decode records words cells)) words cells records words' cells
    moved =
        let d = decode records words cells in
        became_changed s (cursors_on_filter i priority) records words cells words' cells t (c.became.became records t.bounds)
        c.became.words_kept c.became.cells_kept
        (ranks_again s records words cells words' (cursors_on_filter i priority d) t c.list
        (same_rank d (cursors_on_filter i priority d) turn))

    moved_stands : Stands s records words' cells
    moved_stands =
        let d = decode records words cells in
        changed_stands s (cursors_on_filter i priority d) words cells records words' cells
        (sound_well_formed (cursors_on_filter i priority d)
        (turned_keeps d (cursors_on_filter i priority d) turn (well_formed_sound d t.sound)))
        moved

    moved_went : (turned && not held) ≡ true → Went s (cursors_turned i priority turned) records words cells 0 records words' cells 0
    unfolding cursors_turned when no_draw drawing
    moved_went o = record {
      is = rw (← say.is records words t.bounds, o) (ap (drawing 0) moved.is);
      works = stands_works s records words' cells moved_stands;
      words_kept = moved.words_kept;
      cells_kept = moved.cells_kept;
    }

  pub cursors_moved : (turned && not held) ≡ true → (words' : List ℕ) → StoredBeside s (cursors_on_filter i priority) cells words words'
      → Begins s (cursors_turned i priority turned) words cells words' cells 0
  cursors_moved o words' c = record { went = λ records t. moved_went words' c records t o }
