-- A piece turned reverse or back: the list is given up where the piece gets a bucket, and mended where not. Assumes nothing.
use mathlib.Core.Path.{◌≡◌, ap, ap₂, ◌∙◌}
use mathlib.Core.Bool.{Bool, true, false, not, ◌&&◌, and_assoc}
use mathlib.Core.List.{List}
use Prim.Native.Nat.{ℕ, ◌<◌}
use lib.Dec.{eqb, ltb}
use Rattle.types.specs.declared.queue.DownloadQueue.{DownloadQueue}
use Rattle.types.specs.Queue.{queue_number, unreverse, make_reverse, is_reverse}
use Rattle.model.specs.Lists.{when}
use Rattle.model.specs.State.{Picker, piece_at, with_piece, with_state, mark_dirty}
use Rattle.model.specs.list.Order.{Draws, drawing, no_draw, rank, update}
use Rattle.model.specs.change.Partials.{set_state}
use Rattle.model.specs.change.Changes.{set_direction, make_piece_reverse, unreverse_piece}
use Rattle.memory_records.specs.declared.record.DownloadingPiece.{DownloadingPiece as Record}
use Rattle.memory_layout.specs.declared.shape.Shape.{Shape}
use Rattle.memory_layout.specs.Decode.{decode, queue_from}
use Rattle.memory_layout.specs.Stores.{CellsBecame}
use Rattle.memory_fields.specs.Reading.{CellsSay}
use Rattle.memory_fields.specs.Storing.{DirtyMarked}
use Rattle.memory_ranks.specs.CellRanks.{IsRankAt}
use Rattle.memory_list.specs.Listings.{ListBecame}
use Rattle.change_steps.specs.Working.{Works, Goes}
use Rattle.change_steps.proofs.WorkLaws.{went_nowhere, went_named}
use Rattle.change_steps.proofs.MendLaws.{given_up}
use Rattle.change_state.proofs.MoveLaws.{state_stored, state_set}
use Rattle.change_direction.specs.Turning.{MadeReverse}

-- ---- the direction set
module _ (s : Shape) (i : ℕ) (h : i < s.pieces) (q : DownloadQueue) (n : ℕ) (e : n ≡ queue_number q) (words cells cells' : List ℕ)
    (c : CellsBecame s (with_piece i (with_state (queue_from n))) cells cells') (old : ℕ) (r : IsRankAt s words cells i old) (new : ℕ)
    (r' : IsRankAt s words cells' i new) (draws : Draws) (used : ℕ) where
  -- the code's test is the definition's
  test_is : (records : List Record) → Works s records words cells
      → (eqb old 0 && ltb 0 new)
      ≡ (eqb (rank (decode records words cells) i) 0 && ltb 0 (rank (with_piece i (with_state q) (decode records words cells)) i))
  test_is records w =
      let t = state_stored s i h q n e words cells cells' c records w in
      ap₂ (λ (x y : ℕ). eqb x 0 && ltb 0 y) (r.is w.bounds.pieces records)
      (r'.is w.bounds.pieces records ∙ ap (λ (d : Picker). rank d i) t.is)

  pub direction_dirty : true ≡ (eqb old 0 && ltb 0 new) → (words' : List ℕ) → DirtyMarked s words words'
      → Goes s (set_direction draws i q) words cells used words' cells' used
  unfolding set_direction no_draw drawing
  direction_dirty o words' m = record {
    went = λ records w.
        went_named s records words cells used records words' cells' used (no_draw (λ d. mark_dirty (with_piece i (with_state q) d)))
        (set_direction draws i q) (rw (← test_is records w, ← o))
        (given_up s (with_piece i (with_state q)) records words cells records words cells'
        (state_stored s i h q n e words cells cells' c records w) used words' m);
  }

  pub direction_mended : false ≡ (eqb old 0 && ltb 0 new) → (words' : List ℕ) (next : ℕ)
      → ListBecame s (update draws old i) words words' cells' used next
      → Goes s (set_direction draws i q) words cells used words' cells' next
  unfolding set_direction drawing
  direction_mended o words' next l = record {
    went = λ records w.
        went_named s records words cells used records words' cells' next (set_state draws i q) (set_direction draws i q)
        (rw (← test_is records w, ← o))
        ((state_set s i h q n e words cells cells' c old r draws used words' next l).went records w);
  }

-- ---- turned or left
module _ (s : Shape) (draws : Draws) (i : ℕ) (back : Bool) (words cells : List ℕ) (used : ℕ) (q : DownloadQueue)
    (say : CellsSay s cells (λ d. (piece_at d i).state) q) where
  module _ (requested : ℕ) (t : Bool) (et : t ≡ is_reverse q) where
    pub reverse_made : ((back && not t) && eqb requested 0) ≡ true → (q' : DownloadQueue) → q' ≡ make_reverse q
        → (words' cells' : List ℕ) (next : ℕ)
        → Goes s (set_direction draws i q') words cells used words' cells' next
        → MadeReverse s draws i back requested words cells used words' cells' next
    unfolding make_piece_reverse when drawing
    reverse_made o q' eq words' cells' next g = record {
      went = λ records w d m.
          went_named s records words cells used records words' cells' next (set_direction draws i q') (make_piece_reverse draws i back d)
          (rw (← say.is records words w.bounds, ← m, ← et, ← eq, ← and_assoc back (not t) (eqb requested 0), o)) (g.went records w);
    }

    pub reverse_left : ((back && not t) && eqb requested 0) ≡ false → MadeReverse s draws i back requested words cells used words cells used
    unfolding make_piece_reverse when drawing
    reverse_left o = record {
      went = λ records w d m.
          went_nowhere s records words cells used (make_piece_reverse draws i back d) w
          (rw (← say.is records words w.bounds, ← m, ← et, ← and_assoc back (not t) (eqb requested 0), o));
    }

  module _ (t : Bool) (et : t ≡ is_reverse q) where
    pub turned_back : (not back && t) ≡ true → (q' : DownloadQueue) → q' ≡ unreverse q → (words' cells' : List ℕ) (next : ℕ)
        → Goes s (set_direction draws i q') words cells used words' cells' next
        → Goes s (unreverse_piece draws i back) words cells used words' cells' next
    unfolding unreverse_piece when drawing
    turned_back o q' eq words' cells' next g = record {
      went = λ records w.
          went_named s records words cells used records words' cells' next (set_direction draws i q') (unreverse_piece draws i back)
          (rw (← say.is records words w.bounds, ← et, ← eq, o)) (g.went records w);
    }

    pub turned_left : (not back && t) ≡ false → Goes s (unreverse_piece draws i back) words cells used words cells used
    unfolding unreverse_piece when drawing
    turned_left o = record {
      went = λ records w.
          went_nowhere s records words cells used (unreverse_piece draws i back) w
          (rw (← say.is records words w.bounds, ← et, o));
    }
