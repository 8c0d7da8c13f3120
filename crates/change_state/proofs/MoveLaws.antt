-- A piece in another state: what is stored, and what becomes of the picker once the list is mended. Assumes nothing.
use mathlib.Core.Path.{◌≡◌, ap, ap₂, ◌∙◌, subst}
use mathlib.Core.Bool.{true, false, ◌||◌}
use mathlib.Core.Option.{some}
use mathlib.Core.List.{List}
use Prim.Native.Nat.{ℕ, ◌<◌}
use Rattle.types.specs.declared.queue.DownloadQueue.{DownloadQueue}
use Rattle.types.specs.Queue.{queue_number}
use Rattle.model.specs.Lists.{unless}
use Rattle.model.specs.State.{Picker, DownloadingPiece, same_queue, is_open, piece_at, with_piece, with_state}
use Rattle.model.specs.list.Order.{Draws, drawing, update}
use Rattle.model.specs.change.Partials.{partial_of, new_state, set_state, move_state, update_state_of, update_piece_state}
use Rattle.memory_records.specs.declared.record.DownloadingPiece.{DownloadingPiece as Record}
use Rattle.memory_layout.specs.declared.shape.Shape.{Shape}
use Rattle.memory_layout.specs.Decode.{decode, queue_from}
use Rattle.memory_layout.specs.Stores.{CellsBecame}
use Rattle.memory_layout.proofs.Numbers.{number_queue}
use Rattle.memory_ranks.specs.CellRanks.{IsRankAt}
use Rattle.memory_list.specs.Listings.{ListBounds, ListBefore, ListBecame}
use Rattle.memory_list.proofs.Moving.{PieceInRange, range_state}
use Rattle.change_steps.specs.Working.{Works, WorksBeside, Goes, Stored}
use Rattle.change_steps.proofs.FieldLaws.{works_range, works_piece, field_stored}
use Rattle.change_steps.proofs.WorkLaws.{went_nowhere, went_named}
use Rattle.change_steps.proofs.FieldMends.{field_asks, field_mended}
use Rattle.memory_fields.specs.Reading.{CellsSay}
use Rattle.change_state.specs.declared.states.Tally.{Tally}
use Rattle.change_state.specs.Numbers.{state_by, StateUpdated}
use Rattle.change_state.proofs.StateLaws.{new_state_is}

-- the state is stored
module _ (s : Shape) (i : ℕ) (h : i < s.pieces) (q : DownloadQueue) (n : ℕ) (e : n ≡ queue_number q) (words cells cells' : List ℕ)
    (c : CellsBecame s (with_piece i (with_state (queue_from n))) cells cells') where
  named : CellsBecame s (with_piece i (with_state q)) cells cells'
  named = subst (λ (x : DownloadQueue). CellsBecame s (with_piece i (with_state x)) cells cells') (ap queue_from e ∙ number_queue q) c

  in_range_lem : (records : List Record) → Works s records words cells → PieceInRange (with_state q (piece_at (decode records words cells) i))
  in_range_lem records w =
      range_state q (piece_at (decode records words cells) i)
      (works_range s records words cells w i (works_piece s records words cells w i h))

  pub state_stored : (records : List Record) → Works s records words cells
      → Stored s (with_piece i (with_state q)) records words cells records words cells'
  state_stored records w = field_stored s records words cells w i (with_state q) cells' named (in_range_lem records w)

  module _ (old : ℕ) (r : IsRankAt s words cells i old) where
    -- what mending asks
    pub state_asks : WorksBeside s words cells → ListBounds s words cells' × ListBefore s words cells' old i
    state_asks b = field_asks s i (with_state q) words cells cells' named in_range_lem old r b

    -- what it leaves
    pub state_set : (draws : Draws) (used : ℕ) (words' : List ℕ) (next : ℕ)
        → ListBecame s (update draws old i) words words' cells' used next → Goes s (set_state draws i q) words cells used words' cells' next
    unfolding set_state
    state_set draws used words' next l =
        field_mended s i (with_state q) words cells cells' named in_range_lem old r draws used words' next l

-- ---- left or moved
module _ (s : Shape) (draws : Draws) (i : ℕ) (current q : DownloadQueue) (words cells : List ℕ) (used : ℕ) where
  pub move_left : true ≡ (same_queue q current || is_open q) → Goes s (move_state draws i current q) words cells used words cells used
  unfolding move_state unless
  move_left e = record { went = λ records w. went_nowhere s records words cells used (move_state draws i current q) w (rw (← e)) }

  pub move_made : (words' cells' : List ℕ) (next : ℕ) → false ≡ (same_queue q current || is_open q)
      → Goes s (set_state draws i q) words cells used words' cells' next
      → Goes s (move_state draws i current q) words cells used words' cells' next
  unfolding move_state unless
  move_made words' cells' next e g = record {
    went = λ records w.
        went_named s records words cells used records words' cells' next (set_state draws i q) (move_state draws i current q) (rw (← e))
        (g.went records w);
  }

-- ---- `update_piece_state`
pub state_updated : (s : Shape) (draws : Draws) (i : ℕ) (t : Tally) (words cells : List ℕ) (used : ℕ) (words' cells' : List ℕ) (next : ℕ)
    (current : DownloadQueue) (priority : ℕ) (q : DownloadQueue)
    → CellsSay s cells (λ d. (piece_at d i).state) current → CellsSay s cells (λ d. (piece_at d i).priority) priority
    → q ≡ state_by t priority current
    → Goes s (move_state draws i current q) words cells used words' cells' next
    → StateUpdated s draws i t words cells used words' cells' next
unfolding update_piece_state update_state_of move_state drawing
state_updated s draws i t words cells used words' cells' next current priority q a b e g = record {
  went = λ records w d f y.
      let p = decode records words cells in
      let h : move_state draws i current q (drawing used p) ≡ update_state_of draws i (partial_of p i) (drawing used p) =
      same p d f (a.is records words w.bounds) (b.is records words w.bounds) (e ∙ new_state_is t priority current d y) in
      went_named s records words cells used records words' cells' next (move_state draws i current q) (update_piece_state draws i) h
      (g.went records w);
}
  where
    same : (p : Picker) (d : DownloadingPiece) → partial_of p i ≡ some d → current ≡ (piece_at p i).state → priority ≡ (piece_at p i).priority
        → q ≡ new_state d priority current
        → move_state draws i current q (drawing used p) ≡ update_state_of draws i (partial_of p i) (drawing used p)
    same p d f h k l =
        rw (f) (ap₂ (λ (x y : DownloadQueue). move_state draws i x y (drawing used p)) h
        (l ∙ ap₂ (λ (n : ℕ) (x : DownloadQueue). new_state d n x) k h))
