-- The cursors, then the priority and its list: each step is the definition's. Assumes nothing.
use mathlib.Core.Path.{◌≡◌, refl, ap}
use mathlib.Core.Bool.{Bool, not, ◌&&◌}
use mathlib.Core.List.{List}
use mathlib.Core.Option.{some}
use Prim.Native.Nat.{ℕ, ◌+◌, ◌≤◌, ◌<◌}
use native.Mathlib.Omega.{arith}
use Rattle.model.specs.State.{DownloadingPiece, Picker, max_priority, piece_at, with_piece, with_pieces, with_priority, with_cursors}
use Rattle.model.specs.State.{with_listing}
use Rattle.model.specs.list.Order.{Draws, Drawing, drawing, no_draw, change_and_update}
use Rattle.model.specs.change.Partials.{partial_of}
use Rattle.model.specs.change.Changes.{cursors_on_filter}
use Rattle.model.proofs.base.Phases.{when_arms}
use Rattle.model.proofs.keep.KeepCursors.{Turned, turned_blind}
use Rattle.model.proofs.list.ListingLaws.{moved_used}
use Rattle.model.proofs.sound.SoundFields.{moved_blind}
use Rattle.memory_records.specs.declared.record.DownloadingPiece.{DownloadingPiece as Record}
use Rattle.memory_layout.specs.declared.shape.Shape.{Shape}
use Rattle.memory_layout.specs.Decode.{decode}
use Rattle.memory_layout.specs.Standing.{StandsBeside}
use Rattle.memory_list.proofs.Moving.{PieceInRange, range_priority}
use Rattle.change_steps.specs.Working.{Works, Goes}
use Rattle.change_steps.specs.Whole.{Begins}
use Rattle.change_steps.proofs.FieldLaws.{works_range, works_piece}
use Rattle.change_steps.proofs.MendLaws.{begun_then}
use Rattle.change_filter.specs.Turning.{cursors_turned}
use Rattle.change_priority.specs.Steps.{priority_listed}

-- ---- the priority and its list
-- in range with this priority
pub priority_range : (s : Shape) (i : ℕ) → i < s.pieces → (priority : ℕ) → priority ≤ max_priority → (words cells : List ℕ)
    (records : List Record)
    → Works s records words cells → PieceInRange (with_priority priority (piece_at (decode records words cells) i))
priority_range s i h priority m words cells records w =
    range_priority priority (piece_at (decode records words cells) i) m
    (works_range s records words cells w i (works_piece s records words cells w i h))

module _ (s : Shape) (draws : Draws) (i priority : ℕ) (turned : Bool) (words cells : List ℕ) where
  pub listed : (words₁ cells₁ : List ℕ) → Begins s (cursors_turned i priority turned) words cells words₁ cells₁ 0
      → (words' cells' : List ℕ) (next : ℕ)
      → Goes s (change_and_update draws i (with_piece i (with_priority priority))) words₁ cells₁ 0 words' cells' next
      → Begins s (priority_listed draws i priority turned) words cells words' cells' next
  unfolding priority_listed
  listed words₁ cells₁ b words' cells' next g =
      begun_then s (cursors_turned i priority turned) words cells words₁ cells₁ 0 b
      (change_and_update draws i (with_piece i (with_priority priority))) words' cells' next g

  -- at most one draw is used
  no_draw_lem : (w : Drawing) → (cursors_turned i priority turned w).used ≡ w.used
  unfolding cursors_turned no_draw drawing
  no_draw_lem w =
      when_arms (λ v. v.used ≡ w.used) (turned && not (piece_at w.picker i).flushed) (no_draw (cursors_on_filter i priority)) w
      (λ e. refl) (λ e. refl)

  few_draws : (w : Drawing) → (priority_listed draws i priority turned w).used ≤ w.used + 1
  unfolding priority_listed
  few_draws w =
      omega (
        arith,
        (moved_used draws i (with_piece i (with_priority priority)) (cursors_turned i priority turned w)).1,
        no_draw_lem w,
      )

  pub listed_few : (words' cells' : List ℕ) (next : ℕ) → Begins s (priority_listed draws i priority turned) words cells words' cells' next
      → StandsBeside s words cells → next ≤ 1
  unfolding drawing
  listed_few words' cells' next b t =
      let d = decode t.records words cells in
      let e : next ≡ (priority_listed draws i priority turned (drawing 0 d)).used = ap (λ (v : Drawing). v.used)
      (b.went t.records t.stands).is in
      omega (arith, e, few_draws (drawing 0 d))

-- ---- the partials stay
module _ (draws : Draws) (i priority : ℕ) (turned : Bool) (d : DownloadingPiece) (p : Picker)
    (v : Turned p (cursors_on_filter i priority p)) where
  turned_partial : partial_of p i ≡ some d → (used : ℕ) → partial_of (cursors_turned i priority turned (drawing used p)).picker i ≡ some d
  unfolding cursors_turned no_draw drawing with_cursors partial_of
  turned_partial e used =
      when_arms (λ w. partial_of w.picker i ≡ some d) (turned && not (piece_at p i).flushed) (no_draw (cursors_on_filter i priority))
      (drawing used p) (λ o. turned_blind (λ u. partial_of u i ≡ some d) (λ a b u q. q) p (cursors_on_filter i priority p) v e) (λ o. e)

  pub listed_partial : partial_of p i ≡ some d → (used : ℕ)
      → partial_of (priority_listed draws i priority turned (drawing used p)).picker i ≡ some d
  unfolding priority_listed with_piece with_pieces with_listing partial_of
  listed_partial e used =
      moved_blind (λ u. partial_of u i ≡ some d) (λ l u q. q) draws i (with_piece i (with_priority priority))
      (cursors_turned i priority turned (drawing used p)) (turned_partial e used)
