-- A piece's new state leaves the partials, and draws once at most. Assumes nothing.
use mathlib.Core.Path.{◌≡◌, refl}
use mathlib.Core.Bool.{◌||◌}
use mathlib.Core.Option.{Option, none, some}
use Prim.Native.Nat.{ℕ, ◌+◌, ◌≤◌}
use native.Mathlib.Omega.{arith}
use Rattle.types.specs.declared.queue.DownloadQueue.{DownloadQueue}
use Rattle.model.specs.State.{DownloadingPiece, same_queue, is_open, piece_at, with_piece, with_pieces, with_state, with_listing}
use Rattle.model.specs.list.Order.{Draws, Drawing}
use Rattle.model.specs.change.Partials.{partial_of, new_state, set_state, move_state, update_state_of, update_piece_state}
use Rattle.model.proofs.base.Phases.{unless_arms}
use Rattle.model.proofs.list.ListingLaws.{moved_used}
use Rattle.model.proofs.sound.SoundFields.{moved_blind}

-- v comes from w with at most n draws more, and has the same partials
pub record SamePartials (n : ℕ) (w v : Drawing) : Type 0 where
  pub draws : v.used ≤ w.used + n
  pub partials : v.picker.partials ≡ w.picker.partials

pub still : (n : ℕ) (w : Drawing) → SamePartials n w w
still n w = record { draws = omega arith; partials = refl }

module _ (draws : Draws) (i : ℕ) where
  pub state_same : (q : DownloadQueue) (w : Drawing) → SamePartials 1 w (set_state draws i q w)
  unfolding set_state with_piece with_pieces with_listing
  state_same q w = record {
    draws = (moved_used draws i (with_piece i (with_state q)) w).1;
    partials = moved_blind (λ t. t.partials ≡ w.picker.partials) (λ l t e. e) draws i (with_piece i (with_state q)) w refl;
  }

  pub update_same : (w : Drawing) → SamePartials 1 w (update_piece_state draws i w)
  unfolding update_piece_state update_state_of move_state
  update_same w = go (partial_of w.picker i)
    where
      go : (o : Option DownloadingPiece) → SamePartials 1 w (update_state_of draws i o w)
      go none = still 1 w
      go (some d) =
          let p = piece_at w.picker i in
          let q = new_state d p.priority p.state in
          unless_arms (SamePartials 1 w) (same_queue q p.state || is_open q) (set_state draws i q) w (λ e. state_same q w) (λ e. still 1 w)
