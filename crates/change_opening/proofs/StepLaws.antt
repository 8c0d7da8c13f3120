-- What the steps of an opening leave of the partials, and how much they draw. Assumes nothing.
use mathlib.Core.Path.{◌≡◌, refl}
use mathlib.Core.Bool.{Bool}
use Prim.Native.Nat.{ℕ, ◌+◌, ◌≤◌}
use native.Mathlib.Omega.{arith}
use Rattle.types.specs.declared.queue.DownloadQueue.{DownloadQueue}
use Rattle.model.specs.Lists.{when}
use Rattle.model.specs.State.{with_recent_extents}
use Rattle.model.specs.list.Order.{Draws, Drawing, drawing, no_draw}
use Rattle.model.specs.change.Partials.{set_state, add_partial, add_download_piece}
use Rattle.model.specs.change.Changes.{record_downloading_piece, opened}
use Rattle.model.proofs.base.Phases.{when_arms}
use Rattle.model.proofs.keep.KeepExtents.{record_blind}
use Rattle.change_state.proofs.KeptLaws.{SamePartials, still, state_same, update_same}

pub record_same : (i : ℕ) (affinity : Bool) (w : Drawing) → SamePartials 0 w (when affinity (no_draw (record_downloading_piece i)) w)
unfolding no_draw drawing with_recent_extents
record_same i affinity w =
    when_arms (SamePartials 0 w) affinity (no_draw (record_downloading_piece i)) w
    (λ e. record {
      draws = omega arith;
      partials = record_blind (λ t. t.partials ≡ w.picker.partials) (λ es t e. e) i w.picker refl;
    })
    (λ e. still 0 w)

-- opening a piece draws twice at most
pub opened_draws : (draws : Draws) (i : ℕ) (q : DownloadQueue) (affinity : Bool) (w : Drawing)
    → (opened draws i q affinity w).used ≤ w.used + 2
unfolding opened add_download_piece no_draw drawing
opened_draws draws i q affinity w =
    let v = set_state draws i q w in
    let u = when affinity (no_draw (record_downloading_piece i)) v in
    omega (
      arith,
      (state_same draws i q w).draws,
      (record_same i affinity v).draws,
      (update_same draws i (no_draw (add_partial i) u)).draws,
    )
