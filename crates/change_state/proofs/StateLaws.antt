-- The state by the numbers of a partial's blocks: one law for each way through it, and that it is the definition's. Assumes nothing.
use mathlib.Core.Path.{◌≡◌, refl}
use mathlib.Core.Bool.{true, false}
use mathlib.Core.Logic.{◌≢◌}
use Prim.Native.Nat.{ℕ, ◌+◌, ◌<◌, ◌≤◌}
use lib.Dec.{eqb}
use borrow.Author.Tests.{eq-eqb, ne_eqb, lt-ltb, le-ltb}
use Rattle.types.specs.declared.queue.DownloadQueue.{DownloadQueue}
use Rattle.types.specs.declared.queue.DownloadQueue.TheVariants.{Downloading, Full, Finished, ZeroPrio, Open}
use Rattle.model.specs.Lists.{bit}
use Rattle.model.specs.State.{DownloadingPiece}
use Rattle.model.specs.change.Partials.{in_direction, new_state}
use Rattle.change_state.specs.declared.states.Tally.{Tally}
use Rattle.change_state.specs.Numbers.{IsTally, state_by}

module _ (t : Tally) (priority : ℕ) (current : DownloadQueue) where
  pub zero_prio : priority ≡ 0 → ZeroPrio ≡ state_by t priority current
  unfolding state_by
  zero_prio e = rw (eq-eqb priority 0 e)

  pub left_open : priority ≢ 0 → eqb (t.busy + bit t.hashing) 0 ≡ true → Open ≡ state_by t priority current
  unfolding state_by
  left_open e f = rw (ne_eqb priority 0 e, f)

  pub some_free : priority ≢ 0 → eqb (t.busy + bit t.hashing) 0 ≡ false → t.busy < t.blocks
      → (q : DownloadQueue) → q ≡ in_direction current Downloading → q ≡ state_by t priority current
  unfolding state_by
  some_free e f g q h = rw (ne_eqb priority 0 e, f, lt-ltb t.busy t.blocks g) h

  pub some_requested : priority ≢ 0 → eqb (t.busy + bit t.hashing) 0 ≡ false → t.blocks ≤ t.busy → 0 < t.requested
      → (q : DownloadQueue) → q ≡ in_direction current Full → q ≡ state_by t priority current
  unfolding state_by
  some_requested e f g i q h = rw (ne_eqb priority 0 e, f, le-ltb t.busy t.blocks g, lt-ltb 0 t.requested i) h

  pub all_received : priority ≢ 0 → eqb (t.busy + bit t.hashing) 0 ≡ false → t.blocks ≤ t.busy → t.requested ≤ 0
      → Finished ≡ state_by t priority current
  unfolding state_by
  all_received e f g i = rw (ne_eqb priority 0 e, f, le-ltb t.busy t.blocks g, le-ltb 0 t.requested i)

  -- of a partial's own numbers it is the definition's
  pub new_state_is : (d : DownloadingPiece) → IsTally t d → state_by t priority current ≡ new_state d priority current
  unfolding state_by new_state
  new_state_is d a = rw (a.busy, a.hashing, a.blocks, a.requested) refl
