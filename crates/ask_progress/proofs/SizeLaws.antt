-- The sizes of the rows of places are those of the queues. Assumes nothing.
use mathlib.Core.Path.{◌≡◌, refl, sym, ap, ◌∙◌}
use mathlib.Core.List.{List}
use Prim.Native.Nat.{ℕ, ◌<◌}
use native.Mathlib.Omega.{arith}
use Rattle.model.specs.Lists.{nth, len}
use Rattle.model.specs.State.{Picker}
use Rattle.model.specs.change.Partials.{in_queue}
use Rattle.model.specs.ask.Questions.{reply_picker, get_download_queue_sizes, queue_sizes}
use Rattle.model.proofs.sound.PieceLaws.{size_each}
use Rattle.memory_layout.specs.Decode.{queue_from}
use Rattle.memory_layout.specs.Changes.{partial_in}
use Rattle.memory_queues.specs.Queues.{places_in, Queued}
use Rattle.memory_queues.proofs.PlaceLaws.{places_queue}
use Rattle.memory_queues.proofs.EnterLaws.{size_is}
use Rattle.ask_progress.specs.declared.QueueSizes.{QueueSizes}
use Rattle.ask_progress.specs.Sizes.{sizes_reply}

module _ (d : Picker) (queues : List (List ℕ)) (sizes : List ℕ) (g : Queued d queues sizes) where
  queue_size : (q : ℕ) → q < 4 → nth 0 sizes q ≡ len (in_queue (queue_from q) d)
  queue_size q h =
      size_is d queues sizes g q h ∙ sym (size_each (partial_in d) (places_in (queue_from q) d)) ∙ ap len (places_queue (queue_from q) d)

  pub sizes_told : (r : QueueSizes) → r.downloading ≡ nth 0 sizes 0 → r.full ≡ nth 0 sizes 1 → r.finished ≡ nth 0 sizes 2
      → r.zero_prio ≡ nth 0 sizes 3 → sizes_reply r ≡ reply_picker d get_download_queue_sizes
  unfolding sizes_reply reply_picker queue_sizes queue_from nth
  sizes_told r a b c e =
      rw (
        a ∙ queue_size 0 (omega arith),
        b ∙ queue_size 1 (omega arith),
        c ∙ queue_size 2 (omega arith),
        e ∙ queue_size 3 (omega arith),
      )
      refl
