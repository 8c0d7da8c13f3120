-- Document 01's values of the sizes of the queues. Assumes nothing.
use Rattle.std.specs.Prelude.{[], ◌∷◌}
use Rattle.model.specs.ask.Questions.{Reply, plain}
use Rattle.ask_progress.specs.declared.QueueSizes.{QueueSizes}

unfoldable pub sizes_reply : (r : QueueSizes) → Reply
sizes_reply r = plain (r.downloading ∷ r.full ∷ r.finished ∷ r.zero_prio ∷ [])
