-- The state of a piece, by the numbers of its partial's blocks: requested, not free, all. Assumes nothing.
use Rattle.std.specs.Prelude.{ℕ, ◌+◌, Bool, cond, ◌&&◌, ◌||◌, eqb, ltb}
use Rattle.types.specs.declared.queue.DownloadQueue.{DownloadQueue}
use Rattle.types.specs.declared.queue.DownloadQueue.TheVariants.{Downloading, Full, Finished, ZeroPrio, Open}
use Rattle.types.specs.Queue.{unreverse}
use Rattle.model.specs.Lists.{bit}
use Rattle.model.specs.State.{same_queue}
use Rattle.memory_layout.specs.Decode.{queue_from}

-- the plain state that is due
unfoldable pub due_by : (priority requested busy blocks : ℕ) (hashing : Bool) → DownloadQueue
due_by priority requested busy blocks hashing =
    cond (eqb priority 0) ZeroPrio
    (cond (eqb (busy + bit hashing) 0) Open
    (cond (ltb busy blocks) Downloading (cond (ltb 0 requested) Full Finished)))

-- the state is the one that is due, or no block of a piece above priority 0 is at work
unfoldable pub state_by : (state priority requested busy blocks : ℕ) (hashing : Bool) → Bool
state_by state priority requested busy blocks hashing =
    (ltb 0 priority && eqb busy 0) || same_queue (unreverse (queue_from state)) (due_by priority requested busy blocks hashing)
