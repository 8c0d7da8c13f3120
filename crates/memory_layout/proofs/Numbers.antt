-- States by their numbers. Assumes nothing.
use mathlib.Core.Path.{◌≡◌, refl, ap, ◌∙◌}
use Prim.Native.Nat.{ℕ, zero, suc, ◌+◌, ◌-◌, ◌≤◌, ◌<◌}
use native.Mathlib.Omega.{arith}
use lib.ListN.{get_or-eq_default}
use mathlib.Core.Bool.{Bool, true, false}
use Rattle.std.specs.Int.{from_bool}
use Rattle.types.specs.declared.queue.DownloadQueue.{DownloadQueue}
use Rattle.types.specs.declared.queue.DownloadQueue.TheVariants.{Downloading, Full, Finished, ZeroPrio, Open, DownloadingReverse}
use Rattle.types.specs.declared.queue.DownloadQueue.TheVariants.{FullReverse}
use Rattle.types.specs.declared.block.BlockState.{BlockState}
use Rattle.types.specs.declared.block.BlockState.TheVariants.{None, Requested, Writing, Finished as FinishedBlock}
use Rattle.types.specs.Queue.{queue_number, unreverse, queues}
use Rattle.types.specs.Block.{block_state_number, block_states}
use Rattle.model.specs.Lists.{nth, bit}
use Rattle.memory_layout.specs.Decode.{queue_from, state_from}

-- ---- of pieces
-- a number of a state is the state's
pub queue_number_lem : (w : ℕ) → w < 7 → queue_number (queue_from w) ≡ w
unfolding queue_from nth
queue_number_lem zero h = refl
queue_number_lem (suc zero) h = refl
queue_number_lem (suc (suc zero)) h = refl
queue_number_lem (suc (suc (suc zero))) h = refl
queue_number_lem (suc (suc (suc (suc zero)))) h = refl
queue_number_lem (suc (suc (suc (suc (suc zero))))) h = refl
queue_number_lem (suc (suc (suc (suc (suc (suc zero)))))) h = refl
queue_number_lem (suc (suc (suc (suc (suc (suc (suc w))))))) h = absurd (omega arith)

-- any other number is Open
pub queue_none : (w : ℕ) → 7 ≤ w → queue_number (queue_from w) ≡ 4
unfolding queue_from nth
queue_none w h = ap queue_number (get_or-eq_default queues Open {n = w} h)

-- each state has its number
pub number_queue : (q : DownloadQueue) → queue_from (queue_number q) ≡ q
unfolding queue_from nth
number_queue Downloading = refl
number_queue Full = refl
number_queue Finished = refl
number_queue ZeroPrio = refl
number_queue Open = refl
number_queue DownloadingReverse = refl
number_queue FullReverse = refl

-- without its direction: a state that has none
pub plain_low : (w : ℕ) → w < 5 → w ≡ queue_number (unreverse (queue_from w))
unfolding queue_from nth
plain_low zero h = refl
plain_low (suc zero) h = refl
plain_low (suc (suc zero)) h = refl
plain_low (suc (suc (suc zero))) h = refl
plain_low (suc (suc (suc (suc zero)))) h = refl
plain_low (suc (suc (suc (suc (suc w))))) h = absurd (omega arith)

plain_five : (w : ℕ) → w ≤ 1 → w ≡ queue_number (unreverse (queue_from (5 + w)))
unfolding queue_from nth
plain_five zero h = refl
plain_five (suc zero) h = refl
plain_five (suc (suc w)) h = absurd (omega arith)

-- a reverse state
pub plain_high : (w : ℕ) → 5 ≤ w → w ≤ 6 → w - 5 ≡ queue_number (unreverse (queue_from w))
plain_high w l h = plain_five (w - 5) (omega arith) ∙ ap (λ (k : ℕ). queue_number (unreverse (queue_from k))) (omega arith)

-- ---- of blocks
pub state_number : (w : ℕ) → w < 4 → block_state_number (state_from w) ≡ w
unfolding state_from nth
state_number zero h = refl
state_number (suc zero) h = refl
state_number (suc (suc zero)) h = refl
state_number (suc (suc (suc zero))) h = refl
state_number (suc (suc (suc (suc w)))) h = absurd (omega arith)

-- any other number is None
pub state_none : (w : ℕ) → 4 ≤ w → block_state_number (state_from w) ≡ 0
unfolding state_from nth
state_none w h = ap block_state_number (get_or-eq_default block_states None {n = w} h)

-- each state has its number
pub number_state : (q : BlockState) → state_from (block_state_number q) ≡ q
unfolding state_from nth
number_state None = refl
number_state Requested = refl
number_state Writing = refl
number_state FinishedBlock = refl

-- ---- a flag as a number
-- by the language it is the model's bit
pub flag_bit : (t : Bool) (n : ℕ) → n ≡ from_bool t → n ≡ bit t
flag_bit true n e = e
flag_bit false n e = e
