-- The rank of a piece by its numbers. Assumes nothing.
use Rattle.std.specs.Prelude.{ℕ, ◌+◌, ◌*◌, ◌≤◌, ◌≡◌, Bool, cond, ◌||◌, eqb}
use Rattle.types.specs.declared.queue.DownloadQueue.TheVariants.{Full, Finished, Open, DownloadingReverse, FullReverse}
use Rattle.types.specs.Queue.{queue_number}
use Rattle.model.specs.State.{Piece, max_peers, max_priority}
use Rattle.model.specs.list.Order.{bucket, rank_of}

-- the highest rank, of a piece of priority 1 that as many peers have as can be: what the product comes to, 1 less for a reverse queue, and 1 more
abbrev pub max_rank : ℕ
max_rank = (max_peers + 1) * max_priority * 3

-- the piece is in no bucket
unfoldable pub unlisted_by : (seeds peer_count state priority : ℕ) (flushed : Bool) → Bool
unlisted_by seeds peer_count state priority flushed = eqb priority 0 || (flushed || (eqb (peer_count + seeds) 0 || (eqb state (queue_number Full) || eqb state (queue_number Finished))))

-- what the state of a number takes off the product
unfoldable pub adjustment_of : (state : ℕ) → ℕ
adjustment_of state = cond (eqb state (queue_number DownloadingReverse) || eqb state (queue_number FullReverse)) 1 (cond (eqb state (queue_number Open)) 2 3)

-- the piece has these numbers
pub record Numbers (peer_count state priority : ℕ) (flushed : Bool) (p : Piece) : Type 0 where
  pub peer_count_is : p.peer_count ≡ peer_count
  pub state_is : queue_number p.state ≡ state
  pub priority_is : p.priority ≡ priority
  pub flushed_is : p.flushed ≡ flushed

-- r is the rank of every piece that has these numbers, and has a place in a table of one more than max_rank
pub record IsRank (seeds peer_count state priority : ℕ) (flushed : Bool) (r : ℕ) : Type 0 where
  pub is : (p : Piece) → Numbers peer_count state priority flushed p → r ≡ rank_of (bucket seeds p)
  pub low : r ≤ max_rank
