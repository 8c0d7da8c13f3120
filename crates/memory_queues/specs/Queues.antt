-- The queues of a picker as rows of places among its partials, one sorted row for each queue. Assumes nothing.
use Rattle.std.specs.Prelude.{◌≡◌, true, List, [], ℕ, ◌≤◌, ◌<◌, get_or}
use Rattle.types.specs.declared.queue.DownloadQueue.{DownloadQueue}
use Rattle.types.specs.Queue.{queue_number, unreverse}
use Rattle.model.specs.Lists.{nth, filter, from, len, each}
use Rattle.model.specs.State.{Picker, same_queue, piece_at}
use Rattle.model.specs.change.Partials.{in_queue}
use Rattle.model.specs.image.WellFormed.{well_formed}
use Rattle.memory_layout.specs.declared.shape.Shape.{Shape}
use Rattle.memory_layout.specs.Tables.{front}
use Rattle.memory_layout.specs.Decode.{piece_cell, queue_from}
use Rattle.memory_layout.specs.Changes.{partial_in}
use Rattle.memory_rows.specs.Lookup.{LiveRows, picker_in}

-- ---- the queue of a partial, without its direction
-- of partial k of a picker
unfoldable pub queue_in : (d : Picker) (k : ℕ) → DownloadQueue
queue_in d k = unreverse (piece_at d (partial_in d k).piece).state

-- of row k, by the cell of its piece's state
unfoldable pub queue_held : (cells rows : List ℕ) (n k : ℕ) → DownloadQueue
queue_held cells rows n k = unreverse (queue_from (piece_cell cells n 1 (get_or rows k 0)))

-- ---- the places of a queue
-- of the first n, those in queue q, where k is in queue `queue_of k`
unfoldable pub places_below : (queue_of : ℕ → DownloadQueue) (q : DownloadQueue) (n : ℕ) → List ℕ
places_below queue_of q n = filter (λ k. same_queue (queue_of k) q) (from 0 n)

-- of all partials of a picker
unfoldable pub places_in : (q : DownloadQueue) (d : Picker) → List ℕ
places_in q d = places_below (queue_in d) q (len d.partials)

-- ---- the rows of places
-- four of 512 places
pub record Shaped (queues : List (List ℕ)) : Type 0 where
  pub many : len queues ≡ 4
  pub wide : (q : ℕ) → q < 4 → len (nth [] queues q) ≡ 512

-- they hold the first n: row q has as many as queue q, and starts with their places
pub record Entered (queue_of : ℕ → DownloadQueue) (n : ℕ) (queues : List (List ℕ)) (sizes : List ℕ) : Type 0 where
  pub shaped : Shaped queues
  pub counted : len sizes ≡ 4
  pub count : (q : ℕ) → q < 4 → nth 0 sizes q ≡ len (places_below queue_of (queue_from q) n)
  pub row : (q : ℕ) → q < 4 → front (nth 0 sizes q) (nth [] queues q) ≡ places_below queue_of (queue_from q) n

-- they hold all partials of a picker
abbrev pub Queued : (d : Picker) (queues : List (List ℕ)) (sizes : List ℕ) → Type 0
Queued d queues sizes = Entered (queue_in d) (len d.partials) queues sizes

-- ---- before and after they are filled
-- the piece of each live row is there and in one of the four queues, as it is in a well-formed picker
pub record InQueues (s : Shape) (live : ℕ) (rows cells : List ℕ) : Type 0 where
  pub few : live ≤ 512
  pub there : (k : ℕ) → k < live → get_or rows k 0 < s.pieces
  pub queue : (k : ℕ) → k < live → queue_number (queue_held cells rows s.pieces k) < 4

-- beside any words: the rows hold all partials, those of a row are the model's queue, and their pieces rise
pub record Filled (s : Shape) (live : ℕ) (rows cells : List ℕ) (queues : List (List ℕ)) (sizes : List ℕ) : Type 0 where
  pub places : (words : List ℕ) → LiveRows s live rows words cells → Queued (picker_in live rows words cells) queues sizes
  pub queue : (words : List ℕ) → LiveRows s live rows words cells → (q : ℕ) → q < 4
      → each (partial_in (picker_in live rows words cells)) (front (nth 0 sizes q) (nth [] queues q))
      ≡ in_queue (queue_from q) (picker_in live rows words cells)
  pub rising : (words : List ℕ) → LiveRows s live rows words cells → well_formed (picker_in live rows words cells) ≡ true
      → (q k l : ℕ) → q < 4 → k < l → l < nth 0 sizes q
      → (partial_in (picker_in live rows words cells) (nth 0 (nth [] queues q) k)).piece
      < (partial_in (picker_in live rows words cells) (nth 0 (nth [] queues q) l)).piece
