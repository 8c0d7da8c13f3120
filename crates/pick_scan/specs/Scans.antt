-- The partials that a pick may take from, as a row of places, and their order in a pick by rarity. Assumes nothing.
use Rattle.std.specs.Prelude.{ℕ, suc, ◌+◌, ◌-◌, ◌*◌, ◌≤◌, ◌<◌, ◌≡◌, Bool, true, ◌&&◌, List, [], ◌∷◌, ltb, leb, length, get_or, take}
use Rattle.types.specs.declared.queue.DownloadQueue.TheVariants.{Downloading}
use Rattle.model.specs.Lists.{filter, every, each, len}
use Rattle.model.specs.State.{DownloadingPiece, Picker, same_queue, piece_at}
use Rattle.model.specs.change.Partials.{progress, in_queue}
use Rattle.model.specs.pick.Blocks.{PickRequest}
use Rattle.model.specs.pick.Pick.{usable}
use Rattle.memory_layout.specs.Changes.{partial_in}
use Rattle.memory_queues.specs.Queues.{queue_in}
use Rattle.pick_scan.specs.declared.found.Scan.{Scan}

-- ---- those found
-- partial k is in the Downloading queue, and can be picked from
unfoldable pub found_at : (a : PickRequest) (d : Picker) (k : ℕ) → Bool
found_at a d k = same_queue (queue_in d k) Downloading && usable a d (partial_in d k)

-- each number is no lower than `low`, and higher than the one before it
unfoldable pub climbs : (low : ℕ) (l : List ℕ) → Bool
climbs low [] = true
climbs low (x ∷ xs) = leb low x && climbs (suc x) xs

-- the first of a row are places of partials, one higher than the other
pub record PlacesRise (live many : ℕ) (row : List ℕ) : Type 0 where
  pub few : many ≤ live
  pub most : live ≤ 512
  pub low : (j : ℕ) → j < many → get_or row j 0 < live
  pub rise : climbs 0 (take many row) ≡ true
  pub long : length row ≡ 512

-- each number is below the bound
unfoldable pub below : (bound : ℕ) (l : List ℕ) → Bool
below bound l = every (λ x. ltb x bound) l

-- they are those of the definition's scan, and its steps are counted
pub record Scanned (a : PickRequest) (d : Picker) (live : ℕ) (r : Scan) (row : List ℕ) : Type 0 where
  pub is : each (partial_in d) (take r.many row) ≡ filter (usable a d) (in_queue Downloading d)
  pub steps : r.downloading ≡ len (in_queue Downloading d)
  pub few : r.downloading ≤ 512
  pub places : PlacesRise live r.many row

-- ---- their order
-- the first of a row are what f gives for those of another
pub record Gives (f : ℕ → ℕ) (many : ℕ) (row row' : List ℕ) : Type 0 where
  pub is : take many row' ≡ each f (take many row)
  pub long : length row' ≡ 512

-- the lower, the earlier a partial comes: by its peers and, of as many, by its free blocks
unfoldable pub order_of : (d : Picker) (p : DownloadingPiece) → ℕ
order_of d p = (piece_at d p.piece).peer_count * 512 + (256 - progress p)

-- with its place, which tells equals apart
unfoldable pub key_of : (d : Picker) (k : ℕ) → ℕ
key_of d k = order_of d (partial_in d k) * 512 + k
