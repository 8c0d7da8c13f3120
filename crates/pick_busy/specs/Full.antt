-- The Full pieces that a peer has, as a row of places among the partials. Assumes nothing.
use Rattle.std.specs.Prelude.{ℕ, ◌≤◌, ◌<◌, ◌≡◌, List, length, get_or, take}
use Rattle.model.specs.Lists.{each}
use Rattle.model.specs.pick.Pick.{full_partials}
use Rattle.memory_layout.specs.declared.shape.Shape.{Shape}
use Rattle.memory_layout.specs.Changes.{partial_in}
use Rattle.memory_rows.specs.Lookup.{LiveRows, picker_in}
use Rattle.pick_state.specs.declared.request.PickRequest.{PickRequest}
use Rattle.pick_state.specs.Requests.{request_of}

-- the first n of a row are places of partials
pub record PlacesIn (live n : ℕ) (row : List ℕ) : Type 0 where
  pub few : n ≤ 512
  pub low : (j : ℕ) → j < n → get_or row j 0 < live
  pub long : length row ≡ 512

-- beside any words: the partials at them are the definition's
pub record FullRow (s : Shape) (live : ℕ) (rows cells : List ℕ) (q : PickRequest) (bytes : List ℕ) (n : ℕ) (row : List ℕ) : Type 0 where
  pub is : (words : List ℕ) → LiveRows s live rows words cells
      → each (partial_in (picker_in live rows words cells)) (take n row) ≡ full_partials (request_of q bytes) (picker_in live rows words cells)
  pub places : PlacesIn live n row
  pub few : n ≤ 200
