-- The list places of an image as they are read: the rank of a piece that was listed becomes 0. Assumes nothing.
use Rattle.std.specs.Prelude.{ℕ, ◌+◌, ◌≤◌, ◌<◌, ◌≡◌, Bool, true, ◌&&◌, cond, List, [], ltb, leb, length, get_or, set, drop, None, Option as Optional, Result, Some}
use Rattle.std.proofs.Math.Option.{Option}
use Rattle.model.specs.State.{Picker, dirty, fresh, pieces_in}
use Rattle.model.specs.list.Order.{rank}
use Rattle.model.specs.image.Image.{place_kind, got, fault, judged, field, obeying, get_order, get_listing}
use Rattle.image_pieces.specs.Places.{Went}

-- ---- one place
-- a piece whose rank, among those that are left, is no lower than the last one
unfoldable pub place_in : (n last : ℕ) (ranks : List ℕ) (i : ℕ) → Bool
place_in n last ranks i = ltb i n && leb last (get_or ranks i 0)

-- read under that rule
unfoldable pub place_by : (n last : ℕ) (ranks body : List ℕ) → Option ℕ
place_by n last ranks body = obeying (place_in n last ranks (field 0 4 body)) (field 0 4 body)

-- its piece was found, and its rank is taken
pub record PlaceGot (n last at : ℕ) (bytes entry exit : List ℕ) (r : ℕ) : Type 0 where
  pub piece : ℕ
  pub is : judged place_kind (place_by n last entry) (drop at bytes) ≡ got piece (drop (at + 5) bytes)
  pub room : at + 5 ≤ length bytes
  pub passes : place_in n last entry piece ≡ true
  pub rank : r ≡ get_or entry piece 0
  pub taken : exit ≡ set entry piece 0

-- found or not; the ranks stay as many
unfoldable pub Found : (n last at : ℕ) (bytes entry exit : List ℕ) (r : Optional ℕ) → Type 0
Found n last at bytes entry exit (Some r) = PlaceGot n last at bytes entry exit r
Found n last at bytes entry exit None = judged place_kind (place_by n last entry) (drop at bytes) ≡ fault (drop at bytes)

pub record Taken (n last at : ℕ) (bytes entry exit : List ℕ) (r : Optional ℕ) : Type 0 where
  pub found : Found n last at bytes entry exit r
  pub long : length exit ≡ length entry

-- ---- all places
-- the first n ranks are those of the picker's pieces
pub record RanksOf (n : ℕ) (ranks : List ℕ) (s : Picker) : Type 0 where
  pub pieces : pieces_in s ≡ n
  pub each : (i : ℕ) → i < n → get_or ranks i 0 ≡ rank s i

-- for every picker that has these ranks
abbrev pub OrderJudged : (start many n : ℕ) (ranks bytes : List ℕ) (r : Result ℕ ℕ) → Type 0
OrderJudged start many n ranks bytes r = (s : Picker) → RanksOf n ranks s → Went (get_order s many [] (drop start bytes)) bytes r

-- the list of a picker, dirty or not
abbrev pub ListingJudged : (at : ℕ) (is_dirty : Bool) (n : ℕ) (ranks bytes : List ℕ) (r : Result ℕ ℕ) → Type 0
ListingJudged at is_dirty n ranks bytes r =
    (s : Picker) → RanksOf n ranks s → Went (get_listing s (cond is_dirty dirty (fresh [])) (drop at bytes)) bytes r
