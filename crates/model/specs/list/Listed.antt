-- What the bucket list is to be: each piece with a bucket once and no other, buckets never falling. Assumes nothing.
-- `r` gives the rank of each piece, 0 for a piece in no bucket; n is the number of pieces.
use Rattle.std.specs.Prelude.{◌≡◌, ℕ, ◌≤◌, ◌<◌, Bool, true, ◌&&◌, List, [], ◌∷◌, eqb, ltb, leb}
use Rattle.model.specs.Lists.{bit, count}
use Rattle.model.specs.State.{Picker, Listing, dirty, fresh, pieces_in}
use Rattle.model.specs.list.Order.{Rank, Ranks, rank}

-- the first rank is at least lo, and none is below the one before
unfoldable pub rising_from : (r : Ranks) (lo : Rank) (l : List ℕ) → Bool
rising_from r lo [] = true
rising_from r lo (i ∷ is) = leb lo (r i) && rising_from r (r i) is

-- ranks never fall
unfoldable pub rising : (r : Ranks) (l : List ℕ) → Bool
rising r l = rising_from r 0 l

-- one list is the other in some order: every test passes as often in both
abbrev pub Permuted : (l m : List ℕ) → Type 0
Permuted l m = (test : ℕ → Bool) → count test m ≡ count test l

-- ranks never fall, each of the n pieces with a rank above 0 stands in the list once, and nothing else does
pub record Listed (r : Ranks) (n : ℕ) (l : List ℕ) : Type 0 where
  pub order : rising r l ≡ true
  pub within : (i : ℕ) → i < n → count (eqb i) l ≡ bit (ltb 0 (r i))
  pub beyond : (i : ℕ) → n ≤ i → count (eqb i) l ≡ 0

-- a dirty list says nothing
abbrev pub ListingOf : (r : Ranks) (n : ℕ) (listing : Listing) → Type 0
ListingOf r n dirty = Unit {0}
ListingOf r n (fresh l) = Listed r n l

-- the picker's list is dirty, or as it is to be
unfoldable pub ListingOk : (s : Picker) → Type 0
ListingOk s = ListingOf (rank s) (pieces_in s) s.listing
