-- What `push` and `pull` make of the list, as the definition's list with one more and with one less. Assumes nothing.
use mathlib.Core.Path.{◌≡◌}
use mathlib.Core.List.{List, ◌++◌, append_assoc}
use Prim.Native.Nat.{ℕ, suc, ◌+◌, ◌-◌, ◌≤◌, ◌<◌}
use native.Mathlib.Omega.{arith}
use lib.Dec.{ltb}
use lib.ListN.{length, take, drop}
use lib.Seq.{take-take}
use Rattle.model.specs.Lists.{bit}
use Rattle.model.specs.list.Order.{draw, placed, added, add_draws, removed, group_start, group_size}
use Rattle.model.proofs.list.GroupMoves.{draw_le}
use Rattle.list_entries.specs.Words.{listed_rank}
use Rattle.list_groups.specs.Places.{IsGroup}
use Rattle.list_moves.specs.Moves.{pushed, pulled}
use Rattle.list_changes.proofs.Groups.{group_start_lem, group_size_lem}

module _ {n : ℕ} {l : List ℕ} {low high : ℕ} (w : ℕ) (g : IsGroup (listed_rank w) 0 n l low high) (le : n ≤ length l) (draws : List ℕ)
    (used : ℕ) where
  starts : group_start listed_rank w (take n l) ≡ low
  unfolding group_start
  starts = group_start_lem g le

  sizes : group_size listed_rank w (take n l) ≡ high - low
  unfolding group_size
  sizes = group_size_lem g le

  -- a drawn place, or the one behind the group, is within the list
  pub added_in : low + draw draws used (high - low) ≤ n
  added_in = omega (arith, draw_le draws used (high - low), g.rises, g.ends)

  -- pushed in at the drawn place, the list is the definition's
  pub pushed-added : pushed (low + draw draws used (high - low)) n w l ≡ added listed_rank draws used w (take n l) ++ drop (suc n) l
  unfolding pushed added placed
  pushed-added =
      let h = added_in in
      rw (starts, sizes, append_assoc, take-take (low + draw draws used (high - low)) n l)

  -- a draw is taken where the group is not empty
  pub added_draws : bit (ltb 0 (high - low)) ≡ add_draws listed_rank w (take n l)
  unfolding add_draws
  added_draws = rw sizes

-- the groups behind the place pulled over it
pub removed-pulled : (n k : ℕ) (l : List ℕ) → k < n → pulled k (n - 1) l ≡ removed listed_rank k (take n l) ++ drop (n - 1) l
unfolding pulled removed
removed-pulled n k l h =
    let e : suc (n - 1) ≡ n = omega arith in
    let le : k ≤ n = omega arith in
    rw (e, append_assoc, take-take k n l)
