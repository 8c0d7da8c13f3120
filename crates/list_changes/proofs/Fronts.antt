-- A move of the list leaves alone what stands behind it. Assumes nothing.
use mathlib.Core.Path.{◌≡◌}
use mathlib.Core.List.{List, ◌++◌, append_assoc}
use Prim.Native.Nat.{ℕ, suc, ◌≤◌, ◌<◌}
use native.Mathlib.Omega.{arith}
use lib.ListN.{length, get_or, set, length-set, get_or-append}
use lib.Seq.{take-append-le, drop-append-le, set-append_left}
use Rattle.model.specs.Lists.{nth, set_nth}
use Rattle.model.specs.list.Order.{earlier, later, swap}
use Rattle.list_entries.specs.Words.{listed_rank}

module _ (ws rest : List ℕ) where
  -- forward
  pub earlier_front : (to k : ℕ) → to ≤ k → k < length ws → earlier listed_rank to k (ws ++ rest) ≡ earlier listed_rank to k ws ++ rest
  unfolding earlier nth
  earlier_front to k h le =
      let a : to ≤ length ws = omega arith in
      let c : k ≤ length ws = omega arith in
      rw (take-append-le to ws rest, take-append-le k ws rest, drop-append-le (suc k) ws rest, get_or-append ws rest 0 k)
      (simp append_assoc)

  -- back
  pub later_front : (k to : ℕ) → k ≤ to → to < length ws → later listed_rank k to (ws ++ rest) ≡ later listed_rank k to ws ++ rest
  unfolding later nth
  later_front k to h le =
      let a : k ≤ length ws = omega arith in
      let c : k < length ws = omega arith in
      rw (take-append-le k ws rest, take-append-le (suc to) ws rest, drop-append-le (suc to) ws rest, get_or-append ws rest 0 k)
      (simp append_assoc)

  -- an exchange
  pub swap_front : (k m : ℕ) → k < length ws → m < length ws → swap (ws ++ rest) k m ≡ swap ws k m ++ rest
  unfolding swap nth set_nth
  swap_front k m hk hm =
      let a : m < length (set ws k (get_or ws m 0)) = omega (arith, length-set ws k (get_or ws m 0)) in
      rw (
        get_or-append ws rest 0 k,
        get_or-append ws rest 0 m,
        set-append_left ws rest k (get_or ws m 0),
        set-append_left (set ws k (get_or ws m 0)) rest m (get_or ws k 0),
      )
