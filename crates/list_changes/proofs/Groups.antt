-- Where a group stands tells how many words are of lower rank and how many of its own. Assumes nothing.
use mathlib.Core.Path.{◌≡◌, ◌∙◌}
use mathlib.Core.Bool.{Bool, true, false}
use mathlib.Core.List.{List, [], ◌∷◌}
use Prim.Native.Nat.{ℕ, zero, suc, ◌+◌, ◌-◌, ◌≤◌, ◌<◌}
use native.Mathlib.Nat.{le_of_suc-le-suc}
use native.Mathlib.Decide.{dec_le}
use native.Mathlib.Omega.{arith}
use lib.Dec.{eqb, ltb}
use lib.ListN.{length, get_or, take}
use lib.Seq.{get_or-take, length-take-le}
use borrow.Author.Tests.{lt-ltb, le-ltb, eq-eqb, ne_eqb}
use Rattle.model.specs.Lists.{count}
use Rattle.list_entries.specs.Words.{listed_rank}
use Rattle.list_groups.specs.Places.{Rises, IsGroup}

-- ---- counts
-- a test that passes from `low` to `high` and nowhere else
pub count_between : (test : ℕ → Bool) (ws : List ℕ) (low high : ℕ) → low ≤ high → high ≤ length ws
    → ((k : ℕ) → k < low → test (get_or ws k 0) ≡ false) → ((k : ℕ) → low ≤ k → k < high → test (get_or ws k 0) ≡ true)
    → ((k : ℕ) → high ≤ k → k < length ws → test (get_or ws k 0) ≡ false) → count test ws ≡ high - low
unfolding count
count_between test [] low high a c before inside after = omega arith
count_between test (w ∷ ws) zero zero a c before inside after =
    let e = count_between test ws 0 0 (omega arith) (omega arith) (λ k h. absurd (omega arith)) (λ k h g. absurd (omega arith))
    (λ k h g. after (suc k) (omega arith) (omega arith)) in
    rw (after 0 (omega arith) (omega arith)) (omega (arith, e))
count_between test (w ∷ ws) zero (suc high) a c before inside after =
    let e = count_between test ws 0 high (omega arith) (le_of_suc-le-suc c) (λ k h. absurd (omega arith))
    (λ k h g. inside (suc k) (omega arith) (omega arith)) (λ k h g. after (suc k) (omega arith) (omega arith)) in
    rw (inside 0 (omega arith) (omega arith)) (omega (arith, e))
count_between test (w ∷ ws) (suc low) zero a c before inside after = absurd (omega arith)
count_between test (w ∷ ws) (suc low) (suc high) a c before inside after =
    let e = count_between test ws low high (le_of_suc-le-suc a) (le_of_suc-le-suc c) (λ k h. before (suc k) (omega arith))
    (λ k h g. inside (suc k) (omega arith) (omega arith)) (λ k h g. after (suc k) (omega arith) (omega arith)) in
    rw (before 0 (omega arith)) (omega (arith, e))

module _ {rank n : ℕ} {l : List ℕ} {low high : ℕ} (g : IsGroup rank 0 n l low high) (le : n ≤ length l) where
  long : length (take n l) ≡ n
  long = length-take-le n l le

  -- as many are of lower rank as stand before the group
  pub group_start_lem : count (λ w. ltb (listed_rank w) rank) (take n l) ≡ low
  group_start_lem =
      count_between (λ w. ltb (listed_rank w) rank) (take n l) 0 low (omega arith) (omega (arith, long, g.rises, g.ends))
      (λ k h. absurd (omega arith))
      (λ k h q. rw (get_or-take n l k 0 (omega (arith, g.rises, g.ends)))
      (lt-ltb (listed_rank (get_or l k 0)) rank (g.lower k (omega arith) q)))
      (λ k h q. rw (get_or-take n l k 0 (omega (arith, long))) (le-ltb (listed_rank (get_or l k 0)) rank (at_least k h (omega (arith, long)))))
      ∙ omega arith
    where
      at_least : (k : ℕ) → low ≤ k → k < n → rank ≤ listed_rank (get_or l k 0)
      at_least k h q = elim (dec_le high k) [ yes f ↦ omega (arith, g.higher k f q) | no f ↦ omega (arith, g.same k h (omega arith)) ]

  -- as many are of its rank as stand in it
  pub group_size_lem : count (λ w. eqb (listed_rank w) rank) (take n l) ≡ high - low
  group_size_lem =
      count_between (λ w. eqb (listed_rank w) rank) (take n l) low high g.rises (omega (arith, long, g.ends))
      (λ k h. rw (get_or-take n l k 0 (omega (arith, g.rises, g.ends)))
      (ne_eqb (listed_rank (get_or l k 0)) rank (λ e. absurd (omega (arith, g.lower k (omega arith) h)))))
      (λ k h q. rw (get_or-take n l k 0 (omega (arith, g.ends))) (eq-eqb (listed_rank (get_or l k 0)) rank (g.same k h q)))
      (λ k h q. rw (get_or-take n l k 0 (omega (arith, long)))
      (ne_eqb (listed_rank (get_or l k 0)) rank (λ e. absurd (omega (arith, g.higher k h (omega (arith, long)))))))

-- ---- a group found on one side of a word of another rank
module _ {rank n k : ℕ} (l : List ℕ) (rises : Rises 0 n l) (h : k < n) {low high : ℕ} where
  -- before a higher one
  pub group_before : IsGroup rank 0 k l low high → rank < listed_rank (get_or l k 0) → IsGroup rank 0 n l low high
  group_before g q = record {
    starts = g.starts;
    rises = g.rises;
    ends = omega (arith, g.ends);
    lower = g.lower;
    same = g.same;
    higher = λ m a c. elim (dec_le k m) [
      | yes f ↦ omega (arith, rises k m (omega arith) f c)
      | no f ↦ g.higher m a (omega arith)
    ];
  }

  -- behind a lower one
  pub group_behind : IsGroup rank (k + 1) n l low high → listed_rank (get_or l k 0) < rank → IsGroup rank 0 n l low high
  group_behind g q = record {
    starts = omega arith;
    rises = g.rises;
    ends = g.ends;
    lower = λ m a c. elim (dec_le (k + 1) m) [
      | yes f ↦ g.lower m f c
      | no f ↦ omega (arith, rises m k (omega arith) (omega arith) h)
    ];
    same = g.same;
    higher = g.higher;
  }
