-- The tests and numbers of the code are those of the definition, and the rank has its bound.
use mathlib.Core.Path.{◌≡◌, refl, sym, ap, ◌∙◌}
use mathlib.Core.Logic.{◌≢◌}
use mathlib.Core.Bool.{Bool, true, false, ◌&&◌, ◌||◌, true≢false}
use Prim.Native.Nat.{ℕ, ◌+◌, ◌-◌, ◌*◌, ◌≤◌}
use native.Mathlib.Nat.{mul-le-mul, one-le-mul}
use native.Mathlib.Numerals.{add-one}
use native.Mathlib.Decide.{ℕ_discrete}
use native.Mathlib.Omega.{arith}
use lib.Dec.{eqb}
use borrow.Author.Tests.{eq-eqb, ne_eqb}
use Rattle.types.specs.declared.queue.DownloadQueue.{DownloadQueue}
use Rattle.types.specs.declared.queue.DownloadQueue.TheVariants.{Downloading, Full, Finished, ZeroPrio, Open, DownloadingReverse}
use Rattle.types.specs.declared.queue.DownloadQueue.TheVariants.{FullReverse}
use Rattle.types.specs.Queue.{queue_number}
use Rattle.model.specs.State.{Piece, same_queue, is_open}
use Rattle.model.specs.list.Order.{unlisted, adjustment, bucket_number, bucket, rank_of}
use Rattle.model.proofs.base.Counts.{cond_both}
use Rattle.list_rank.specs.Ranks.{unlisted_by, adjustment_of, Numbers, IsRank}

-- ---- the tests
any : (a h z s u : Bool) → ((((a || h) || z) || s) || u) ≡ (a || (h || (z || (s || u))))
any true h z s u = refl
any false true z s u = refl
any false false true s u = refl
any false false false s u = refl

no_peer : (peer_count seeds : ℕ) → (eqb peer_count 0 && eqb seeds 0) ≡ eqb (peer_count + seeds) 0
no_peer peer_count seeds = elim (ℕ_discrete peer_count 0) [
  | yes e ↦ (let z : peer_count + seeds ≡ seeds = omega arith in rw (eq-eqb peer_count 0 e, z))
  | no e ↦ rw (ne_eqb peer_count 0 e) (sym (ne_eqb (peer_count + seeds) 0 (λ (q : peer_count + seeds ≡ 0). absurd (omega arith))))
]

-- the tests of the code
pub tests : (seeds peer_count state priority : ℕ) (flushed : Bool)
    → ((((eqb priority 0 || flushed) || (eqb peer_count 0 && eqb seeds 0)) || eqb state 1) || eqb state 2) ≡ unlisted_by seeds peer_count state priority flushed
unfolding unlisted_by
tests seeds peer_count state priority flushed = any (eqb priority 0) flushed _ (eqb state 1) (eqb state 2) ∙ rw (no_peer peer_count seeds)

wanted : (a b : Bool) → (a || b) ≡ false → a ≡ false
wanted true b e = absurd (true≢false e)
wanted false b e = refl

-- ---- what the state takes off
module _ (state : ℕ) where
  -- a reverse one
  pub adjustment_reverse : (eqb state 5 || eqb state 6) ≡ true → 1 ≡ adjustment_of state
  unfolding adjustment_of
  adjustment_reverse e = rw e

  module _ (e : (eqb state 5 || eqb state 6) ≡ false) where
    -- in no queue
    pub adjustment_open : state ≡ 4 → 2 ≡ adjustment_of state
    unfolding adjustment_of
    adjustment_open q = rw (e, eq-eqb state 4 q)

    -- any other
    pub adjustment_other : state ≢ 4 → 3 ≡ adjustment_of state
    unfolding adjustment_of
    adjustment_other q = rw (e, ne_eqb state 4 q)

adjustment_is : (q : DownloadQueue) → adjustment_of (queue_number q) ≡ adjustment q
unfolding adjustment_of adjustment is_open same_queue
adjustment_is Downloading = refl
adjustment_is Full = refl
adjustment_is Finished = refl
adjustment_is ZeroPrio = refl
adjustment_is Open = refl
adjustment_is DownloadingReverse = refl
adjustment_is FullReverse = refl

adjustment_least : (state : ℕ) → (1 ≤ adjustment_of state) × (adjustment_of state ≤ 3)
unfolding adjustment_of
adjustment_least state =
    cond_both (λ (n : ℕ). (1 ≤ n) × (n ≤ 3)) (eqb state 5 || eqb state 6) _ _ (λ t. (omega arith, omega arith))
    (λ t. cond_both (λ (n : ℕ). (1 ≤ n) × (n ≤ 3)) (eqb state 4) _ _ (λ u. (omega arith, omega arith)) (λ u. (omega arith, omega arith)))

-- ---- the rank
module _ (seeds peer_count state priority : ℕ) (flushed : Bool) where
  unlisted_is : (p : Piece) → Numbers peer_count state priority flushed p → unlisted_by seeds peer_count state priority flushed ≡ unlisted seeds p
  unfolding unlisted_by unlisted same_queue
  unlisted_is p m = rw (← m.peer_count_is, ← m.state_is, ← m.priority_is, ← m.flushed_is)

  -- a piece in no bucket
  pub rank_none : unlisted_by seeds peer_count state priority flushed ≡ true → IsRank seeds peer_count state priority flushed 0
  unfolding bucket rank_of
  rank_none e = record { is = λ p m. rw (sym (unlisted_is p m) ∙ e); low = omega arith }

  module _ (e : unlisted_by seeds peer_count state priority flushed ≡ false) (hc : peer_count ≤ 1000) (hw : priority ≤ 7) where
    some : priority ≢ 0
    unfolding unlisted_by
    some q = absurd (true≢false (sym (eq-eqb priority 0 q) ∙ wanted (eqb priority 0) _ e))

    -- the product is at least 1, and at most 7,007
    pub product : (1 ≤ (peer_count + 1) * (8 - priority)) × ((peer_count + 1) * (8 - priority) ≤ 7007)
    product =
        let w = some in
        let a : peer_count + 1 ≤ 1001 = omega arith in
        let c : 8 - priority ≤ 7 = omega arith in
        (one-le-mul (omega arith) (omega arith), mul-le-mul a c)

    -- what is taken off is 1 to 3
    pub taken_off : (1 ≤ adjustment_of state) × (adjustment_of state ≤ 3)
    taken_off = adjustment_least state

    -- a piece in a bucket
    pub rank_some : (d : ℕ) → d ≡ adjustment_of state → IsRank seeds peer_count state priority flushed ((peer_count + 1) * (8 - priority) * 3 - d + 1)
    unfolding bucket rank_of bucket_number
    rank_some d ed = record {
      is = λ p m. (
          let f = sym (unlisted_is p m) ∙ e in
          let g : d ≡ adjustment p.state = ed ∙ ap adjustment_of (sym m.state_is) ∙ adjustment_is p.state in
          rw (f, m.peer_count_is, m.priority_is, g, add-one)
          );
      low = let q = product in let r = taken_off in omega arith;
    }
