-- The bucket of a piece: when there is none, and between which numbers it lies.
use mathlib.Core.Path.{◌≡◌, refl, sym}
use mathlib.Core.Logic.{◌↔◌}
use Prim.Native.Nat.{ℕ, ◌+◌, ◌-◌, ◌*◌, ◌≤◌}
use native.Mathlib.Nat.{mul-le-mul}
use native.Mathlib.Omega.{arith}
use mathlib.Core.Bool.{Bool, true, false, cond}
use mathlib.Core.Option.{none, some, some-injective, none-ne-some}
use lib.Dec.{eqb}
use borrow.Author.Tests.{eqb-false}
use Rattle.types.specs.declared.queue.DownloadQueue.{DownloadQueue}
use Rattle.types.specs.Queue.{is_reverse}
use Rattle.model.specs.State.{Piece, max_peers, is_open}
use Rattle.model.specs.list.Order.{unlisted, adjustment, bucket_number, bucket}
use Rattle.model.proofs.base.Truths.{or_no_left}

-- document 01's −1: exactly where the piece is unlisted
pub bucket-none : (seeds : ℕ) (p : Piece) → (bucket seeds p ≡ none) ↔ (unlisted seeds p ≡ true)
unfolding bucket
bucket-none seeds p = (there (unlisted seeds p), λ e. rw e)
  where
    there : (b : Bool) → cond b none (some (bucket_number p)) ≡ none → b ≡ true
    there true e = refl
    there false e = absurd (none-ne-some (bucket_number p) (sym e))

-- a state takes off one at least
less : (q : DownloadQueue) → 1 ≤ adjustment q
unfolding adjustment
less q = go (is_reverse q) (is_open q)
  where
    go : (a b : Bool) → 1 ≤ cond a 1 (cond b 2 3)
    go true b = omega arith
    go false true = omega arith
    go false false = omega arith

most : (seeds : ℕ) (p : Piece) (k : ℕ) → p.peer_count ≤ max_peers → unlisted seeds p ≡ false → bucket_number p ≡ k → k ≤ 21020
unfolding unlisted bucket_number
most seeds p k h u e =
    let w = eqb-false p.priority 0 (or_no_left (eqb p.priority 0) _ u) in
    let m : (p.peer_count + 1) * (8 - p.priority) ≤ 1001 * 7 = mul-le-mul {n₂ = 1001} {m₂ = 7} (omega arith) (omega (arith, w)) in
    omega (arith, m, less p.state, e)

-- a bucket is at most 21,020
pub bucket_most : (seeds : ℕ) (p : Piece) (k : ℕ) → p.peer_count ≤ max_peers → bucket seeds p ≡ some k → k ≤ 21020
unfolding bucket
bucket_most seeds p k h = go (unlisted seeds p) refl
  where
    go : (b : Bool) → unlisted seeds p ≡ b → cond b none (some (bucket_number p)) ≡ some k → k ≤ 21020
    go true u e = absurd (none-ne-some k e)
    go false u e = most seeds p k h u (some-injective (bucket_number p) k e)
