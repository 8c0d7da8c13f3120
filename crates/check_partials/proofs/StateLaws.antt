-- The state of a piece by the numbers of its partial's blocks, case by case. Assumes nothing.
use mathlib.Core.Path.{◌≡◌, sym}
use mathlib.Core.Logic.{◌⊎◌, ⊎_elim}
use mathlib.Core.Bool.{Bool, true, false, ◌&&◌, true≢false}
use Prim.Native.Nat.{ℕ, ◌+◌, ◌≤◌, ◌<◌}
use native.Mathlib.Omega.{arith}
use native.Mathlib.Decide.{ℕ_discrete}
use lib.Dec.{eqb, ltb}
use borrow.Author.Tests.{eq-eqb, ne_eqb, lt-ltb, le-ltb}
use Rattle.types.specs.Queue.{queue_number, unreverse}
use Rattle.model.specs.Lists.{bit}
use Rattle.model.specs.State.{same_queue}
use Rattle.model.proofs.base.Counts.{and_false}
use Rattle.memory_layout.specs.Decode.{queue_from}
use Rattle.check_partials.specs.States.{due_by, state_by}

-- ---- the state that is due
working : (b : ℕ) (h : Bool) → (b ≡ 0 → h ≡ true) → eqb (b + bit h) 0 ≡ false
working b true k = ne_eqb (b + 1) 0 (omega arith)
working b false k = elim (ℕ_discrete b 0) [
  | yes e ↦ absurd (true≢false (sym (k e)))
  | no n ↦ ne_eqb (b + 0) 0 (λ e. n (omega arith))
]

module _ (w r b m : ℕ) (h : Bool) where
  pub due_filtered : w ≡ 0 → 3 ≡ queue_number (due_by w r b m h)
  unfolding due_by
  due_filtered e = simp (eq-eqb w 0 e)

  module _ (n : w ≡ 0 → ⊥) where
    pub due_left : b ≡ 0 → h ≡ false → 4 ≡ queue_number (due_by w r b m h)
    unfolding due_by
    due_left e f = rw (ne_eqb w 0 n, e, f)

    module _ (k : b ≡ 0 → h ≡ true) where
      pub due_some : b < m → 0 ≡ queue_number (due_by w r b m h)
      unfolding due_by
      due_some l = rw (ne_eqb w 0 n, working b h k, lt-ltb b m l)

      pub due_full : m ≤ b → 0 < r → 1 ≡ queue_number (due_by w r b m h)
      unfolding due_by
      due_full l q = rw (ne_eqb w 0 n, working b h k, le-ltb b m l, lt-ltb 0 r q)

      pub due_all : m ≤ b → r ≤ 0 → 2 ≡ queue_number (due_by w r b m h)
      unfolding due_by
      due_all l q = rw (ne_eqb w 0 n, working b h k, le-ltb b m l, le-ltb 0 r q)

-- ---- the state that is there
module _ (s w r b m : ℕ) (h : Bool) where
  pub state_any : 0 < w → b ≡ 0 → true ≡ state_by s w r b m h
  unfolding state_by
  state_any l e = simp (lt-ltb 0 w l, eq-eqb b 0 e)

  neither : ((b ≡ 0 → ⊥) ⊎ (w ≤ 0)) → (ltb 0 w && eqb b 0) ≡ false
  neither = ⊎_elim (λ n. rw (ne_eqb b 0 n, and_false (ltb 0 w))) (λ l. rw (le-ltb 0 w l))

  pub state_due : (p d : ℕ) → ((b ≡ 0 → ⊥) ⊎ (w ≤ 0)) → p ≡ queue_number (unreverse (queue_from s)) → d ≡ queue_number (due_by w r b m h)
      → eqb p d ≡ state_by s w r b m h
  unfolding state_by same_queue
  state_due p d n e f = rw (neither n, e, f)
