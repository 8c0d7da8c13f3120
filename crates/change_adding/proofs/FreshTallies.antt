-- The numbers of the blocks of a piece just opened. Assumes nothing.
use mathlib.Core.Path.{◌≡◌, refl, sym, ap, ◌∙◌}
use mathlib.Core.Bool.{Bool, true, false, cond}
use Prim.Native.Nat.{ℕ, zero, suc, ◌+◌, ◌-◌, ◌≤◌}
use native.Mathlib.Omega.{arith}
use lib.Dec.{ltb}
use borrow.Author.Tests.{ltb-true, ltb-false}
use Rattle.types.specs.declared.block.BlockState.TheVariants.{None, Requested, Finished}
use Rattle.model.specs.Lists.{bit, count, each, from, len}
use Rattle.model.specs.State.{same_block_state, blocks_in_piece, payload_blocks_in_piece}
use Rattle.model.specs.change.Partials.{fresh_block, fresh_partial, blocks_in_state, progress}
use Rattle.model.proofs.base.Counts.{length-from}
use Rattle.model.proofs.sound.PieceLaws.{size_each}
use Rattle.change_state.specs.declared.states.Tally.{Tally}
use Rattle.change_adding.specs.Adding.{FreshTallied}

-- a fresh block is free where it holds more than pad bytes, and never requested
fresh_free : (payload j : ℕ) → bit (same_block_state (fresh_block payload j).state None) ≡ bit (ltb j payload)
unfolding fresh_block same_block_state
fresh_free payload j = go (ltb j payload)
  where
    go : (b : Bool) → bit (same_block_state (cond b None Finished) None) ≡ bit b
    go true = refl
    go false = refl

fresh_requested : (payload j : ℕ) → bit (same_block_state (fresh_block payload j).state Requested) ≡ 0
unfolding fresh_block same_block_state
fresh_requested payload j = go (ltb j payload)
  where
    go : (b : Bool) → bit (same_block_state (cond b None Finished) Requested) ≡ 0
    go true = refl
    go false = refl

-- as many as the piece has
many_fresh : (payload n : ℕ) → len (each (fresh_block payload) (from 0 n)) ≡ n
unfolding len
many_fresh payload n = size_each (fresh_block payload) (from 0 n) ∙ length-from 0 n

-- as many as are below the payload are free
free_fresh : (payload k n : ℕ) → payload ≤ k + n
    → count (λ b. same_block_state b.state None) (each (fresh_block payload) (from k n)) ≡ payload - k
unfolding each from count
free_fresh payload k zero h = omega arith
free_fresh payload k (suc n) h = go (ltb k payload) refl (free_fresh payload (suc k) n (omega arith))
  where
    go : (b : Bool) → ltb k payload ≡ b
        → count (λ x. same_block_state x.state None) (each (fresh_block payload) (from (suc k) n)) ≡ payload - suc k
        → bit (same_block_state (fresh_block payload k).state None)
        + count (λ x. same_block_state x.state None) (each (fresh_block payload) (from (suc k) n)) ≡ payload - k
    go true e rest = omega (arith, fresh_free payload k, ap bit e, rest, ltb-true k payload e)
    go false e rest = omega (arith, fresh_free payload k, ap bit e, rest, ltb-false k payload e)

-- none is requested
requested_fresh : (payload k n : ℕ) → count (λ b. same_block_state b.state Requested) (each (fresh_block payload) (from k n)) ≡ 0
unfolding each from count
requested_fresh payload k zero = refl
requested_fresh payload k (suc n) = omega (arith, fresh_requested payload k, requested_fresh payload (suc k) n)

pub fresh_tallied : (many payload : ℕ) (t : Tally) → payload ≤ many → t.blocks ≡ many → t.busy ≡ many - payload → t.requested ≡ 0
    → t.hashing ≡ false → FreshTallied many payload t
unfolding fresh_partial progress blocks_in_state
fresh_tallied many payload t h eb ey er eh = record {
  is = λ d i em ep.
      let l = payload_blocks_in_piece d i in
      let n = blocks_in_piece d i in
      record {
        blocks = eb ∙ em ∙ sym (many_fresh l n);
        busy = omega (arith, ey, em, ep, h, many_fresh l n, free_fresh l 0 n (omega (arith, h, em, ep)));
        requested = er ∙ sym (requested_fresh l 0 n);
        hashing = eh;
      };
}
