-- What a free block of a free piece comes to: it can be taken, or there is a reason why its piece is passed over. Assumes nothing.
use mathlib.Core.Path.{◌≡◌, refl, sym, ◌∙◌, subst}
use mathlib.Core.Logic.{◌⊎◌, inl, inr, ⊎_elim}
use Prim.Native.Nat.{ℕ, zero, suc, ◌+◌, ◌≤◌, ◌<◌}
use native.Mathlib.Nat.{le_of_suc-le-suc}
use native.Mathlib.Decide.{ℕ_discrete}
use native.Mathlib.Omega.{arith}
use mathlib.Core.Bool.{Bool, true, false, not, ◌&&◌, ◌||◌, true≢false}
use mathlib.Core.List.{List, [], ◌∷◌}
use mathlib.Core.Option.{none, some}
use lib.ListN.{length, get_or}
use lib.Dec.{eqb, ltb}
use borrow.Author.Tests.{ne_eqb, ltb-true, lt-ltb, not-true}
use Rattle.types.specs.declared.queue.DownloadQueue.TheVariants.{Downloading}
use Rattle.types.specs.declared.block.BlockState.TheVariants.{None}
use Rattle.types.specs.Queue.{unreverse}
use Rattle.model.specs.Lists.{bit, count, any, nth, len}
use Rattle.model.specs.State.{DownloadingPiece, Picker, no_block, same_queue, same_block_state, piece_at, payload_blocks_in_piece}
use Rattle.model.specs.Options.{on_parole}
use Rattle.model.specs.change.Partials.{partial_of, block_at, blocks_in_state, progress, in_direction, new_state}
use Rattle.model.specs.pick.Blocks.{PickRequest, option, has_bit, is_piece_free, by_another, requested_from}
use Rattle.model.specs.image.WellFormed.{state_ok}
use Rattle.model.specs.image.Sound.{Sound}
use Rattle.model.proofs.base.Truths.{and_left, and_right, by_test}
use Rattle.model.proofs.sound.PartialLaws.{found_or_none}
use Rattle.model.proofs.sound.SoundBody.{sound_standing}
use Rattle.agreement.specs.Complete.{free_in, is_free, PassedOver, is_locked, held_by_another, at_rest}
use Rattle.agreement.proofs.complete.Taking.{Way, from_new, from_partial}

-- ---- a partial with a free block
one_counted : {A : Type 0} (t : A → Bool) (x : A) (l : List A) (j : ℕ) → j < length l → t (get_or l j x) ≡ true → 1 ≤ count t l
unfolding count
one_counted t x [] j h e = absurd (omega arith)
one_counted t x (y ∷ l) zero h e = rw e (omega arith)
one_counted t x (y ∷ l) (suc j) h e = omega (arith, one_counted t x l j (le_of_suc-le-suc h) e)

-- not all of its blocks are at work
not_all : (d : DownloadingPiece) (j : ℕ) → j < len d.blocks → same_block_state (block_at d j).state None ≡ true
    → progress d < len d.blocks
unfolding progress blocks_in_state block_at nth len
not_all d j h e =
    let c = one_counted (λ b. same_block_state b.state None) no_block d.blocks j h e in
    omega arith

-- so it is Downloading, or none is
rest_or_downloading : (s : Picker) (i : ℕ) (d : DownloadingPiece) → state_ok (piece_at s i) d ≡ true → eqb (piece_at s i).priority 0 ≡ false
    → progress d < len d.blocks → same_queue (unreverse (piece_at s i).state) Downloading ≡ false → progress d ≡ 0
unfolding state_ok new_state in_direction
rest_or_downloading s i d h p l n = elim (ℕ_discrete (progress d) 0) [
  | yes e ↦ e
  | no e ↦
      let x = lt-ltb (progress d) (len d.blocks) l in
      let y = ne_eqb (progress d + bit d.hashing) 0 (λ q. e (omega arith)) in
      let z = ne_eqb (progress d) 0 e in
      absurd (true≢false (sym
      (second (ltb 0 (piece_at s i).priority) (same_queue (unreverse (piece_at s i).state) Downloading) (rw (z, p, y, x) at h)) ∙ n))
]
  where
    second : (b c : Bool) → ((b && false) || c) ≡ true → c ≡ true
    second true c g = g
    second false c g = g

-- ---- the free block
module _ (s : Picker) (a : PickRequest) (i j : ℕ) (sound : Sound s) (free : is_piece_free a s i ≡ true) where
  has : has_bit a i ≡ true
  unfolding is_piece_free
  has = and_left (has_bit a i) (not (piece_at s i).flushed && not (eqb (piece_at s i).priority 0)) free

  -- its priority is above 0
  pub wanted : eqb (piece_at s i).priority 0 ≡ false
  unfolding is_piece_free
  wanted =
      not-true (eqb (piece_at s i).priority 0) (and_right (not (piece_at s i).flushed) (not (eqb (piece_at s i).priority 0))
      (and_right (has_bit a i) (not (piece_at s i).flushed && not (eqb (piece_at s i).priority 0)) free))

  -- of a partial, which is not locked and not another peer's
  standing : (d : DownloadingPiece) → partial_of s i ≡ some d → j < len d.blocks → same_block_state (block_at d j).state None ≡ true
      → d.locked ≡ false → (not (option on_parole a) || (requested_from a.peer d).exclusive) ≡ true → Way a i j s ⊎ PassedOver s a i
  standing d e l f u o =
      by_test (same_queue (unreverse (piece_at s i).state) Downloading)
      (λ q. inl (from_partial (sound_standing s i d sound e) q d e
      (record { piece = (sound.partial i d e).piece; has = has; unlocked = u; alone = o; inside = l; free = f })))
      (λ q. inr (at_rest d e (rest_or_downloading s i d (sound.partial i d e).state wanted (not_all d j l f) q) q))

  -- on parole
  alone_or_held : (d : DownloadingPiece)
      → ((not (option on_parole a) || (requested_from a.peer d).exclusive) ≡ true) ⊎
      ((option on_parole a ≡ true) × (any (by_another a.peer) d.blocks ≡ true))
  unfolding requested_from
  alone_or_held d = go (option on_parole a) (any (by_another a.peer) d.blocks)
    where
      go : (b c : Bool) → ((not b || not c) ≡ true) ⊎ ((b ≡ true) × (c ≡ true))
      go false c = inl refl
      go true false = inl refl
      go true true = inr (refl, refl)

  of_partial : (d : DownloadingPiece) → partial_of s i ≡ some d → j < len d.blocks → same_block_state (block_at d j).state None ≡ true
      → Way a i j s ⊎ PassedOver s a i
  of_partial d e l f =
      by_test d.locked (λ u. inr (is_locked d e u))
      (λ u. ⊎_elim (λ o. standing d e l f u o) (λ o. inr (held_by_another d e o.0 o.1)) (alone_or_held d))

  free_partial : (d : DownloadingPiece) → partial_of s i ≡ some d → free_in (payload_blocks_in_piece s i) (some d) j ≡ true
      → Way a i j s ⊎ PassedOver s a i
  unfolding free_in
  free_partial d e g =
      let f = same_block_state (block_at d j).state None in
      of_partial d e (ltb-true j (len d.blocks) (and_left (ltb j (len d.blocks)) f g)) (and_right (ltb j (len d.blocks)) f g)

  free_new : partial_of s i ≡ none → free_in (payload_blocks_in_piece s i) none j ≡ true → Way a i j s ⊎ PassedOver s a i
  unfolding free_in
  free_new e g = inl (from_new (sound.standing i e) (ltb-true j (payload_blocks_in_piece s i) g))

  -- it can be taken, or there is a reason
  pub way_or_reason : is_free s i j ≡ true → Way a i j s ⊎ PassedOver s a i
  unfolding is_free partial_of
  way_or_reason g =
      ⊎_elim (λ e. free_new e (subst (λ o. free_in (payload_blocks_in_piece s i) o j ≡ true) e g))
      (λ e. free_partial e.0 e.1 (subst (λ o. free_in (payload_blocks_in_piece s i) o j ≡ true) e.1 g)) (found_or_none i s.partials)
