-- A pick gives nothing that it should not.
use mathlib.Core.Path.{◌≡◌, refl, sym, subst, ◌∙◌}
use mathlib.Core.Logic.{⊎_elim}
use Prim.Native.Nat.{ℕ, ◌+◌, ◌<◌}
use native.Mathlib.Omega.{arith}
use mathlib.Core.Bool.{Bool, true, false, not, ◌&&◌, ◌||◌, true≢false}
use mathlib.Core.List.{List, [], ◌∷◌, ◌++◌}
use mathlib.Core.Option.{Option, none, some}
use lib.Dec.{ltb}
use borrow.Author.Tests.{not-true, not-false}
use Rattle.types.specs.declared.queue.DownloadQueue.TheVariants.{Downloading, Full, Open}
use Rattle.types.specs.declared.block.BlockState.TheVariants.{None, Requested}
use Rattle.types.specs.declared.refusal.Refusal.TheVariants.{ShortMemory, FewDraws, PickArguments, ShortOutput}
use Rattle.types.specs.Queue.{unreverse}
use Rattle.model.specs.Lists.{len}
use Rattle.model.specs.State.{DownloadingPiece, Picker, min_draws, spare_output, is_open, same_block_state, same_peer, piece_at, blocks_in_piece}
use Rattle.model.specs.Options.{on_parole}
use Rattle.model.specs.list.Order.{Draws}
use Rattle.model.specs.change.Partials.{partial_of, block_at}
use Rattle.model.specs.pick.Blocks.{PickRequest, option, has_bit, PieceBlock, piece_block, requested_from, is_piece_free, can_pick}
use Rattle.model.specs.pick.Pick.{effective_request, pick_pieces, no_partial}
use Rattle.model.specs.image.Sound.{Sound}
use Rattle.model.specs.Calls.{picked, check, refuse_few_draws, refusal, bitfield_fits, request_fits}
use Rattle.model.specs.Memory.{Memory, memory_needed, is_short}
use Rattle.model.specs.Calls.{do_pick_pieces, lent_request, answering, picking, act, unless_refused, step}
use Rattle.model.proofs.base.Truths.{and_left, and_right, three_true}
use Rattle.model.proofs.sound.PartialLaws.{find_dl_piece_at}
use Rattle.model.proofs.sound.SoundLaws.{well_formed_sound}
use Rattle.agreement.specs.SoundPick.{InWantedPiece, free_of_open, free_of_partial, EndGame, Given, SoundPick}
use Rattle.agreement.proofs.given.EachLaws.{Each, each_places, each_between, last_or_before}
use Rattle.agreement.proofs.given.AddLaws.{Usable}
use Rattle.agreement.proofs.given.EndLaws.{Busy, Ends, all_fine, one_more, pick_given}
use Rattle.agreement.proofs.given.WantedLaws.{queue_is, block_state_is, asked_peer, asked_has, asked_parole, has_within, FreePiece}
use Rattle.agreement.proofs.given.WantedLaws.{free_piece, full_missing, full_priority}

module _ (s : Picker) (h : Sound s) (a : PickRequest) (f : request_fits s a ≡ true) where
  -- what is asked after the forcing rule
  asked : PickRequest
  asked = effective_request s a

  -- ---- the piece
  in_free : (i j : ℕ) → FreePiece s asked i → j < blocks_in_piece s i → InWantedPiece s a (piece_block i j)
  unfolding piece_block asked
  in_free i j p l =
      let has = sym (asked_has s a i) ∙ p.has in
      record { piece = has_within s a f i has; block = l; peer_has = has; not_flushed = p.not_flushed; priority = p.priority }

  -- ---- each case
  open_given : (i j : ℕ) → can_pick asked s i ≡ true → j < blocks_in_piece s i → (after : List PieceBlock) → Given s a (piece_block i j) after
  unfolding can_pick is_open piece_block
  open_given i j c l after =
      let t = is_open (piece_at s i).state in
      record {
        wanted = in_free i j (free_piece s asked i (and_left (is_piece_free asked s i) t c)) l;
        why = free_of_open (queue_is (piece_at s i).state Open (and_right (is_piece_free asked s i) t c));
      }

  -- where one of two holds and not the first, the second does
  other : (p x : Bool) → (not p || x) ≡ true → p ≡ true → x ≡ true
  other true x g e = g
  other false x g e = absurd (true≢false (sym e))

  partial_given : (d : DownloadingPiece) (j : ℕ) → Usable s asked d
      → (has_bit asked d.piece && (not d.locked && (not (option on_parole asked) || (requested_from asked.peer d).exclusive))) ≡ true
      → j < len d.blocks → same_block_state (block_at d j).state None ≡ true → (after : List PieceBlock)
      → Given s a (piece_block d.piece j) after
  unfolding piece_block asked
  partial_given d j u may l e after =
      let i = d.piece in
      let held = (requested_from asked.peer d).exclusive in
      let k = three_true (has_bit asked i) (not d.locked) (not (option on_parole asked) || held) may in
      let same = (h.partial i d u.partial).blocks in
      record {
        wanted = in_free i j (free_piece s asked i u.free) (omega (arith, same));
        why =
            free_of_partial d u.partial (queue_is (unreverse (piece_at s i).state) Downloading u.state) (not-true d.locked k.1)
            (block_state_is (block_at d j).state None e)
            (λ p. subst (λ (x : Option ℕ). (requested_from x d).exclusive ≡ true) (asked_peer s a)
            (other (option on_parole asked) held k.2 (asked_parole s a ∙ p)));
      }

  last_given : (d : DownloadingPiece) (j : ℕ) → Busy s asked d → option on_parole asked ≡ false → j < len d.blocks
      → (same_block_state (block_at d j).state Requested && not (same_peer (block_at d j).peer asked.peer)) ≡ true
      → Given s a (piece_block d.piece j) []
  unfolding piece_block asked
  last_given d j u p l e =
      let i = d.piece in
      let has = sym (asked_has s a i) ∙ u.has in
      let within = has_within s a f i has in
      let sound = h.partial i d u.partial in
      let same = sound.blocks in
      let t = same_block_state (block_at d j).state Requested in
      let n = not (same_peer (block_at d j).peer asked.peer) in
      record {
        wanted = record {
          piece = within;
          block = omega (arith, same);
          peer_has = has;
          not_flushed = full_missing s i h within u.state;
          priority = full_priority (piece_at s i) d sound.state u.state;
        };
        why =
            EndGame d u.partial (queue_is (unreverse (piece_at s i).state) Full u.state)
            (block_state_is (block_at d j).state Requested (and_left t n e))
            (subst (λ (x : Option ℕ). same_peer (block_at d j).peer x ≡ false) (asked_peer s a)
            (not-true (same_peer (block_at d j).peer asked.peer) (and_right t n e)))
            (sym (asked_parole s a) ∙ p) refl;
      }

  -- ---- all of them
  found : Each (λ d. partial_of s d.piece ≡ some d) s.partials
  unfolding partial_of
  found = each_places no_partial s.partials (λ k l. find_dl_piece_at 0 k no_partial s.partials h.rising l)

  pick_ends : (draws : Draws) → Ends (λ b. (after : List PieceBlock) → Given s a b after) (λ b. Given s a b []) (pick_pieces draws s a).out
  unfolding asked
  pick_ends draws =
      pick_given s a (λ b. (after : List PieceBlock) → Given s a b after) (λ b. Given s a b [])
      (record { of_open = open_given; of_partial = partial_given }) (record { of_full = last_given })
      (λ i d e. (h.partial i d e).piece) found draws

  -- one of them, wherever it stands
  one_given : (blocks before : List PieceBlock) (b : PieceBlock) (after : List PieceBlock)
      → Ends (λ c. (rest : List PieceBlock) → Given s a c rest) (λ c. Given s a c []) blocks → blocks ≡ before ++ (b ∷ after)
      → Given s a b after
  one_given blocks before b after (all_fine g) e =
      each_between before b after (subst (Each (λ c. (rest : List PieceBlock) → Given s a c rest)) e g) after
  one_given blocks before b after (one_more front c g l p) e =
      ⊎_elim
      (λ x. subst (Given s a b) (sym x.1) (subst (λ (k : PieceBlock). Given s a k []) (sym x.0) l))
      (λ x. x after)
      (last_or_before {P = λ k. (rest : List PieceBlock) → Given s a k rest} front c before b after (sym p ∙ e) g)

-- ---- calls
-- a peer of 64 bits changes nothing of what is in range
lent_fits : (s : Picker) (a : PickRequest) → request_fits s (lent_request a) ≡ request_fits s a
unfolding request_fits lent_request option bitfield_fits
lent_fits s a = refl

-- an answer with blocks: the request is in range, and they are what the pick gave
answered_fits : (s : Picker) (lent : Memory) (a : PickRequest) (free : ℕ) (draws : Draws) (blocks : List PieceBlock) (flags : ℕ)
    (loops : List ℕ) (used : ℕ)
    → (step s (record { lent = lent; action = do_pick_pieces a free draws })).answer ≡ picked blocks flags loops used
    → (request_fits s a ≡ true) × ((pick_pieces draws s (lent_request a)).out ≡ blocks)
unfolding step refusal refuse_few_draws check unless_refused act picking answering
answered_fits s lent a free draws blocks flags loops used e =
    go (is_short lent (memory_needed s)) (ltb (len draws) min_draws) (not (request_fits s a))
    (ltb free (a.wanted + a.contiguous + spare_output)) refl e
  where
    go : (t₁ t₂ t₃ t₄ : Bool) → not (request_fits s a) ≡ t₃
        → (unless_refused (check t₁ ShortMemory (check t₂ FewDraws (check t₃ PickArguments (check t₄ ShortOutput none)))) s
        (do_pick_pieces a free draws)).answer ≡ picked blocks flags loops used
        → (request_fits s a ≡ true) × ((pick_pieces draws s (lent_request a)).out ≡ blocks)
    go true t₂ t₃ t₄ p e = let z : ◌≡◌ {A = ℕ} 0 1 = cc in absurd (omega arith)
    go false true t₃ t₄ p e = let z : ◌≡◌ {A = ℕ} 0 1 = cc in absurd (omega arith)
    go false false true t₄ p e = let z : ◌≡◌ {A = ℕ} 0 1 = cc in absurd (omega arith)
    go false false false true p e = let z : ◌≡◌ {A = ℕ} 0 1 = cc in absurd (omega arith)
    go false false false false p e = let q : (pick_pieces draws s (lent_request a)).out ≡ blocks = cc in (not-false (request_fits s a) p, q)

-- ---- the theorem
pub sound_pick : SoundPick
sound_pick = record {
  given = λ s well a fits draws before b after e.
      let h = well_formed_sound s well in
      one_given s h a fits (pick_pieces draws s a).out before b after (pick_ends s h a fits draws) e;
  answered = λ s well lent a free draws before b after flags loops used e.
      let h = well_formed_sound s well in
      let l = lent_request a in
      let k = answered_fits s lent a free draws (before ++ (b ∷ after)) flags loops used e in
      let fits = lent_fits s a ∙ k.0 in
      one_given s h l fits (pick_pieces draws s l).out before b after (pick_ends s h l fits draws) k.1;
}
