-- A pick passes nothing over: the theorem holds.
use mathlib.Core.Path.{◌≡◌, refl, sym, ap, ap₂, ◌∙◌, subst}
use mathlib.Core.Logic.{◌⊎◌, inl, inr, ⊎_elim}
use Prim.Native.Nat.{ℕ, zero, suc, ◌+◌, ◌<◌, ◌^◌}
use native.Mathlib.Decide.{dec_le}
use native.Mathlib.Omega.{arith}
use mathlib.Core.Bool.{Bool, true, false, not, ◌&&◌, ◌||◌, true≢false}
use mathlib.Core.List.{List}
use mathlib.Core.Option.{Option, none, some}
use lib.ListN.{get_or, replicate}
use lib.Dec.{eqb, ltb, leb}
use borrow.Author.Tests.{eqb-true}
use Rattle.types.specs.declared.refusal.Refusal.{Refusal}
use Rattle.types.specs.declared.refusal.Refusal.TheVariants.{ShortMemory}
use Rattle.types.specs.Bits.{meets}
use Rattle.types.proofs.Bits.{union_bit}
use Rattle.model.specs.Lists.{any, nth, len}
use Rattle.model.specs.State.{Picker, no_piece, max_pieces, top_priority, piece_at, pieces_in}
use Rattle.model.specs.Options.{rarest_first, on_parole, prioritize_partials, sequential}
use Rattle.model.specs.list.Order.{Draws}
use Rattle.model.specs.pick.Blocks.{PickRequest, option, has_bit, PickState, start_state, flagged, is_ignored, is_piece_free, by_another}
use Rattle.model.specs.pick.Blocks.{PieceBlock}
use Rattle.model.specs.pick.Pick.{is_forced, forced_request, effective_request, start_pick, in_range, pick_pieces}
use Rattle.model.specs.image.WellFormed.{well_formed}
use Rattle.model.specs.image.Sound.{Sound}
use Rattle.model.specs.Memory.{memory_needed, is_short}
use Rattle.model.specs.Calls.{do_pick_pieces, picked, check, refusal, answering, lent_request, picking, act, unless_refused, step}
use Rattle.model.proofs.base.Phases.{cond_arms}
use Rattle.model.proofs.base.Truths.{by_test}
use Rattle.model.proofs.pick.PhaseLaws.{start_pick_keeps}
use Rattle.model.proofs.pick.SoundPick.{sound_sized}
use Rattle.model.proofs.sound.PieceLaws.{piece_at_beyond}
use Rattle.model.proofs.sound.SoundLaws.{well_formed_sound}
use Rattle.agreement.specs.Complete.{is_free, is_given, by_list, PassedOver, not_counted, is_locked, held_by_another, at_rest, top_in_range}
use Rattle.agreement.specs.Complete.{Complete}
use Rattle.agreement.proofs.complete.Giving.{Settled, none_left, given}
use Rattle.agreement.proofs.complete.Taking.{Way}
use Rattle.agreement.proofs.complete.Phases.{phases_settle}
use Rattle.agreement.proofs.complete.Reading.{way_or_reason, wanted}
use Rattle.agreement.proofs.complete.Wanted.{still_wanted}

-- ---- what the forcing rule leaves as it was
module _ (s : Picker) (a : PickRequest) where
  -- every option but PRIORITIZE_PARTIALS
  option_same : (k : ℕ) → meets prioritize_partials (2 ^ k) ≡ false → option (2 ^ k) (effective_request s a) ≡ option (2 ^ k) a
  unfolding effective_request forced_request option
  option_same k h =
      cond_arms (λ b. meets b.options (2 ^ k) ≡ meets a.options (2 ^ k)) (is_forced s a) (forced_request a) a
      (λ e. union_bit k a.options prioritize_partials ∙ ap (λ (t : Bool). meets a.options (2 ^ k) || t) h ∙ or_none
      (meets a.options (2 ^ k)))
      (λ e. refl)
    where
      or_none : (b : Bool) → (b || false) ≡ b
      or_none true = refl
      or_none false = refl

  rarest_same : option rarest_first (effective_request s a) ≡ option rarest_first a
  rarest_same = option_same 0 refl

  parole_same : option on_parole (effective_request s a) ≡ option on_parole a
  parole_same = option_same 2 refl

  sequential_same : option sequential (effective_request s a) ≡ option sequential a
  sequential_same = option_same 4 refl

  bit_same : (i : ℕ) → has_bit (effective_request s a) i ≡ has_bit a i
  unfolding effective_request forced_request has_bit
  bit_same i = cond_arms (λ b. has_bit b i ≡ has_bit a i) (is_forced s a) (forced_request a) a (λ e. refl) (λ e. refl)

  peer_same : (effective_request s a).peer ≡ a.peer
  unfolding effective_request forced_request
  peer_same = cond_arms (λ b. b.peer ≡ a.peer) (is_forced s a) (forced_request a) a (λ e. refl) (λ e. refl)

  free_same : (i : ℕ) → is_piece_free (effective_request s a) s i ≡ is_piece_free a s i
  unfolding is_piece_free
  free_same i = ap (λ (t : Bool). t && (not (piece_at s i).flushed && not (eqb (piece_at s i).priority 0))) (bit_same i)

  range_same : (i : ℕ) → in_range (effective_request s a) s i ≡ in_range a s i
  unfolding in_range
  range_same i = ap (λ (t : Bool). t && (leb s.cursor i && ltb i s.reverse_cursor)) sequential_same

  list_same : by_list (effective_request s a) ≡ by_list a
  unfolding by_list
  list_same = ap₂ ◌||◌ sequential_same rarest_same

  reason_same : (i : ℕ) → PassedOver s (effective_request s a) i → PassedOver s a i
  reason_same i (not_counted l r p) = not_counted (sym list_same ∙ l) (sym (range_same i) ∙ r) p
  reason_same i (is_locked d e l) = is_locked d e l
  reason_same i (held_by_another d e o h) =
      held_by_another d e (sym parole_same ∙ o) (subst (λ p. any (by_another p) d.blocks ≡ true) peer_same h)
  reason_same i (at_rest d e p q) = at_rest d e p q
  reason_same i (top_in_range r p) = top_in_range (sym (range_same i) ∙ r) p

-- ---- how a pick begins
unmarked : (n i : ℕ) → get_or (replicate n false) i false ≡ false
unmarked zero i = refl
unmarked (suc n) zero = refl
unmarked (suc n) (suc i) = unmarked n i

module _ (s : Picker) (a : PickRequest) (i : ℕ) where
  -- with the picker, and no piece ignored
  Fresh : PickState → Type 0
  Fresh w = (w.picker ≡ s) × (is_ignored i w ≡ false)

  fresh_flag : (f : ℕ) (w : PickState) → Fresh w → Fresh (flagged f w)
  unfolding Fresh flagged is_ignored
  fresh_flag f w h = h

  fresh_state : (b : PickRequest) → Fresh (start_state s b)
  unfolding Fresh start_state is_ignored nth
  fresh_state b = (refl, unmarked max_pieces i)

  fresh_start : Fresh (start_pick s a)
  fresh_start = start_pick_keeps s a Fresh fresh_flag (fresh_state (effective_request s a))

-- a free piece is one of the torrent
inside : (a : PickRequest) (s : Picker) (i : ℕ) → eqb (piece_at s i).priority 0 ≡ false → i < pieces_in s
unfolding no_piece
inside a s i e = elim (dec_le (pieces_in s) i) [
  | yes l ↦ absurd (true≢false (rw (piece_at_beyond s i l) at e))
  | no l ↦ omega arith
]

-- ---- the pick
module _ (s : Picker) (sound : Sound s) (a : PickRequest) (draws : Draws) (i j : ℕ) (free : is_piece_free a s i ≡ true) where
  within : i < pieces_in s
  within = inside a s i (wanted s a i j sound free)

  -- all phases run where no reason stands against it
  settles : Way (effective_request s a) i j s
      → (by_list (effective_request s a) ≡ true → in_range (effective_request s a) s i ≡ true → eqb (piece_at s i).priority top_priority ≡ false)
      → (by_list (effective_request s a) ≡ true → in_range (effective_request s a) s i ≡ false → eqb
      ((piece_at s i).peer_count + s.seeds) 0 ≡ false)
      → Settled i j (pick_pieces draws s a)
  unfolding pick_pieces by_list Fresh
  settles y top counted =
      let f = (sound_sized s sound).few in
      let g = fresh_start s a i in
      phases_settle draws s (effective_request s a) i j within (free_same s a i ∙ free) y (omega arith) sound.list top counted
      (start_pick s a) g.0 g.1

  ends : 0 < (pick_pieces draws s a).left → Settled i j (pick_pieces draws s a) → is_given i j (pick_pieces draws s a).out ≡ true
  ends l (none_left e) = absurd (omega arith)
  ends l (given e) = e

  -- in the range of a sequential pick
  ranged : 0 < (pick_pieces draws s a).left → Way (effective_request s a) i j s → in_range (effective_request s a) s i ≡ true
      → (is_given i j (pick_pieces draws s a).out ≡ true) ⊎ PassedOver s (effective_request s a) i
  ranged l y r =
      by_test (eqb (piece_at s i).priority top_priority) (λ p. inr (top_in_range r (eqb-true (piece_at s i).priority top_priority p)))
      (λ p. inl (ends l (settles y (λ o e. p) (λ o e. absurd (true≢false (sym r ∙ e))))))

  -- outside it, or in no such pick
  listed : 0 < (pick_pieces draws s a).left → Way (effective_request s a) i j s → in_range (effective_request s a) s i ≡ false
      → (is_given i j (pick_pieces draws s a).out ≡ true) ⊎ PassedOver s (effective_request s a) i
  listed l y r =
      by_test (by_list (effective_request s a))
      (λ o. by_test (eqb ((piece_at s i).peer_count + s.seeds) 0)
      (λ p. inr (not_counted o r (eqb-true ((piece_at s i).peer_count + s.seeds) 0 p)))
      (λ p. inl (ends l (settles y (λ q e. absurd (true≢false (sym e ∙ r))) (λ q e. p)))))
      (λ o. inl (ends l (settles y (λ q e. absurd (true≢false (sym q ∙ o))) (λ q e. absurd (true≢false (sym q ∙ o))))))

  taken : 0 < (pick_pieces draws s a).left → Way (effective_request s a) i j s
      → (is_given i j (pick_pieces draws s a).out ≡ true) ⊎ PassedOver s a i
  taken l y =
      ⊎_elim inl (λ e. inr (reason_same s a i e)) (by_test (in_range (effective_request s a) s i) (λ r. ranged l y r) (λ r. listed l y r))

  passes : 0 < (pick_pieces draws s a).left → is_free s i j ≡ true → (is_given i j (pick_pieces draws s a).out ≡ true) ⊎ PassedOver s a i
  passes l f =
      ⊎_elim (λ y. taken l y) (λ e. inr (reason_same s a i e)) (way_or_reason s (effective_request s a) i j sound (free_same s a i ∙ free) f)

-- ---- a call's answer
-- the call is not refused, and answers what the pick gives
answer-out : (s : Picker) (a : PickRequest) (free : ℕ) (draws : Draws) (why : Option Refusal) (blocks : List PieceBlock) (flags : ℕ)
    (loops : List ℕ) (used : ℕ)
    → (unless_refused why s (do_pick_pieces a free draws)).answer ≡ picked blocks flags loops used → (pick_pieces draws s
    (lent_request a)).out ≡ blocks
unfolding unless_refused answering act picking
answer-out s a free draws none blocks flags loops used e = cc
answer-out s a free draws (some why) blocks flags loops used e = let z : ◌≡◌ {A = ℕ} 0 1 = cc in absurd (omega arith)

-- a lent peer is no matter of the piece
lent_free : (a : PickRequest) (s : Picker) (i : ℕ) → is_piece_free (lent_request a) s i ≡ is_piece_free a s i
unfolding lent_request is_piece_free has_bit
lent_free a s i = refl

lent_wanted : (a : PickRequest) → (lent_request a).wanted ≡ a.wanted
unfolding lent_request
lent_wanted a = refl

module _ (s : Picker) (ok : well_formed s ≡ true) (a : PickRequest) (draws : Draws) (blocks : List PieceBlock)
    (e : (pick_pieces draws s (lent_request a)).out ≡ blocks) (few : len blocks < a.wanted) where
  fewer : 0 < (pick_pieces draws s (lent_request a)).left
  unfolding len
  fewer =
      still_wanted draws s (lent_request a)
      (subst (λ n. len (pick_pieces draws s (lent_request a)).out < n) (sym (lent_wanted a)) (subst (λ bs. len bs < a.wanted) (sym e) few))

  answers : (i j : ℕ) → is_piece_free a s i ≡ true → is_free s i j ≡ true → (is_given i j blocks ≡ true) ⊎ PassedOver s (lent_request a) i
  answers i j f g =
      subst (λ bs. (is_given i j bs ≡ true) ⊎ PassedOver s (lent_request a) i) e
      (passes s (well_formed_sound s ok) (lent_request a) draws i j (lent_free a s i ∙ f) fewer g)

-- the theorem
pub complete_holds : Complete
unfolding step
complete_holds = record {
  passes_nothing = λ s ok a draws l i j f g. passes s (well_formed_sound s ok) a draws i j f l g;
  answers_all = λ s ok a lent free draws blocks flags loops used e few i j f g.
      answers s ok a draws blocks
      (answer-out s a free draws
      (check (is_short lent (memory_needed s)) ShortMemory (refusal s (do_pick_pieces a free draws))) blocks flags loops used e) few i j f g;
}
