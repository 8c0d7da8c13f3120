-- Every call keeps a picker well-formed.
use mathlib.Core.Path.{◌≡◌, refl, sym}
use Prim.Native.Nat.{ℕ, zero, suc, ◌+◌, ◌%◌, ◌^◌, ◌≤◌, ◌<◌}
use native.Mathlib.Nat.{mod-lt, le_of_suc-le-suc}
use native.Mathlib.Omega.{arith}
use mathlib.Core.Bool.{Bool, true, false, not, ◌&&◌, true≢false}
use mathlib.Core.List.{List, [], ◌∷◌}
use mathlib.Core.Option.{Option, none, some, none-ne-some}
use lib.Dec.{eqb, ltb, leb}
use borrow.Author.Tests.{leb-false, ltb-false, lt-ltb, not-false}
use Rattle.types.specs.declared.block.BlockState.TheVariants.{Requested}
use Rattle.types.specs.declared.refusal.Refusal.{Refusal}
use Rattle.types.specs.declared.refusal.Refusal.TheVariants.{ShortMemory, FewDraws, OutOfRange, TooManyPeers, NoPeerToTake, HavePiece}
use Rattle.types.specs.declared.refusal.Refusal.TheVariants.{NotWriting, TooManyPartials, PickArguments}
use Rattle.model.specs.Lists.{any, nth, len}
use Rattle.model.specs.State.{Piece, DownloadingPiece, Picker, max_peers, max_priority, same_block_state, min_draws, no_piece, piece_at}
use Rattle.model.specs.State.{pieces_in, blocks_in_piece}
use Rattle.model.specs.list.Order.{drawing}
use Rattle.model.specs.change.Partials.{partial_of, block_at}
use Rattle.model.specs.change.Changes.{quietly}
use Rattle.model.specs.ask.Questions.{block_in, block_test}
use Rattle.model.specs.pick.Blocks.{PickRequest, option}
use Rattle.model.specs.image.WellFormed.{peer_ok}
use Rattle.model.specs.image.Sound.{Sound}
use Rattle.model.specs.Memory.{memory_needed, is_short}
use Rattle.model.specs.Calls.{Action, question, do_inc_refcount, do_dec_refcount, do_inc_refcount_all, do_dec_refcount_all, do_set_piece_priority}
use Rattle.model.specs.Calls.{do_mark_as_downloading, do_mark_as_writing, do_mark_as_finished, do_mark_as_canceled, do_abort_download, do_lock_piece}
use Rattle.model.specs.Calls.{do_piece_passed, do_pick_pieces, Call, check, refuse_few_draws, refuse_bad_piece as past_pieces}
use Rattle.model.specs.Calls.{refuse_bad_block as past_blocks, peers_full, num_peers_full, block_there, no_partial_left, bitfield_fits}
use Rattle.model.specs.Calls.{request_fits, refusal, answering, changing, doing, lent_peer, lent_request, picking, act}
use Rattle.model.specs.Calls.{unless_refused, step, run}
use Rattle.model.proofs.keep.KeepCounts.{inc_refcount_keeps, dec_refcount_keeps, inc_refcount_all_keeps, dec_refcount_all_keeps}
use Rattle.model.proofs.keep.KeepBlocks.{lock_piece_keeps}
use Rattle.model.proofs.keep.KeepClose.{piece_passed_keeps}
use Rattle.model.proofs.keep.KeepMarks.{mark_as_downloading_keeps, mark_as_writing_keeps, mark_as_finished_keeps, mark_as_canceled_keeps}
use Rattle.model.proofs.keep.KeepMarks.{abort_download_keeps}
use Rattle.model.proofs.pick.SoundPick.{pick_sound}
use Rattle.model.proofs.keep.KeepPriority.{set_piece_priority_keeps}
use Rattle.model.proofs.base.Truths.{or_no_left, or_no_right}

-- ---- what a call that is not refused knows
-- a check that does not refuse failed, and so did those after it
pub check-none : (b : Bool) (x : Refusal) (r : Option Refusal) → check b x r ≡ none → (b ≡ false) × (r ≡ none)
unfolding check
check-none true x r e = absurd (none-ne-some x (sym e))
check-none false x r e = (refl, e)

drawn : (ds : List ℕ) (r : Option Refusal) → refuse_few_draws ds r ≡ none → r ≡ none
unfolding refuse_few_draws
drawn ds r e = (check-none (ltb (len ds) min_draws) FewDraws r e).1

-- the piece is one of the picker's
here : (s : Picker) (i : ℕ) (r : Option Refusal) → past_pieces s i r ≡ none → (i < pieces_in s) × (r ≡ none)
unfolding past_pieces
here s i r e = let c = check-none (leb (pieces_in s) i) OutOfRange r e in (leb-false (pieces_in s) i c.0, c.1)

-- and so is the piece of a block
here_block : (s : Picker) (i j : ℕ) (r : Option Refusal) → past_blocks s i j r ≡ none → (i < pieces_in s) × (r ≡ none)
unfolding past_blocks
here_block s i j r e =
    let c = here s i (check (leb (blocks_in_piece s i) j) OutOfRange r) e in
    (c.0, (check-none (leb (blocks_in_piece s i) j) OutOfRange r c.1).1)

-- the lent peer is in range
lent_right : (peer : Option ℕ) → peer_ok (lent_peer peer) ≡ true
unfolding peer_ok lent_peer
lent_right none = refl
lent_right (some n) = lt-ltb (n % 2 ^ 64) (2 ^ 64) (mod-lt n (omega arith))

-- the request fits, whoever it is for
pub pick_fits : (s : Picker) (a : PickRequest) (free : ℕ) (ds : List ℕ) → refusal s (do_pick_pieces a free ds) ≡ none
    → request_fits s (lent_request a) ≡ true
unfolding refusal request_fits bitfield_fits option lent_request
pick_fits s a free ds e = not-false (request_fits s a) (check-none (not (request_fits s a)) PickArguments _ (drawn ds _ e)).0

not_full : (s : Picker) (p : Piece) → peers_full s p ≡ false → p.peer_count + s.seeds < max_peers
unfolding peers_full
not_full s p e = leb-false max_peers (p.peer_count + s.seeds) e

-- a test that none of a list passes fails at each place
none_passes : (t : Piece → Bool) (e : Piece) (l : List Piece) → any t l ≡ false → (i : ℕ) → i < len l → t (nth e l i) ≡ false
unfolding any nth len
none_passes t e [] h i k = absurd (omega arith)
none_passes t e (x ∷ xs) h zero k = or_no_left (t x) (any t xs) h
none_passes t e (x ∷ xs) h (suc i) k = none_passes t e xs (or_no_right (t x) (any t xs) h) i (le_of_suc-le-suc k)

-- a peer or a seed is there to be taken away
some_peer : (c n : ℕ) → (eqb n 0 && eqb c 0) ≡ false → 1 ≤ c + n
some_peer zero zero e = absurd (true≢false e)
some_peer zero (suc n) e = omega arith
some_peer (suc c) n e = omega arith

-- a block that may be asked for has room for a requester
not_asked_full : (s : Picker) (i j : ℕ) → block_test num_peers_full (block_there s i j) ≡ false
    → (d : DownloadingPiece) → partial_of s i ≡ some d → num_peers_full (block_at d j) ≡ false
unfolding block_test block_there block_in
not_asked_full s i j e d f = rw f at e

-- ---- all calls
-- what a call does that is not refused keeps a picker well-formed
pub act_keeps : (s : Picker) (x : Action) → Sound s → refusal s x ≡ none → Sound (act s x).after
unfolding refusal act answering doing changing quietly picking drawing piece_at pieces_in
act_keeps s (question q) v e = v
act_keeps s (do_inc_refcount i ds) v e =
    let c = here s i _ (drawn ds _ e) in
    let full = check-none (peers_full s (piece_at s i)) TooManyPeers none c.1 in
    inc_refcount_keeps ds i (drawing 0 s) c.0 (not_full s (piece_at s i) full.0) v
act_keeps s (do_dec_refcount i ds) v e =
    let c = here s i _ (drawn ds _ e) in
    let gone = check-none (eqb s.seeds 0 && eqb (piece_at s i).peer_count 0) NoPeerToTake none c.1 in
    dec_refcount_keeps ds i (drawing 0 s) c.0 (some_peer (piece_at s i).peer_count s.seeds gone.0) v
act_keeps s do_inc_refcount_all v e =
    let full = check-none (any (peers_full s) s.pieces) TooManyPeers none e in
    inc_refcount_all_keeps s (λ i h. not_full s (piece_at s i) (none_passes (peers_full s) no_piece s.pieces full.0 i h)) v
act_keeps s do_dec_refcount_all v e = dec_refcount_all_keeps s v
act_keeps s (do_set_piece_priority i priority ds) v e =
    let c = here s i _ (drawn ds _ e) in
    let high = check-none (ltb max_priority priority) OutOfRange none c.1 in
    set_piece_priority_keeps ds i priority (drawing 0 s) c.0 (ltb-false max_priority priority high.0) v
act_keeps s (do_mark_as_downloading i j peer options ds) v e =
    let c = here_block s i j _ (drawn ds _ e) in
    let full = check-none (block_test num_peers_full (block_there s i j)) TooManyPeers _ c.1 in
    let flushed = check-none (piece_at s i).flushed HavePiece _ full.1 in
    let room = check-none (no_partial_left s i) TooManyPartials none flushed.1 in
    mark_as_downloading_keeps ds i j (lent_peer peer) (drawing 0 s) v options c.0 (lent_right peer)
    (not_asked_full s i j full.0) flushed.0 room.0
act_keeps s (do_mark_as_writing i j peer ds) v e =
    let c = here_block s i j _ (drawn ds _ e) in
    let room = check-none (no_partial_left s i) TooManyPartials none c.1 in
    mark_as_writing_keeps ds i j (lent_peer peer) (drawing 0 s) v c.0 (lent_right peer) room.0
act_keeps s (do_mark_as_finished i j peer ds) v e =
    let c = here_block s i j _ (drawn ds _ e) in
    let asked = check-none (block_test (λ b. same_block_state b.state Requested) (block_there s i j)) NotWriting _ c.1 in
    let room = check-none (no_partial_left s i) TooManyPartials none asked.1 in
    mark_as_finished_keeps ds i j (lent_peer peer) (drawing 0 s) v c.0 (lent_right peer) room.0
act_keeps s (do_mark_as_canceled i j peer ds) v e = mark_as_canceled_keeps ds i j (lent_peer peer) (drawing 0 s) v (lent_right peer)
act_keeps s (do_abort_download i j peer ds) v e = abort_download_keeps ds i j (lent_peer peer) (drawing 0 s) v
act_keeps s (do_lock_piece i) v e = lock_piece_keeps i s v
act_keeps s (do_piece_passed i) v e = piece_passed_keeps i s v
act_keeps s (do_pick_pieces a free ds) v e = pick_sound ds s (lent_request a) v (pick_fits s a free ds e)

-- a call, refused or not
pub step_keeps : (s : Picker) (c : Call) → Sound s → Sound (step s c).after
unfolding step unless_refused answering
step_keeps s c v = go (check (is_short c.lent (memory_needed s)) ShortMemory (refusal s c.action)) refl
  where
    go : (r : Option Refusal) → check (is_short c.lent (memory_needed s)) ShortMemory (refusal s c.action) ≡ r
        → Sound (unless_refused r s c.action).after
    go none e = act_keeps s c.action v (check-none (is_short c.lent (memory_needed s)) ShortMemory (refusal s c.action) e).1
    go (some n) e = v

-- any calls, one after another
pub run_keeps : (s : Picker) (cs : List Call) → Sound s → Sound (run s cs)
unfolding run
run_keeps s [] v = v
run_keeps s (c ∷ cs) v = run_keeps (step s c).after cs (step_keeps s c v)
