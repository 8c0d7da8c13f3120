-- What the tests of a pick say of a piece in a well-formed picker: that the peer has it, that it is not flushed, and that it has a
-- priority. Assumes nothing.
use mathlib.Core.Path.{◌≡◌, refl, sym, ap, ◌∙◌}
use Prim.Native.Nat.{ℕ, zero, suc, ◌+◌, ◌<◌}
use native.Mathlib.Omega.{arith}
use mathlib.Core.Bool.{Bool, true, false, not, ◌&&◌, ◌||◌, true≢false}
use lib.Dec.{eqb, ltb, leb}
use borrow.Author.Tests.{ltb-true, eqb-true, eqb-false, not-true, le-ltb}
use Rattle.types.specs.declared.queue.DownloadQueue.{DownloadQueue}
use Rattle.types.specs.declared.queue.DownloadQueue.TheVariants.{Downloading, Full, Finished as FinishedQueue, ZeroPrio, Open}
use Rattle.types.specs.declared.queue.DownloadQueue.TheVariants.{DownloadingReverse, FullReverse}
use Rattle.types.specs.declared.block.BlockState.{BlockState}
use Rattle.types.specs.Queue.{queue_number, unreverse}
use Rattle.types.specs.Block.{block_state_number}
use Rattle.types.specs.Bits.{meets}
use Rattle.types.proofs.Bits.{union_bit}
use Rattle.types.proofs.QueueNumbers.{queue_numbers}
use Rattle.types.proofs.BlockNumbers.{block_state_numbers}
use Rattle.model.specs.Lists.{len}
use Rattle.model.specs.Bep3.{bit_at, bitfield_bytes}
use Rattle.model.specs.State.{Piece, DownloadingPiece, Picker, same_queue, is_open, same_block_state, piece_at, pieces_in, piece_size_at}
use Rattle.model.specs.State.{max_peers, max_priority, max_wanted, max_contiguous, max_suggestions}
use Rattle.model.specs.Options.{on_parole, rarest_first, sequential}
use Rattle.model.specs.change.Partials.{new_state}
use Rattle.model.specs.pick.Blocks.{PickRequest, option, has_bit, is_piece_free}
use Rattle.model.specs.pick.Pick.{is_forced, forced_request, effective_request}
use Rattle.model.specs.image.WellFormed.{piece_ok, state_ok}
use Rattle.model.specs.image.Sound.{Sound}
use Rattle.model.specs.Calls.{bitfield_fits, request_fits}
use Rattle.model.proofs.base.Phases.{cond_arms}
use Rattle.model.proofs.base.Truths.{and_left, four_true, three_true, by_test}

-- ---- kinds of state
-- queues of one number are one
pub queue_is : (p q : DownloadQueue) → same_queue p q ≡ true → p ≡ q
unfolding same_queue
queue_is p q h = queue_numbers.distinct p q (eqb-true (queue_number p) (queue_number q) h)

-- and so are states of a block
pub block_state_is : (p q : BlockState) → same_block_state p q ≡ true → p ≡ q
unfolding same_block_state
block_state_is p q h = block_state_numbers.distinct p q (eqb-true (block_state_number p) (block_state_number q) h)

full_not_open : (q : DownloadQueue) → same_queue (unreverse q) Full ≡ true → is_open q ≡ false
unfolding same_queue is_open
full_not_open Downloading h = refl
full_not_open Full h = refl
full_not_open FinishedQueue h = refl
full_not_open ZeroPrio h = refl
full_not_open Open h = absurd (true≢false (sym h))
full_not_open DownloadingReverse h = refl
full_not_open FullReverse h = refl

positive : (n : ℕ) → (n ≡ 0 → ⊥) → 0 < n
positive zero z = absurd (z refl)
positive (suc n) z = omega arith

-- ---- what is asked after the forcing rule
module _ (s : Picker) (a : PickRequest) where
  pub asked_peer : (effective_request s a).peer ≡ a.peer
  unfolding effective_request forced_request
  asked_peer = cond_arms (λ b. b.peer ≡ a.peer) (is_forced s a) (forced_request a) a (λ e. refl) (λ e. refl)

  pub asked_has : (i : ℕ) → has_bit (effective_request s a) i ≡ has_bit a i
  unfolding effective_request forced_request has_bit
  asked_has i = cond_arms (λ b. has_bit b i ≡ has_bit a i) (is_forced s a) (forced_request a) a (λ e. refl) (λ e. refl)

  or_false : (b : Bool) → (b || false) ≡ b
  or_false true = refl
  or_false false = refl

  pub asked_parole : option on_parole (effective_request s a) ≡ option on_parole a
  unfolding effective_request forced_request option
  asked_parole =
      cond_arms (λ b. option on_parole b ≡ option on_parole a) (is_forced s a) (forced_request a) a
      (λ e. union_bit 2 a.options 8 ∙ or_false (meets a.options 4)) (λ e. refl)

-- ---- pieces
-- the bitfield has a bit for each piece
pub fits_bits : (s : Picker) (a : PickRequest) → request_fits s a ≡ true → a.bits ≡ pieces_in s
unfolding request_fits bitfield_fits
fits_bits s a h =
    let bits = eqb a.bits (pieces_in s) in
    let bytes = eqb (len a.bytes) (bitfield_bytes a.bits) in
    let orders = not (option rarest_first a && option sequential a) in
    let few = leb (len a.suggestions) max_suggestions in
    let peers = leb a.peers max_peers in
    let p = four_true (leb 1 a.wanted) (leb a.wanted max_wanted) (leb a.contiguous max_contiguous)
    (peers && (few && (orders && (bits && bytes)))) h in
    let q = four_true peers few orders (bits && bytes) p.3 in
    eqb-true a.bits (pieces_in s) (and_left bits bytes q.3)

-- a piece that the peer has is one of the torrent
pub has_within : (s : Picker) (a : PickRequest) → request_fits s a ≡ true → (i : ℕ) → has_bit a i ≡ true → i < pieces_in s
unfolding has_bit
has_within s a f i h =
    let l = ltb-true i a.bits (and_left (ltb i a.bits) (bit_at a.bytes i) h) in
    omega (arith, fits_bits s a f)

-- a piece that is free for the peer
pub record FreePiece (s : Picker) (a : PickRequest) (i : ℕ) : Type 0 where
  pub has : has_bit a i ≡ true
  pub not_flushed : (piece_at s i).flushed ≡ false
  pub priority : 0 < (piece_at s i).priority

pub free_piece : (s : Picker) (a : PickRequest) (i : ℕ) → is_piece_free a s i ≡ true → FreePiece s a i
unfolding is_piece_free
free_piece s a i h =
    let p = three_true (has_bit a i) (not (piece_at s i).flushed) (not (eqb (piece_at s i).priority 0)) h in
    record {
      has = p.0;
      not_flushed = not-true (piece_at s i).flushed p.1;
      priority = positive (piece_at s i).priority (eqb-false (piece_at s i).priority 0 (not-true (eqb (piece_at s i).priority 0) p.2));
    }

-- ---- Full pieces
flushed_no : (b o : Bool) → (not b || o) ≡ true → o ≡ false → b ≡ false
flushed_no true o h e = absurd (true≢false (sym h ∙ e))
flushed_no false o h e = refl

-- a Full piece is not flushed: a flushed one is Open
pub full_missing : (s : Picker) (i : ℕ) → Sound s → i < pieces_in s → same_queue (unreverse (piece_at s i).state) Full ≡ true
    → (piece_at s i).flushed ≡ false
unfolding piece_ok
full_missing s i h l q =
    let p = piece_at s i in
    let k = four_true (leb (p.peer_count + s.seeds) max_peers) (leb p.priority max_priority) (not p.flushed || is_open p.state)
    (leb p.pad_bytes (piece_size_at s i)) (h.piece i l) in
    flushed_no p.flushed (is_open p.state) k.2 (full_not_open p.state q)

-- it has a priority: without one it would be ZeroPrio
pub full_priority : (p : Piece) (d : DownloadingPiece) → state_ok p d ≡ true → same_queue (unreverse p.state) Full ≡ true → 0 < p.priority
unfolding state_ok new_state
full_priority p d o q =
    by_test (eqb p.priority 0)
    (λ e. let z = rw (le-ltb 0 p.priority (omega (arith, eqb-true p.priority 0 e)), e) at o in
    absurd (apart (queue_is (unreverse p.state) Full q) (queue_is (unreverse p.state) ZeroPrio z)))
    (λ e. positive p.priority (eqb-false p.priority 0 e))
  where
    apart : {r : DownloadQueue} → r ≡ Full → r ≡ ZeroPrio → ⊥
    apart e f = let n = sym (ap queue_number e) ∙ ap queue_number f in omega arith
