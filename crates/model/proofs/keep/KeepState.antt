-- The state that a piece's blocks and priority give is the right one, and putting it in makes a picker well-formed.
use mathlib.Core.Path.{◌≡◌, refl, sym}
use mathlib.Core.Logic.{◌⊎◌, inl, inr}
use Prim.Native.Nat.{ℕ, ◌+◌, ◌<◌}
use native.Mathlib.Decide.{ℕ_discrete}
use native.Mathlib.Omega.{arith}
use mathlib.Core.Bool.{Bool, true, false, cond, not, ◌&&◌, ◌||◌, true≢false, or-true}
use mathlib.Core.List.{List}
use mathlib.Core.Option.{some}
use lib.Dec.{eqb, ltb}
use borrow.Author.Tests.{eqb-true, eqb-false, eq-eqb, lt-ltb}
use Rattle.types.specs.declared.queue.DownloadQueue.{DownloadQueue}
use Rattle.types.specs.declared.queue.DownloadQueue.TheVariants.{Downloading, Full, Finished as FinishedQueue, ZeroPrio, Open}
use Rattle.types.specs.declared.queue.DownloadQueue.TheVariants.{DownloadingReverse, FullReverse}
use Rattle.types.specs.declared.block.BlockState.TheVariants.{Requested}
use Rattle.types.specs.Queue.{queue_number, unreverse, make_reverse, is_reverse}
use Rattle.types.proofs.QueueNumbers.{queue_numbers}
use Rattle.model.specs.Lists.{bit, len}
use Rattle.model.specs.State.{Piece, DownloadingPiece, Picker, is_open, same_queue, with_state, with_piece, with_pieces, piece_at, pieces_in}
use Rattle.model.specs.State.{blocks_in_piece}
use Rattle.model.specs.list.Order.{Drawing}
use Rattle.model.specs.change.Partials.{partial_of, progress, blocks_in_state, in_direction, new_state, set_state, move_state, update_state_of}
use Rattle.model.specs.change.Partials.{update_piece_state}
use Rattle.model.specs.image.WellFormed.{piece_ok, state_ok}
use Rattle.model.specs.list.Listed.{ListingOk}
use Rattle.model.specs.image.Sound.{Sound}
use Rattle.model.proofs.base.Phases.{unless_arms}
use Rattle.model.proofs.list.RankLaws.{piece_at_same}
use Rattle.model.proofs.sound.SoundBody.{Frame, At, taken, Body, BodyBut, fits_partial, partial_fits, piece_in, in_piece, sound_body}
use Rattle.model.proofs.sound.SoundBody.{body_sound, sound_standing, within}
use Rattle.model.proofs.sound.SoundFields.{frame_piece, at_piece, alone_piece, moved_sound}
use Rattle.model.proofs.base.Truths.{or_no_right}

-- ---- queues
-- queues with the same number are one
same_queue_lem : (p q : DownloadQueue) → same_queue p q ≡ true → p ≡ q
unfolding same_queue
same_queue_lem p q e = queue_numbers.distinct p q (eqb-true (queue_number p) (queue_number q) e)

queue_same : (q : DownloadQueue) → same_queue q q ≡ true
unfolding same_queue
queue_same q = eq-eqb (queue_number q) (queue_number q) refl

-- ---- the state due
plain_in_direction : (current q : DownloadQueue) → unreverse (in_direction current q) ≡ unreverse q
unfolding in_direction
plain_in_direction current q = go (is_reverse current) q
  where
    go : (b : Bool) (q : DownloadQueue) → unreverse (cond b (make_reverse q) q) ≡ unreverse q
    go true Downloading = refl
    go true Full = refl
    go true FinishedQueue = refl
    go true ZeroPrio = refl
    go true Open = refl
    go true DownloadingReverse = refl
    go true FullReverse = refl
    go false q = refl

-- without its direction it does not depend on the state before
plain_due : (d : DownloadingPiece) (priority : ℕ) (current : DownloadQueue) → unreverse (new_state d priority current) ≡ new_state d priority Open
unfolding new_state in_direction
plain_due d priority current =
    go (eqb priority 0) (eqb (progress d + bit d.hashing) 0) (ltb (progress d) (len d.blocks)) (ltb 0 (blocks_in_state Requested d))
  where
    go : (a b c e : Bool)
        → unreverse (cond a ZeroPrio (cond b Open (cond c (in_direction current Downloading) (cond e (in_direction current Full) FinishedQueue))))
        ≡ cond a ZeroPrio (cond b Open (cond c Downloading (cond e Full FinishedQueue)))
    go true b c e = refl
    go false true c e = refl
    go false false true e = plain_in_direction current Downloading
    go false false false true = plain_in_direction current Full
    go false false false false = refl

-- put in, it is right
due_right : (d : DownloadingPiece) (p : Piece) (current : DownloadQueue) → p.state ≡ new_state d p.priority current → state_ok p d ≡ true
unfolding state_ok
due_right d p current e =
    rw (e, plain_due d p.priority current, queue_same (new_state d p.priority Open)) (or-true (ltb 0 p.priority && eqb (progress d) 0))

-- where it is Open the piece is wished and has no block at work, and any state is right for that
left_exempt : (d : DownloadingPiece) (priority : ℕ) (current : DownloadQueue) → is_open (new_state d priority current) ≡ true
    → (ltb 0 priority && eqb (progress d) 0) ≡ true
unfolding new_state in_direction is_open same_queue
left_exempt d priority current o =
    go (eqb priority 0) refl (eqb (progress d + bit d.hashing) 0) refl (ltb (progress d) (len d.blocks)) (ltb 0 (blocks_in_state Requested d))
    (is_reverse current) o
  where
    go : (a : Bool) → eqb priority 0 ≡ a → (b : Bool) → eqb (progress d + bit d.hashing) 0 ≡ b → (c e r : Bool)
        → is_open (cond a ZeroPrio
        (cond b Open (cond c (cond r DownloadingReverse Downloading) (cond e (cond r FullReverse Full) FinishedQueue)))) ≡ true
        → (ltb 0 priority && eqb (progress d) 0) ≡ true
    go true p b q c e r o = absurd (true≢false (sym o))
    go false p true q c e r o =
        let h = eqb-true (progress d + bit d.hashing) 0 q in
        rw (lt-ltb 0 priority (omega (arith, eqb-false priority 0 p)), eq-eqb (progress d) 0 (omega arith)) refl
    go false p false q true e true o = absurd (true≢false (sym o))
    go false p false q true e false o = absurd (true≢false (sym o))
    go false p false q false true true o = absurd (true≢false (sym o))
    go false p false q false true false o = absurd (true≢false (sym o))
    go false p false q false false r o = absurd (true≢false (sym o))

left_right : (d : DownloadingPiece) (p : Piece) (current : DownloadQueue) → is_open (new_state d p.priority current) ≡ true → state_ok p d ≡ true
unfolding state_ok
left_right d p current o = rw (left_exempt d p.priority current o)

-- ---- all but the state of one piece
-- a well-formed picker has that of each
pub sound_but : (i : ℕ) (d : DownloadingPiece) (s : Picker) → partial_of s i ≡ some d → Sound s → BodyBut i d s
sound_but i d s f v = record {
  frame = (sound_body s v).frame;
  others = λ k n. (sound_body s v).all k;
  standing = sound_standing s i d v f;
  found = f;
  fits = partial_fits s i d (v.partial i d f);
}

-- and with a right state it is all
pub but_body : (i : ℕ) (d : DownloadingPiece) (s : Picker) → BodyBut i d s → state_ok (piece_at s i) d ≡ true → Body s
but_body i d s b o = record { frame = b.frame; all = all }
  where
    all : (k : ℕ) → At s k
    all k = elim (ℕ_discrete k i) [
      | yes e ↦ rw e (taken d b.standing b.found (fits_partial s i d b.fits o))
      | no n ↦ b.others k n
    ]

-- a piece that is not Open is not had
not-flushed : (s : Picker) (i : ℕ) → Frame s → is_open (piece_at s i).state ≡ false → (piece_at s i).flushed ≡ false
not-flushed s i f o = go (piece_at s i).flushed (rw o at (piece_in s i (piece_at s i) (f.piece i (within s i o))).flushed)
  where
    go : (b : Bool) → (not b || false) ≡ true → b ≡ false
    go true h = sym h
    go false h = refl

-- a piece in another state is in range
pub state_in : (s : Picker) (i : ℕ) (p : Piece) (q : DownloadQueue)
    → piece_ok s i p ≡ true → (not p.flushed || is_open q) ≡ true → piece_ok s i (with_state q p) ≡ true
unfolding with_state
state_in s i p q h o =
    let r = piece_in s i p h in
    in_piece s i (with_state q p) (record { peers = r.peers; priority = r.priority; flushed = o; pad_bytes = r.pad_bytes })

-- another state put in that is not Open
pub but_state : (i : ℕ) (d : DownloadingPiece) (s : Picker) (q : DownloadQueue)
    → is_open q ≡ false → BodyBut i d s → BodyBut i d (with_piece i (with_state q) s)
unfolding with_piece with_pieces partial_of blocks_in_piece with_state
but_state i d s q o b = record {
  frame = frame_piece s b.frame i (with_state q) here in_range_lem;
  others = λ k n. at_piece s k (b.others k n) i (with_state q) n;
  standing = rw (piece_at_same i (with_state q) s here) o;
  found = b.found;
  fits = b.fits;
}
  where
    here : i < pieces_in s
    here = within s i b.standing

    in_range_lem : piece_ok s i (with_state q (piece_at s i)) ≡ true
    in_range_lem = state_in s i (piece_at s i) q (b.frame.piece i here) (rw (not-flushed s i b.frame b.standing))

-- the right one
set_body : (i : ℕ) (d : DownloadingPiece) (s : Picker) (q : DownloadQueue)
    → is_open q ≡ false → q ≡ new_state d (piece_at s i).priority (piece_at s i).state → BodyBut i d s → Body (with_piece i (with_state q) s)
unfolding with_state
set_body i d s q o e b =
    but_body i d (with_piece i (with_state q) s) (but_state i d s q o b)
    (rw (piece_at_same i (with_state q) s (within s i b.standing)) (due_right d (with_state q (piece_at s i)) (piece_at s i).state e))

either : (a b : Bool) → (a || b) ≡ true → (a ≡ true) ⊎ (b ≡ true)
either true b h = inl refl
either false b h = inr h

-- ---- the update
-- whatever the state of piece i was, after it all is right
pub update_keeps : (ds : List ℕ) (i : ℕ) (d : DownloadingPiece) (w : Drawing)
    → BodyBut i d w.picker → ListingOk w.picker → Sound (update_piece_state ds i w).picker
unfolding update_piece_state update_state_of move_state set_state
update_keeps ds i d w b l =
    rw b.found (unless_arms (λ v. Sound v.picker) (same_queue q p.state || is_open q) (set_state ds i q) w new old)
  where
    p : Piece
    p = piece_at w.picker i

    q : DownloadQueue
    q = new_state d p.priority p.state

    new : (same_queue q p.state || is_open q) ≡ false → Sound (set_state ds i q w).picker
    new e =
        moved_sound ds i (with_piece i (with_state q)) w (alone_piece i (with_state q) w.picker) l
        (set_body i d w.picker q (or_no_right (same_queue q p.state) (is_open q) e) refl b)

    right : (same_queue q p.state ≡ true) ⊎ (is_open q ≡ true) → state_ok p d ≡ true
    right (inl e) = due_right d p p.state (sym (same_queue_lem q p.state e))
    right (inr e) = left_right d p p.state e

    old : (same_queue q p.state || is_open q) ≡ true → Sound w.picker
    old e = body_sound w.picker (but_body i d w.picker b (right (either (same_queue q p.state) (is_open q) e))) l
