-- A piece turned reverse or back keeps a picker well-formed.
use mathlib.Core.Path.{◌≡◌, refl, sym, ap, ◌∙◌}
use Prim.Native.Nat.{ℕ}
use mathlib.Core.Bool.{Bool, true, false, not, ◌&&◌, true≢false}
use mathlib.Core.List.{List}
use mathlib.Core.Option.{Option, none, some}
use lib.Dec.{eqb, ltb}
use Rattle.types.specs.declared.queue.DownloadQueue.{DownloadQueue}
use Rattle.types.specs.declared.queue.DownloadQueue.TheVariants.{Downloading, Full, Finished as FinishedQueue, ZeroPrio, Open}
use Rattle.types.specs.declared.queue.DownloadQueue.TheVariants.{DownloadingReverse, FullReverse}
use Rattle.types.specs.declared.block.BlockState.TheVariants.{Requested}
use Rattle.types.specs.Queue.{unreverse, make_reverse, is_reverse}
use Rattle.model.specs.State.{DownloadingPiece, Picker, is_open, same_queue, with_state, with_listing, with_piece, with_pieces, mark_dirty}
use Rattle.model.specs.State.{piece_at}
use Rattle.model.specs.list.Order.{Drawing, drawing, rank}
use Rattle.model.specs.change.Partials.{partial_of, blocks_in_state, set_state}
use Rattle.model.specs.change.Changes.{set_direction, make_piece_reverse, unreverse_piece}
use Rattle.model.specs.image.WellFormed.{state_ok}
use Rattle.model.specs.image.Sound.{Sound}
use Rattle.model.proofs.base.Truths.{both_true}
use Rattle.model.proofs.base.Phases.{cond_arms, when_arms}
use Rattle.model.proofs.list.RankLaws.{piece_at_same}
use Rattle.model.proofs.sound.SoundBody.{Body, sound_standing, within}
use Rattle.model.proofs.sound.SoundFields.{alone_piece, moved_blind, moved_sound, mark_dirty_sound}
use Rattle.model.proofs.keep.KeepState.{sound_but, but_body, but_state}

-- ---- queues and their directions
plain_open : (q : DownloadQueue) → is_open (unreverse q) ≡ is_open q
unfolding is_open same_queue
plain_open Downloading = refl
plain_open Full = refl
plain_open FinishedQueue = refl
plain_open ZeroPrio = refl
plain_open Open = refl
plain_open DownloadingReverse = refl
plain_open FullReverse = refl

plain_reverse : (q : DownloadQueue) → unreverse (make_reverse q) ≡ unreverse q
plain_reverse Downloading = refl
plain_reverse Full = refl
plain_reverse FinishedQueue = refl
plain_reverse ZeroPrio = refl
plain_reverse Open = refl
plain_reverse DownloadingReverse = refl
plain_reverse FullReverse = refl

plain_plain : (q : DownloadQueue) → unreverse (unreverse q) ≡ unreverse q
plain_plain Downloading = refl
plain_plain Full = refl
plain_plain FinishedQueue = refl
plain_plain ZeroPrio = refl
plain_plain Open = refl
plain_plain DownloadingReverse = refl
plain_plain FullReverse = refl

reverse_shut : (q : DownloadQueue) → is_reverse q ≡ true → is_open q ≡ false
unfolding is_open same_queue
reverse_shut Downloading e = refl
reverse_shut Full e = refl
reverse_shut FinishedQueue e = refl
reverse_shut ZeroPrio e = refl
reverse_shut Open e = sym e
reverse_shut DownloadingReverse e = refl
reverse_shut FullReverse e = refl

-- ---- a piece turned
-- the picker is well-formed, and the partial of piece i is d
pub record SoundWith (i : ℕ) (d : DownloadingPiece) (w : Drawing) : Type 0 where
  pub sound : Sound w.picker
  pub found : partial_of w.picker i ≡ some d

module _ (ds : List ℕ) (i : ℕ) where
  module _ (d : DownloadingPiece) (w : Drawing) (g : SoundWith i d w) where
    shut : is_open (piece_at w.picker i).state ≡ false
    shut = sound_standing w.picker i d g.sound g.found

    -- the direction alone changed
    turned_body : (q : DownloadQueue) → unreverse q ≡ unreverse (piece_at w.picker i).state → Body (with_piece i (with_state q) w.picker)
    unfolding with_state state_ok
    turned_body q e = but_body i d (with_piece i (with_state q) s) (but_state i d s q still_shut (sound_but i d s g.found g.sound)) right
      where
        s : Picker
        s = w.picker

        still_shut : is_open q ≡ false
        still_shut = sym (plain_open q) ∙ ap is_open e ∙ plain_open (piece_at s i).state ∙ shut

        right : state_ok (piece_at (with_piece i (with_state q) s) i) d ≡ true
        right = rw (piece_at_same i (with_state q) s (within s i shut), e) (g.sound.partial i d g.found).state

    -- a piece turned reverse or back; the list is dirty where the piece got a bucket by it
    pub turn_keeps : (q : DownloadQueue) → unreverse q ≡ unreverse (piece_at w.picker i).state → SoundWith i d (set_direction ds i q w)
    unfolding set_direction set_state drawing mark_dirty with_listing with_piece with_pieces partial_of
    turn_keeps q e =
        cond_arms (SoundWith i d) (eqb (rank w.picker i) 0 && ltb 0 (rank t i)) (drawing w.used (mark_dirty t)) (set_state ds i q w)
        (λ h. record { sound = mark_dirty_sound t b; found = g.found })
        (λ h. record {
          sound = moved_sound ds i (with_piece i (with_state q)) w (alone_piece i (with_state q) w.picker) g.sound.list b;
          found = moved_blind (λ u. partial_of u i ≡ some d) (λ l u p. p) ds i (with_piece i (with_state q)) w g.found;
        })
      where
        t : Picker
        t = with_piece i (with_state q) w.picker

        b : Body t
        b = turned_body q e

    -- turned reverse where that was asked for and nobody works on it
    pub make_piece_reverse_keeps : (back : Bool) → SoundWith i d (make_piece_reverse ds i back d w)
    unfolding make_piece_reverse
    make_piece_reverse_keeps back =
        let q = (piece_at w.picker i).state in
        when_arms (SoundWith i d) (back && (not (is_reverse q) && eqb (blocks_in_state Requested d) 0)) (set_direction ds i (make_reverse q)) w
        (λ h. turn_keeps (make_reverse q) (plain_reverse q)) (λ h. g)

  -- turned back where it was not
  pub unreverse_piece_keeps : (back : Bool) (w : Drawing) → Sound w.picker → Sound (unreverse_piece ds i back w).picker
  unfolding unreverse_piece
  unreverse_piece_keeps back w v =
      when_arms (λ u. Sound u.picker) (not back && is_reverse q) (set_direction ds i (unreverse q)) w
      (λ h. go (both_true (not back) (is_reverse q) h).1 (partial_of w.picker i) refl) (λ h. v)
    where
      q : DownloadQueue
      q = (piece_at w.picker i).state

      go : is_reverse q ≡ true → (o : Option DownloadingPiece) → partial_of w.picker i ≡ o → Sound (set_direction ds i (unreverse q) w).picker
      go r none e = absurd (true≢false (sym (v.standing i e) ∙ reverse_shut q r))
      go r (some d) e = (turn_keeps d w (record { sound = v; found = e }) (unreverse q) (plain_plain q)).sound
