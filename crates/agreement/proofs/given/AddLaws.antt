-- What a piece adds: where each block of a free Open piece, and each free block of a free partial, is fine, so is all that is given and
-- set aside. Assumes nothing.
use mathlib.Core.Path.{◌≡◌, sym, subst, ◌∙◌}
use Prim.Native.Nat.{ℕ, ◌+◌, ◌%◌, ◌≤◌, ◌<◌}
use native.Mathlib.Nat.{mod-lt}
use native.Mathlib.Omega.{arith}
use mathlib.Core.Bool.{true, cond, not, ◌&&◌, ◌||◌}
use mathlib.Core.List.{List, [], ◌∷◌}
use mathlib.Core.Option.{Option, none, some}
use lib.ListN.{take}
use Rattle.types.specs.declared.queue.DownloadQueue.TheVariants.{Downloading}
use Rattle.types.specs.declared.block.BlockState.TheVariants.{None}
use Rattle.types.specs.Queue.{unreverse}
use Rattle.model.specs.Lists.{least, from, each, len, when, branch, walk, for_each}
use Rattle.model.specs.State.{Piece, DownloadingPiece, Picker, same_queue, is_open, same_block_state, piece_at, blocks_in_piece}
use Rattle.model.specs.State.{payload_blocks_in_piece, blocks_per_piece}
use Rattle.model.specs.Options.{on_parole, prioritize_partials, random_pieces, rand_loops}
use Rattle.model.specs.change.Partials.{partial_of, block_at}
use Rattle.model.specs.pick.Blocks.{PickRequest, option, has_bit, Contiguous, PieceBlock, PickState, with_out, with_contiguous, with_backup}
use Rattle.model.specs.pick.Blocks.{ignore, flagged, steps, with_picker, is_ignored, contiguous_is_zero, contiguous_above, shorter, whole_pieces}
use Rattle.model.specs.pick.Blocks.{is_piece_free, can_pick, expand_piece, pieces_of, piece_block, took, contiguous_met, contiguous_over, span_step}
use Rattle.model.specs.pick.Blocks.{take_span, take_payload, add_new_piece, RequestedFrom, requested_from, free_from, enough_aside, put_aside}
use Rattle.model.specs.pick.Blocks.{set_aside, free_halt, take_free, keeping_contiguous, use_free, add_blocks_downloading, add_partial_of}
use Rattle.model.specs.pick.Blocks.{add_standing, add_blocks, append_blocks}
use Rattle.model.specs.pick.Pick.{rand_step, take_all}
use Rattle.model.proofs.base.WalkLaws.{unless_keeps, when_keeps}
use Rattle.model.proofs.base.Phases.{branch_arms}
use Rattle.model.proofs.base.Truths.{true_both}
use Rattle.pick_laws.proofs.SpanLaws.{least_left}
use Rattle.agreement.proofs.given.EachLaws.{Each, none_left, and_then, each_append, each-take, each-filter, each_image, each_so}
use Rattle.agreement.proofs.given.EachLaws.{each_from, walk-each, for_each-each}
use Rattle.agreement.proofs.given.LikeLaws.{Like, like_piece, like_blocks, like_payload, like_partial, like_can}
use Rattle.agreement.proofs.given.SpanPieces.{span_each}

-- the partial of a piece that is free for the peer, and Downloading
pub record Usable (s : Picker) (a : PickRequest) (d : DownloadingPiece) : Type 0 where
  pub partial : partial_of s d.piece ≡ some d
  pub free : is_piece_free a s d.piece ≡ true
  pub state : same_queue (unreverse (piece_at s d.piece).state) Downloading ≡ true

-- the blocks that may be given: those of a free Open piece, and the free ones of a usable partial that is not locked
pub record Allows (s : Picker) (a : PickRequest) (Ok : PieceBlock → Type 0) : Type 0 where
  pub of_open : (i j : ℕ) → can_pick a s i ≡ true → j < blocks_in_piece s i → Ok (piece_block i j)
  pub of_partial :
      (d : DownloadingPiece) (j : ℕ) → Usable s a d
      → (has_bit a d.piece && (not d.locked && (not (option on_parole a) || (requested_from a.peer d).exclusive))) ≡ true
      → j < len d.blocks → same_block_state (block_at d j).state None ≡ true → Ok (piece_block d.piece j)

-- what a pick has come to: the pieces and partials are those of s, and all that is given and set aside is fine
pub record Clean (s : Picker) (Ok : PieceBlock → Type 0) (w : PickState) : Type 0 where
  pub like : Like s w.picker
  pub out : Each Ok w.out
  pub backup : Each Ok w.backup

-- ---- what leaves that alone
module _ (s : Picker) (Ok : PieceBlock → Type 0) (w : PickState) (h : Clean s Ok w) where
  pub clean_contiguous : (r : Contiguous) → Clean s Ok (with_contiguous r w)
  unfolding with_contiguous with_out
  clean_contiguous r = record { like = h.like; out = h.out; backup = h.backup }

  pub clean_ignore : (i : ℕ) → Clean s Ok (ignore i w)
  unfolding ignore
  clean_ignore i = record { like = h.like; out = h.out; backup = h.backup }

  pub clean_flag : (f : ℕ) → Clean s Ok (flagged f w)
  unfolding flagged
  clean_flag f = record { like = h.like; out = h.out; backup = h.backup }

  pub clean_steps : (n c : ℕ) → Clean s Ok (steps n c w)
  unfolding steps
  clean_steps n c = record { like = h.like; out = h.out; backup = h.backup }

  pub clean_picker : (q : Picker) (used : ℕ) → Like s q → Clean s Ok (with_picker q used w)
  unfolding with_picker
  clean_picker q used l = record { like = l; out = h.out; backup = h.backup }

  -- a block given
  pub clean_took : (i j : ℕ) → Ok (piece_block i j) → Clean s Ok (took i j w)
  unfolding took with_out
  clean_took i j o = record {
    like = h.like;
    out = each_append w.out (piece_block i j ∷ []) h.out (and_then o none_left);
    backup = h.backup;
  }

  -- a block set aside
  pub clean_aside : (i j : ℕ) → Ok (piece_block i j) → Clean s Ok (put_aside i j w)
  unfolding put_aside with_backup
  clean_aside i j o = record {
    like = h.like;
    out = h.out;
    backup = each_append w.backup (piece_block i j ∷ []) h.backup
        (and_then o none_left);
  }

  -- those set aside, given
  pub clean_append : Clean s Ok (append_blocks w)
  unfolding append_blocks with_backup with_out
  clean_append =
      let n = least (len w.backup) w.left in
      record {
        like = h.like;
        out = each_append w.out (take n w.backup) h.out (each-take n w.backup h.backup);
        backup = none_left;
      }

module _ (s : Picker) (a : PickRequest) (Ok : PieceBlock → Type 0) (ok : Allows s a Ok) where
  -- ---- Open pieces
  -- the first n blocks of one
  blocks_ok : (i n : ℕ) → can_pick a s i ≡ true → n ≤ blocks_in_piece s i → Each (λ j. Ok (piece_block i j)) (from 0 n)
  blocks_ok i n c l = each_so (λ j h. let m = h.1 in ok.of_open i j c (omega arith)) (from 0 n) (each_from 0 n)

  clean_payload : (i : ℕ) (w : PickState) → can_pick a s i ≡ true → Clean s Ok w → Clean s Ok (take_payload i w)
  unfolding take_payload walk
  clean_payload i w c h =
      walk-each (Clean s Ok) (took i) (λ j t o g. clean_took s Ok t g i j o) (λ j t. contiguous_met (took i j t))
      (from 0 (payload_blocks_in_piece w.picker i)) w
      (blocks_ok i (payload_blocks_in_piece w.picker i) c (like_payload s w.picker h.like i)) h

  clean_all : (i : ℕ) (w : PickState) → can_pick a s i ≡ true → Clean s Ok w → Clean s Ok (take_all i w)
  unfolding take_all walk rand_step
  clean_all i w c h =
      walk-each (Clean s Ok) (rand_step i) (λ j t o g. clean_took s Ok (steps 1 rand_loops t) (clean_steps s Ok t g 1 rand_loops) i j o)
      (λ j t. contiguous_over (rand_step i j t)) (from 0 (blocks_in_piece w.picker i)) (flagged random_pieces w)
      (blocks_ok i (blocks_in_piece w.picker i) c (omega (arith, like_blocks s w.picker h.like i)))
      (clean_flag s Ok w h random_pieces)

  -- a span
  clean_pieces : (takes : ℕ → PickState → PickState)
      → ((i : ℕ) (w : PickState) → can_pick a s i ≡ true → Clean s Ok w → Clean s Ok (takes i w))
      → (is : List ℕ) (w : PickState) → Each (λ i. can_pick a s i ≡ true) is → Clean s Ok w → Clean s Ok (take_span takes is w)
  unfolding take_span span_step
  clean_pieces takes f is w c h =
      for_each-each (Clean s Ok) (span_step takes)
      (λ i t p g. branch_arms (Clean s Ok) (is_ignored i t) (λ v. with_contiguous (shorter v.contiguous) v) (λ v. takes i (ignore i v)) t
      (λ e. clean_contiguous s Ok t g (shorter t.contiguous)) (λ e. f i (ignore i t) p (clean_ignore s Ok t g i)))
      is w c h

  -- the span around a piece that can be picked
  span_ok : (i : ℕ) (w : PickState) → can_pick a s i ≡ true → Clean s Ok w → Each (λ k. can_pick a s k ≡ true) (pieces_of (expand_piece a i w))
  unfolding expand_piece
  span_ok i w c h =
      let q = w.picker in
      each_so (λ k g. sym (like_can s q h.like a k) ∙ g) (pieces_of (expand_piece a i w))
      (span_each a q i (whole_pieces (blocks_per_piece q) w.contiguous) (like_can s q h.like a i ∙ c))

  -- its blocks in the random walk
  pub clean_span : (i : ℕ) (w : PickState) → can_pick a s i ≡ true → Clean s Ok w
      → Clean s Ok (take_span take_all (pieces_of (expand_piece a i w)) w)
  clean_span i w c h = clean_pieces take_all clean_all (pieces_of (expand_piece a i w)) w (span_ok i w c h) h

  clean_new : (i : ℕ) (w : PickState) → can_pick a s i ≡ true → Clean s Ok w → Clean s Ok (add_new_piece a i w)
  unfolding add_new_piece
  clean_new i w c h =
      let n = least (payload_blocks_in_piece w.picker i) w.left in
      branch_arms (Clean s Ok) (contiguous_is_zero w.contiguous) (for_each (took i) (from 0 n))
      (take_span take_payload (pieces_of (expand_piece a i w))) w
      (λ e. for_each-each (Clean s Ok) (took i) (λ j t o g. clean_took s Ok t g i j o) (from 0 n) w
      (blocks_ok i n c (omega (
        arith,
        least_left (payload_blocks_in_piece w.picker i) w.left,
        like_payload s w.picker h.like
            i,
      ))) h)
      (λ e. clean_pieces take_payload clean_payload (pieces_of (expand_piece a i w)) w (span_ok i w c h) h)

  clean_kept : (f : PickState → PickState) (w : PickState) → Clean s Ok (f w) → Clean s Ok (keeping_contiguous f w)
  unfolding keeping_contiguous
  clean_kept f w h = clean_contiguous s Ok (f w) h w.contiguous

  -- ---- partials
  module _ (d : DownloadingPiece) (u : Usable s a d)
      (may : (has_bit a d.piece && (not d.locked && (not (option on_parole a) || (requested_from a.peer d).exclusive))) ≡ true) where
    free_ok : (first : ℕ) → Each (λ j. Ok (piece_block d.piece j)) (free_from d first)
    unfolding free_from
    free_ok first =
        let n = len d.blocks in
        each_so (λ j h. ok.of_partial d j u may h.0 h.1) _
        (each-filter (λ j. same_block_state (block_at d j).state None) (each (λ k. (k + first) % n) (from 0 n))
        (each_image (λ k. (k + first) % n) (λ k h. let l = h.1 in mod-lt (k + first) {m = n} (omega arith)) (from 0 n) (each_from 0 n)))

    clean_free : (first : ℕ) (w : PickState) → Clean s Ok w → Clean s Ok (take_free d first w)
    unfolding take_free
    clean_free first w h =
        walk-each (Clean s Ok) (took d.piece) (λ j t o g. clean_took s Ok t g d.piece j o) (free_halt d.piece)
        (free_from d first) w (free_ok first) h

    clean_set : (first : ℕ) (w : PickState) → Clean s Ok w → Clean s Ok (set_aside d first w)
    unfolding set_aside
    clean_set first w h =
        unless_keeps (Clean s Ok) (enough_aside w) (for_each (put_aside d.piece) (free_from d first)) w h
        (λ e. for_each-each (Clean s Ok) (put_aside d.piece) (λ j t o g. clean_aside s Ok t g d.piece j o) (free_from d first) w
        (free_ok first) h)

    clean_use : (held : RequestedFrom) (w : PickState) → Clean s Ok w → Clean s Ok (use_free d held w)
    unfolding use_free
    clean_use held w h =
        let first = cond (contiguous_is_zero w.contiguous) 0 held.first in
        branch_arms (Clean s Ok) (contiguous_above held.longest w.contiguous && held.active) (set_aside d first)
        (keeping_contiguous (take_free d first)) w
        (λ e. clean_set first w h) (λ e. clean_kept (take_free d first) w (clean_free first w h))

  -- what a partial adds
  pub clean_downloading : (d : DownloadingPiece) (w : PickState) → Usable s a d → Clean s Ok w → Clean s Ok (add_blocks_downloading a d w)
  unfolding add_blocks_downloading
  clean_downloading d w u h =
      let held = requested_from a.peer d in
      when_keeps (Clean s Ok) (has_bit a d.piece && (not d.locked && (not (option on_parole a) || held.exclusive)))
      (use_free d held) w h
      (λ e. clean_use d u e held w h)

  -- ---- a piece
  module _ (named : (i : ℕ) (d : DownloadingPiece) → partial_of s i ≡ some d → d.piece ≡ i) where
    clean_partial : (i : ℕ) (o : Option DownloadingPiece) (w : PickState) → partial_of s i ≡ o → is_piece_free a s i ≡ true
        → same_queue (unreverse (piece_at s i).state) Downloading ≡ true → Clean s Ok w → Clean s Ok (add_partial_of a o w)
    unfolding add_partial_of
    clean_partial i none w e f q h = h
    clean_partial i (some d) w e f q h =
        let n = named i d e in
        clean_downloading d w (record {
          partial = subst (λ (k : ℕ). partial_of s k ≡ some d) (sym n) e;
          free = subst (λ (k : ℕ). is_piece_free a s k ≡ true) (sym n) f;
          state = subst (λ (k : ℕ). same_queue (unreverse (piece_at s k).state) Downloading ≡ true) (sym n) q;
        }) h

    clean_standing : (i : ℕ) (w : PickState) → is_piece_free a s i ≡ true → same_queue (unreverse (piece_at s i).state) Downloading ≡ true
        → Clean s Ok w → Clean s Ok (add_standing a i w)
    unfolding add_standing
    clean_standing i w f q h =
        unless_keeps (Clean s Ok) (option prioritize_partials a) (add_partial_of a (partial_of w.picker i)) w h
        (λ e. clean_partial i (partial_of w.picker i) w (sym (like_partial s w.picker h.like i)) f q h)

    -- what a free piece adds
    pub clean_blocks : (i : ℕ) (w : PickState) → is_piece_free a s i ≡ true → Clean s Ok w → Clean s Ok (add_blocks a i w)
    unfolding add_blocks can_pick
    clean_blocks i w f h =
        let p = piece_at w.picker i in
        let same : p ≡ piece_at s i = like_piece s w.picker h.like i in
        let g = when (same_queue (unreverse p.state) Downloading) (add_standing a i) in
        unless_keeps (Clean s Ok) (is_ignored i w) (branch (is_open p.state) (keeping_contiguous (add_new_piece a i)) g) w h
        (λ e. branch_arms (Clean s Ok) (is_open p.state) (keeping_contiguous (add_new_piece a i)) g w
        (λ o. clean_kept (add_new_piece a i) w
        (clean_new i w (true_both (is_piece_free a s i) (is_open (piece_at s i).state) f
        (subst (λ (x : Piece). is_open x.state ≡ true) same o)) h))
        (λ o. when_keeps (Clean s Ok) (same_queue (unreverse p.state) Downloading) (add_standing a i) w h
        (λ q. clean_standing i w f (subst (λ (x : Piece). same_queue (unreverse x.state) Downloading ≡ true) same q) h)))
