-- What a piece adds to a pick keeps every predicate that each block taken, each mark and each partial set aside keeps. Assumes nothing.
use Prim.Native.Nat.{ℕ, ◌-◌}
use mathlib.Core.Bool.{Bool, cond, not, ◌&&◌, ◌||◌, true}
use mathlib.Core.List.{List, [], ◌∷◌, ◌++◌}
use mathlib.Core.Option.{Option, none, some}
use lib.ListN.{take}
use Rattle.types.specs.declared.queue.DownloadQueue.TheVariants.{Downloading}
use Rattle.types.specs.Queue.{unreverse}
use Rattle.model.specs.Lists.{least, from, len, when, branch, walk, for_each, every}
use Rattle.model.specs.State.{DownloadingPiece, same_queue, is_open, piece_at, blocks_in_piece, payload_blocks_in_piece}
use Rattle.model.specs.Options.{on_parole, prioritize_partials, random_pieces, rand_loops}
use Rattle.model.specs.change.Partials.{partial_of}
use Rattle.model.specs.pick.Blocks.{PickRequest, option, has_bit, Contiguous, PieceBlock, PickState, with_out, with_contiguous}
use Rattle.model.specs.pick.Blocks.{with_backup, ignore, flagged, steps, is_ignored, contiguous_is_zero, contiguous_above, shorter}
use Rattle.model.specs.pick.Blocks.{expand_piece, pieces_of, piece_block, took, contiguous_met, contiguous_over, span_step, take_span}
use Rattle.model.specs.pick.Blocks.{take_payload, add_new_piece, RequestedFrom, requested_from, free_from, set_aside, free_halt, take_free}
use Rattle.model.specs.pick.Blocks.{keeping_contiguous, use_free, add_blocks_downloading, add_partial_of, add_standing, add_blocks}
use Rattle.model.specs.pick.Blocks.{append_blocks, enough_aside, put_aside}
use Rattle.model.specs.pick.Pick.{rand_step, take_all}
use Rattle.model.proofs.base.WalkLaws.{unless_keeps, when_keeps, walk_until_keeps, for_each_keeps}
use Rattle.model.proofs.base.Phases.{branch_arms}
use mathlib.Core.Path.{◌≡◌, refl}
use Rattle.model.proofs.pick.FoundLaws.{found_every}

-- any partial
unfoldable pub any_partial : DownloadingPiece → Bool
any_partial d = true

-- all partials are that
pub every_any : (ds : List DownloadingPiece) → every any_partial ds ≡ true
unfolding every any_partial
every_any [] = refl
every_any (d ∷ ds) = every_any ds

-- a block taken, another run, a mark and a partial set aside keep I; `ok` holds of every partial
pub record Closed (ok : DownloadingPiece → Bool) (I : PickState → Type 0) : Type 0 where
  pub ready : (w : PickState) → I w → every ok w.picker.partials ≡ true
  pub contiguous : (r : Contiguous) (w : PickState) → I w → I (with_contiguous r w)
  pub takes : (i j : ℕ) (w : PickState) → I w → I (took i j w)
  pub marks : (i : ℕ) (w : PickState) → I w → I (ignore i w)
  pub aside : (d : DownloadingPiece) (first : ℕ) (w : PickState) → ok d ≡ true → I w → I (set_aside d first w)

-- work that leaves the run as it was
pub keeping_contiguous_keeps : (I : PickState → Type 0) → ((r : Contiguous) (w : PickState) → I w → I (with_contiguous r w)) → (f : PickState → PickState) (w : PickState) → I (f w) → I (keeping_contiguous f w)
unfolding keeping_contiguous
keeping_contiguous_keeps I runs f w h = runs w.contiguous (f w) h

module _ (ok : DownloadingPiece → Bool) (I : PickState → Type 0) (k : Closed ok I) where
  payload_blind : (i : ℕ) (w : PickState) → I w → I (take_payload i w)
  unfolding take_payload walk
  payload_blind i w h =
      walk_until_keeps I (took i) (λ j t. contiguous_met (took i j t)) (k.takes i) (from 0 (payload_blocks_in_piece w.picker i)) w h

  -- a run of pieces
  pub run_keeps : (takes : ℕ → PickState → PickState) → ((i : ℕ) (w : PickState) → I w → I (takes i w)) → (is : List ℕ) (w : PickState) → I w → I (take_span takes is w)
  unfolding take_span span_step
  run_keeps takes f is w h =
      for_each_keeps I (span_step takes)
      (λ i t g. branch_arms I (is_ignored i t) (λ v. with_contiguous (shorter v.contiguous) v) (λ v. takes i (ignore i v)) t
      (λ e. k.contiguous (shorter t.contiguous) t g) (λ e. f i (ignore i t) (k.marks i t g)))
      is w h

  new_blind : (a : PickRequest) (i : ℕ) (w : PickState) → I w → I (add_new_piece a i w)
  unfolding add_new_piece
  new_blind a i w h =
      let js = from 0 (least (payload_blocks_in_piece w.picker i) w.left) in
      branch_arms I (contiguous_is_zero w.contiguous) (for_each (took i) js)
      (take_span take_payload (pieces_of (expand_piece a i w))) w
      (λ e. for_each_keeps I (took i) (k.takes i) js w h)
      (λ e. run_keeps take_payload payload_blind (pieces_of (expand_piece a i w)) w h)

  free_blind : (d : DownloadingPiece) (first : ℕ) (w : PickState) → I w → I (take_free d first w)
  unfolding take_free
  free_blind d first w h = walk_until_keeps I (took d.piece) (free_halt d.piece) (k.takes d.piece) (free_from d first) w h

  use_blind : (d : DownloadingPiece) (held : RequestedFrom) (w : PickState) → ok d ≡ true → I w → I (use_free d held w)
  unfolding use_free
  use_blind d held w o h =
      let first = cond (contiguous_is_zero w.contiguous) 0 held.first in
      branch_arms I (contiguous_above held.longest w.contiguous && held.active) (set_aside d first) (keeping_contiguous (take_free d first)) w
      (λ e. k.aside d first w o h) (λ e. keeping_contiguous_keeps I k.contiguous (take_free d first) w (free_blind d first w h))

  -- what a partial adds
  pub downloading_keeps : (a : PickRequest) (d : DownloadingPiece) (w : PickState) → ok d ≡ true → I w → I (add_blocks_downloading a d w)
  unfolding add_blocks_downloading
  downloading_keeps a d w o h =
      let held = requested_from a.peer d in
      when_keeps I (has_bit a d.piece && (not d.locked && (not (option on_parole a) || held.exclusive))) (use_free d held) w h
      (λ e. use_blind d held w o h)

  partial_blind : (a : PickRequest) (i : ℕ) (o : Option DownloadingPiece) (w : PickState) → partial_of w.picker i ≡ o → I w → I (add_partial_of a o w)
  unfolding add_partial_of partial_of
  partial_blind a i none w e h = h
  partial_blind a i (some d) w e h = downloading_keeps a d w (found_every ok w.picker.partials (k.ready w h) i d e) h

  standing_blind : (a : PickRequest) (i : ℕ) (w : PickState) → I w → I (add_standing a i w)
  unfolding add_standing
  standing_blind a i w h =
      unless_keeps I (option prioritize_partials a) (add_partial_of a (partial_of w.picker i)) w h
      (λ e. partial_blind a i (partial_of w.picker i) w refl h)

  -- what a piece adds
  pub blocks_keeps : (a : PickRequest) (i : ℕ) (w : PickState) → I w → I (add_blocks a i w)
  unfolding add_blocks
  blocks_keeps a i w h =
      let q = (piece_at w.picker i).state in
      let f = when (same_queue (unreverse q) Downloading) (add_standing a i) in
      unless_keeps I (is_ignored i w) (branch (is_open q) (keeping_contiguous (add_new_piece a i)) f) w h
      (λ e. branch_arms I (is_open q) (keeping_contiguous (add_new_piece a i)) f w
      (λ o. keeping_contiguous_keeps I k.contiguous (add_new_piece a i) w (new_blind a i w h))
      (λ o. when_keeps I (same_queue (unreverse q) Downloading) (add_standing a i) w h (λ g. standing_blind a i w h)))

  -- a whole piece in the random walk, where its counter and its flag keep I too
  module _ (counts : (w : PickState) → I w → I (steps 1 rand_loops w)) (flags : (f : ℕ) (w : PickState) → I w → I (flagged f w)) where
    pub all_keeps : (i : ℕ) (w : PickState) → I w → I (take_all i w)
    unfolding take_all walk rand_step
    all_keeps i w h =
        walk_until_keeps I (rand_step i) (λ x t. contiguous_over (rand_step i x t)) (λ j t g. k.takes i j (steps 1 rand_loops t) (counts t g))
        (from 0 (blocks_in_piece w.picker i)) (flagged random_pieces w) (flags random_pieces w h)

-- blocks, however many, and marks keep I
pub record Blind (I : PickState → Type 0) : Type 0 where
  pub out : (n : ℕ) (r : Contiguous) (bs : List PieceBlock) (w : PickState) → I w → I (with_out n r bs w)
  pub backup : (bs : List PieceBlock) (w : PickState) → I w → I (with_backup bs w)
  pub marks : (i : ℕ) (w : PickState) → I w → I (ignore i w)

module _ (I : PickState → Type 0) (k : Blind I) where
  pub blind_closed : Closed any_partial I
  unfolding with_contiguous took set_aside put_aside
  blind_closed = record {
    ready = λ w h. every_any w.picker.partials;
    contiguous = λ r w h. k.out w.left r w.out w h;
    takes = λ i j w h. k.out (w.left - 1) (shorter w.contiguous) (w.out ++ (piece_block i j ∷ [])) w h;
    marks = k.marks;
    aside = λ d first w o h.
        unless_keeps I (enough_aside w) (for_each (put_aside d.piece) (free_from d first)) w h
        (λ e. for_each_keeps I (put_aside d.piece) (λ j t g. k.backup (t.backup ++ (piece_block d.piece j ∷ [])) t g) (free_from d first) w h);
  }

  -- the blocks set aside, appended
  pub backup_keeps : (w : PickState) → I w → I (append_blocks w)
  unfolding append_blocks
  backup_keeps w h =
      let n = least (len w.backup) w.left in
      k.backup [] (with_out (w.left - n) w.contiguous (w.out ++ take n w.backup) w)
      (k.out (w.left - n) w.contiguous (w.out ++ take n w.backup) w h)
