-- A piece turned keeps its partial, and few draws are used. Assumes nothing.
use mathlib.Core.Path.{◌≡◌, refl, sym, ap, ap₂, ◌∙◌, subst}
use mathlib.Core.Bool.{Bool, true, not, ◌&&◌}
use mathlib.Core.List.{List}
use Prim.Native.Nat.{ℕ, ◌+◌, ◌≤◌, ◌<◌}
use native.Mathlib.Omega.{arith}
use lib.Dec.{eqb, ltb}
use Rattle.types.specs.declared.queue.DownloadQueue.{DownloadQueue}
use Rattle.types.specs.declared.block.BlockState.TheVariants.{Requested}
use Rattle.types.specs.Queue.{make_reverse, is_reverse}
use Rattle.model.specs.Lists.{len, nth}
use Rattle.model.specs.Bep3.{piece_blocks}
use Rattle.model.specs.State.{Block, DownloadingPiece, piece_at, with_piece, with_pieces, with_state, with_listing, mark_dirty}
use Rattle.model.specs.list.Order.{Draws, Drawing, drawing, no_draw, rank}
use Rattle.model.specs.pick.Pick.{no_partial}
use Rattle.model.specs.change.Partials.{blocks_in_state, replace_block, set_state}
use Rattle.model.specs.change.Changes.{set_direction, make_piece_reverse, set_block}
use Rattle.model.specs.image.Sound.{partials_from}
use Rattle.model.proofs.base.Phases.{cond_arms, when_arms}
use Rattle.memory_records.specs.declared.record.DownloadingPiece.{DownloadingPiece as Record}
use Rattle.memory_layout.specs.declared.shape.Shape.{Shape}
use Rattle.memory_layout.specs.Decode.{blocks_of, decode}
use Rattle.memory_layout.specs.Changes.{partial_in}
use Rattle.memory_layout.proofs.Meanings.{partials_number}
use Rattle.change_steps.specs.Working.{Went}
use Rattle.change_state.proofs.KeptLaws.{SamePartials, still, state_same, update_same}
use Rattle.change_blocks.specs.Replacing.{PartialAt}

-- ---- few draws, and the same partials
module _ (draws : Draws) (i : ℕ) where
  turn_same : (q : DownloadQueue) (w : Drawing) → SamePartials 1 w (set_direction draws i q w)
  unfolding set_direction drawing mark_dirty with_listing with_piece with_pieces
  turn_same q w =
      let s = with_piece i (with_state q) w.picker in
      cond_arms (SamePartials 1 w) (eqb (rank w.picker i) 0 && ltb 0 (rank s i)) (drawing w.used (mark_dirty s))
      (set_state draws i q w) (λ e. record { draws = omega arith; partials = refl }) (λ e. state_same draws i q w)

  pub reverse_same : (back : Bool) (d : DownloadingPiece) (w : Drawing) → SamePartials 1 w (make_piece_reverse draws i back d w)
  unfolding make_piece_reverse
  reverse_same back d w =
      let q = (piece_at w.picker i).state in
      when_arms (SamePartials 1 w) (back && (not (is_reverse q) && eqb (blocks_in_state Requested d) 0))
      (set_direction draws i (make_reverse q)) w (λ e. turn_same (make_reverse q) w) (λ e. still 1 w)

  -- a block replaced
  pub block_few : (d : DownloadingPiece) (j : ℕ) (b : Block) (w : Drawing) → (set_block draws i d j b w).used ≤ w.used + 1
  unfolding set_block no_draw drawing
  block_few d j b w = (update_same draws i (no_draw (replace_block d j b) w)).draws

-- ---- a partial stands on where the partials are as they were
module _ (s : Shape) (step : Drawing → Drawing) (records : List Record) (words cells : List ℕ) (used : ℕ) (words' cells' : List ℕ)
    (next : ℕ) (w : Went s step records words cells used records words' cells' next)
    (same : (step (drawing used (decode records words cells))).picker.partials ≡ (decode records words cells).partials) where
  partials_are : (decode records words' cells').partials ≡ (decode records words cells).partials
  unfolding drawing
  partials_are = ap (λ (v : Drawing). v.picker.partials) w.is ∙ same

  pub next_is : next ≡ (step (drawing used (decode records words cells))).used
  unfolding drawing
  next_is = ap (λ (v : Drawing). v.used) w.is

  pub partial_same : (k : ℕ) → partial_in (decode records words' cells') k ≡ partial_in (decode records words cells) k
  unfolding partial_in
  partial_same k = ap (λ (l : List DownloadingPiece). nth no_partial l k) partials_are

  blocks_same : (i : ℕ) → blocks_of words i ≡ blocks_of words' i
  unfolding blocks_of
  blocks_same i = ap₂ (λ (a b : ℕ). piece_blocks a b i) (sym w.words_kept.total_size) (sym w.words_kept.piece_size)

  pub stands_on : (i p j k : ℕ) → PartialAt s records words cells i p j k → PartialAt s records words' cells' i p j k
  stands_on i p j k a = record {
    works = w.works;
    rising = subst (λ (l : List DownloadingPiece). partials_from 0 l ≡ true) (sym partials_are) a.rising;
    low = omega (
      arith,
      a.low,
      partials_number s records words cells a.works.bounds,
      partials_number s records words' cells' w.works.bounds,
      ap len partials_are,
    );
    index = a.index;
    place = a.place;
    block = subst (λ (n : ℕ). j < n) (blocks_same i) a.block;
  }
