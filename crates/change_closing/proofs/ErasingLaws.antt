-- A partial closed and its piece Open: what is stored, and what becomes of the picker once the list is mended. Assumes nothing.
use mathlib.Core.Path.{◌≡◌, sym, ap, ◌∙◌, subst}
use mathlib.Core.List.{List}
use Prim.Native.Nat.{ℕ, ◌<◌}
use Rattle.types.specs.declared.queue.DownloadQueue.{DownloadQueue}
use Rattle.types.specs.declared.queue.DownloadQueue.TheVariants.{Open}
use Rattle.types.specs.Queue.{queue_number}
use Rattle.model.specs.State.{with_piece, with_state}
use Rattle.model.specs.list.Order.{Draws, rank, update}
use Rattle.model.specs.change.Partials.{erase_download_piece, erase_and_update}
use Rattle.model.proofs.keep.KeepClose.{erase_download_piece_alone}
use Rattle.memory_records.specs.declared.record.DownloadingPiece.{DownloadingPiece as Record}
use Rattle.memory_layout.specs.declared.shape.Shape.{Shape}
use Rattle.memory_layout.specs.Decode.{head_word, decode, queue_from}
use Rattle.memory_layout.specs.Bounds.{Spans}
use Rattle.memory_layout.specs.Stores.{CellsBecame}
use Rattle.memory_layout.proofs.Numbers.{number_queue}
use Rattle.memory_partials.specs.Partials.{Closed}
use Rattle.memory_partials.proofs.RisingLaws.{live_some}
use Rattle.memory_ranks.specs.CellRanks.{IsRankAt}
use Rattle.memory_list.specs.Listings.{ListBounds, ListBefore, ListBecame}
use Rattle.change_steps.proofs.MendLaws.{mend_bounds, mend_before, mended}
use Rattle.change_state.proofs.MoveLaws.{state_stored}
use Rattle.change_closing.specs.Closing.{HasPartial, PartialBeside, without, Erased, ErasedAndUpdated}

-- a partial is counted
pub some_partial : (s : Shape) (i : ℕ) (words cells : List ℕ) → PartialBeside s i words cells → 0 < head_word words 7
some_partial s i words cells b =
    let p = b.has in
    live_some s b.records words cells p.works.bounds p.rising i p.partial p.found

-- ---- one partial less is counted, and the piece's state is Open
pub erased : (s : Shape) (i : ℕ) → i < s.pieces → (words cells words' cells' : List ℕ) (n : ℕ) → n ≡ queue_number Open
    → Closed s words words' → CellsBecame s (with_piece i (with_state (queue_from n))) cells cells'
    → Erased s i words cells words' cells'
unfolding erase_download_piece
erased s i h words cells words' cells' n e k c = record {
  stored = λ records p.
      let a = k.became records cells p.works.bounds p.rising i p.partial p.found in
      let o : CellsBecame s (with_piece i (with_state Open)) cells cells' =
      subst (λ (q : DownloadQueue). CellsBecame s (with_piece i (with_state q)) cells cells') (ap queue_from e ∙ number_queue Open) c in
      let b = o.became (without i words records) words' a.bounds in
      record {
        is = b.is ∙ ap (with_piece i (with_state Open)) a.is;
        bounds = b.bounds;
        plain = b.plain (a.plain p.works.plain);
        ranges = (state_stored s i h Open n e words cells cells' c records p.works).ranges;
        list = k.list;
        words_kept = k.kept;
        cells_kept = c.kept;
      };
}

module _ (s : Shape) (i : ℕ) (words cells words' cells' : List ℕ) (x : Erased s i words cells words' cells') where
  -- the buffers have room
  pub erased_spans : PartialBeside s i words cells → Spans s words' cells'
  erased_spans b = (x.stored b.records b.has).bounds.spans

  -- ---- the list mended
  module _ (old : ℕ) (r : IsRankAt s words cells i old) where
    old_is : (records : List Record) → HasPartial s i records words cells → old ≡ rank (decode records words cells) i
    old_is records p = r.is p.works.bounds.pieces records

    -- what mending asks
    pub erased_asks : PartialBeside s i words cells → ListBounds s words' cells' × ListBefore s words' cells' old i
    erased_asks b =
        let records = b.records in
        let p = b.has in
        let t = x.stored records p in
        let a = erase_download_piece_alone i (decode records words cells) in (
          mend_bounds s (erase_download_piece i) i records words cells (without i words records) words' cells' p.works t a,
          subst (λ (v : ℕ). ListBefore s words' cells' v i) (sym (old_is records p))
              (mend_before s (erase_download_piece i) i records words cells (without i words records) words' cells' p.works t a),
        )

    -- what it leaves
    pub erased_mended : (draws : Draws) (used : ℕ) (words'' : List ℕ) (next : ℕ)
        → ListBecame s (update draws old i) words' words'' cells' used next
        → ErasedAndUpdated s draws i words cells used words'' cells' next
    unfolding erase_and_update
    erased_mended draws used words'' next l = record {
      went = λ records p.
          mended s (erase_download_piece i) i records words cells (without i words records) words' cells' p.works (x.stored records p)
          (erase_download_piece_alone i (decode records words cells)) draws old used (old_is records p) words'' next l;
    }
