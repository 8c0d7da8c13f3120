-- One field of a piece stored, and the list mended after it. Assumes nothing.
use mathlib.Core.Path.{◌≡◌, sym, subst}
use mathlib.Core.List.{List}
use Prim.Native.Nat.{ℕ}
use Rattle.model.specs.State.{Piece, piece_at, with_piece}
use Rattle.model.specs.list.Order.{Draws, rank, update, change_and_update}
use Rattle.model.proofs.sound.SoundFields.{alone_piece}
use Rattle.memory_records.specs.declared.record.DownloadingPiece.{DownloadingPiece as Record}
use Rattle.memory_layout.specs.declared.shape.Shape.{Shape}
use Rattle.memory_layout.specs.Decode.{decode}
use Rattle.memory_layout.specs.Stores.{CellsBecame}
use Rattle.memory_ranks.specs.CellRanks.{IsRankAt}
use Rattle.memory_list.specs.Listings.{ListBounds, ListBefore, ListBecame}
use Rattle.memory_list.proofs.Moving.{PieceInRange}
use Rattle.change_steps.specs.Working.{Works, WorksBeside, Goes, Stored}
use Rattle.change_steps.proofs.FieldLaws.{field_stored}
use Rattle.change_steps.proofs.MendLaws.{mend_bounds, mend_before, mended}

module _ (s : Shape) (i : ℕ) (g : Piece → Piece) (words cells cells' : List ℕ) (c : CellsBecame s (with_piece i g) cells cells')
    (o : (records : List Record) → Works s records words cells → PieceInRange (g (piece_at (decode records words cells) i)))
    (old : ℕ) (r : IsRankAt s words cells i old) where
  old_is : (records : List Record) → Works s records words cells → old ≡ rank (decode records words cells) i
  old_is records w = r.is w.bounds.pieces records

  stored : (records : List Record) → Works s records words cells → Stored s (with_piece i g) records words cells records words cells'
  stored records w = field_stored s records words cells w i g cells' c (o records w)

  -- what mending asks
  pub field_asks : WorksBeside s words cells → ListBounds s words cells' × ListBefore s words cells' old i
  field_asks b =
      let records = b.records in
      let t = stored records b.works in
      let a = alone_piece i g (decode records words cells) in (
        mend_bounds s (with_piece i g) i records words cells records words cells' b.works t a,
        subst (λ (v : ℕ). ListBefore s words cells' v i) (sym (old_is records b.works))
            (mend_before s (with_piece i g) i records words cells records words cells' b.works t a),
      )

  -- what it leaves
  pub field_mended : (draws : Draws) (used : ℕ) (words' : List ℕ) (next : ℕ)
      → ListBecame s (update draws old i) words words' cells' used next
      → Goes s (change_and_update draws i (with_piece i g)) words cells used words' cells' next
  field_mended draws used words' next l = record {
    went = λ records w.
        mended s (with_piece i g) i records words cells records words cells' w (stored records w)
        (alone_piece i g (decode records words cells)) draws old used (old_is records w) words' next l;
  }
