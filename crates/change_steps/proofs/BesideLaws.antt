-- A step that leaves the pieces, the seeds and the list: the list stays right, with its ranks. Assumes nothing.
use mathlib.Core.Path.{◌≡◌, ap, ◌∙◌}
use mathlib.Core.List.{List}
use Prim.Native.Nat.{ℕ}
use Rattle.model.specs.Lists.{len}
use Rattle.model.specs.State.{Picker, Piece, pieces_in}
use Rattle.model.specs.list.Order.{drawing, no_draw, rank}
use Rattle.model.proofs.list.RankLaws.{rank_same}
use Rattle.model.proofs.list.ListingLaws.{ok_same}
use Rattle.memory_records.specs.declared.record.DownloadingPiece.{DownloadingPiece as Record}
use Rattle.memory_layout.specs.declared.shape.Shape.{Shape}
use Rattle.memory_layout.specs.Decode.{decode}
use Rattle.memory_layout.specs.Bounds.{InBounds, Plain}
use Rattle.memory_layout.specs.Stores.{WordsKept, CellsKept, ListKept}
use Rattle.memory_layout.proofs.StandingLaws.{ranks_named}
use Rattle.memory_layout.proofs.stores.ListFrames.{ranks_kept}
use Rattle.memory_list.proofs.Moving.{range_same, ranges_held, ranks_right}
use Rattle.change_steps.specs.Working.{Works, Went}
use Rattle.change_steps.proofs.FieldLaws.{works_range}

-- d' has the pieces, the seeds and the list of d
pub record SameList (d d' : Picker) : Type 0 where
  pub pieces : d'.pieces ≡ d.pieces
  pub seeds : d'.seeds ≡ d.seeds
  pub listing : d'.listing ≡ d.listing

many : (d d' : Picker) → d'.pieces ≡ d.pieces → pieces_in d' ≡ pieces_in d
unfolding pieces_in
many d d' p = ap (len {A = Piece}) p

pub beside_went : (s : Shape) (f : Picker → Picker) (records : List Record) (words cells : List ℕ) (records' : List Record)
    (words' cells' : List ℕ) (used : ℕ)
    → Works s records words cells → decode records' words' cells' ≡ f (decode records words cells)
    → SameList (decode records words cells) (f (decode records words cells)) → InBounds s records' words' cells'
    → Plain s records' words' cells' → ListKept s words words' → WordsKept s words words' → CellsKept s cells cells'
    → Went s (no_draw f) records words cells used records' words' cells' used
unfolding no_draw drawing
beside_went s f records words cells records' words' cells' used w e same bounds plain list wk ck =
    let d = decode records words cells in
    let d' = decode records' words' cells' in
    let p = ap (λ (x : Picker). x.pieces) e ∙ same.pieces in
    let r = rank_same d d' (ap (λ (x : Picker). x.seeds) e ∙ same.seeds) p in
    record {
      is = ap (drawing used) e;
      works = record {
        bounds = bounds;
        plain = plain;
        ranges = ranges_held s records' words' cells' bounds (range_same d d' p (works_range s records words cells w));
        ranks = ranks_right s records' words' cells'
            (ranks_named s.pieces words' (rank d) (rank d') r
            (ranks_kept s words words' (rank d) list w.bounds.list (w.ranks records)));
        listed = ok_same d d' (ap (λ (x : Picker). x.listing) e ∙ same.listing) (many d d' p) (λ k l. r k) w.listed;
      };
      words_kept = wk;
      cells_kept = ck;
    }
