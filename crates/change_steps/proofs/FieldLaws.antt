-- One field of a piece stored on the way through a change. Assumes nothing.
use mathlib.Core.List.{List}
use Prim.Native.Nat.{ℕ, ◌<◌}
use Rattle.model.specs.State.{Piece, piece_at, pieces_in, with_piece}
use Rattle.memory_records.specs.declared.record.DownloadingPiece.{DownloadingPiece as Record}
use Rattle.memory_layout.specs.declared.shape.Shape.{Shape}
use Rattle.memory_layout.specs.Decode.{decode}
use Rattle.memory_layout.specs.Bounds.{InBounds}
use Rattle.memory_layout.specs.Stores.{CellsBecame}
use Rattle.memory_layout.proofs.Meanings.{pieces_number, peer_count_is, priority_is}
use Rattle.memory_layout.proofs.BoundsLaws.{words_kept_none}
use Rattle.memory_layout.proofs.stores.ListFrames.{list_kept_none}
use Rattle.memory_ranks.specs.CellRanks.{Ranges}
use Rattle.memory_list.proofs.Moving.{PieceInRange, InRange, range_piece, ranges_held}
use Rattle.change_steps.specs.Working.{Works, Stored}

-- what is in range in the cells is so in the picker
pub cells_range : (s : Shape) (records : List Record) (words cells : List ℕ) → InBounds s records words cells → Ranges s.pieces cells
    → InRange (decode records words cells)
cells_range s records words cells b r k h =
    let m : k < s.pieces = rw (pieces_number s records words cells b) at h in
    record {
      peer_count = rw (peer_count_is s records words cells b k m) (r.peer_count k m);
      priority = rw (priority_is s records words cells b k m) (r.priority k m);
    }

module _ (s : Shape) (records : List Record) (words cells : List ℕ) (w : Works s records words cells) where
  -- the pieces of the picker are in range
  pub works_range : InRange (decode records words cells)
  works_range = cells_range s records words cells w.bounds w.ranges

  -- a piece that there is
  pub works_piece : (i : ℕ) → i < s.pieces → i < pieces_in (decode records words cells)
  works_piece i h = rw (pieces_number s records words cells w.bounds) h

  -- a field of piece i is stored, and leaves it in range
  pub field_stored : (i : ℕ) (g : Piece → Piece) (cells' : List ℕ) → CellsBecame s (with_piece i g) cells cells'
      → PieceInRange (g (piece_at (decode records words cells) i))
      → Stored s (with_piece i g) records words cells records words cells'
  field_stored i g cells' c o =
      let b = c.became records words w.bounds in
      record {
        is = b.is;
        bounds = b.bounds;
        plain = b.plain w.plain;
        ranges = ranges_held s records words cells' b.bounds
            (rw b.is (range_piece i g (decode records words cells) works_range o));
        list = list_kept_none s words;
        words_kept = words_kept_none s words;
        cells_kept = c.kept;
      }
