-- The first half of `dec_refcount`: a seed broken where only seeds have the piece. Assumes nothing.
use Rattle.std.specs.Prelude.{ℕ, ◌-◌, ◌≡◌, List, eqb}
use Rattle.model.specs.Lists.{when}
use Rattle.model.specs.State.{piece_at}
use Rattle.model.specs.list.Order.{Drawing, no_draw}
use Rattle.model.specs.change.Changes.{break_one_seed}
use Rattle.memory_records.specs.declared.record.DownloadingPiece.{DownloadingPiece as Record}
use Rattle.memory_layout.specs.declared.shape.Shape.{Shape}
use Rattle.memory_layout.specs.Decode.{decode}
use Rattle.memory_layout.specs.Standing.{Stands}
use Rattle.change_steps.specs.Whole.{Begins}

-- a seed is broken where piece i has no peer beside seeds
unfoldable pub broken_for : (i : ℕ) (w : Drawing) → Drawing
broken_for i w = when (eqb (piece_at w.picker i).peer_count 0) (no_draw break_one_seed) w

-- that is done, and one less than the peers of the piece are `left`
pub record LeftBy (s : Shape) (i : ℕ) (words cells words' cells' : List ℕ) (left : ℕ) : Type 0 where
  pub begun : Begins s (broken_for i) words cells words' cells' 0
  pub is : (records : List Record) → Stands s records words cells → left ≡ (piece_at (decode records words' cells') i).peer_count - 1
