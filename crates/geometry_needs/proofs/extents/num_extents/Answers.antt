-- `num_extents` meets its contract: extents are the parts of the pieces, unless a piece has 256 blocks. Assumes nothing.
use Rattle.geometry_needs.proofs.ExtentLaws.{extents_none, extents_parts}
use borrow.Author.Rules.{rules}
use Rattle.geometry_needs.proofs.extents.num_extents.Goals as goal

pub returns-then-b-eq-MAX_PIECE_AFFINITY_EXTENT : goal.returns-then-b-eq-MAX_PIECE_AFFINITY_EXTENT
returns-then-b-eq-MAX_PIECE_AFFINITY_EXTENT c = extents_none _ _ c.if-b-eq-MAX_PIECE_AFFINITY_EXTENT.true

pub returns : goal.returns
returns c = cc (extents_parts _ _ c.if-b-eq-MAX_PIECE_AFFINITY_EXTENT.false)
