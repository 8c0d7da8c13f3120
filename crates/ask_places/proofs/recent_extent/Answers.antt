-- `recent_extent` meets its contract. Assumes nothing.
use borrow.Author.Rules.{rules}
use Rattle.ask_places.proofs.PlacedLaws.{extent_there, extent_past}
use Rattle.ask_places.proofs.recent_extent.Goals as goal

pub returns-then-k-num_recent_extents : goal.returns-then-k-num_recent_extents
returns-then-k-num_recent_extents c = extent_there _ _ _ c.num_recent_extents.result c.num_recent_extents.ensures.1 c.if-k-num_recent_extents.true c.recent_extent.result c.recent_extent.ensures

pub returns : goal.returns
returns c = extent_past _ _ _ c.num_recent_extents.result c.num_recent_extents.ensures.1 c.if-k-num_recent_extents.false
