-- `read_listing` meets its contract. Assumes nothing.
use Rattle.image_tail.proofs.OrderLaws.{listing_dirty, listing_fresh}
use borrow.Author.Rules.{rules}
use Rattle.image_tail.proofs.order.read_listing.Goals as goal

pub returns-then-dirty : goal.returns-then-dirty
returns-then-dirty c = listing_dirty _ _ _ _ _ c.if-dirty.true c.requires.at_in_bounds

pub returns : goal.returns
returns c = listing_fresh c.args.at _ _ _ c.args.bytes.now c.if-dirty.false _ c.ranked-many.ensures
    c.read_order.result c.read_order.ensures
