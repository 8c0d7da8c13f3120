-- `list_place` meets its contract. Assumes nothing.
use borrow.Author.Rules.{rules}
use Rattle.ask_places.proofs.PlacedLaws.{place_stale, place_there, place_past, say_same}
use Rattle.ask_places.proofs.list_place.Goals as goal

pub returns-then-is_dirty : goal.returns-then-is_dirty
returns-then-is_dirty c = place_stale _ _ _ c.is_dirty.result c.is_dirty.ensures c.if-is_dirty.true

pub returns-then-k-list_length : goal.returns-then-k-list_length
returns-then-k-list_length c = let r = say_same _ _ _ _ _ c.list_place.ensures c.usize_to_u64.ensures in
    place_there _ _ _ c.is_dirty.result c.is_dirty.ensures c.if-is_dirty.false c.list_length.result c.list_length.ensures.1
    c.if-k-list_length.true c.usize_to_u64.result r

pub returns : goal.returns
returns c = place_past _ _ _ c.is_dirty.result c.is_dirty.ensures c.if-is_dirty.false c.list_length.result c.list_length.ensures.1 c.if-k-list_length.false
