-- `walk_ordered` meets its contract. Assumes nothing.
use Rattle.pick_partials.proofs.PhaseLaws.{ordered_some, ordered_none, rise_places}
use borrow.Author.Rules.{rules}
use Rattle.pick_partials.proofs.phase.walk_ordered.Goals as goal

pub walk_rarest-requires : goal.walk_rarest-requires
walk_rarest-requires c = record {
  picks = c.requires.picks;
  counts_held = c.requires.counts_held;
  partial_room = c.requires.partial_room;
  le_left = c.requires.le_left;
}

pub shape_of-out-then-by_rarity : goal.shape_of-out-then-by_rarity
shape_of-out-then-by_rarity c = c.walk_rarest.auto.out

pub shape_of-aside-then-by_rarity : goal.shape_of-aside-then-by_rarity
shape_of-aside-then-by_rarity c = c.walk_rarest.auto.aside

pub returns-then-by_rarity : goal.returns-then-by_rarity
returns-then-by_rarity c = ordered_some c.args.q c.args.bytes.now _ c.by_rarity.ensures _ c.if-by_rarity.true
    c.walk_rarest.ensures

pub walk_partials-requires : goal.walk_partials-requires
walk_partials-requires c = record {
  picks = c.requires.picks;
  partial_room = c.requires.partial_room;
  le_left = (c.requires.le_left.0, rise_places c.requires.le_left.1);
}

pub shape_of-out : goal.shape_of-out
shape_of-out c = c.walk_partials.auto.out

pub shape_of-aside : goal.shape_of-aside
shape_of-aside c = c.walk_partials.auto.aside

pub returns : goal.returns
returns c = ordered_none c.args.q c.args.bytes.now _ c.by_rarity.ensures _ c.if-by_rarity.false
    c.walk_partials.ensures
