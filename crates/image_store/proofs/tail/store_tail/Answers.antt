-- `store_tail` meets its contract: extents and list, then three words of the head. Assumes nothing.
use mathlib.Core.Path.{refl, ◌∙◌}
use lib.ListN.{length-set}
use native.Mathlib.Omega.{arith}
use Rattle.image_store.proofs.TailLaws.{places_of, tail_stored}
use borrow.Author.Rules.{rules}
use Rattle.image_store.proofs.tail.store_tail.Goals as goal

pub lay4-requires : goal.lay4-requires
lay4-requires c = record {
  within = λ j l. omega (arith, c.count_extents-extents.ensures.room);
  many_in_bounds = omega (arith, c.count_extents-extents.ensures.most, c.requires.n_in_bounds_2.0);
}

pub store_list-requires : goal.store_list-requires
store_list-requires c = record {
  n_in_bounds = (c.requires.n_in_bounds.0, c.requires.n_in_bounds.1, places_of _ _ _ c.requires.n_in_bounds.2 _ _ _ c.count_extents-extents.ensures refl refl);
  n_in_bounds_2 = omega (arith, c.requires.n_in_bounds_2.0, c.lay4.ensures.long);
}

pub shape_of-words : goal.shape_of-words
shape_of-words c = simp length-set (c.store_list.ensures.long ∙ c.lay4.ensures.long)

pub returns : goal.returns
returns c = tail_stored _ _ _ _ (omega (arith, c.requires.n_in_bounds_2.0, c.store_list.ensures.long, c.lay4.ensures.long)) _ _ _ _ _ _ _ _ _ _ c.count_extents-extents.ensures refl
    (places_of _ _ _ c.requires.n_in_bounds.2 _ _ _ c.count_extents-extents.ensures refl refl) c.lay4.ensures c.store_list.ensures c.usize_to_u64.ensures
    c.usize_to_u64-2.ensures c.usize_to_u64-3.ensures
