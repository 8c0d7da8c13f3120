-- `lay_blocks` meets its contract, either way. Assumes nothing.
use lib.Dec.{ltb}
use borrow.Author.Tests.{ltb-false}
use Rattle.model.proofs.base.Truths.{or_no_right}
use Rattle.image_lay_blocks.proofs.lay_blocks.Goals as goal

pub lay_many-requires : goal.lay_many-requires
lay_many-requires c = record {
  many_in_bounds = c.requires.many_in_bounds;
  many_bound = ltb-false 256 c.args.many (or_no_right (ltb c.args.many 64) (ltb 256 c.args.many) c.if-many.false);
  many_bound_2 = c.requires.many_bound;
}
