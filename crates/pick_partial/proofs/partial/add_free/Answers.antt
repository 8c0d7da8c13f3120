-- `add_free` meets its contract. Assumes nothing.
use Rattle.pick_partial.proofs.AddingLaws.{free_shut, free_used, column_plain}
use native.Mathlib.Omega.{arith}
use borrow.Author.Rules.{rules}
use Rattle.pick_partial.proofs.partial.add_free.Goals as goal

pub returns-then-parole-h : goal.returns-then-parole-h
returns-then-parole-h c = free_shut c.args.words.now c.args.cells.now c.args.s c.args.q c.args.i c.args.place c.args.many c.args.t _ c.known_of-h.ensures _
    c.contains-parole.ensures c.if-parole-h.true _ _

pub use_free-requires : goal.use_free-requires
use_free-requires c = record {
  plain_states = (
    column_plain _ _ _ _ _ c.block_column-states.ensures c.requires.spans.1,
    c.requires.i_bound.0,
    omega (arith, c.known_of-h.ensures.first, c.requires.i_bound.3),
    omega (arith, c.requires.i_bound.2),
    omega (arith, c.known_of-h.ensures.longest, c.requires.i_bound.2),
  );
  has_room = c.requires.has_room;
}

pub returns : goal.returns
returns c = free_used c.args.words.now c.args.cells.now c.args.s c.args.q c.args.i c.args.place c.args.many c.args.t _ c.known_of-h.ensures _
    c.contains-parole.ensures c.if-parole-h.false _ c.block_column-states.ensures c.requires.spans.1 c.requires.i_bound.3 _ _ _ _ _
    c.use_free.ensures
