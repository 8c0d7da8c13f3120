-- `known_of` meets its contract. Assumes nothing.
use Rattle.pick_requested.proofs.KnownLaws.{known_none, known_all}
use borrow.Author.Rules.{rules}
use Rattle.pick_requested.proofs.known.known_of.Goals as goal

pub returns-then-contiguous_is_zero-parole : goal.returns-then-contiguous_is_zero-parole
returns-then-contiguous_is_zero-parole c = known_none c.args.words.now c.args.cells.now c.args.s c.args.place c.args.many c.args.q c.args.t _ _ c.contiguous_is_zero.ensures
    c.contains-parole.ensures c.if-contiguous_is_zero-parole.true

pub returns : goal.returns
returns c = known_all c.args.words.now c.args.cells.now c.args.s c.args.place c.args.many c.args.q c.args.t _ c.requested_from.ensures
