-- `get_availability` meets its contract. Assumes nothing.
use mathlib.Core.Path.{ap, ap₂, ◌∙◌}
use Prim.Native.Nat.{◌+◌}
use native.Mathlib.Omega.{arith}
use borrow.Author.Rules.{rules}
use Rattle.model.specs.ask.Questions.{reply_piece, availability, one}
use Rattle.ask_piece.proofs.PieceLaws.{peers_low}
use Rattle.ask_piece.proofs.stats.get_availability.Goals as goal

pub overflow_add-result : goal.overflow_add-result
overflow_add-result c = omega (
  arith,
  peers_low c.args.s c.args.words.now c.args.cells.now c.requires.stands_beside c.args.i c.requires.i_lt_pieces _ _ c.peer_count.ensures
      c.seeds.ensures,
  c.u16_to_u64.ensures,
)

pub returns : goal.returns
unfolding reply_piece availability
returns c = record {
  is = λ records q.
      ap one (ap₂ ◌+◌ (c.u16_to_u64.ensures ∙ c.peer_count.ensures.is records c.args.words.now q) (c.seeds.ensures.is records c.args.cells.now));
}
