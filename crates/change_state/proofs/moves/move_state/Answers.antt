-- `move_state` meets its contract. Assumes nothing.
use mathlib.Core.Path.{sym, ◌∙◌}
use Rattle.change_state.proofs.MoveLaws.{move_left, move_made}
use Rattle.change_state.proofs.moves.move_state.Goals as goal

pub returns-then-is_left : goal.returns-then-is_left
returns-then-is_left c = move_left c.args.s _ c.args.i c.args.current c.args.q c.args.words.now c.args.cells.now c.args.used
    (sym c.if-is_left.true ∙ c.is_left.ensures)

pub returns : goal.returns
returns c = move_made c.args.s _ c.args.i c.args.current c.args.q c.args.words.now c.args.cells.now c.args.used _ _ c.set_state.result
    (sym c.if-is_left.false ∙ c.is_left.ensures) c.set_state.ensures
