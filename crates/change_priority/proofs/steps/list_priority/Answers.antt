-- `list_priority` meets its contract. Assumes nothing.
use native.Mathlib.Omega.{arith}
use Rattle.change_steps.proofs.MendLaws.{begun_works}
use Rattle.change_priority.proofs.StepLaws.{listed}
use Rattle.change_priority.proofs.steps.list_priority.Goals as goal

pub set_priority-requires : goal.set_priority-requires
set_priority-requires c = record {
  works_beside = begun_works c.args.s _ c.args.words.now c.args.cells.now _ _ 0 c.turn_cursors.ensures c.requires.stands_beside;
  i_lt_pieces = c.requires.i_lt_pieces;
  used_in_bounds = omega arith;
}

pub returns : goal.returns
returns c = listed c.args.s _ c.args.i c.args.priority c.args.turned c.args.words.now c.args.cells.now _ _ c.turn_cursors.ensures _ _
    c.set_priority.result c.set_priority.ensures
