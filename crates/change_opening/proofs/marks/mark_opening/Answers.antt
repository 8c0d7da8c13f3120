-- `mark_opening` meets its contract. Assumes nothing.
use native.Mathlib.Omega.{arith}
use Rattle.change_opening.proofs.MarkLaws.{mark_beside, mark_draws, mark_done}
use Rattle.change_opening.proofs.marks.mark_opening.Goals as goal

pub mark_first-requires : goal.mark_first-requires
mark_first-requires c = let d = mark_draws c.args.s _ c.args.i c.args.q c.args.affinity c.args.live c.args.rows.now c.args.words.now c.args.cells.now c.args.used _ _
    c.open_piece-o.result c.open_piece-o.ensures c.requires.vacant_beside in record {
      held_beside = mark_beside c.args.s _ c.args.i c.args.q c.args.affinity c.args.live c.args.rows.now c.args.words.now c.args.cells.now c.args.used _ _
          c.open_piece-o.result c.open_piece-o.ensures c.args.j c.requires.i_lt_pieces.1 c.requires.vacant_beside;
      i_lt_pieces = c.requires.i_lt_pieces.0;
      state_bound = c.requires.state_bound;
      used_in_bounds = omega (arith, d, c.requires.used_in_bounds);
    }

pub returns : goal.returns
returns c = mark_done c.args.s _ c.args.i c.args.q c.args.affinity c.args.live c.args.rows.now c.args.words.now c.args.cells.now c.args.used _ _
    c.open_piece-o.result c.open_piece-o.ensures c.args.j c.args.x _ _ c.mark_first.result c.mark_first.ensures
