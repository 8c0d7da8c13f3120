-- `pick_rest` meets its contract. Assumes nothing.
use mathlib.Core.List.{[]}
use Rattle.memory_rows.specs.Lookup.{picker_in}
use Rattle.pick_rest.proofs.RestLaws.{flag_end, flag_left, flag_aside, rest_room, rest_used, rest_none, rest_some}
use native.Mathlib.Omega.{arith}
use borrow.Author.Rules.{rules}
use Rattle.pick_rest.proofs.rest.pick_rest.Goals as goal

pub append_blocks-u-requires : goal.append_blocks-u-requires
append_blocks-u-requires c = (
  omega (arith, flag_end c.args.t _ c.flagged.ensures, flag_left c.args.t _ c.flagged.ensures, c.requires.left_in_bounds.0),
  omega (arith, flag_aside c.args.t _ c.flagged.ensures, c.requires.left_in_bounds.1),
)

pub returns-then-u-parole : goal.returns-then-u-parole
returns-then-u-parole c = rest_none c.args.t _ c.flagged.ensures _ _ _ _ c.append_blocks-u.ensures c.args.draws.now c.args.q c.args.bytes.now _ c.args.loops.now _
    c.contains-parole.ensures c.if-u-parole.true

pub pick_end_game-requires : goal.pick_end_game-requires
pick_end_game-requires c = let k = (c.append_blocks-u.ensures.worked (picker_in c.args.live c.args.rows.now c.args.words.now c.args.cells.now) [] []).did.kept.long in record {
  picks = c.requires.picks;
  end_in_bounds = (
    rest_room c.args.t _ c.flagged.ensures _ _ _ _ c.append_blocks-u.ensures _ c.if-u-parole.false c.requires.left_in_bounds.0 k,
    omega (arith, rest_used c.args.t _ c.flagged.ensures _ _ _ _ c.append_blocks-u.ensures, c.requires.used_bound.0),
    c.requires.used_bound.1,
  );
}

pub returns : goal.returns
returns c = rest_some c.args.t _ c.flagged.ensures _ _ _ _ c.append_blocks-u.ensures c.args.draws.now c.args.q c.args.bytes.now _ c.args.loops.now _
    c.contains-parole.ensures c.if-u-parole.false _ _ _ c.pick_end_game.ensures
