-- `pick_end_game` meets its contract. Assumes nothing.
use Rattle.pick_rest.proofs.PlayLaws.{Playing, play_start, play_next, play_end, play_room, play_less, play_wide}
use Rattle.ask_picker.proofs.AskedLaws.{asked_rows, asked_queues}
use Rattle.memory_rows.specs.Lookup.{picker_in}
use mathlib.Core.Bool.{not}
use Rattle.model.specs.Lists.{bit}
use lib.ListN.{length-replicate}
use Prim.Native.Nat.{ℕ, ◌-◌, ◌+◌}
use Rattle.pick_rest.proofs.game.pick_end_game.Goals as goal

pub full_partials-n-requires : goal.full_partials-n-requires
full_partials-n-requires c = record {
  cells_span = c.requires.picks.asked.stands.bounds.spans.in_cells;
  in_queues = asked_queues c.args.s c.args.live c.args.rows.now c.args.words.now c.args.cells.now c.requires.picks.asked;
  rows_len = (c.requires.picks.asked.wide, length-replicate {A = ℕ} 512 0);
}

pub loop-found-init : goal.loop-found-init
loop-found-init c = play_start c.args.draws.now c.args.q c.args.bytes.now _ c.args.live c.args.t c.args.out.now c.args.loops.now _ _
    (c.full_partials-n.ensures.is c.args.words.now (asked_rows c.args.s c.args.live c.args.rows.now c.args.words.now c.args.cells.now c.requires.picks.asked)) c.full_partials-n.ensures.places c.full_partials-n.ensures.few
    c.requires.end_in_bounds.2

pub end_game_step-game-requires : goal.end_game_step-game-requires
end_game_step-game-requires c = let all = play_room c.args.draws.now c.args.q c.args.bytes.now _ c.args.live c.args.t c.args.out.now
    c.args.loops.now _ _ _ _ _ _ c.loop-found.invariant c.loop-found-test.true c.requires.end_in_bounds.0 c.requires.end_in_bounds.1 c.requires.end_in_bounds.2 c.requires.picks.asked in
    record {
      asked = all.0;
      end_in_bounds = all.1.0;
      many_nonzero = all.1.1;
    }

pub loop-found-smaller : goal.loop-found-smaller
loop-found-smaller c = play_less c.loop-found.found c.loop-found.many c.loop-found-test.true _ _ c.end_game_step-game.ensures.turned.fewer
    c.end_game_step-game.ensures.turned.most

pub loop-found-preserved : goal.loop-found-preserved
loop-found-preserved c = play_next c.args.draws.now c.args.q c.args.bytes.now _ c.args.live c.args.t c.args.out.now c.args.loops.now _ _ _ _ _ _ c.loop-found.invariant
    c.loop-found-test.true _ _ _ _ c.end_game_step-game.ensures

pub shape_of-out : goal.shape_of-out
shape_of-out c = c.loop-found.invariant.kept.long

pub shape_of-loops : goal.shape_of-loops
shape_of-loops c = play_wide c.loop-found.invariant.wide c.requires.end_in_bounds.2.wide

pub returns : goal.returns
returns c = play_end c.args.draws.now c.args.q c.args.bytes.now _ c.args.live c.args.t c.args.out.now c.args.loops.now _ _ _ _ _ _ c.loop-found.invariant c.loop-found-test.false
    c.requires.end_in_bounds.0 c.requires.end_in_bounds.2
