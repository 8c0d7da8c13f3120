-- `pick_random` meets its contract. Assumes nothing.
use native.Mathlib.Omega.{arith}
use Rattle.memory_rows.specs.Lookup.{picker_in}
use Rattle.pick_state.specs.Requests.{request_of}
use Rattle.pick_blocks.proofs.AddingLaws.{picks_in}
use Rattle.pick_walk.proofs.TellLaws.{cells_pieces}
use Rattle.pick_lap.proofs.VisitLaws.{in_cells}
use Rattle.pick_random.proofs.DrawLaws.{picks_piece, draw_inside, drawn_left, drawn_underway, random_stepped, random_used, random_risen}
use Rattle.pick_random.proofs.ring.pick_random.Goals as goal

pub overflow_sub-s : goal.overflow_sub-s
overflow_sub-s c = picks_piece c.requires.picks

pub draw-start-requires : goal.draw-start-requires
draw-start-requires c = omega (arith, c.requires.picks.asked.stands.bounds.spans.in_words.sizes.many)

pub drawn-requires : goal.drawn-requires
drawn-requires c = c.requires.le_left.1

pub ring-requires : goal.ring-requires
ring-requires c = let d = picker_in c.args.live c.args.rows.now c.args.words.now c.args.cells.now in
    record {
      picks = c.requires.picks;
      underway = drawn_underway d c.args.t c.args.out.now c.args.aside.now c.args.ignored.now c.args.loops.now c.drawn.result c.drawn.ensures c.requires.underway;
      le_left = (
        drawn_left c.args.t c.drawn.result c.drawn.ensures c.requires.le_left.0,
        draw_inside c.args.draws.now c.args.t.used c.args.s.pieces c.draw-start.result (picks_piece c.requires.picks) c.draw-start.ensures,
        c.requires.le_left.2,
        c.requires.le_left.3,
      );
    }

pub shape_of-out : goal.shape_of-out
shape_of-out c = c.ring.ensures.stepped.did.kept.long

pub shape_of-aside : goal.shape_of-aside
shape_of-aside c = c.ring.ensures.stepped.did.long_aside

pub shape_of-ignored : goal.shape_of-ignored
shape_of-ignored c = c.ring.ensures.stepped.did.long_ignored

pub shape_of-loops : goal.shape_of-loops
shape_of-loops c = c.ring.ensures.stepped.did.long_loops

pub returns : goal.returns
returns c = let d = picker_in c.args.live c.args.rows.now c.args.words.now c.args.cells.now in
    let q = request_of c.args.q c.args.bytes.now in
    let z = random_stepped d c.args.t c.args.out.now c.args.aside.now c.args.ignored.now c.args.loops.now c.drawn.result c.drawn.ensures c.args.draws.now q c.args.s.pieces
    c.draw-start.result (cells_pieces (in_cells (picks_in c.requires.picks))) c.draw-start.ensures c.ring.ensures.stepped in
    record {
      stepped = z;
      risen = (random_risen c.args.draws.now q z c.ring.ensures.ring_counted, random_used q c.draw-start.result c.args.t c.drawn.result c.drawn.ensures c.ring.ensures.stepped);
    }
