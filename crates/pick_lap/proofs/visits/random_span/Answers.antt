-- `random_span` meets its contract. Assumes nothing.
use Prim.Native.Nat.{◌-◌}
use native.Mathlib.Omega.{arith}
use borrow.Author.Rules.{rules}
use Rattle.pick_free.proofs.FreeLaws.{expanded_around}
use Rattle.pick_new.proofs.InLaws.{in_words, some_blocks, few_blocks}
use Rattle.pick_lap.proofs.VisitLaws.{next_inside, span_few, span_walked}
use Rattle.pick_lap.proofs.visits.random_span.Goals as goal

pub expand_piece-span-requires : goal.expand_piece-span-requires
expand_piece-span-requires c = record {
  picks_cells = record { span = c.requires.span_visit.room.stands.bounds.spans.in_cells; bits = c.requires.span_visit.room.bits; some = some_blocks (in_words c.requires.span_visit.room.stands) };
  i_lt_pieces = (c.requires.span_visit.place, omega (arith, c.requires.span_visit.asked));
}

pub take_random_span-taken-requires : goal.take_random_span-taken-requires
take_random_span-taken-requires c = let y = expanded_around c.args.s c.args.cells.now c.args.q c.args.bytes.now c.args.x.place c.args.x.work c.expand_piece-span.result c.expand_piece-span.ensures c.requires.span_visit.room.stands.records c.args.words.now
    c.requires.span_visit.room.stands.bounds c.requires.span_visit.place in
    let z = few_blocks (in_words c.requires.span_visit.room.stands) in
    let f = y.few in
    let u = y.from in
    let v = y.to in
    record {
      span_room = record {
        run = record {
          picker = c.requires.span_visit.room.picker;
          stands = in_words c.requires.span_visit.room.stands;
          marks = c.requires.span_visit.room.marks;
          room = omega arith;
          given = omega arith;
        };
        counters = record { long = c.requires.span_visit.counters.long; blocks = omega arith };
      };
      first_le_end = (omega arith, y.inside);
    }

pub overflow_sub-span : goal.overflow_sub-span
overflow_sub-span c = let y = expanded_around c.args.s c.args.cells.now c.args.q c.args.bytes.now c.args.x.place c.args.x.work c.expand_piece-span.result c.expand_piece-span.ensures c.requires.span_visit.room.stands.records c.args.words.now
    c.requires.span_visit.room.stands.bounds c.requires.span_visit.place in
    omega (arith, y.to)

pub onward-place-requires : goal.onward-place-requires
onward-place-requires c = let y = expanded_around c.args.s c.args.cells.now c.args.q c.args.bytes.now c.args.x.place c.args.x.work c.expand_piece-span.result c.expand_piece-span.ensures c.requires.span_visit.room.stands.records c.args.words.now
    c.requires.span_visit.room.stands.bounds c.requires.span_visit.place in
    omega (arith, y.inside, (few_blocks (in_words c.requires.span_visit.room.stands)).1)

pub overflow_add-x : goal.overflow_add-x
overflow_add-x c = omega (arith, c.requires.span_visit.marks, span_few c.take_random_span-taken.ensures c.requires.span_visit.room.marks)

pub shape_of-out : goal.shape_of-out
shape_of-out c = c.take_random_span-taken.ensures.run.kept.long

pub shape_of-ignored : goal.shape_of-ignored
shape_of-ignored c = c.take_random_span-taken.ensures.run.marks

pub shape_of-loops : goal.shape_of-loops
shape_of-loops c = c.take_random_span-taken.ensures.run.counters

pub returns : goal.returns
returns c = let y = expanded_around c.args.s c.args.cells.now c.args.q c.args.bytes.now c.args.x.place c.args.x.work c.expand_piece-span.result c.expand_piece-span.ensures c.requires.span_visit.room.stands.records c.args.words.now
    c.requires.span_visit.room.stands.bounds c.requires.span_visit.place in
    let z = few_blocks (in_words c.requires.span_visit.room.stands) in
    let f = y.few in
    span_walked c.args.s c.args.words.now c.args.cells.now c.args.q c.args.bytes.now c.args.start c.args.x c.arrive.result c.args.out.now c.args.ignored.now
    c.args.loops.now c.take_random_span-taken.result.work c.expand_piece-span.result c.take_random_span-taken.result.marks _ c.onward-place.result _ _ _ c.expand_piece-span.ensures c.take_random_span-taken.ensures c.arrive.ensures c.onward-place.ensures
    (omega (arith, c.onward-place.ensures, next_inside c.args.s.pieces (c.expand_piece-span.result.end - 1) (omega arith))) (omega arith) (omega arith) (omega arith) c.requires.span_visit.left
