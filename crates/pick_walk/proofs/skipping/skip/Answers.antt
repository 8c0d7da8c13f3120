-- `skip` meets its contract. Assumes nothing.
use Rattle.pick_walk.proofs.SkipLaws.{ahead, SkipRest, skips_start, skips_next, skips_less, skips_end}
use Rattle.pick_state.specs.Requests.{request_of}
use Rattle.pick_laws.proofs.RoundLaws.{far_some}
use borrow.Author.Tests.{not-true, not-false}
use native.Mathlib.Omega.{arith}
use borrow.Author.Rules.{rules}
use Rattle.pick_walk.proofs.skipping.skip.Goals as goal

pub loop-back-init : goal.loop-back-init
loop-back-init c = skips_start (request_of c.args.q c.args.bytes.now) c.args.start c.args.s c.args.cells.now c.args.x c.args.ignored.now c.args.loops.now c.requires.place_lt_pieces.0

pub skip_done-requires : goal.skip_done-requires
skip_done-requires c = (c.requires.walk_cells.0.picks, omega (arith, c.loop-back.invariant.inside, c.requires.walk_cells.0.picks.span.sizes.many, c.requires.walk_cells.1))

pub count-requires : goal.count-requires
count-requires c = let u = far_some c.args.s.pieces c.args.start c.requires.place_lt_pieces.1 c.args.x.place c.requires.place_lt_pieces.0 in
    (omega (arith, c.requires.walk_cells.2), omega (arith, c.loop-back.invariant.starts, c.requires.loops_bound, c.requires.walk_cells.0.picks.span.sizes.many))

pub onward-place-requires : goal.onward-place-requires
onward-place-requires c = omega (arith, c.loop-back.invariant.inside, c.requires.walk_cells.0.picks.span.sizes.many)

pub loop-back-smaller : goal.loop-back-smaller
loop-back-smaller c = skips_less c.loop-back.invariant c.skip_done.ensures c.requires.walk_cells.0.picker c.requires.walk_cells.0.stands c.onward-place.result
    (not-true c.skip_done.result c.loop-back-test.true-raw) c.requires.place_lt_pieces.1 c.onward-place.ensures

pub loop-back-preserved : goal.loop-back-preserved
loop-back-preserved c = skips_next c.loop-back.invariant c.skip_done.ensures c.requires.walk_cells.0.picker c.requires.walk_cells.0.stands c.onward-place.result _
    (not-true c.skip_done.result c.loop-back-test.true-raw) c.requires.place_lt_pieces.1 c.requires.place_lt_pieces.0 (omega (arith, c.requires.walk_cells.2)) c.onward-place.ensures
    c.count.ensures

pub shape_of-loops : goal.shape_of-loops
shape_of-loops c = c.loop-back.invariant.long

pub returns : goal.returns
returns c = skips_end c.loop-back.invariant c.skip_done.ensures c.moved.result (not-false c.skip_done.result c.loop-back-test.false-raw)
    c.moved.ensures c.requires.place_lt_pieces.1 c.requires.place_lt_pieces.0 c.requires.walk_cells.0.picks.span.sizes.many
