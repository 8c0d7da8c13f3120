-- `take_free` meets its contract. Assumes nothing.
use mathlib.Core.Path.{refl, ◌∙◌}
use Prim.Native.Nat.{◌-◌}
use native.Mathlib.Omega.{arith}
use lib.ListN.{length}
use Rattle.pick_partial.proofs.FreeLaws.{Taking, taking_start, taking_next, taking_stop, taking_end}
use borrow.Author.Rules.{rules}
use Rattle.pick_partial.proofs.free.take_free.Goals as goal

pub loop-k-init : goal.loop-k-init
loop-k-init c = taking_start c.args.states.now c.args.i c.args.first c.requires.plain_states.0 c.requires.plain_states.2 c.args.t c.args.out.now

pub offset_bounds-states-j : goal.offset_bounds-states-j
offset_bounds-states-j c = omega (arith, c.requires.plain_states.3, c.loop-k.invariant.there)

pub bounds-states-j : goal.bounds-states-j
bounds-states-j c = c.loop-k.invariant.there

pub last_wanted-requires : goal.last_wanted-requires
last_wanted-requires c = omega (arith, c.requires.end_in_bounds.1, c.loop-k.invariant.rest.given, c.requires.plain_states.3)

pub take_if-cur-requires : goal.take_if-cur-requires
take_if-cur-requires c = record {
  end_in_bounds = (omega (arith, c.requires.end_in_bounds.0, c.loop-k.invariant.rest.few, c.loop-k.invariant.rest.kept.long, c.requires.plain_states.3), omega (arith, c.requires.end_in_bounds.1, c.loop-k.invariant.rest.given, c.requires.plain_states.3));
  i_bound = (c.requires.plain_states.1, omega (arith, c.requires.plain_states.3, c.loop-k.invariant.there));
}

pub shape_of-out-then-last : goal.shape_of-out-then-last
shape_of-out-then-last c = c.take_if-cur.ensures.kept.long ∙ c.loop-k.invariant.rest.kept.long

pub returns-then-last : goal.returns-then-last
returns-then-last c = taking_stop c.args.states.now c.args.i c.args.first c.requires.plain_states.0 c.requires.plain_states.2 c.args.t c.loop-k.cur c.args.out.now _ c.loop-k.j c.loop-k.k
    c.loop-k.invariant c.loop-k-test.true _ refl c.last_wanted.result c.last_wanted.ensures c.take_if-cur.ensures
    c.if-last.true c.requires.plain_states.3

pub onward-j-requires : goal.onward-j-requires
onward-j-requires c = (c.loop-k.invariant.there, c.requires.plain_states.3)

pub loop-k-preserved : goal.loop-k-preserved
loop-k-preserved c = taking_next c.args.states.now c.args.i c.args.first c.requires.plain_states.0 c.requires.plain_states.2 c.args.t c.loop-k.cur c.args.out.now _ c.loop-k.j c.loop-k.k
    c.loop-k.invariant c.loop-k-test.true _ refl c.last_wanted.result c.last_wanted.ensures c.take_if-cur.ensures
    c.if-last.false _ c.onward-j.ensures

pub shape_of-out : goal.shape_of-out
shape_of-out c = c.loop-k.invariant.rest.kept.long

pub returns : goal.returns
returns c = taking_end c.args.states.now c.args.i c.args.first c.requires.plain_states.0 c.requires.plain_states.2 c.args.t c.loop-k.cur c.args.out.now _ c.loop-k.j c.loop-k.k
    c.loop-k.invariant c.loop-k-test.false c.requires.plain_states.3
