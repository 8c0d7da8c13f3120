-- `set_aside` meets its contract. Assumes nothing.
use Prim.Native.Nat.{◌-◌}
use native.Mathlib.Omega.{arith}
use mathlib.Core.Path.{refl}
use lib.ListN.{length}
use Rattle.pick_partial.proofs.FreeLaws.{Putting, put_none, putting_start, putting_next, putting_end}
use borrow.Author.Rules.{rules}
use Rattle.pick_partial.proofs.free.set_aside.Goals as goal

pub returns-then-t : goal.returns-then-t
returns-then-t c = put_none c.args.states.now c.args.i c.args.first c.requires.plain_states.0 c.requires.plain_states.2 c.args.t c.args.aside.now
    (omega (arith, c.requires.aside_in_bounds.0)) c.if-t.true

pub loop-k-init : goal.loop-k-init
loop-k-init c = putting_start c.args.states.now c.args.i c.args.first c.requires.plain_states.0 c.requires.plain_states.2 c.args.t c.args.aside.now
    (omega (arith, c.requires.aside_in_bounds.0)) c.if-t.false

pub offset_bounds-states-j : goal.offset_bounds-states-j
offset_bounds-states-j c = omega (arith, c.requires.plain_states.3, c.loop-k.invariant.there)

pub bounds-states-j : goal.bounds-states-j
bounds-states-j c = c.loop-k.invariant.there

pub put_aside_if-cur-requires : goal.put_aside_if-cur-requires
put_aside_if-cur-requires c = record {
  aside_in_bounds = omega (arith, c.if-t.false, c.loop-k.invariant.rest.few, c.loop-k.invariant.rest.long, c.loop-k.invariant.low, c.requires.plain_states.3, c.requires.aside_in_bounds.1);
  i_bound = (c.requires.plain_states.1, omega (arith, c.requires.plain_states.3, c.loop-k.invariant.there));
}

pub onward-j-requires : goal.onward-j-requires
onward-j-requires c = (c.loop-k.invariant.there, c.requires.plain_states.3)

pub loop-k-preserved : goal.loop-k-preserved
loop-k-preserved c = putting_next c.args.states.now c.args.i c.args.first c.requires.plain_states.0 c.requires.plain_states.2 c.args.t c.loop-k.cur c.args.aside.now _ c.loop-k.j c.loop-k.k
    c.loop-k.invariant c.loop-k-test.true _ refl c.put_aside_if-cur.ensures _ c.onward-j.ensures

pub shape_of-aside : goal.shape_of-aside
shape_of-aside c = c.loop-k.invariant.rest.long

pub returns : goal.returns
returns c = putting_end c.args.states.now c.args.i c.args.first c.requires.plain_states.0 c.requires.plain_states.2 c.args.t c.loop-k.cur c.args.aside.now _ c.loop-k.j c.loop-k.k
    c.loop-k.invariant c.loop-k-test.false c.requires.plain_states.3
