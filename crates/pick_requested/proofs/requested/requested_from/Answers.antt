-- `requested_from` meets its contract. Assumes nothing.
use Prim.Native.Nat.{◌-◌, ◌≤◌}
use native.Mathlib.Omega.{arith}
use Rattle.types.specs.Peer.{named_peer}
use Rattle.memory_layout.specs.Tables.{tabulate}
use Rattle.memory_layout.specs.Decode.{block_held}
use Rattle.pick_requested.proofs.RequestedLaws.{start_scan, Passing, pass_start, held_next, requested_is}
use mathlib.Core.Path.{◌≡◌, subst}
use borrow.Author.Rules.{rules}
use Rattle.pick_requested.proofs.requested.requested_from.Goals as goal

pub loop-j-init : goal.loop-j-init
unfolding start_scan
loop-j-init c = (omega arith, pass_start _ _)

pub get_block-b-requires : goal.get_block-b-requires
get_block-b-requires c = record {
  spans = c.requires.spans;
  p_lt_places = (c.requires.place_lt_places.0, omega (arith, c.requires.place_lt_places.1));
}

pub pass_block-x-requires : goal.pass_block-x-requires
pass_block-x-requires c = record {
  within = c.loop-j.invariant.1.within;
  j_bound = omega (arith, c.requires.spans.in_words.sizes.wide, c.requires.place_lt_places.1);
}

pub loop-j-preserved : goal.loop-j-preserved
loop-j-preserved c = (
  omega arith,
  held_next c.args.words.now c.args.cells.now c.args.s c.args.place c.args.many _ _ _ c.loop-j.invariant.1 c.loop-j-test.true _ _
      c.get_block-b.ensures c.pass_block-x.ensures.passed_over c.pass_block-x.ensures.within_2,
)

pub run_ended-y-requires : goal.run_ended-y-requires
run_ended-y-requires c = omega (arith, c.loop-j.invariant.1.within.now)

pub returns : goal.returns
returns c = let e : c.loop-j.j ≡ c.args.many = omega (arith, c.loop-j.invariant.0) in
    requested_is c.args.words.now c.args.cells.now c.args.s c.args.place c.args.many _ _
    (subst (Passing _ (tabulate c.args.many (block_held c.args.words.now c.args.cells.now c.args.s.pieces c.args.s.blocks c.args.place)) c.loop-j.x) e
    c.loop-j.invariant.1) _ c.run_ended-y.ensures
