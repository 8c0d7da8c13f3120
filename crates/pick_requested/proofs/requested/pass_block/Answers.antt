-- `pass_block` meets its contract. Assumes nothing.
use mathlib.Core.Option.{none}
use Rattle.pick_requested.proofs.RequestedLaws.{passed_free, free_within, passed_busy, busy_within}
use borrow.Author.Rules.{rules}
use Rattle.pick_requested.proofs.requested.pass_block.Goals as goal

pub returns-then-b-eq0 : goal.returns-then-b-eq0
returns-then-b-eq0 c = record {
  passed_over = passed_free _ c.args.j c.args.x c.args.b c.if-b-eq0.true;
  within_2 = free_within none c.args.j c.args.x c.args.b c.requires.within;
}

pub run_ended-y-requires : goal.run_ended-y-requires
run_ended-y-requires c = c.requires.within.now

pub returns : goal.returns
returns c = record {
  passed_over = passed_busy _ c.args.j c.args.x c.args.b c.if-b-eq0.false _ c.run_ended-y.ensures _ c.same_peer-same.ensures;
  within_2 = busy_within none c.args.j c.args.x c.args.b c.if-b-eq0.false c.requires.within _ c.run_ended-y.ensures _ _;
}
