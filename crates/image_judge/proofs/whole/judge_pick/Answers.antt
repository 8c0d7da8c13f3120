-- `judge_pick` meets its contract. Assumes nothing.
use mathlib.Core.Path.{subst}
use native.Mathlib.Omega.{arith}
use Rattle.image_records.specs.Records.{PickJudged}
use Rattle.image_judge.proofs.WholeLaws.{pick_fails, pick_got, pick_more, pick_done}
use Rattle.image_judge.proofs.whole.judge_pick.Goals as goal

pub returns-in_default : goal.returns-in_default
returns-in_default c = let f = subst (PickJudged c.args.at c.args.bytes.now) c.in_default.is c.read_pick.ensures in
    pick_fails c.args.at c.args.bytes.now c.requires f

pub overflow_add-end : goal.overflow_add-end
overflow_add-end c = let f = subst (PickJudged c.args.at c.args.bytes.now) c.in-Some.is c.read_pick.ensures in
    omega (arith, (pick_got c.args.at c.args.bytes.now _ f 0).room)

pub returns-then-end-bytes : goal.returns-then-end-bytes
returns-then-end-bytes c = let f = subst (PickJudged c.args.at c.args.bytes.now) c.in-Some.is c.read_pick.ensures in
    pick_more c.args.at c.args.bytes.now _ f c.if-end-bytes.true

pub returns : goal.returns
returns c = let f = subst (PickJudged c.args.at c.args.bytes.now) c.in-Some.is c.read_pick.ensures in
    pick_done c.args.at c.args.bytes.now _ f c.if-end-bytes.false
