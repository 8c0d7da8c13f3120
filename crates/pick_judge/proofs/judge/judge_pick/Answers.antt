-- `judge_pick` meets its contract. Assumes nothing.
use native.Mathlib.Omega.{arith}
use borrow.Author.Tests.{not-false}
use borrow.Author.Rules.{rules}
use Rattle.pick_judge.proofs.JudgeLaws.{judged_few, judged_arguments, judged_output, judged_passed}
use Rattle.pick_judge.proofs.judge.judge_pick.Goals as goal

pub returns-then-draws-lt4352 : goal.returns-then-draws-lt4352
returns-then-draws-lt4352 c = judged_few c.args.s c.args.q c.args.bytes.now c.args.suggestions.now c.args.draws.now c.args.free c.if-draws-lt4352.true

pub returns-then-not-request_fits : goal.returns-then-not-request_fits
returns-then-not-request_fits c = judged_arguments c.args.s c.args.q c.args.bytes.now c.args.suggestions.now c.args.draws.now c.args.free c.if-draws-lt4352.false c.request_fits.result
    c.request_fits.ensures c.if-not-request_fits.true-raw

pub overflow_add-q : goal.overflow_add-q
overflow_add-q c = let k = c.request_fits.ensures.few (not-false c.request_fits.result c.if-not-request_fits.false-raw) in omega (arith, k.0, k.1)

pub overflow_add-q-2 : goal.overflow_add-q-2
overflow_add-q-2 c = let k = c.request_fits.ensures.few (not-false c.request_fits.result c.if-not-request_fits.false-raw) in omega (arith, k.0, k.1)

pub returns-then-free-q : goal.returns-then-free-q
returns-then-free-q c = judged_output c.args.s c.args.q c.args.bytes.now c.args.suggestions.now c.args.draws.now c.args.free c.if-draws-lt4352.false c.request_fits.result
    c.request_fits.ensures c.if-not-request_fits.false-raw c.if-free-q.true

pub returns : goal.returns
returns c = judged_passed c.args.s c.args.q c.args.bytes.now c.args.suggestions.now c.args.draws.now c.args.free c.if-draws-lt4352.false c.request_fits.result
    c.request_fits.ensures c.if-not-request_fits.false-raw c.if-free-q.false
