-- `up_by` meets its contract. What is left of the walk is the whole of it. Assumes nothing.
use mathlib.Core.Path.{◌≡◌}
use Prim.Native.Nat.{◌+◌, ◌-◌, ◌<◌}
use borrow.Author.Rules.{rules}
use native.Mathlib.Omega.{arith}
use Rattle.model.specs.pick.Blocks.{up_by, can_pick}
use Rattle.pick_state.specs.Requests.{request_of}
use Rattle.pick_free.proofs.FreeLaws.{same_up, turn_next, turn_stop, turn_end, up_step_to, up_none}
use Rattle.pick_free.proofs.spans.up_by.Goals as goal

pub loop-end-init : goal.loop-end-init
loop-end-init c = same_up c.args.s c.args.cells.now (request_of c.args.q c.args.bytes.now) c.args.n c.args.k

pub can_pick-requires : goal.can_pick-requires
can_pick-requires c = c.requires.picks_cells

pub returns-then-not-can_pick : goal.returns-then-not-can_pick
returns-then-not-can_pick c = let r = request_of c.args.q c.args.bytes.now in
    let top = c.args.k + c.args.n in
    let h : c.loop-end.end < top = omega arith in
    turn_stop c.args.s c.args.cells.now (λ d. up_by r d (top - c.loop-end.end) c.loop-end.end) (λ d. up_by r d (top - (c.loop-end.end + 1)) (c.loop-end.end + 1))
    (λ d. up_by r d c.args.n c.args.k) (λ d. can_pick r d c.loop-end.end) c.loop-end.end (λ d. up_step_to r d top c.loop-end.end h) c.loop-end.invariant
    c.can_pick.result c.can_pick.ensures c.if-not-can_pick.true-raw

pub loop-end-preserved : goal.loop-end-preserved
loop-end-preserved c = let r = request_of c.args.q c.args.bytes.now in
    let top = c.args.k + c.args.n in
    let h : c.loop-end.end < top = omega arith in
    turn_next c.args.s c.args.cells.now (λ d. up_by r d (top - c.loop-end.end) c.loop-end.end) (λ d. up_by r d (top - (c.loop-end.end + 1)) (c.loop-end.end + 1))
    (λ d. up_by r d c.args.n c.args.k) (λ d. can_pick r d c.loop-end.end) c.loop-end.end (λ d. up_step_to r d top c.loop-end.end h) c.loop-end.invariant
    c.can_pick.result c.can_pick.ensures c.if-not-can_pick.false-raw

pub returns : goal.returns
returns c = let r = request_of c.args.q c.args.bytes.now in
    let top = c.args.k + c.args.n in
    let u = c.loop-end.auto.end-end (omega arith) in
    let e : top ≡ c.loop-end.end = omega arith in
    let z : top - c.loop-end.end ≡ 0 = omega arith in
    let x = turn_end c.args.s c.args.cells.now (λ d. up_by r d (top - c.loop-end.end) c.loop-end.end) (λ d. up_by r d c.args.n c.args.k) c.loop-end.end
    (λ d. up_none r d (top - c.loop-end.end) c.loop-end.end z) c.loop-end.invariant in
    rw e x
