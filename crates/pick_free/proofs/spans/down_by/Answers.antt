-- `down_by` meets its contract. What is left of the walk is the whole of it. Assumes nothing.
use mathlib.Core.Path.{◌≡◌}
use Prim.Native.Nat.{◌+◌, ◌-◌, ◌<◌}
use borrow.Author.Rules.{rules}
use native.Mathlib.Omega.{arith}
use Rattle.model.specs.pick.Blocks.{down_by, can_pick}
use Rattle.pick_state.specs.Requests.{request_of}
use Rattle.pick_free.proofs.FreeLaws.{same_down, turn_next, turn_stop, turn_end, down_step_to, down_none}
use Rattle.pick_free.proofs.spans.down_by.Goals as goal

pub loop-k-init : goal.loop-k-init
loop-k-init c = (omega arith, same_down c.args.s c.args.cells.now (request_of c.args.q c.args.bytes.now) c.args.n c.args.i c.requires.n_le_i)

pub can_pick-requires : goal.can_pick-requires
can_pick-requires c = c.requires.picks_cells

pub returns-then-not-can_pick : goal.returns-then-not-can_pick
returns-then-not-can_pick c = let r = request_of c.args.q c.args.bytes.now in
    let low = c.args.i - c.args.n in
    let h : low < c.loop-k.k = omega arith in
    let e : c.loop-k.k - 1 + 1 ≡ c.loop-k.k = omega arith in
    let x = turn_stop c.args.s c.args.cells.now (λ d. down_by r d (c.loop-k.k - low) c.loop-k.k) (λ d. down_by r d (c.loop-k.k - 1 - low) (c.loop-k.k - 1))
    (λ d. down_by r d c.args.n c.args.i) (λ d. can_pick r d (c.loop-k.k - 1)) c.loop-k.k (λ d. down_step_to r d low c.loop-k.k h) c.loop-k.invariant.1
    c.can_pick.result c.can_pick.ensures c.if-not-can_pick.true-raw in
    (rw e x, omega arith)

pub loop-k-preserved : goal.loop-k-preserved
loop-k-preserved c = let r = request_of c.args.q c.args.bytes.now in
    let low = c.args.i - c.args.n in
    let h : low < c.loop-k.k = omega arith in
    let x = turn_next c.args.s c.args.cells.now (λ d. down_by r d (c.loop-k.k - low) c.loop-k.k) (λ d. down_by r d (c.loop-k.k - 1 - low) (c.loop-k.k - 1))
    (λ d. down_by r d c.args.n c.args.i) (λ d. can_pick r d (c.loop-k.k - 1)) c.loop-k.k (λ d. down_step_to r d low c.loop-k.k h) c.loop-k.invariant.1
    c.can_pick.result c.can_pick.ensures c.if-not-can_pick.false-raw in
    (omega arith, x)

pub returns : goal.returns
returns c = let r = request_of c.args.q c.args.bytes.now in
    let low = c.args.i - c.args.n in
    let e : low ≡ c.loop-k.k = omega arith in
    let z : c.loop-k.k - low ≡ 0 = omega arith in
    let x = turn_end c.args.s c.args.cells.now (λ d. down_by r d (c.loop-k.k - low) c.loop-k.k) (λ d. down_by r d c.args.n c.args.i) c.loop-k.k
    (λ d. down_none r d (c.loop-k.k - low) c.loop-k.k z) c.loop-k.invariant.1 in
    (rw e x, omega arith)
