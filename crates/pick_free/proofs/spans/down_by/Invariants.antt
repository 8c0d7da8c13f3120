-- `down_by` meets its contract. What is left of the walk is the whole of it. Assumes nothing.
use Prim.Native.Nat.{◌-◌, ◌≤◌}
use Rattle.model.specs.pick.Blocks.{down_by}
use Rattle.pick_state.specs.Requests.{request_of}
use Rattle.pick_free.proofs.FreeLaws.{SameTold}
use Rattle.pick_free.proofs.spans.down_by.Given as goal

abbrev pub invariant-loop-k : goal.invariant-loop-k
invariant-loop-k l = (l.i - l.n ≤ l.k) × SameTold l.s l.cells (λ d. down_by (request_of l.q l.bytes) d (l.k - (l.i - l.n)) l.k) (λ d. down_by (request_of l.q l.bytes) d l.n l.i)
