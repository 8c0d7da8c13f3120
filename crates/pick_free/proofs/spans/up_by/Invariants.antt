-- `up_by` meets its contract. What is left of the walk is the whole of it. Assumes nothing.
use Prim.Native.Nat.{◌+◌, ◌-◌}
use Rattle.model.specs.pick.Blocks.{up_by}
use Rattle.pick_state.specs.Requests.{request_of}
use Rattle.pick_free.proofs.FreeLaws.{SameTold}
use Rattle.pick_free.proofs.spans.up_by.Given as goal

abbrev pub invariant-loop-end : goal.invariant-loop-end
invariant-loop-end l = SameTold l.s l.cells (λ d. up_by (request_of l.q l.bytes) d (l.k + l.n - l.end) l.end) (λ d. up_by (request_of l.q l.bytes) d l.n l.k)
