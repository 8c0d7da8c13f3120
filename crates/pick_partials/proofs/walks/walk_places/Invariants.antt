-- `walk_places` meets its contract. Assumes nothing.
use Prim.Native.Nat.{ℕ, ◌+◌, ◌-◌}
use native.Mathlib.Omega.{arith}
use lib.ListN.{take, drop}
use mathlib.Core.List.{◌∷◌}
use mathlib.Core.Path.{sym, ap, ◌∙◌}
use Rattle.pick_state.specs.Requests.{request_of}
use Rattle.memory_rows.specs.Lookup.{picker_in}
use Rattle.memory_layout.specs.Changes.{partial_in}
use Rattle.model.specs.pick.Pick.{partial_step}
use Rattle.pick_partials.specs.Phase.{walk_places}
use Rattle.pick_partials.proofs.WalkLaws.{Taking}
use borrow.Author.Rules.{rules}
use Rattle.pick_partials.proofs.walks.walk_places.Given as goal

abbrev pub invariant-loop-place : goal.invariant-loop-place
invariant-loop-place l = Taking (λ k. partial_step (request_of l.q l.bytes) (partial_in (picker_in l.live l.rows l.words l.cells) k)) (take l.many l.places)
    (drop l.place-index (take l.many l.places)) (picker_in l.live l.rows l.words l.cells) l.initial.cur l.cur l.initial.out l.initial.aside l.out l.aside
