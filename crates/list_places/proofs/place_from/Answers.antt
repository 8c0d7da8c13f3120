-- `place_from` meets its contract: the first of the rest that is w stands at its place. Assumes nothing.
use Rattle.std.proofs.Common.{rules, Some}
use mathlib.Core.Path.{◌≡◌, ◌∙◌}
use Prim.Native.Nat.{ℕ, ◌+◌, ◌-◌}
use native.Mathlib.Omega.{arith}
use lib.ListN.{take, drop}
use lib.Dec.{eqb}
use Rattle.std.proofs.lemmas.Iterator.{YieldsList-from_slice}
use Rattle.model.specs.Lists.{place_of}
use Rattle.std.proofs.lemmas.Iterator.Adapters.{position_from-zero}
use Rattle.std.proofs.lemmas.Iterator.Search.{position_from_yields_List}
use Rattle.list_places.proofs.Seeking.{found_from}
use Rattle.list_places.proofs.place_from.Goals as goal
use Rattle.list_places.proofs.place_from.Goals.{After-position}

found : (c : After-position) → (k : ℕ) × (c.position.result ≡ Some k) × (c.pass_fours-near.result + k ≡ place_of c.args.w (take c.args.end c.args.list.now))
found c = let near = c.pass_fours-near.result in
    let h = found_from c.args.w near c.args.end c.args.list.now c.requires.end_in_bounds c.pass_fours-near.ensures c.requires.list_bound in
    let rest = take (c.args.end - near) (drop near c.args.list.now) in
    let r = position_from_yields_List (λ v. eqb c.args.w v) _ _ c.position.result c.position.ensures.ran
    (YieldsList-from_slice rest cc) (λ x b q k. search rules) in
    (h.0, r ∙ position_from-zero (λ v. eqb c.args.w v) rest ∙ h.1, h.2)

pub unwrap-requires : goal.unwrap-requires
unwrap-requires c = let h = found c in rw h.1

pub returns : goal.returns
returns c = let h = found (goal.at.returns c).After-position in
    let e : h.0 ≡ c.unwrap.result = cc in
    omega (arith, h.2)
