-- The definition's phases are those of `pick_phases`, with the pieces suggested apart. Assumes nothing.
use mathlib.Core.Path.{◌≡◌, refl, ap₂, ◌∙◌}
use mathlib.Core.Bool.{Bool, true, false}
use mathlib.Core.List.{List}
use Prim.Native.Nat.{ℕ}
use Rattle.model.specs.Lists.{unless, walk}
use Rattle.model.specs.list.Order.{Draws}
use Rattle.model.specs.pick.Blocks.{PickState, spent}
use Rattle.model.specs.pick.Pick.{pick_partials, suggest, pick_main, pick_rest, phases}
use Rattle.pick_state.specs.declared.request.PickRequest.{PickRequest as Request}
use Rattle.pick_state.specs.Requests.{request_of}
use Rattle.pick_start.specs.Starting.{request_with}
use Rattle.pick_start.proofs.RequestLaws.{partials_same, suggested_same, main_same, rest_same}
use Rattle.pick_phases.specs.Phases.{pick_first, pick_last, pick_phases}

-- four steps, up to where no block is wanted
in_turn : (p s m r : PickState → PickState) (w : PickState) → PickState
in_turn p s m r w =
    let w₁ = p w in
    let w₂ = unless (spent w₁) s w₁ in
    let w₃ = unless (spent w₂) m w₂ in
    unless (spent w₃) r w₃

-- the last two as one
last_two : (m r : PickState → PickState) (v : PickState)
    → (let x = unless (spent v) m v in unless (spent x) r x) ≡ unless (spent v) (λ u. unless (spent (m u)) r (m u)) v
unfolding unless
last_two m r v = go (spent v) refl
  where
    go : (b : Bool) → spent v ≡ b → (let x = unless (spent v) m v in unless (spent x) r x) ≡ unless (spent v)
        (λ u. unless (spent (m u)) r (m u)) v
    go true e = rw (e, e)
    go false e = rw e

-- with the pieces suggested apart
pub phases_are : (draws : Draws) (q : Request) (bytes suggestions : List ℕ) (w : PickState)
    → phases draws (request_with q bytes suggestions) w ≡ pick_phases draws (request_of q bytes) suggestions w
unfolding phases pick_phases pick_first pick_last in_turn
phases_are draws q bytes suggestions w =
    let a = request_with q bytes suggestions in
    let b = request_of q bytes in
    ap₂ (λ (p s : PickState → PickState). in_turn p s (pick_main draws a) (pick_rest draws a) w)
    (partials_same q bytes suggestions) (suggested_same q bytes suggestions)
    ∙ ap₂ (λ (m r : PickState → PickState). in_turn (pick_partials b) (walk (suggest b) spent suggestions) m r w)
    (main_same q bytes suggestions draws) (rest_same q bytes suggestions draws)
    ∙ last_two (pick_main draws b) (pick_rest draws b)
    (unless (spent (pick_partials b w)) (walk (suggest b) spent suggestions) (pick_partials b w))
