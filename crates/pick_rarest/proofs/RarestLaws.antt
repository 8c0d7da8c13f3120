-- The rarest phase put together: extents and list forwards, or the list backwards. Assumes nothing.
use mathlib.Core.Path.{◌≡◌, sym, ap, ◌∙◌}
use mathlib.Core.Bool.{Bool, true, false}
use mathlib.Core.List.{List}
use Prim.Native.Nat.{ℕ, ◌≤◌}
use native.Mathlib.Decide.{ℕ_discrete}
use native.Mathlib.Omega.{arith}
use borrow.Author.Tests.{ne_eqb, eq-eqb}
use Rattle.model.specs.Lists.{unless, when, branch}
use Rattle.model.specs.Options.{reverse, piece_extent_affinity}
use Rattle.model.specs.pick.Blocks.{PickRequest, option, spent}
use Rattle.model.specs.pick.Pick.{pick_extents, pick_forward, pick_rarest}
use Rattle.memory_layout.specs.declared.shape.Shape.{Shape}
use Rattle.memory_rows.specs.Lookup.{picker_in}
use Rattle.pick_state.specs.declared.numbers.PickNumbers.{PickNumbers}
use Rattle.pick_state.specs.declared.request.PickRequest.{PickRequest as Request}
use Rattle.pick_state.specs.PickStates.{state_of}
use Rattle.pick_free.specs.Picking.{Picks}
use Rattle.pick_visits.specs.Steps.{Stepped, Counted, Risen}
use Rattle.pick_visits.specs.Walks.{walk_list, walk_list_back}
use Rattle.pick_extents.specs.Extents.{Moved}
use Rattle.pick_extents.proofs.MoveLaws.{stepped_moved, moved_as, moved_then}

-- ---- counters
pub counted_risen : {c n : ℕ} {loops loops' : List ℕ} → Counted c n loops loops' → Risen n loops loops'
counted_risen {c = c} x = record {
  rise = λ k. elim (ℕ_discrete k c) [
    | yes e ↦ rw e x.own
    | no d ↦ let z = x.others k d in omega arith
  ];
}

pub risen_none : (n : ℕ) (loops : List ℕ) → Risen n loops loops
risen_none n loops = record { rise = λ k. omega arith }

-- ---- the list after the extents
module _ {s : Shape} {live : ℕ} {rows words words' cells : List ℕ} {q : Request} {t u : PickNumbers} {out aside : List ℕ} {ignored : List Bool}
    {loops : List ℕ} {out₁ aside₁ : List ℕ} {ignored₁ : List Bool} {loops₁ : List ℕ} (a : PickRequest) (e : option piece_extent_affinity a ≡ true)
    (x : Moved (pick_extents a) s live rows words words' cells q t u out aside ignored loops out₁ aside₁ ignored₁ loops₁) where
  spent_by : (b : Bool) → spent (state_of 0 (picker_in live rows words' cells) u out₁ aside₁ ignored₁ loops₁) ≡ b → (start : ℕ) → start ≤ t.end
      → spent (pick_extents a (state_of start (picker_in live rows words cells) t out aside ignored loops)) ≡ b
  unfolding spent state_of
  spent_by b z start h = sym (ap spent (x.is start h)) ∙ z

  -- no block is wanted any more
  pub forward_stop : u.left ≡ 0 → Moved (pick_forward a) s live rows words words' cells q t u out aside ignored loops out₁ aside₁ ignored₁ loops₁
  unfolding pick_forward when unless spent state_of
  forward_stop z = moved_as x (λ start h. rw (e, spent_by true (eq-eqb u.left 0 z) start h))

  pub forward_on : (u.left ≡ 0 → ⊥) → {r : PickNumbers} {out' aside' : List ℕ} {ignored' : List Bool} {loops' : List ℕ}
      → Stepped (walk_list a) (picker_in live rows words' cells) u r out₁ aside₁ ignored₁ loops₁ out' aside' ignored' loops'
      → Moved (pick_forward a) s live rows words words' cells q t r out aside ignored loops out' aside' ignored' loops'
  unfolding pick_forward walk_list when unless spent state_of
  forward_on n y = moved_as (moved_then x y) (λ start h. rw (e, spent_by false (ne_eqb u.left 0 n) start h))

-- ---- without them
module _ {s : Shape} {live : ℕ} {rows words cells : List ℕ} {q : Request} (p : Picks s live rows words cells q) {t r : PickNumbers}
    {out aside : List ℕ} {ignored : List Bool} {loops : List ℕ} {out' aside' : List ℕ} {ignored' : List Bool} {loops' : List ℕ} (a : PickRequest) where
  pub forward_list : option piece_extent_affinity a ≡ false → 1 ≤ t.left
      → Stepped (walk_list a) (picker_in live rows words cells) t r out aside ignored loops out' aside' ignored' loops'
      → Moved (pick_forward a) s live rows words words cells q t r out aside ignored loops out' aside' ignored' loops'
  unfolding pick_forward walk_list when unless spent state_of
  forward_list e w y = moved_as (stepped_moved p y) (λ start h. rw (e, ne_eqb t.left 0 (λ z. omega arith)))

  -- ---- the phase
  pub rarest_back : option reverse a ≡ true
      → Stepped (walk_list_back a) (picker_in live rows words cells) t r out aside ignored loops out' aside' ignored' loops'
      → Moved (pick_rarest a) s live rows words words cells q t r out aside ignored loops out' aside' ignored' loops'
  unfolding pick_rarest walk_list_back branch state_of
  rarest_back e y = moved_as (stepped_moved p y) (λ start h. rw e)

pub rarest_forward : {s : Shape} {live : ℕ} {rows words words' cells : List ℕ} {q : Request} {t r : PickNumbers} {out aside : List ℕ}
    {ignored : List Bool} {loops : List ℕ} {out' aside' : List ℕ} {ignored' : List Bool} {loops' : List ℕ} (a : PickRequest)
    → option reverse a ≡ false → Moved (pick_forward a) s live rows words words' cells q t r out aside ignored loops out' aside' ignored' loops'
    → Moved (pick_rarest a) s live rows words words' cells q t r out aside ignored loops out' aside' ignored' loops'
unfolding pick_rarest branch state_of
rarest_forward a e x = moved_as x (λ start h. rw e)
