-- The phases of a pick put together on the code's values. Assumes nothing.
use mathlib.Core.Path.{◌≡◌, sym, ap, ap₂, ◌∙◌}
use mathlib.Core.Bool.{Bool, true, false, ◌||◌}
use mathlib.Core.List.{List}
use Prim.Native.Nat.{ℕ, ◌+◌, ◌≤◌}
use native.Mathlib.Omega.{arith}
use borrow.Author.Tests.{ne_eqb, eq-eqb}
use lib.ListN.{length}
use Rattle.model.specs.Lists.{unless, branch, walk}
use Rattle.model.specs.State.{Picker}
use Rattle.model.specs.Options.{sequential, rarest_first}
use Rattle.model.specs.list.Order.{Draws}
use Rattle.model.specs.pick.Blocks.{PickRequest, PickState, option, spent}
use Rattle.model.specs.pick.Pick.{pick_partials, suggest, pick_listed, pick_random, pick_main, pick_rest}
use Rattle.memory_layout.specs.declared.shape.Shape.{Shape}
use Rattle.memory_rows.specs.Lookup.{picker_in}
use Rattle.pick_state.specs.declared.numbers.PickNumbers.{PickNumbers}
use Rattle.pick_state.specs.declared.request.PickRequest.{PickRequest as Request}
use Rattle.pick_state.specs.PickStates.{state_of}
use Rattle.pick_state.specs.Room.{Underway}
use Rattle.pick_state.proofs.DidLaws.{kept_then}
use Rattle.pick_state.proofs.RoomLaws.{working_left, working_aside, working_marks}
use Rattle.pick_free.specs.Picking.{Picks}
use Rattle.pick_visits.specs.Steps.{Stepped}
use Rattle.pick_visits.proofs.VisitLaws.{picks_sound}
use Rattle.pick_visits.proofs.StepLaws.{stepped_then, stepped_as, did_spent, did_unspent}
use Rattle.pick_extents.specs.Extents.{Moved}
use Rattle.pick_extents.proofs.MoveLaws.{stepped_moved, moved_as}
use Rattle.pick_listed.proofs.ListedLaws.{moved_spent}
use Rattle.pick_rest.specs.Game.{CountRoom, RestDid}
use Rattle.pick_phases.specs.Phases.{pick_first, pick_last, pick_phases, LowLoops, Ended}
use Rattle.pick_phases.proofs.UsedLaws.{partials_used, suggested_used, listed_used, none_aside}

-- ---- partials, then suggestions
module _ {d : Picker} {t u : PickNumbers} {out aside : List ℕ} {ignored : List Bool} {loops : List ℕ} {out₁ aside₁ : List ℕ}
    {ignored₁ : List Bool}
    {loops₁ : List ℕ} (a : PickRequest) (suggestions : List ℕ)
    (x : Stepped (pick_partials a) d t u out aside ignored loops out₁ aside₁ ignored₁ loops₁) where
  -- no block is wanted any more
  pub first_stop : u.left ≡ 0 → Stepped (pick_first a suggestions) d t u out aside ignored loops out₁ aside₁ ignored₁ loops₁
  unfolding pick_first unless
  first_stop z = stepped_as x (λ start h. rw (did_spent x.did start h z))

  pub first_on : (u.left ≡ 0 → ⊥) → {r : PickNumbers} {out' aside' : List ℕ} {ignored' : List Bool} {loops' : List ℕ}
      → Stepped (walk (suggest a) spent suggestions) d u r out₁ aside₁ ignored₁ loops₁ out' aside' ignored' loops'
      → Stepped (pick_first a suggestions) d t r out aside ignored loops out' aside' ignored' loops'
  unfolding pick_first unless
  first_on n y = stepped_as (stepped_then x y) (λ start h. rw (did_unspent x.did start h n))

  -- draws
  module _ (w : 1 ≤ t.left) (e : t.aside ≡ 0) where
    pub first_used : u.used ≤ t.used
    unfolding state_of
    first_used =
        omega (
          arith,
          ap (λ (v : PickState). v.used) (x.did.is t.end (omega arith)),
          partials_used a (state_of t.end d t out aside ignored loops) (none_aside t.end d t out aside ignored loops w e),
        )

    pub then_used : (u.left ≡ 0 → ⊥) → {r : PickNumbers} {out' aside' : List ℕ} {ignored' : List Bool} {loops' : List ℕ}
        → Stepped (walk (suggest a) spent suggestions) d u r out₁ aside₁ ignored₁ loops₁ out' aside' ignored' loops' → r.used ≤ t.used
    unfolding state_of spent
    then_used n {r = r} y =
        omega (
          arith,
          first_used,
          ap (λ (v : PickState). v.used) (y.did.is u.end (omega arith)),
          suggested_used a suggestions (state_of u.end d u out₁ aside₁ ignored₁ loops₁) (ne_eqb u.left 0 n),
        )

-- ---- the main phase
module _ {s : Shape} {live : ℕ} {rows words words' cells : List ℕ} {q : Request} {t r : PickNumbers} {out aside : List ℕ}
    {ignored : List Bool} {loops : List ℕ} {out' aside' : List ℕ} {ignored' : List Bool} {loops' : List ℕ} (draws : Draws) (a : PickRequest)
    (e f : Bool) (es : e ≡ option sequential a) (ef : f ≡ option rarest_first a) where
  pub main_listed : (e || f) ≡ true → Moved (pick_listed draws a) s live rows words words' cells q t r out aside ignored loops out' aside'
      ignored' loops'
      → Moved (pick_main draws a) s live rows words words' cells q t r out aside ignored loops out' aside' ignored' loops'
  unfolding pick_main branch
  main_listed g x = moved_as x (λ start h. rw (sym (ap₂ (λ (k l : Bool). k || l) es ef) ∙ g))

  pub main_random : (e || f) ≡ false → Moved (pick_random draws a) s live rows words words' cells q t r out aside ignored loops out'
      aside' ignored' loops'
      → Moved (pick_main draws a) s live rows words words' cells q t r out aside ignored loops out' aside' ignored' loops'
  unfolding pick_main branch
  main_random g x = moved_as x (λ start h. rw (sym (ap₂ (λ (k l : Bool). k || l) es ef) ∙ g))

-- draws of the list
pub main_used : {s : Shape} {live : ℕ} {rows words words' cells : List ℕ} {q : Request} {t r : PickNumbers} {out aside : List ℕ}
    {ignored : List Bool} {loops : List ℕ} {out' aside' : List ℕ} {ignored' : List Bool} {loops' : List ℕ} (draws : Draws) (a : PickRequest)
    → Picks s live rows words cells q → 1 ≤ t.left → t.used ≡ 0
    → Moved (pick_listed draws a) s live rows words words' cells q t r out aside ignored loops out' aside' ignored' loops' → r.used ≤ 4096
unfolding state_of spent
main_used {live = live} {rows = rows} {words = words} {cells = cells} {t = t} {out = out} {aside = aside} {ignored = ignored}
    {loops = loops} draws a p w z x =
    omega (
      arith,
      ap (λ (v : PickState). v.used) (x.is t.end (omega arith)),
      listed_used draws a (state_of t.end (picker_in live rows words cells) t out aside ignored loops)
          (ne_eqb t.left 0 (λ y. omega arith)) (picks_sound p),
    )

-- ---- the rest
-- what it asks
pub rest_asks : {d : Picker} {t : PickNumbers} {out aside : List ℕ} {ignored : List Bool} {loops : List ℕ} → Underway d t out aside
    ignored loops
    → (t.end + t.left ≤ length out) × (t.aside ≤ length aside)
rest_asks u =
    let w = u.working in
    let e = working_left w in
    let g = w.roomy.room in
    let n = w.since in
    let k = w.within in
    (omega arith, omega (arith, (working_aside w).0))

pub rest_counts : {d : Picker} {t : PickNumbers} {out aside : List ℕ} {ignored : List Bool} {loops : List ℕ} → Underway d t out aside
    ignored loops
    → LowLoops 274877906944 loops → CountRoom 200 loops
rest_counts u l = record { wide = (working_marks u.working).1; room = omega (arith, l.low 6) }

module _ {f : PickState → PickState} {s : Shape} {live : ℕ} {rows words words' cells : List ℕ} {q : Request} {t u : PickNumbers}
    {out aside : List ℕ} {ignored : List Bool} {loops : List ℕ} {out₁ aside₁ : List ℕ} {ignored₁ : List Bool} {loops₁ : List ℕ} where
  -- a move as the end of a pick
  moved_ended : Moved f s live rows words words' cells q t u out aside ignored loops out₁ aside₁ ignored₁ loops₁
      → Ended f s live rows words words' cells q t u out aside ignored loops out₁ aside₁ ignored₁ loops₁
  moved_ended x = record {
    is = x.is;
    kept = x.kept;
    within = x.underway.working.within;
    long_aside = x.long_aside;
    long_ignored = x.long_ignored;
    long_loops = x.long_loops;
    picks = x.picks;
    words_kept = x.words_kept;
  }

  -- by another name
  ended_as : Ended f s live rows words words' cells q t u out aside ignored loops out₁ aside₁ ignored₁ loops₁ → {g : PickState → PickState}
      → ((start : ℕ) → start ≤ t.end → f (state_of start (picker_in live rows words cells) t out aside ignored loops)
      ≡ g (state_of start (picker_in live rows words cells) t out aside ignored loops))
      → Ended g s live rows words words' cells q t u out aside ignored loops out₁ aside₁ ignored₁ loops₁
  ended_as x e = record {
    is = λ start h. x.is start h ∙ e start h;
    kept = x.kept;
    within = x.within;
    long_aside = x.long_aside;
    long_ignored = x.long_ignored;
    long_loops = x.long_loops;
    picks = x.picks;
    words_kept = x.words_kept;
  }

  -- the rest after a move
  rest_ended : Moved f s live rows words words' cells q t u out aside ignored loops out₁ aside₁ ignored₁ loops₁ → (draws : Draws)
      (a : PickRequest)
      {r : PickNumbers} {out₂ loops₂ : List ℕ} → RestDid draws a (picker_in live rows words' cells) u r out₁ out₂ aside₁ loops₁ loops₂
      → Ended (λ w. pick_rest draws a (f w)) s live rows words words' cells q t r out aside ignored loops out₂ aside₁ ignored₁ loops₂
  rest_ended x draws a z =
      let y = z.worked ignored₁ in
      record {
        is = λ start h. let k = x.kept.rises in y.did.is start (omega arith) ∙ ap (pick_rest draws a) (x.is start h);
        kept = kept_then x.kept y.did.kept;
        within = y.within;
        long_aside = x.long_aside;
        long_ignored = x.long_ignored;
        long_loops = y.did.long_loops ∙ x.long_loops;
        picks = x.picks;
        words_kept = x.words_kept;
      }

-- after the main phase
module _ {s : Shape} {live : ℕ} {rows words words' cells : List ℕ} {q : Request} {t u : PickNumbers} {out aside : List ℕ}
    {ignored : List Bool}
    {loops : List ℕ} {out₁ aside₁ : List ℕ} {ignored₁ : List Bool} {loops₁ : List ℕ} (draws : Draws) (a : PickRequest)
    (x : Moved (pick_main draws a) s live rows words words' cells q t u out aside ignored loops out₁ aside₁ ignored₁ loops₁) where
  pub last_stop : u.left ≡ 0 → Ended (pick_last draws a) s live rows words words' cells q t u out aside ignored loops out₁ aside₁
      ignored₁ loops₁
  unfolding pick_last unless spent state_of
  last_stop z = ended_as (moved_ended x) (λ start h. rw (moved_spent x true (eq-eqb u.left 0 z) start h))

  pub last_on : (u.left ≡ 0 → ⊥) → {r : PickNumbers} {out₂ loops₂ : List ℕ}
      → RestDid draws a (picker_in live rows words' cells) u r out₁ out₂ aside₁ loops₁ loops₂
      → Ended (pick_last draws a) s live rows words words' cells q t r out aside ignored loops out₂ aside₁ ignored₁ loops₂
  unfolding pick_last unless spent state_of
  last_on n z = ended_as (rest_ended x draws a z) (λ start h. rw (moved_spent x false (ne_eqb u.left 0 n) start h))

-- ---- all of them
module _ {s : Shape} {live : ℕ} {rows words cells : List ℕ} {q : Request} (p : Picks s live rows words cells q) {t u : PickNumbers}
    {out aside : List ℕ} {ignored : List Bool} {loops : List ℕ} {out₁ aside₁ : List ℕ} {ignored₁ : List Bool} {loops₁ : List ℕ}
    (draws : Draws)
    (a : PickRequest) (suggestions : List ℕ)
    (x : Stepped (pick_first a suggestions) (picker_in live rows words cells) t u out aside ignored loops out₁ aside₁ ignored₁ loops₁) where
  pub phases_stop : u.left ≡ 0
      → Ended (pick_phases draws a suggestions) s live rows words words cells q t u out aside ignored loops out₁ aside₁ ignored₁ loops₁
  unfolding pick_phases unless
  phases_stop z = ended_as (moved_ended (stepped_moved p x)) (λ start h. rw (did_spent x.did start h z))

  pub phases_on : (u.left ≡ 0 → ⊥) → {words' : List ℕ} {r : PickNumbers} {out₂ aside₂ : List ℕ} {ignored₂ : List Bool} {loops₂ : List ℕ}
      → Ended (pick_last draws a) s live rows words words' cells q u r out₁ aside₁ ignored₁ loops₁ out₂ aside₂ ignored₂ loops₂
      → Ended (pick_phases draws a suggestions) s live rows words words' cells q t r out aside ignored loops out₂ aside₂ ignored₂ loops₂
  unfolding pick_phases unless
  phases_on n y = record {
    is = λ start h. let k = x.did.kept.rises in
        y.is start (omega arith) ∙ (ap (pick_last draws a) (x.did.is start h) ∙ rw (did_unspent x.did start h n));
    kept = kept_then x.did.kept y.kept;
    within = y.within;
    long_aside = y.long_aside ∙ x.did.long_aside;
    long_ignored = y.long_ignored ∙ x.did.long_ignored;
    long_loops = y.long_loops ∙ x.did.long_loops;
    picks = y.picks;
    words_kept = y.words_kept;
  }
