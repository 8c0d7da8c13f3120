-- Steps of a pick put together: none, one after another, on one part alone. Assumes nothing.
use mathlib.Core.Path.{◌≡◌, refl, ap, ◌∙◌}
use mathlib.Core.Bool.{Bool}
use mathlib.Core.List.{List}
use Prim.Native.Nat.{ℕ, ◌+◌, ◌≤◌}
use native.Mathlib.Omega.{arith}
use Rattle.model.specs.State.{Picker}
use Rattle.model.specs.pick.Blocks.{PickState}
use Rattle.pick_state.specs.declared.numbers.PickNumbers.{PickNumbers}
use Rattle.pick_state.specs.PickStates.{state_of, OutKept, OutDid, AsideDid, Did}

-- ---- the output's frame
pub kept_none : (t : PickNumbers) (out : List ℕ) → OutKept t t out out
kept_none t out = record { rises = omega arith; long = refl; others = λ k h. refl }

-- another struct with the same end
pub kept_same : (t r : PickNumbers) (out : List ℕ) → r.end ≡ t.end → OutKept t r out out
kept_same t r out e = record { rises = omega arith; long = refl; others = λ k h. refl }

pub kept_then : {t u r : PickNumbers} {out mid out' : List ℕ} → OutKept t u out mid → OutKept u r mid out' → OutKept t r out out'
kept_then {t = t} {u = u} {r = r} f g =
    record {
      rises = let a = f.rises in let b = g.rises in omega arith;
      long = g.long ∙ f.long;
      others = λ k h. let a = f.rises in let b = g.rises in
          g.others k (λ x y. h (omega arith) y) ∙ f.others k (λ x y. h x (omega arith));
    }

-- ---- steps on the output
module _ {f : PickState → PickState} {n : ℕ} {t u : PickNumbers} {out mid : List ℕ} (x : OutDid f n t u out mid) where
  -- one after another
  pub out_then : {g : PickState → PickState} {m : ℕ} {r : PickNumbers} {out' : List ℕ} → OutDid g m u r mid out'
      → OutDid (λ w. g (f w)) (n + m) t r out out'
  out_then {g = g} {m = m} {r = r} {out' = out'} y =
      record {
        is = λ start d aside ignored loops h. let a = x.kept.rises in
            y.is start d aside ignored loops (omega arith) ∙ ap g (x.is start d aside ignored loops h);
        kept = kept_then x.kept y.kept;
        few = let a = x.few in let b = y.few in omega arith;
        given = let a = x.given in let b = y.given in omega arith;
      }

  -- by another name, for at most m
  pub out_as : {g : PickState → PickState} {m : ℕ} → n ≤ m
      → ((start : ℕ) (d : Picker) (aside : List ℕ) (ignored : List Bool) (loops : List ℕ)
      → f (state_of start d t out aside ignored loops) ≡ g (state_of start d t out aside ignored loops)) → OutDid g m t u out mid
  out_as {g = g} {m = m} h e =
      record {
        is = λ start d aside ignored loops k. x.is start d aside ignored loops k ∙ e start d aside ignored loops;
        kept = x.kept;
        few = let a = x.few in omega arith;
        given = let a = x.given in omega arith;
      }

  -- as a step on all of it
  pub out_did : (d : Picker) (aside : List ℕ) (ignored : List Bool) (loops : List ℕ) → Did f d t u out aside ignored loops mid aside ignored loops
  out_did d aside ignored loops =
      record { is = λ start h. x.is start d aside ignored loops h; kept = x.kept; long_aside = refl; long_ignored = refl; long_loops = refl }

-- ---- steps on the blocks set aside
-- as a step on all of it
pub aside_all : {f : PickState → PickState} {n : ℕ} {t u : PickNumbers} {aside aside' : List ℕ} → AsideDid f n t u aside aside'
    → (d : Picker) (out : List ℕ) (ignored : List Bool) (loops : List ℕ) → Did f d t u out aside ignored loops out aside' ignored loops
aside_all {t = t} {u = u} x d out ignored loops =
    record {
      is = λ start h. x.is start d out ignored loops;
      kept = kept_same t u out x.end;
      long_aside = x.long;
      long_ignored = refl;
      long_loops = refl;
    }

-- ---- steps on all of it
pub did_none : (d : Picker) (t : PickNumbers) (out aside : List ℕ) (ignored : List Bool) (loops : List ℕ)
    → Did (λ w. w) d t t out aside ignored loops out aside ignored loops
did_none d t out aside ignored loops =
    record { is = λ start h. refl; kept = kept_none t out; long_aside = refl; long_ignored = refl; long_loops = refl }

module _ {f : PickState → PickState} {d : Picker} {t u : PickNumbers} {out aside : List ℕ} {ignored : List Bool} {loops : List ℕ}
    {out₁ aside₁ : List ℕ} {ignored₁ : List Bool} {loops₁ : List ℕ} (x : Did f d t u out aside ignored loops out₁ aside₁ ignored₁ loops₁) where
  -- one after another
  pub did_then : {g : PickState → PickState} {r : PickNumbers} {out₂ aside₂ : List ℕ} {ignored₂ : List Bool} {loops₂ : List ℕ}
      → Did g d u r out₁ aside₁ ignored₁ loops₁ out₂ aside₂ ignored₂ loops₂
      → Did (λ w. g (f w)) d t r out aside ignored loops out₂ aside₂ ignored₂ loops₂
  did_then {g = g} y =
      record {
        is = λ start h. let a = x.kept.rises in y.is start (omega arith) ∙ ap g (x.is start h);
        kept = kept_then x.kept y.kept;
        long_aside = y.long_aside ∙ x.long_aside;
        long_ignored = y.long_ignored ∙ x.long_ignored;
        long_loops = y.long_loops ∙ x.long_loops;
      }

  -- by another name
  pub did_as : {g : PickState → PickState}
      → ((start : ℕ) → start ≤ t.end → f (state_of start d t out aside ignored loops) ≡ g (state_of start d t out aside ignored loops))
      → Did g d t u out aside ignored loops out₁ aside₁ ignored₁ loops₁
  did_as {g = g} e =
      record {
        is = λ start h. x.is start h ∙ e start h;
        kept = x.kept;
        long_aside = x.long_aside;
        long_ignored = x.long_ignored;
        long_loops = x.long_loops;
      }
