-- A loop by what is left to do: `rest` of where it stands is the whole of where it began. Each turn takes a step off the rest; the last one,
-- or a rest that does nothing, gives the whole. Walks, turns and steps for each element are all proved by these. Assumes nothing.
use mathlib.Core.Path.{◌≡◌, refl, sym, ap, ◌∙◌}
use mathlib.Core.Bool.{Bool}
use mathlib.Core.List.{List}
use Prim.Native.Nat.{ℕ, ◌+◌, ◌≤◌}
use native.Mathlib.Omega.{arith}
use lib.ListN.{length}
use Rattle.model.specs.State.{Picker}
use Rattle.model.specs.pick.Blocks.{PickState}
use Rattle.pick_state.specs.declared.numbers.PickNumbers.{PickNumbers}
use Rattle.pick_state.specs.PickStates.{state_of, OutKept, OutDid, AsideDid, Did}
use Rattle.pick_state.proofs.DidLaws.{kept_none, kept_then}

-- ---- on all of a pick
pub record Rest (whole rest : PickState → PickState) (d : Picker) (t cur : PickNumbers) (out aside : List ℕ) (ignored : List Bool)
    (loops : List ℕ) (out₁ aside₁ : List ℕ) (ignored₁ : List Bool) (loops₁ : List ℕ) : Type 0 where
  pub is : (start : ℕ) → start ≤ t.end → rest (state_of start d cur out₁ aside₁ ignored₁ loops₁) ≡ whole (state_of start d t out aside ignored loops)
  pub kept : OutKept t cur out out₁
  pub long_aside : length aside₁ ≡ length aside
  pub long_ignored : length ignored₁ ≡ length ignored
  pub long_loops : length loops₁ ≡ length loops

-- all of it is left
pub rest_start : (f : PickState → PickState) (d : Picker) (t : PickNumbers) (out aside : List ℕ) (ignored : List Bool) (loops : List ℕ)
    → Rest f f d t t out aside ignored loops out aside ignored loops
rest_start f d t out aside ignored loops =
    record { is = λ start h. refl; kept = kept_none t out; long_aside = refl; long_ignored = refl; long_loops = refl }

module _ {whole rest : PickState → PickState} {d : Picker} {t cur : PickNumbers} {out aside : List ℕ} {ignored : List Bool} {loops : List ℕ}
    {out₁ aside₁ : List ℕ} {ignored₁ : List Bool} {loops₁ : List ℕ} (c : Rest whole rest d t cur out aside ignored loops out₁ aside₁ ignored₁ loops₁) where
  -- a step made, and `after` it left
  pub rest_next : {step : PickState → PickState} (after : PickState → PickState) {r : PickNumbers} {out₂ aside₂ : List ℕ} {ignored₂ : List Bool} {loops₂ : List ℕ}
      → Did step d cur r out₁ aside₁ ignored₁ loops₁ out₂ aside₂ ignored₂ loops₂
      → ((start : ℕ) → start ≤ t.end
      → rest (state_of start d cur out₁ aside₁ ignored₁ loops₁) ≡ after (step (state_of start d cur out₁ aside₁ ignored₁ loops₁)))
      → Rest whole after d t r out aside ignored loops out₂ aside₂ ignored₂ loops₂
  rest_next after y e =
      record {
        is = λ start h. let a = c.kept.rises in ap after (y.is start (omega arith)) ∙ (sym (e start h) ∙ c.is start h);
        kept = kept_then c.kept y.kept;
        long_aside = y.long_aside ∙ c.long_aside;
        long_ignored = y.long_ignored ∙ c.long_ignored;
        long_loops = y.long_loops ∙ c.long_loops;
      }

  -- nothing is left
  pub rest-end : ((start : ℕ) → start ≤ t.end → rest (state_of start d cur out₁ aside₁ ignored₁ loops₁) ≡ state_of start d cur out₁ aside₁ ignored₁ loops₁)
      → Did whole d t cur out aside ignored loops out₁ aside₁ ignored₁ loops₁
  rest-end e =
      record {
        is = λ start h. sym (e start h) ∙ c.is start h;
        kept = c.kept;
        long_aside = c.long_aside;
        long_ignored = c.long_ignored;
        long_loops = c.long_loops;
      }

  -- the rest is one more step, which is made
  pub rest_last : {step : PickState → PickState} {r : PickNumbers} {out₂ aside₂ : List ℕ} {ignored₂ : List Bool} {loops₂ : List ℕ}
      → Did step d cur r out₁ aside₁ ignored₁ loops₁ out₂ aside₂ ignored₂ loops₂
      → ((start : ℕ) → start ≤ t.end
      → rest (state_of start d cur out₁ aside₁ ignored₁ loops₁) ≡ step (state_of start d cur out₁ aside₁ ignored₁ loops₁))
      → Did whole d t r out aside ignored loops out₂ aside₂ ignored₂ loops₂
  rest_last y e =
      record {
        is = λ start h. let a = c.kept.rises in y.is start (omega arith) ∙ (sym (e start h) ∙ c.is start h);
        kept = kept_then c.kept y.kept;
        long_aside = y.long_aside ∙ c.long_aside;
        long_ignored = y.long_ignored ∙ c.long_ignored;
        long_loops = y.long_loops ∙ c.long_loops;
      }

-- ---- on the output alone: so far at most m blocks were appended
pub record OutRest (whole rest : PickState → PickState) (m : ℕ) (t cur : PickNumbers) (out out₁ : List ℕ) : Type 0 where
  pub is : (start : ℕ) (d : Picker) (aside : List ℕ) (ignored : List Bool) (loops : List ℕ) → start ≤ t.end
      → rest (state_of start d cur out₁ aside ignored loops) ≡ whole (state_of start d t out aside ignored loops)
  pub kept : OutKept t cur out out₁
  pub few : cur.end ≤ t.end + m
  pub given : cur.given ≤ t.given + m

pub out_start : (f : PickState → PickState) (t : PickNumbers) (out : List ℕ) → OutRest f f 0 t t out out
out_start f t out = record { is = λ start d aside ignored loops h. refl; kept = kept_none t out; few = omega arith; given = omega arith }

module _ {whole rest : PickState → PickState} {m : ℕ} {t cur : PickNumbers} {out out₁ : List ℕ} (c : OutRest whole rest m t cur out out₁) where
  pub out_next : {step : PickState → PickState} (after : PickState → PickState) {n : ℕ} {r : PickNumbers} {out₂ : List ℕ} → OutDid step n cur r out₁ out₂
      → ((start : ℕ) (d : Picker) (aside : List ℕ) (ignored : List Bool) (loops : List ℕ)
      → rest (state_of start d cur out₁ aside ignored loops) ≡ after (step (state_of start d cur out₁ aside ignored loops)))
      → OutRest whole after (m + n) t r out out₂
  out_next after y e =
      record {
        is = λ start d aside ignored loops h. let a = c.kept.rises in
            ap after (y.is start d aside ignored loops (omega arith)) ∙ (sym (e start d aside ignored loops) ∙ c.is start d aside ignored loops h);
        kept = kept_then c.kept y.kept;
        few = let a = c.few in let b = y.few in omega arith;
        given = let a = c.given in let b = y.given in omega arith;
      }

  pub out_end : (n : ℕ) → m ≤ n → ((start : ℕ) (d : Picker) (aside : List ℕ) (ignored : List Bool) (loops : List ℕ)
      → rest (state_of start d cur out₁ aside ignored loops) ≡ state_of start d cur out₁ aside ignored loops)
      → OutDid whole n t cur out out₁
  out_end n l e =
      record {
        is = λ start d aside ignored loops h. sym (e start d aside ignored loops) ∙ c.is start d aside ignored loops h;
        kept = c.kept;
        few = let a = c.few in omega arith;
        given = let a = c.given in omega arith;
      }

  pub out_last : (n : ℕ) {step : PickState → PickState} {k : ℕ} {r : PickNumbers} {out₂ : List ℕ} → OutDid step k cur r out₁ out₂ → m + k ≤ n
      → ((start : ℕ) (d : Picker) (aside : List ℕ) (ignored : List Bool) (loops : List ℕ)
      → rest (state_of start d cur out₁ aside ignored loops) ≡ step (state_of start d cur out₁ aside ignored loops))
      → OutDid whole n t r out out₂
  out_last n y l e =
      record {
        is = λ start d aside ignored loops h. let a = c.kept.rises in
            y.is start d aside ignored loops (omega arith) ∙ (sym (e start d aside ignored loops) ∙ c.is start d aside ignored loops h);
        kept = kept_then c.kept y.kept;
        few = let a = c.few in let b = y.few in omega arith;
        given = let a = c.given in let b = y.given in omega arith;
      }

-- ---- on the blocks set aside alone
pub record AsideRest (whole rest : PickState → PickState) (m : ℕ) (t cur : PickNumbers) (aside aside₁ : List ℕ) : Type 0 where
  pub is : (start : ℕ) (d : Picker) (out : List ℕ) (ignored : List Bool) (loops : List ℕ)
      → rest (state_of start d cur out aside₁ ignored loops) ≡ whole (state_of start d t out aside ignored loops)
  pub long : length aside₁ ≡ length aside
  pub end : cur.end ≡ t.end
  pub few : cur.aside ≤ t.aside + m

pub aside_start : (f : PickState → PickState) (t : PickNumbers) (aside : List ℕ) → AsideRest f f 0 t t aside aside
aside_start f t aside = record { is = λ start d out ignored loops. refl; long = refl; end = refl; few = omega arith }

module _ {whole rest : PickState → PickState} {m : ℕ} {t cur : PickNumbers} {aside aside₁ : List ℕ} (c : AsideRest whole rest m t cur aside aside₁) where
  pub aside_next : {step : PickState → PickState} (after : PickState → PickState) {n : ℕ} {r : PickNumbers} {aside₂ : List ℕ} → AsideDid step n cur r aside₁ aside₂
      → ((start : ℕ) (d : Picker) (out : List ℕ) (ignored : List Bool) (loops : List ℕ)
      → rest (state_of start d cur out aside₁ ignored loops) ≡ after (step (state_of start d cur out aside₁ ignored loops)))
      → AsideRest whole after (m + n) t r aside aside₂
  aside_next after y e =
      record {
        is = λ start d out ignored loops. ap after (y.is start d out ignored loops) ∙ (sym (e start d out ignored loops) ∙ c.is start d out ignored loops);
        long = y.long ∙ c.long;
        end = y.end ∙ c.end;
        few = let a = c.few in let b = y.few in omega arith;
      }

  pub aside_end : (n : ℕ) → m ≤ n → ((start : ℕ) (d : Picker) (out : List ℕ) (ignored : List Bool) (loops : List ℕ)
      → rest (state_of start d cur out aside₁ ignored loops) ≡ state_of start d cur out aside₁ ignored loops)
      → AsideDid whole n t cur aside aside₁
  aside_end n l e =
      record {
        is = λ start d out ignored loops. sym (e start d out ignored loops) ∙ c.is start d out ignored loops;
        long = c.long;
        end = c.end;
        few = let a = c.few in omega arith;
      }
