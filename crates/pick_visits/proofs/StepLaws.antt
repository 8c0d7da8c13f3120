-- Steps on a pick under way put together, and walks by what is left of them. Assumes nothing.
use mathlib.Core.Path.{◌≡◌, refl, sym, ap, ◌∙◌}
use mathlib.Core.Bool.{Bool, true, false}
use mathlib.Core.List.{List, [], ◌∷◌}
use Prim.Native.Nat.{ℕ, ◌≤◌}
use lib.ListN.{length}
use native.Mathlib.Omega.{arith}
use borrow.Author.Tests.{ne_eqb, eq-eqb}
use Rattle.model.specs.Lists.{unless, walk_until, walk}
use Rattle.model.specs.State.{Picker}
use Rattle.model.specs.pick.Blocks.{PickState, spent}
use Rattle.pick_state.specs.declared.numbers.PickNumbers.{PickNumbers}
use Rattle.pick_state.specs.PickStates.{state_of, Did}
use Rattle.pick_state.specs.Room.{Underway}
use Rattle.pick_state.proofs.DidLaws.{did_none, did_then, did_as}
use Rattle.pick_state.proofs.RestLaws.{Rest, rest_start, rest_next, rest-end, rest_last}
use Rattle.pick_blocks.specs.Blocks.{PieceRoom}
use Rattle.pick_visits.specs.Steps.{Stepped, SteppedBeside}

-- ---- steps
pub stepped_none : {d : Picker} {t : PickNumbers} {out aside : List ℕ} {ignored : List Bool} {loops : List ℕ} → Underway d t out aside ignored loops
    → Stepped (λ w. w) d t t out aside ignored loops out aside ignored loops
stepped_none {d = d} {t = t} {out = out} {aside = aside} {ignored = ignored} {loops = loops} u =
    record { did = did_none d t out aside ignored loops; underway = u }

module _ {f : PickState → PickState} {d : Picker} {t u : PickNumbers} {out aside : List ℕ} {ignored : List Bool} {loops : List ℕ}
    {out₁ aside₁ : List ℕ} {ignored₁ : List Bool} {loops₁ : List ℕ} (x : Stepped f d t u out aside ignored loops out₁ aside₁ ignored₁ loops₁) where
  -- one after another
  pub stepped_then : {g : PickState → PickState} {r : PickNumbers} {out₂ aside₂ : List ℕ} {ignored₂ : List Bool} {loops₂ : List ℕ}
      → Stepped g d u r out₁ aside₁ ignored₁ loops₁ out₂ aside₂ ignored₂ loops₂
      → Stepped (λ w. g (f w)) d t r out aside ignored loops out₂ aside₂ ignored₂ loops₂
  stepped_then y = record { did = did_then x.did y.did; underway = y.underway }

  -- by another name
  pub stepped_as : {g : PickState → PickState}
      → ((start : ℕ) → start ≤ t.end → f (state_of start d t out aside ignored loops) ≡ g (state_of start d t out aside ignored loops))
      → Stepped g d t u out aside ignored loops out₁ aside₁ ignored₁ loops₁
  stepped_as e = record { did = did_as x.did e; underway = x.underway }

-- ---- walks
-- one element taken off
module _ {S : Type 0} (step : ℕ → S → S) (done : S → Bool) (i : ℕ) (is : List ℕ) (s : S) where
  turn : walk step done (i ∷ is) s ≡ unless (done (step i s)) (λ v. walk step done is v) (step i s)
  unfolding walk walk_until
  turn = refl

  pub walk_on : done (step i s) ≡ false → walk step done (i ∷ is) s ≡ walk step done is (step i s)
  unfolding unless
  walk_on e = turn ∙ ap (λ (b : Bool). unless b (λ v. walk step done is v) (step i s)) e

  pub walk_over_lem : done (step i s) ≡ true → walk step done (i ∷ is) s ≡ step i s
  unfolding unless
  walk_over_lem e = turn ∙ ap (λ (b : Bool). unless b (λ v. walk step done is v) (step i s)) e

pub walk_empty : {S : Type 0} (step : ℕ → S → S) (done : S → Bool) (s : S) → walk step done [] s ≡ s
unfolding walk walk_until
walk_empty step done s = refl

-- `rest` is left of a walk over `whole` that ends where no block is wanted
pub record Going (step : ℕ → PickState → PickState) (whole rest : List ℕ) (d : Picker) (t cur : PickNumbers) (out aside : List ℕ)
    (ignored : List Bool) (loops : List ℕ) (out₁ aside₁ : List ℕ) (ignored₁ : List Bool) (loops₁ : List ℕ) : Type 0 where
  pub left : Rest (walk step spent whole) (walk step spent rest) d t cur out aside ignored loops out₁ aside₁ ignored₁ loops₁
  pub underway : Underway d cur out₁ aside₁ ignored₁ loops₁
  pub wanted : 1 ≤ cur.left

pub going_start : (step : ℕ → PickState → PickState) (whole : List ℕ) {d : Picker} {t : PickNumbers} {out aside : List ℕ}
    {ignored : List Bool} {loops : List ℕ} → Underway d t out aside ignored loops → 1 ≤ t.left
    → Going step whole whole d t t out aside ignored loops out aside ignored loops
going_start step whole {d = d} {t = t} {out = out} {aside = aside} {ignored = ignored} {loops = loops} u w =
    record { left = rest_start (walk step spent whole) d t out aside ignored loops; underway = u; wanted = w }

-- whether blocks are wanted after a step
module _ {f : PickState → PickState} {d : Picker} {t r : PickNumbers} {out aside : List ℕ} {ignored : List Bool} {loops : List ℕ}
    {out₁ aside₁ : List ℕ} {ignored₁ : List Bool} {loops₁ : List ℕ} (y : Did f d t r out aside ignored loops out₁ aside₁ ignored₁ loops₁)
    (start : ℕ) (h : start ≤ t.end) where
  spent_by : (b : Bool) → spent (state_of start d r out₁ aside₁ ignored₁ loops₁) ≡ b → spent (f (state_of start d t out aside ignored loops)) ≡ b
  spent_by b e = sym (ap spent (y.is start h)) ∙ e

  pub did_unspent : (r.left ≡ 0 → ⊥) → spent (f (state_of start d t out aside ignored loops)) ≡ false
  unfolding spent state_of
  did_unspent n = spent_by false (ne_eqb r.left 0 n)

  pub did_spent : r.left ≡ 0 → spent (f (state_of start d t out aside ignored loops)) ≡ true
  unfolding spent state_of
  did_spent e = spent_by true (eq-eqb r.left 0 e)

module _ {step : ℕ → PickState → PickState} {whole rest : List ℕ} {d : Picker} {t cur : PickNumbers} {out aside : List ℕ} {ignored : List Bool}
    {loops : List ℕ} {out₁ aside₁ : List ℕ} {ignored₁ : List Bool} {loops₁ : List ℕ}
    (c : Going step whole rest d t cur out aside ignored loops out₁ aside₁ ignored₁ loops₁) where
  -- piece i is passed, and blocks are wanted still
  pub going_next : (i : ℕ) (is : List ℕ) → rest ≡ i ∷ is → {r : PickNumbers} {out₂ aside₂ : List ℕ} {ignored₂ : List Bool} {loops₂ : List ℕ}
      → Stepped (step i) d cur r out₁ aside₁ ignored₁ loops₁ out₂ aside₂ ignored₂ loops₂ → (r.left ≡ 0 → ⊥)
      → Going step whole is d t r out aside ignored loops out₂ aside₂ ignored₂ loops₂
  going_next i is e {r = r} y n =
      record {
        left = rest_next c.left (walk step spent is) y.did (λ start h. let k = c.left.kept.rises in
            ap (λ (l : List ℕ). walk step spent l (state_of start d cur out₁ aside₁ ignored₁ loops₁)) e
            ∙ walk_on step spent i is (state_of start d cur out₁ aside₁ ignored₁ loops₁) (did_unspent y.did start (omega arith) n));
        underway = y.underway;
        wanted = above r.left n;
      }
    where
      above : (m : ℕ) → (m ≡ 0 → ⊥) → 1 ≤ m
      above m h = omega arith

  -- none is wanted any more
  pub going_stop : (i : ℕ) (is : List ℕ) → rest ≡ i ∷ is → {r : PickNumbers} {out₂ aside₂ : List ℕ} {ignored₂ : List Bool} {loops₂ : List ℕ}
      → Stepped (step i) d cur r out₁ aside₁ ignored₁ loops₁ out₂ aside₂ ignored₂ loops₂ → r.left ≡ 0
      → Stepped (walk step spent whole) d t r out aside ignored loops out₂ aside₂ ignored₂ loops₂
  going_stop i is e y z =
      record {
        did = rest_last c.left y.did (λ start h. let k = c.left.kept.rises in
            ap (λ (l : List ℕ). walk step spent l (state_of start d cur out₁ aside₁ ignored₁ loops₁)) e
            ∙ walk_over_lem step spent i is (state_of start d cur out₁ aside₁ ignored₁ loops₁) (did_spent y.did start (omega arith) z));
        underway = y.underway;
      }

  -- no piece is left
  pub going_end : rest ≡ [] → Stepped (walk step spent whole) d t cur out aside ignored loops out₁ aside₁ ignored₁ loops₁
  going_end e =
      record {
        did = rest-end c.left (λ start h.
            ap (λ (l : List ℕ). walk step spent l (state_of start d cur out₁ aside₁ ignored₁ loops₁)) e
            ∙ walk_empty step spent (state_of start d cur out₁ aside₁ ignored₁ loops₁));
        underway = c.underway;
      }

-- ---- walks that move no counter
pub record GoingBeside (step : ℕ → PickState → PickState) (whole rest : List ℕ) (d : Picker) (t cur : PickNumbers) (out aside : List ℕ)
    (ignored : List Bool) (out₁ aside₁ : List ℕ) (ignored₁ : List Bool) : Type 0 where
  pub now : PieceRoom d cur out₁ aside₁ ignored₁
  pub wanted : 1 ≤ cur.left
  pub going : (loops : List ℕ) → Underway d t out aside ignored loops
      → Going step whole rest d t cur out aside ignored loops out₁ aside₁ ignored₁ loops

pub beside_start : (step : ℕ → PickState → PickState) (whole : List ℕ) {d : Picker} {t : PickNumbers} {out aside : List ℕ} {ignored : List Bool}
    → PieceRoom d t out aside ignored → 1 ≤ t.left → GoingBeside step whole whole d t t out aside ignored out aside ignored
beside_start step whole u w = record { now = u; wanted = w; going = λ loops v. going_start step whole v w }

module _ {step : ℕ → PickState → PickState} {whole rest : List ℕ} {d : Picker} {t cur : PickNumbers} {out aside : List ℕ} {ignored : List Bool}
    {out₁ aside₁ : List ℕ} {ignored₁ : List Bool} (c : GoingBeside step whole rest d t cur out aside ignored out₁ aside₁ ignored₁) where
  pub beside_next : (i : ℕ) (is : List ℕ) → rest ≡ i ∷ is → {r : PickNumbers} {out₂ aside₂ : List ℕ} {ignored₂ : List Bool}
      → SteppedBeside (step i) d cur r out₁ aside₁ ignored₁ out₂ aside₂ ignored₂ → (r.left ≡ 0 → ⊥)
      → GoingBeside step whole is d t r out aside ignored out₂ aside₂ ignored₂
  beside_next i is e {r = r} y n =
      record {
        now = record { loops = c.now.loops; underway = (y c.now.loops c.now.underway).underway };
        wanted = above r.left n;
        going = λ loops u. let g = c.going loops u in going_next g i is e (y loops g.underway) n;
      }
    where
      above : (m : ℕ) → (m ≡ 0 → ⊥) → 1 ≤ m
      above m h = omega arith

  pub beside_stop : (i : ℕ) (is : List ℕ) → rest ≡ i ∷ is → {r : PickNumbers} {out₂ aside₂ : List ℕ} {ignored₂ : List Bool}
      → SteppedBeside (step i) d cur r out₁ aside₁ ignored₁ out₂ aside₂ ignored₂ → r.left ≡ 0
      → SteppedBeside (walk step spent whole) d t r out aside ignored out₂ aside₂ ignored₂
  beside_stop i is e y z loops u = let g = c.going loops u in going_stop g i is e (y loops g.underway) z

  pub beside_end : rest ≡ [] → SteppedBeside (walk step spent whole) d t cur out aside ignored out₁ aside₁ ignored₁
  beside_end e loops u = going_end (c.going loops u) e

-- ---- lengths
-- of the output, the blocks set aside and the marks
pub stepped_lengths : {f : PickState → PickState} {d : Picker} {t r : PickNumbers} {out aside : List ℕ} {ignored : List Bool} {out' aside' : List ℕ}
    {ignored' : List Bool} → SteppedBeside f d t r out aside ignored out' aside' ignored' → PieceRoom d t out aside ignored
    → (length out' ≡ length out) × (length aside' ≡ length aside) × (length ignored' ≡ length ignored)
stepped_lengths x u = let y = (x u.loops u.underway).did in (y.kept.long, y.long_aside, y.long_ignored)

pub beside_lengths : {step : ℕ → PickState → PickState} {whole rest : List ℕ} {d : Picker} {t cur : PickNumbers} {out aside : List ℕ}
    {ignored : List Bool} {out₁ aside₁ : List ℕ} {ignored₁ : List Bool}
    → GoingBeside step whole rest d t cur out aside ignored out₁ aside₁ ignored₁ → PieceRoom d t out aside ignored
    → (length out₁ ≡ length out) × (length aside₁ ≡ length aside) × (length ignored₁ ≡ length ignored)
beside_lengths c u = let y = (c.going u.loops u.underway).left in (y.kept.long, y.long_aside, y.long_ignored)

-- ---- room for the next step
pub stepped_room : {f : PickState → PickState} {d : Picker} {t r : PickNumbers} {out aside : List ℕ} {ignored : List Bool} {out' aside' : List ℕ}
    {ignored' : List Bool} → SteppedBeside f d t r out aside ignored out' aside' ignored' → PieceRoom d t out aside ignored
    → PieceRoom d r out' aside' ignored'
stepped_room x u = record { loops = u.loops; underway = (x u.loops u.underway).underway }
