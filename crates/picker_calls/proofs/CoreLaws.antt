-- The cores of public changes, arm by arm: refused for the memory, refused by the judge, done. A core's proof cites one law for each arm.
-- Assumes nothing.
use Rattle.std.specs.Prelude.{Err, Ok, Result, IsErrAnd, ⊤}
use mathlib.Core.Path.{◌≡◌, refl, sym, ap, subst, ◌∙◌}
use mathlib.Core.Bool.{Bool}
use mathlib.Core.List.{List}
use mathlib.Core.Option.{Option, none, some}
use Prim.Native.Nat.{ℕ, ◌≤◌, ◌<◌}
use native.Mathlib.Omega.{arith}
use lib.ListN.{length, replicate, length-replicate}
use Rattle.types.specs.declared.refusal.Refusal.{Refusal}
use Rattle.model.specs.State.{Picker}
use Rattle.model.specs.list.Order.{Drawing, drawing}
use Rattle.model.specs.change.Changes.{Change, quietly}
use Rattle.model.specs.Calls.{Action, Answer, refused, done, said, answering, changing, change_answer, doing, refusal, act}
use Rattle.memory_records.specs.declared.record.DownloadingPiece.{DownloadingPiece as Record}
use Rattle.memory_records.specs.declared.edits.Edit.{Edit}
use Rattle.memory_records.specs.declared.edits.Edit.TheVariants.{Keep, Replace, Insert, Remove}
use Rattle.memory_records.specs.Records.{no_record, HasRoom, edited}
use Rattle.memory_records.specs.Rows.{live_records, rows_of, records_in}
use Rattle.memory_layout.specs.declared.shape.Shape.{Shape}
use Rattle.memory_layout.specs.Decode.{head_word}
use Rattle.memory_layout.specs.Standing.{Changed, StandsBeside, edit_records}
use Rattle.memory_rows.specs.Lookup.{picker_in}
use Rattle.picker_calls.specs.declared.outcomes.CallStep.{CallStep}
use Rattle.picker_calls.specs.declared.outcomes.Outcome.{Outcome}
use Rattle.picker_calls.specs.Calling.{Lent, Called}
use Rattle.picker_calls.specs.Outcomes.{outcome, judged}
use Rattle.picker_calls.specs.Cores.{lending, Listless, Stood, Admitted, CoreCalled, CoreGives}
use Rattle.picker_calls.proofs.CallLaws.{core_refused, core_refuses, core_done}

-- ---- the edit
-- one that fits wherever all places are lent puts a record in only where a place is left
pub place_left : (live places : ℕ) (edit : Edit) → ((lent : List Record) → places ≤ length lent → HasRoom live edit lent)
    → (x : Record) → edit ≡ Insert x → live < places
place_left live places edit fits x e =
    let lent = replicate places no_record in
    let h = subst (λ (y : Edit). HasRoom live y lent) e (fits lent (omega (arith, length-replicate places no_record))) in
    omega (arith, h, length-replicate places no_record)

Keeps : Edit → Type 0
Keeps Keep = Unit {0}
Keeps (Replace x) = ⊥
Keeps (Insert x) = ⊥
Keeps (Remove i) = ⊥

-- one that keeps the records puts none in
pub keep_insert : {A : Type 0} → (x : Record) → Keep ≡ Insert x → A
unfolding Keeps
keep_insert x e = absurd (subst Keeps e tt)

-- ---- the arguments
-- what the code makes of an argument is what the definition takes
module _ {X : Type 0} (action : X → Action) (x y : X) (e : x ≡ y) (words cells rows : List ℕ) (lent : ℕ) (words' cells' : List ℕ) where
  pub of_argument : (r : Answer) (count : ℕ) (edit : Edit) → CoreCalled words cells rows lent (action x) words' cells' r count edit
      → CoreCalled words cells rows lent (action y) words' cells' r count edit
  of_argument r count edit h = subst (λ (z : X). CoreCalled words cells rows lent (action z) words' cells' r count edit) e h

  pub of_argument_on : (r : Result CallStep Refusal) → CoreGives words cells rows lent (action x) words' cells' r
      → CoreGives words cells rows lent (action y) words' cells' r
  of_argument_on r h = subst (λ (z : X). CoreGives words cells rows lent (action z) words' cells' r) e h

-- ---- refused
-- the arm of a refusal that `?` passes on
arm_refused : (words cells rows : List ℕ) (lent : ℕ) (a : Action) (why : Refusal)
    → CoreCalled words cells rows lent a words cells (refused why) 0 Keep → (r : Result CallStep Refusal) → IsErrAnd r (λ e. e ≡ why)
    → CoreGives words cells rows lent a words cells r
arm_refused words cells rows lent a why h (Err e) k =
    subst (λ (x : Refusal). CoreCalled words cells rows lent a words cells (refused x) 0 Keep) (sym k) h
arm_refused words cells rows lent a why h (Ok s) k = absurd k

module _ (words cells rows counts : List ℕ) (lent : ℕ) (v : Result Shape Refusal) (g : Admitted words cells rows counts lent v) where
  -- for the memory
  pub barred : (why : Refusal) → v ≡ Err why → (a : Action) → Listless a → (r : Result CallStep Refusal) → IsErrAnd r (λ x. x ≡ why)
      → CoreGives words cells rows lent a words cells r
  unfolding Admitted
  barred why e a listless =
      let h = subst (Admitted words cells rows counts lent) e g in
      arm_refused words cells rows lent a why (core_refused words cells rows lent a why (λ partials l r. h partials l r a listless))

  -- what an admitted memory gives
  pub stood_at : (s : Shape) → v ≡ Ok s → Stood s (head_word words 7) lent rows counts words cells
  unfolding Admitted
  stood_at s e = subst (Admitted words cells rows counts lent) e g

-- ---- admitted
module _ (s : Shape) (lent : ℕ) (rows counts words cells : List ℕ) (t : Stood s (head_word words 7) lent rows counts words cells) where
  -- a picker stands beside some records
  pub stood_beside : StandsBeside s words cells
  stood_beside = record { records = records_in (head_word words 7) rows; stands = t.stands }

  module _ (a : Action) (listless : Listless a) (j : Result ⊤ Refusal) (h : judged j ≡ refusal (picker_in (head_word words 7) rows words cells) a)
    where
      -- refused by the judge
      pub denied : (why : Refusal) → j ≡ Err why → (r : Result CallStep Refusal) → IsErrAnd r (λ x. x ≡ why)
          → CoreGives words cells rows lent a words cells r
      denied why e =
          arm_refused words cells rows lent a why
          (core_refuses s (head_word words 7) lent rows counts words cells t a listless why (sym h ∙ ap judged e))

      -- not refused
      pub passed : j ≡ (Ok tt) → refusal (picker_in (head_word words 7) rows words cells) a ≡ none
      passed e = sym h ∙ ap judged e

-- ---- done
module _ (s : Shape) (lent : ℕ) (rows counts words cells : List ℕ) (t : Stood s (head_word words 7) lent rows counts words cells)
    (a : Action) (listless : Listless a) (free : refusal (picker_in (head_word words 7) rows words cells) a ≡ none)
    (live : ℕ) (many : live ≡ live_records words) (edit : Edit) (room : (x : Record) → edit ≡ Insert x → head_word words 7 < s.places)
    (words' cells' : List ℕ) where
  abbrev d : Picker
  d = picker_in (head_word words 7) rows words cells

  -- the picker after it is `after`, with the edit made
  abbrev After : (after : Picker) → Type 0
  After after = Changed s after words cells (edit_records edit (records_in (head_word words 7) rows)) words' cells'

  -- with an answer and the picker after it
  pub acted : (r : Answer) (after : Picker) → act d a ≡ answering r after → After after
      → CoreCalled words cells rows lent a words' cells' r live edit
  acted r after acts c =
      subst (λ (n : ℕ). CoreCalled words cells rows lent a words' cells' r n edit) (t.rowed ∙ sym many)
      (core_done s (head_word words 7) lent rows counts words cells t a listless free r after acts edit room words' cells' c)

  -- a change that answers nothing
  pub acted_quietly : (step : Drawing → Drawing) → act d a ≡ doing (step (drawing 0 d)) → (used : ℕ) → used ≡ (step (drawing 0 d)).used
      → After (step (drawing 0 d)).picker → CoreCalled words cells rows lent a words' cells' (done used) live edit
  unfolding doing changing quietly change_answer
  acted_quietly step acts used u c =
      acted (done used) (step (drawing 0 d)).picker
      (acts ∙ ap (λ (n : ℕ). answering (done n) (step (drawing 0 d)).picker) (sym u)) c

  -- and draws nothing
  pub acted_undrawn : (change : Picker → Picker) → act d a ≡ doing (drawing 0 (change d)) → After (change d)
      → CoreCalled words cells rows lent a words' cells' (done 0) live edit
  unfolding doing changing quietly change_answer drawing
  acted_undrawn change acts c = acted (done 0) (change d) acts c

  -- a change that answers true or false
  pub acted_saying : (change : Drawing → Change) → act d a ≡ changing (change (drawing 0 d)) → (truth : Bool)
      → (change (drawing 0 d)).answer ≡ some truth → (used : ℕ) → used ≡ (change (drawing 0 d)).after.used
      → After (change (drawing 0 d)).after.picker → CoreCalled words cells rows lent a words' cells' (said truth used) live edit
  unfolding changing change_answer
  acted_saying change acts truth e used u c =
      let w = change (drawing 0 d) in
      acted (said truth used) w.after.picker
      (acts
      ∙ (ap (λ (x : Option Bool). answering (change_answer x w.after.used) w.after.picker) e
      ∙ ap (λ (n : ℕ). answering (said truth n) w.after.picker) (sym u))) c

-- ---- the call
-- the core of a call with the rows of the records lent, and the edit made: the call
pub core_called : (words cells : List ℕ) (partials : List Record) (a : Action) (words' cells' : List ℕ) (r : Answer) (count : ℕ)
    (edit : Edit) → CoreCalled words cells (rows_of words partials) (length partials) a words' cells' r count edit
    → (after : List Record) → after ≡ edited count edit partials → Called (lending words cells partials) a (lending words' cells' after) r
core_called words cells partials a words' cells' r count edit h after e =
    subst (λ (ds : List Record). Called (lending words cells partials) a (lending words' cells' ds) r) (sym e)
    (h.done partials refl refl).1

-- what a public change makes of its core's refusal, which `?` passes on
pub called_on : (entry : Lent) (a : Action) (exit : Lent) (why : Refusal) → Called entry a exit (refused why) → (r : Result Outcome Refusal)
    → IsErrAnd r (λ e. e ≡ why) → Called entry a exit (outcome r)
called_on entry a exit why h (Err e) k = subst (λ (x : Refusal). Called entry a exit (refused x)) (sym k) h
called_on entry a exit why h (Ok x) k = absurd k
