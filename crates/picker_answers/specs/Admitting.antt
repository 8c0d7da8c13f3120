-- What the core of a public question says, and what its admission gives it: refused as the table says, or a picker that stands. Assumes
-- nothing.
use Rattle.std.specs.Prelude.{◌≡◌, List, ℕ, length, Err, Ok, Result}
use Rattle.std.proofs.Math.Option.{Option, none, some}
use Rattle.types.specs.declared.refusal.Refusal.{Refusal}
use Rattle.model.specs.State.{Picker}
use Rattle.model.specs.ask.Questions.{Question}
use Rattle.model.specs.Calls.{Answer, question, question_refusal}
use Rattle.memory_records.specs.declared.record.DownloadingPiece.{DownloadingPiece as Record}
use Rattle.memory_records.specs.Rows.{rows_of}
use Rattle.memory_layout.specs.declared.shape.Shape.{Shape}
use Rattle.picker_calls.specs.Calling.{answer_on, refusal_on}
use Rattle.picker_calls.specs.Cores.{lending, Stood}
use Rattle.picker_answers.specs.declared.admitted.Admitted.{Admitted}

-- with any records that the rows are, this is the answer
pub record CoreAnswered (words cells rows : List ℕ) (lent : ℕ) (q : Question) (r : Answer) : Type 0 where
  pub is : (partials : List Record) → length partials ≡ lent → rows ≡ rows_of words partials
      → r ≡ answer_on (lending words cells partials) (question q)

-- the question is refused by a rule, where its memory is good
abbrev pub Ruled : (rule : Picker → Option Refusal) (q : Question) → Type 0
Ruled rule q = (d : Picker) → question_refusal d q ≡ rule d

-- a picker stands, its partials are the live rows, and no question of the rule is refused
pub record Granted (rule : Picker → Option Refusal) (Fits : Shape → Type 0) (s : Shape) (live lent : ℕ) (rows counts words cells : List ℕ)
    : Type 0 where
  pub stood : Stood s live lent rows counts words cells
  pub fits : Fits s
  pub free : (partials : List Record) → length partials ≡ lent → rows ≡ rows_of words partials → (q : Question) → Ruled rule q
      → refusal_on (lending words cells partials) (question q) ≡ none

-- every question of the rule is refused so, whatever records the rows are; or none is
unfoldable pub AdmittedBy : (rule : Picker → Option Refusal) (Fits : Shape → Type 0) (words cells rows counts : List ℕ) (lent : ℕ)
    (v : Result Admitted Refusal) → Type 0
AdmittedBy rule Fits words cells rows counts lent (Err why) =
    (partials : List Record) → length partials ≡ lent → rows ≡ rows_of words partials → (q : Question) → Ruled rule q
    → refusal_on (lending words cells partials) (question q) ≡ some why
AdmittedBy rule Fits words cells rows counts lent (Ok a) = Granted rule Fits a.shape a.live lent rows counts words cells
