-- The core of a public call sees the records as rows: what it says is said of all records that these rows are. Assumes nothing.
use Rattle.std.specs.Prelude.{◌≡◌, false, List, ℕ, length, Err, Ok, Result}
use Rattle.types.specs.declared.refusal.Refusal.{Refusal}
use Rattle.std.proofs.Math.Option.{none, some}
use Rattle.model.specs.State.{Picker}
use Rattle.model.specs.Calls.{Action, Answer, refused, refusal}
use Rattle.memory_records.specs.declared.record.DownloadingPiece.{DownloadingPiece as Record}
use Rattle.memory_records.specs.declared.edits.Edit.{Edit}
use Rattle.memory_records.specs.declared.edits.Edit.TheVariants.{Keep}
use Rattle.memory_records.specs.Records.{EditFits, edited}
use Rattle.memory_records.specs.Rows.{rows_of, live_records, records_in}
use Rattle.memory_layout.specs.declared.shape.Shape.{Shape}
use Rattle.memory_layout.specs.Decode.{head_word}
use Rattle.memory_layout.specs.Standing.{Stands}
use Rattle.memory_layout.specs.Good.{memory_refusal}
use Rattle.check_partials.specs.Records.{CountsHeld}
use Rattle.memory_rows.specs.Lookup.{picker_in}
use Rattle.picker_calls.specs.declared.outcomes.CallStep.{CallStep}
use Rattle.picker_calls.specs.Outcomes.{outcome}
use Rattle.picker_calls.specs.Calling.{Lent, Called, refusal_on, of_memory}

-- the three buffers
abbrev pub lending : (words cells : List ℕ) (partials : List Record) → Lent
lending words cells partials = record { words = words; cells = cells; partials = partials }

-- with any records that the rows are, the call is done once the edit is made
pub record CoreCalled (words cells rows : List ℕ) (lent : ℕ) (a : Action) (words' cells' : List ℕ) (r : Answer) (count : ℕ) (edit : Edit)
    : Type 0 where
  pub done : (partials : List Record) → length partials ≡ lent → rows ≡ rows_of words partials
      → EditFits count edit partials × Called (lending words cells partials) a (lending words' cells' (edited count edit partials)) r

-- what a core gives: a refusal, and no record changes; or a call that is done, with the edit to make
abbrev pub CoreGives : (words cells rows : List ℕ) (lent : ℕ) (a : Action) (words' cells' : List ℕ) (r : Result CallStep Refusal) → Type 0
CoreGives words cells rows lent a words' cells' (Err why) = CoreCalled words cells rows lent a words' cells' (refused why) 0 Keep
CoreGives words cells rows lent a words' cells' (Ok s) =
    CoreCalled words cells rows lent a words' cells' (outcome (Ok s.out)) s.count s.edit

-- ---- the memory's verdict
-- an action that is lent no places for records
abbrev pub Listless : (a : Action) → Type 0
Listless a = (d : Picker) → of_memory (refusal d a) ≡ false

-- what a call may rely on once its memory is admitted: the live rows are the records of a picker that stands, with its counts
pub record Stood (s : Shape) (live lent : ℕ) (rows counts words cells : List ℕ) : Type 0 where
  pub stands : Stands s (records_in live rows) words cells
  pub many : live ≡ head_word words 7
  pub rowed : live ≡ live_records words
  pub counted : CountsHeld (picker_in live rows words cells) live counts
  pub long_rows : length rows ≡ 1536
  pub long_counts : length counts ≡ 1536
  pub passed : memory_refusal lent (records_in live rows) words cells ≡ none

-- refused for its memory, whatever records the rows are; or a picker of this shape stands there
unfoldable pub Admitted : (words cells rows counts : List ℕ) (lent : ℕ) (v : Result Shape Refusal) → Type 0
Admitted words cells rows counts lent (Err why) =
    (partials : List Record) → length partials ≡ lent → rows ≡ rows_of words partials → (a : Action) → Listless a
    → refusal_on (lending words cells partials) a ≡ some why
Admitted words cells rows counts lent (Ok s) = Stood s (head_word words 7) lent rows counts words cells
