-- The answer of the memory test as a number. Assumes nothing.
use Rattle.std.specs.Prelude.{ℕ, ◌≡◌, List, Result, Ok, Err, ⊤}
use Rattle.std.proofs.Math.Option.{Option, none, some}
use Rattle.types.specs.declared.refusal.Refusal.{Refusal}
use Rattle.types.specs.Refusal.{refusal_number}
use Rattle.memory_records.specs.Rows.{live_records, records_in}
use Rattle.memory_layout.specs.Decode.{head_word, decode}
use Rattle.memory_layout.specs.Good.{memory_refusal}
use Rattle.check_partials.specs.Records.{CountsHeld}

-- the number of a refusal in the table, 0 for none
abbrev pub refusal_as : (r : Option Refusal) → ℕ
refusal_as none = 0
refusal_as (some r) = refusal_number r

-- a verdict of the test
abbrev pub verdict_as : (v : Result ⊤ Refusal) → ℕ
verdict_as (Ok _) = 0
verdict_as (Err why) = refusal_number why

-- the definition's refusal; where there is none, the counts of each partial
pub record Answered (r lent : ℕ) (rows words cells counts : List ℕ) : Type 0 where
  pub is : r ≡ refusal_as (memory_refusal lent (records_in (live_records words) rows) words cells)
  pub counted : r ≡ 0 → CountsHeld (decode (records_in (live_records words) rows) words cells) (head_word words 7) counts
