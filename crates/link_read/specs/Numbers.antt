-- What the reader answers, as one number. Assumes nothing.
use Rattle.std.specs.Prelude.{ℕ, ◌≡◌, List, Err, Ok, Result}
use Rattle.types.specs.declared.refusal.Refusal.{Refusal}
use Rattle.types.specs.Refusal.{refusal_number}
use Rattle.image_read.specs.Reading.{ImageTold}

-- the number of the refusal, 0 where a picker was read
abbrev pub number_of : (r : Result ℕ Refusal) → ℕ
number_of (Ok count) = 0
number_of (Err why) = refusal_number why

-- the number of what was answered
pub record Answered (lent : ℕ) (bytes words cells rows words' cells' rows' : List ℕ) (r : ℕ) : Type 0 where
  pub read : Result ℕ Refusal
  pub told : ImageTold lent bytes words cells rows words' cells' rows' read
  pub is : r ≡ number_of read
