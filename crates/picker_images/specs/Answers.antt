-- What the answers of these calls are in the relations of `picker_calls`, specs/Starting. Assumes nothing.
use Rattle.std.specs.Prelude.{ℕ, Err, Ok, Result, ⊤}
use Rattle.std.proofs.Math.Option.{Option, none, some}
use Rattle.types.specs.declared.refusal.Refusal.{Refusal}
use Rattle.picker_calls.specs.Starting.{Written, wrote, not_written}

-- why there is no picker
abbrev pub why_not : (r : Result ⊤ Refusal) → Option Refusal
why_not (Err why) = some why
why_not (Ok tt) = none

-- the same, where how many rows are records is told
abbrev pub why_not_read : (r : Result ℕ Refusal) → Option Refusal
why_not_read (Err why) = some why
why_not_read (Ok n) = none

-- how many rows are
abbrev pub count_read : (r : Result ℕ Refusal) → ℕ
count_read (Err why) = 0
count_read (Ok n) = n

-- how many bytes the image has
abbrev pub image_answer : (r : Result ℕ Refusal) → Written
image_answer (Err why) = not_written why
image_answer (Ok n) = wrote n
