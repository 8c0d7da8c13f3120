-- What the answers of the public questions are in the definition. Assumes nothing.
use Rattle.std.specs.Prelude.{Bool, ℕ, Err, Ok, Result}
use Rattle.types.specs.declared.refusal.Refusal.{Refusal}
use Rattle.model.specs.ask.Questions.{one, flag}
use Rattle.model.specs.Calls.{Answer, refused, replied}

-- a number
abbrev pub number_answer : (r : Result ℕ Refusal) → Answer
number_answer (Err why) = refused why
number_answer (Ok n) = replied (one n)

-- true or false, document 01's 1 or 0
abbrev pub flag_answer : (r : Result Bool Refusal) → Answer
flag_answer (Err why) = refused why
flag_answer (Ok truth) = replied (flag truth)
