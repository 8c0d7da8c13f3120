-- What a change answers, as a struct of numbers. Assumes nothing.
use Rattle.std.specs.Prelude.{ℕ, Bool, cond, Err, Ok, Result}
use Rattle.types.specs.declared.refusal.Refusal.{Refusal}
use Rattle.types.specs.Refusal.{refusal_number}
use Rattle.picker_calls.specs.declared.outcomes.Outcome.{Outcome}
use Rattle.picker_calls.specs.declared.outcomes.Outcome.TheVariants.{Done, Said}
use Rattle.export_answers.specs.declared.changes.Changed.{Changed}
use Rattle.export_answers.specs.Refusals.{refusal_place}

-- 1 for true
abbrev pub truth_value : (truth : Bool) → ℕ
truth_value truth = cond truth 1 0

-- refused: a number and a place
abbrev pub change_refused : (number place : ℕ) → Changed
change_refused number place = record { refusal = number; kind = 0; place = place; value = 0; draws = 0 }

-- true or false
abbrev pub change_said : (used value : ℕ) → Changed
change_said used value = record { refusal = 0; kind = 1; place = 0; value = value; draws = used }

abbrev pub of_outcome : (o : Result Outcome Refusal) → Changed
of_outcome (Err why) = change_refused (refusal_number why) (refusal_place why)
of_outcome (Ok (Done used)) = record { refusal = 0; kind = 0; place = 0; value = 0; draws = used }
of_outcome (Ok (Said truth used)) = change_said used (truth_value truth)
