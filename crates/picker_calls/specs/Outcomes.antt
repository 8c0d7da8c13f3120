-- What the answers of the public calls are in the definition. Assumes nothing.
use Rattle.std.specs.Prelude.{Err, Ok, Result, ⊤}
use Rattle.std.proofs.Math.Option.{Option, none, some}
use Rattle.types.specs.declared.refusal.Refusal.{Refusal}
use Rattle.model.specs.Calls.{Answer, refused, done, said}
use Rattle.picker_calls.specs.declared.outcomes.Outcome.{Outcome}
use Rattle.picker_calls.specs.declared.outcomes.Outcome.TheVariants.{Done, Said}

-- of a change
abbrev pub outcome : (r : Result Outcome Refusal) → Answer
outcome (Err why) = refused why
outcome (Ok (Done used)) = done used
outcome (Ok (Said truth used)) = said truth used

-- of a judge
abbrev pub judged : (r : Result ⊤ Refusal) → Option Refusal
judged (Err why) = some why
judged (Ok tt) = none
