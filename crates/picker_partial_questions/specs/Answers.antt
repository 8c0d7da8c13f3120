-- What the answers of these questions are in the definition. Assumes nothing.
-- Written by tools/publics.py, and not by hand.
use Rattle.std.specs.Prelude.{Bool, Err, Ok, Option, Result}
use Rattle.types.specs.declared.refusal.Refusal.{Refusal}
use Rattle.ask_partial.specs.declared.info.PieceInfo.{PieceInfo}
use Rattle.model.specs.Calls.{Answer, refused, replied}
use Rattle.ask_partial.specs.Flags.{flag_reply}
use Rattle.ask_partial.specs.Info.{info_reply}

-- a flag of a partial, or nothing where none stands
abbrev pub partial_flag_answer : (r : Result (Option Bool) Refusal) → Answer
partial_flag_answer (Err why) = refused why
partial_flag_answer (Ok x) = replied (flag_reply x)

-- a partial: how many of its blocks are in each state, and its flags
abbrev pub info_answer : (r : Result PieceInfo Refusal) → Answer
info_answer (Err why) = refused why
info_answer (Ok x) = replied (info_reply x)
