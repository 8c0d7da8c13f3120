-- `judge_piece` meets its contract. Assumes nothing.
use mathlib.Core.Path.{sym}
use mathlib.Core.Option.{none}
use Rattle.picker_calls.proofs.JudgeLaws.{piece_yes, piece_no}
use Rattle.picker_flags.proofs.flags.judge_piece.Goals as goal

pub returns-then-s-i : goal.returns-then-s-i
returns-then-s-i c = record { is = λ records words cells t. sym (piece_yes _ records words cells t _ none c.if-s-i.true) }

pub returns : goal.returns
returns c = record { is = λ records words cells t. sym (piece_no _ records words cells t _ none c.if-s-i.false) }
