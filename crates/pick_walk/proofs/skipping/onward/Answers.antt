-- `onward` meets its contract. Assumes nothing.
use Rattle.pick_walk.proofs.TellLaws.{next_end, next_up}
use native.Mathlib.Omega.{arith}
use mathlib.Core.Path.{sym}
use borrow.Author.Rules.{rules}
use Rattle.pick_walk.proofs.skipping.onward.Goals as goal

pub returns-then-pieces-i : goal.returns-then-pieces-i
returns-then-pieces-i c = sym (next_end c.args.pieces c.args.i (omega arith))

pub returns : goal.returns
returns c = sym (next_up c.args.pieces c.args.i (omega arith))
