-- `flagged_where` meets its contract. Assumes nothing.
use mathlib.Core.Path.{sym, ap, ◌∙◌}
use mathlib.Core.Bool.{Bool, cond}
use Rattle.types.specs.Bits.{union}
use Rattle.pick_state.specs.PickStates.{with_flags}
use borrow.Author.Rules.{rules}
use Rattle.pick_start.proofs.start.flagged_where.Goals as goal

pub returns-then-test : goal.returns-then-test
returns-then-test c = c.flagged.ensures ∙ sym (ap (λ (b : Bool). cond b (with_flags (union c.args.t.flags c.args.flag.0) c.args.t) c.args.t) c.if-test.true)
