-- `check_pieces::pads_ok` meets its contract: where the joined word is low all are, else each is tested.
use mathlib.Core.Path.{sym, ◌∙◌}
use borrow.Author.Tests.{not-true, not-false}
use Rattle.check_pieces.proofs.PadLaws.{joined_below, some_above, last_one}
use borrow.Author.Rules.{rules}
use Rattle.check_pieces.proofs.pads.pads_ok.Goals as goal

pub returns-then-joined-last : goal.returns-then-joined-last
returns-then-joined-last c = joined_below _ _ _ _ c.joined.ensures c.if-joined-last.true c.requires.last_le_size c.requires.in_bounds.0

pub returns-then-not-pads_one_by_one : goal.returns-then-not-pads_one_by_one
returns-then-not-pads_one_by_one c = some_above _ _ _ (sym c.pads_one_by_one.ensures ∙ not-true _ c.if-not-pads_one_by_one.true-raw)

pub returns : goal.returns
returns c = last_one _ _ _ (sym c.pads_one_by_one.ensures ∙ not-false _ c.if-not-pads_one_by_one.false-raw)
