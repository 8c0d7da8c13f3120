-- `filter_changes` meets its contract. Assumes nothing.
use Rattle.change_filter.proofs.FilterLaws.{filter_from, filter_to}
use Rattle.change_filter.proofs.filters.filter_changes.Goals as goal

pub returns-then-old-eq0 : goal.returns-then-old-eq0
returns-then-old-eq0 c = filter_from c.args.old c.args.new c.if-old-eq0.true

pub returns : goal.returns
returns c = filter_to c.args.old c.args.new c.if-old-eq0.false
