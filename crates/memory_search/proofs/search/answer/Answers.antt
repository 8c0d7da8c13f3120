-- `search::answer` meets its contract.
use mathlib.Core.Path.{sym}
use Rattle.memory_records.proofs.laws.SearchLaws.{at_hit, at_miss}
use Rattle.memory_search.proofs.search.answer.Goals as goal

pub returns-then-k-n : goal.returns-then-k-n
returns-then-k-n c = sym (at_hit _ _ c.if-k-n.true)

pub returns-else-k-n : goal.returns-else-k-n
returns-else-k-n c = sym (at_miss _ _ c.if-k-n.false)
