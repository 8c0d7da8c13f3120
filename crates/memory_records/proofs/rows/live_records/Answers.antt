-- `rows::live_records` meets its contract: no head, or the number in it, at most 512. Assumes nothing.
use mathlib.Core.Path.{sym, ◌∙◌}
use Rattle.memory_records.proofs.laws.LiveLaws.{lesser_min, live_none, live_head}
use Rattle.memory_records.proofs.rows.live_records.Goals as goal

pub returns-then-words-lt16 : goal.returns-then-words-lt16
returns-then-words-lt16 c = sym (live_none _ c.if-words-lt16.true)

pub returns : goal.returns
returns c = c.min.ensures ∙ lesser_min _ 512 ∙ sym (live_head _ c.if-words-lt16.false)
