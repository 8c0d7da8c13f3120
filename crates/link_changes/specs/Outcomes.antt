-- What `set_piece_priority` answers, read from its numbers. Assumes nothing.
use Rattle.change_priority.specs.declared.changes.PrioritySet.{PrioritySet}
use Rattle.link_outcomes.specs.declared.Outcome.{Outcome}

abbrev pub priority_set : (r : Outcome) → PrioritySet
priority_set r = record { turned = r.answer; used = r.used }
