-- `new_state` meets its contract: its tests are the definition's, in its order. Assumes nothing.
use mathlib.Core.Path.{sym, ◌∙◌}
use Rattle.change_state.proofs.StateLaws.{zero_prio, left_open, some_free, some_requested, all_received}
use Rattle.change_state.proofs.states.new_state.Goals as goal

pub returns-then-priority-eq0 : goal.returns-then-priority-eq0
returns-then-priority-eq0 c = zero_prio c.args.t c.args.priority _ c.if-priority-eq0.true

pub returns-then-is_idle : goal.returns-then-is_idle
returns-then-is_idle c = left_open c.args.t c.args.priority _ c.if-priority-eq0.false (sym c.is_idle.ensures ∙ c.if-is_idle.true)

pub returns-then-t : goal.returns-then-t
returns-then-t c = some_free c.args.t c.args.priority _ c.if-priority-eq0.false (sym c.is_idle.ensures ∙ c.if-is_idle.false) c.if-t.true _
    c.in_direction.ensures

pub returns-then-t-gt0 : goal.returns-then-t-gt0
returns-then-t-gt0 c = some_requested c.args.t c.args.priority _ c.if-priority-eq0.false (sym c.is_idle.ensures ∙ c.if-is_idle.false) c.if-t.false c.if-t-gt0.true _
    c.in_direction-then-t-gt0.ensures

pub returns : goal.returns
returns c = all_received c.args.t c.args.priority _ c.if-priority-eq0.false (sym c.is_idle.ensures ∙ c.if-is_idle.false) c.if-t.false c.if-t-gt0.false
