-- A whole change told in numbers. Assumes nothing.
use Prim.Native.Nat.{ℕ}
use mathlib.Core.Path.{sym, subst, ap, ◌∙◌}
use mathlib.Core.Bool.{Bool}
use mathlib.Core.List.{List}
use mathlib.Core.Option.{some}
use Rattle.model.specs.State.{Picker}
use Rattle.model.specs.list.Order.{Draws, Drawing}
use Rattle.model.specs.change.Changes.{Change}
use Rattle.memory_records.specs.declared.record.DownloadingPiece.{DownloadingPiece as Record}
use Rattle.memory_records.specs.declared.edits.Edit.{Edit}
use Rattle.memory_layout.specs.declared.shape.Shape.{Shape}
use Rattle.memory_layout.specs.Standing.{Changed, edit_records}
use Rattle.change_steps.specs.Whole.{Done}
use Rattle.change_flags.specs.Flagging.{EditAlone}
use Rattle.change_vacant.specs.Marks.{MarkDone}
use Rattle.change_priority.specs.declared.changes.PrioritySet.{PrioritySet}
use Rattle.change_priority.specs.Saying.{Said}
use Rattle.link_outcomes.specs.declared.Outcome.{Outcome}
use Rattle.link_outcomes.specs.Outcomes.{edit_named, Tells}
use Rattle.link_changes.specs.Outcomes.{priority_set}

-- with the edit and the draws that the numbers name
pub done_told : (s : Shape) (step : Drawing → Drawing) (records : List Record) (words cells words' cells' : List ℕ) (answer : Bool)
    (used : ℕ) (edit : Edit) (r : Outcome) → Tells answer used edit r
    → Done s step records words cells (edit_records edit records) words' cells' used
    → Done s step records words cells (edit_records (edit_named r) records) words' cells' r.used
done_told s step records words cells words' cells' answer used edit r t d =
    subst (λ e. Done s step records words cells (edit_records e records) words' cells' r.used) (sym t.edits)
    (subst (λ n. Done s step records words cells (edit_records edit records) words' cells' n) (sym t.uses) d)

pub edit_told : (change : Picker → Picker) (live : ℕ) (rows : List ℕ) (answer : Bool) (used : ℕ) (edit : Edit) (r : Outcome)
    → Tells answer used edit r → EditAlone change live rows edit → EditAlone change live rows (edit_named r)
edit_told change live rows answer used edit r t = subst (EditAlone change live rows) (sym t.edits)

pub changed_told : (s : Shape) (after : Picker) (words cells : List ℕ) (records : List Record) (words' cells' : List ℕ) (answer : Bool)
    (used : ℕ) (edit : Edit) (r : Outcome) → Tells answer used edit r
    → Changed s after words cells (edit_records edit records) words' cells'
    → Changed s after words cells (edit_records (edit_named r) records) words' cells'
changed_told s after words cells records words' cells' answer used edit r t =
    subst (λ e. Changed s after words cells (edit_records e records) words' cells') (sym t.edits)

-- a mark with its answer
pub mark_told : (s : Shape) (mark : (w : Drawing) → Change) (records : List Record) (words cells words' cells' : List ℕ) (answer : Bool)
    (used : ℕ) (edit : Edit) (r : Outcome) → Tells answer used edit r
    → MarkDone s mark records words cells (edit_records edit records) words' cells' answer used
    → MarkDone s mark records words cells (edit_records (edit_named r) records) words' cells' r.answer r.used
mark_told s mark records words cells words' cells' answer used edit r t d = record {
  done = done_told s (λ w. (mark w).after) records words cells words' cells' answer used edit r t d.done;
  says = d.says ∙ ap some (sym t.answers);
}

-- the answer of a new priority
pub said_told : (s : Shape) (draws : Draws) (i priority : ℕ) (records : List Record) (words cells words' cells' : List ℕ)
    (p : PrioritySet) (edit : Edit) (r : Outcome) → Tells p.turned p.used edit r
    → Said s draws i priority records words cells words' cells' p
    → Said s draws i priority records words cells words' cells' (priority_set r)
said_told s draws i priority records words cells words' cells' p edit r t d =
    subst (λ n. Said s draws i priority records words cells words' cells' (record { turned = r.answer; used = n })) (sym t.uses)
    (subst (λ b. Said s draws i priority records words cells words' cells' (record { turned = b; used = p.used })) (sym t.answers) d)
