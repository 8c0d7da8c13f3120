-- What a change answers, read from its numbers. Assumes nothing.
use Rattle.std.specs.Prelude.{ℕ, ◌≡◌, Bool, cond, eqb}
use Rattle.memory_records.specs.declared.record.DownloadingPiece.{DownloadingPiece as Record}
use Rattle.memory_records.specs.declared.edits.Edit.{Edit}
use Rattle.memory_records.specs.declared.edits.Edit.TheVariants.{Keep, Replace, Insert, Remove}
use Rattle.link_outcomes.specs.declared.Outcome.{Outcome}

-- the record that the numbers name
abbrev pub record_named : (r : Outcome) → Record
record_named r = record { index = r.index; info_idx = r.info_idx; flags = r.flags }

-- the edit that they name: 1 replaces a record, 2 puts one in, 3 takes out that of a piece, and any other leaves all
unfoldable pub edit_named : (r : Outcome) → Edit
edit_named r =
    cond (eqb r.kind 1) (Replace (record_named r))
    (cond (eqb r.kind 2) (Insert (record_named r)) (cond (eqb r.kind 3) (Remove r.index) Keep))

-- the numbers tell this answer, these draws and this edit
pub record Tells (answer : Bool) (used : ℕ) (edit : Edit) (r : Outcome) : Type 0 where
  pub answers : r.answer ≡ answer
  pub uses : r.used ≡ used
  pub edits : edit_named r ≡ edit
