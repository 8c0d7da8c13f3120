-- Room for the one edit of the live records. Assumes nothing.
use Prim.Native.Nat.{ℕ, ◌≤◌, ◌<◌}
use native.Mathlib.Omega.{arith}
use Rattle.memory_records.specs.declared.record.DownloadingPiece.{DownloadingPiece as Record}
use Rattle.memory_records.specs.declared.edits.Edit.TheVariants.{Keep, Replace, Insert, Remove}
use Rattle.memory_layout.specs.declared.shape.Shape.{Shape}
use Rattle.change_steps.specs.Whole.{EditRoom}

module _ (s : Shape) (live : ℕ) where
  -- one more has to fit
  pub insert_room : live < s.places → (d : Record) → EditRoom s live (Insert d)
  insert_room h d = record { fits = λ lent l. omega (arith, h, l) }

  module _ (h : live ≤ s.places) where
    pub keep_room : EditRoom s live Keep
    keep_room = record { fits = λ lent l. omega (arith, h, l) }

    pub replace_room : (d : Record) → EditRoom s live (Replace d)
    replace_room d = record { fits = λ lent l. omega (arith, h, l) }

    pub remove_room : (i : ℕ) → EditRoom s live (Remove i)
    remove_room i = record { fits = λ lent l. omega (arith, h, l) }
