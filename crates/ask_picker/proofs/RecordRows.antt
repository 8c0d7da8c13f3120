-- The record in a live row, and the place of its blocks. Assumes nothing.
use Rattle.std.specs.Prelude.{Some}
use mathlib.Core.Path.{◌≡◌, ap}
use mathlib.Core.List.{List}
use Prim.Native.Nat.{ℕ, ◌<◌}
use native.Mathlib.Omega.{arith}
use Rattle.memory_records.specs.declared.record.DownloadingPiece.{DownloadingPiece as Record}
use Rattle.memory_records.specs.Rows.{row_at, records_in}
use Rattle.memory_records.proofs.laws.RowLaws.{records_at}
use Rattle.memory_layout.specs.declared.shape.Shape.{Shape}
use Rattle.memory_layout.specs.Decode.{record_at}
use Rattle.memory_rows.specs.Lookup.{FoundIn}
use Rattle.ask_picker.specs.Asked.{Asked}

pub record_row : (live : ℕ) (rows : List ℕ) (k : ℕ) → k < live → record_at (records_in live rows) k ≡ row_at rows k
unfolding record_at
record_row live rows k h = records_at live rows k h

-- the place of a partial that was found is there
pub place_there : (s : Shape) (live : ℕ) (rows words cells : List ℕ) → Asked s live rows words cells → (i k : ℕ)
    → FoundIn live rows i (Some k) → (p : ℕ) → p ≡ (row_at rows k).info_idx → p < s.places
place_there s live rows words cells g i k f p e =
    let h = f.row.0 in
    let m = g.many in
    omega (
      arith,
      e,
      ap (λ (r : Record). r.info_idx) (record_row live rows k h),
      g.stands.bounds.placed k (omega arith),
    )
