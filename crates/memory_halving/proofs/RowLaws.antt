-- The rows of rising pieces, as numbers and as records. Assumes nothing.
use mathlib.Core.Path.{◌≡◌, ap}
use mathlib.Core.Bool.{true}
use mathlib.Core.List.{List}
use Prim.Native.Nat.{ℕ, ◌<◌}
use native.Mathlib.Omega.{arith}
use lib.ListN.{get_or}
use Rattle.memory_records.specs.declared.record.DownloadingPiece.{DownloadingPiece as Record}
use Rattle.memory_records.specs.Records.{no_record, rising_from}
use Rattle.memory_records.specs.Rows.{row_at, records_in}
use Rattle.memory_records.proofs.laws.RowLaws.{length_records, records_at}
use Rattle.memory_records.proofs.laws.RisingLaws.{index_rises}

-- the piece in row k
pub row_index : (live : ℕ) (rows : List ℕ) (k : ℕ) → k < live → (get_or (records_in live rows) k no_record).index ≡ get_or rows k 0
unfolding row_at
row_index live rows k h = ap (λ (x : Record). x.index) (records_at live rows k h)

-- they rise
pub rows_rise : (live : ℕ) (rows : List ℕ) → rising_from 0 (records_in live rows) ≡ true → (k l : ℕ) → k < l → l < live
    → get_or rows k 0 < get_or rows l 0
rows_rise live rows r k l e h =
    let m = length_records live rows in
    omega (
      arith,
      row_index live rows k (omega arith),
      row_index live rows l h,
      index_rises 0 (records_in live rows) k l r e (omega arith),
    )
