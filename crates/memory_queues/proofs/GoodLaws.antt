-- What a good verdict gives the work on rows: they are the live records, they rise, and each is in one of the queues. Assumes nothing.
use mathlib.Core.Path.{◌≡◌}
use mathlib.Core.Bool.{true}
use mathlib.Core.List.{List}
use mathlib.Core.Option.{none}
use Prim.Native.Nat.{ℕ}
use Rattle.memory_records.specs.Records.{rising_from}
use Rattle.memory_records.specs.Rows.{live_records, records_in}
use Rattle.memory_layout.specs.declared.shape.Shape.{Shape}
use Rattle.memory_layout.specs.Bounds.{ShapeOf}
use Rattle.memory_layout.specs.Good.{memory_refusal}
use Rattle.check_memory.proofs.VerdictLaws.{head_any, live_is}
use Rattle.check_memory.proofs.Standing.{parts_pass, in_bounds, well_formed_picker}
use Rattle.memory_rows.specs.Lookup.{LiveRows}
use Rattle.memory_rows.proofs.RisingLaws.{well_formed_rise}
use Rattle.memory_queues.specs.Queues.{InQueues}
use Rattle.memory_queues.proofs.StandLaws.{in_queues}

module _ (s : Shape) (lent : ℕ) (rows words cells : List ℕ) (g : ShapeOf s words)
    (h : memory_refusal lent (records_in (live_records words) rows) words cells ≡ none) where
  -- the live records
  pub good_rows_lem : LiveRows s (live_records words) rows words cells
  good_rows_lem =
      let rs = records_in (live_records words) rows in
      let v = parts_pass lent rs words cells h in
      record {
        bounds = in_bounds s lent rows words cells g h;
        many = live_is s lent words cells g v.there v.geometry v.long (head_any rs words cells v.head);
      }

  -- by rising piece
  pub good_rise : rising_from 0 (records_in (live_records words) rows) ≡ true
  good_rise =
      let rs = records_in (live_records words) rows in
      well_formed_rise s (live_records words) rows words cells good_rows_lem (well_formed_picker lent rs words cells h)

  -- each in one of the queues
  pub good_queues : InQueues s (live_records words) rows cells
  good_queues =
      let rs = records_in (live_records words) rows in
      in_queues s (live_records words) rows words cells good_rows_lem (well_formed_picker lent rs words cells h)
