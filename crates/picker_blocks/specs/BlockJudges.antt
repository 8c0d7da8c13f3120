-- What a judge says of the first refusals of the table, before those that follow. Assumes nothing.
use Rattle.std.specs.Prelude.{◌≡◌, List, ℕ, Err, Ok, Result, ⊤}
use Rattle.std.proofs.Math.Option.{Option, some}
use Rattle.types.specs.declared.refusal.Refusal.{Refusal}
use Rattle.model.specs.list.Order.{Draws}
use Rattle.model.specs.Calls.{refuse_few_draws, refuse_bad_block}
use Rattle.memory_records.specs.declared.record.DownloadingPiece.{DownloadingPiece as Record}
use Rattle.memory_layout.specs.declared.shape.Shape.{Shape}
use Rattle.memory_layout.specs.Decode.{decode}
use Rattle.memory_layout.specs.Standing.{Stands}

-- refused, or what the rest of the table says
unfoldable pub and_then : (r : Result ⊤ Refusal) (rest : Option Refusal) → Option Refusal
and_then (Err why) rest = some why
and_then (Ok tt) rest = rest

-- 4 and 5 of block j of piece i, whatever follows them, beside whichever records and cells
pub record BlockJudged (s : Shape) (words : List ℕ) (draws : Draws) (i j : ℕ) (r : Result ⊤ Refusal) : Type 0 where
  pub is : (records : List Record) (cells : List ℕ) → Stands s records words cells → (rest : Option Refusal)
      → refuse_few_draws draws (refuse_bad_block (decode records words cells) i j rest) ≡ and_then r rest
