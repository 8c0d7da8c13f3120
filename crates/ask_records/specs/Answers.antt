-- An answer of several records, or that no partial stands. Assumes nothing.
use Rattle.std.specs.Prelude.{ℕ, List, None, Option, Some}
use Rattle.model.specs.ask.Questions.{Reply, nothing}
use Rattle.ask_records.specs.Records.{told_reply, block_read}

-- how many records were written
abbrev pub records_in : (r : Option ℕ) → ℕ
records_in (Some n) = n
records_in None = 0

-- document 01's answer of each case
unfoldable pub blocks_reply : (out : List ℕ) (r : Option ℕ) → Reply
blocks_reply out (Some n) = told_reply 4 block_read n out
blocks_reply out None = nothing
