-- What a question that fills a lent list answers and writes. Assumes nothing.
use Rattle.std.specs.Prelude.{◌≡◌, List, ℕ, length, Err, None, Ok, Option, Result, Some}
use Rattle.types.specs.declared.refusal.Refusal.{Refusal}
use Rattle.model.specs.ask.Questions.{Question, Reply, plain, nothing}
use Rattle.model.specs.Calls.{Answer, refused, replied, question}
use Rattle.memory_records.specs.declared.record.DownloadingPiece.{DownloadingPiece as Record}
use Rattle.memory_records.specs.Rows.{rows_of}
use Rattle.memory_layout.specs.Tables.{front}
use Rattle.ask_records.specs.Records.{Written, told_reply, peer_read, block_read}
use Rattle.ask_queue.specs.Infos.{infos_told}
use Rattle.picker_calls.specs.Calling.{Lent, answer_on}
use Rattle.picker_calls.specs.Cores.{lending}

-- ---- the answer, by what so many records of the list tell
abbrev pub list_answer : (tell : ℕ → List ℕ → Reply) (r : Result (Option ℕ) Refusal) (out : List ℕ) → Answer
list_answer tell (Err why) out = refused why
list_answer tell (Ok (Some n)) out = replied (tell n out)
list_answer tell (Ok None) out = replied nothing

-- how many records were written
abbrev pub records_in : (r : Result (Option ℕ) Refusal) → ℕ
records_in (Err why) = 0
records_in (Ok (Some n)) = n
records_in (Ok None) = 0

-- ---- what records tell
-- a number for each piece, one place a record
unfoldable pub tell_numbers : (n : ℕ) (out : List ℕ) → Reply
tell_numbers n out = plain (front n out)

-- partials, seven words a record
unfoldable pub tell_infos : (n : ℕ) (out : List ℕ) → Reply
tell_infos n out = plain (infos_told n out)

-- a peer or none for each block, two words a record
unfoldable pub tell_peers : (n : ℕ) (out : List ℕ) → Reply
tell_peers n out = told_reply 2 peer_read n out

-- blocks, four words a record
unfoldable pub tell_blocks : (n : ℕ) (out : List ℕ) → Reply
tell_blocks n out = told_reply 4 block_read n out

-- ---- the call
-- the answer is the definition's, in records of w places; no place behind them has moved, and none where the call is refused
pub record Listed (w : ℕ) (tell : ℕ → List ℕ → Reply) (m : Lent) (q : Question) (before after : List ℕ) (r : Result (Option ℕ) Refusal)
    : Type 0 where
  pub answer : list_answer tell r after ≡ answer_on m (question q)
  pub written : Written w (records_in r) before after

-- with any records that the rows are
pub record CoreListed (w : ℕ) (tell : ℕ → List ℕ → Reply) (words cells rows : List ℕ) (lent : ℕ) (q : Question) (before after : List ℕ)
    (r : Result (Option ℕ) Refusal) : Type 0 where
  pub is : (partials : List Record) → length partials ≡ lent → rows ≡ rows_of words partials
      → Listed w tell (lending words cells partials) q before after r
