-- What a public call does with any buffers that are lent to it. Each contract of a change cites `Called`, each of a question `answer_on`,
-- with its own `Action`, and nothing else. Assumes nothing.
use Rattle.std.specs.Prelude.{◌≡◌, Bool, true, false, not, List, ℕ, ◌≤◌, ltb, length, get_or}
use Rattle.std.proofs.Math.Option.{Option, none, some}
use Rattle.types.specs.declared.refusal.Refusal.{Refusal}
use Rattle.types.specs.declared.refusal.Refusal.TheVariants.{Geometry, ShortMemory, IllFormedMemory, FewDraws, OutOfRange, TooManyPeers}
use Rattle.types.specs.declared.refusal.Refusal.TheVariants.{NoPeerToTake, HavePiece, NotWriting, TooManyPartials, PickArguments}
use Rattle.types.specs.declared.refusal.Refusal.TheVariants.{ShortOutput, IllFormedImage}
use Rattle.model.specs.State.{Picker, valid_geometry}
use Rattle.model.specs.Calls.{Action, Answer, Step, refusal, unless_refused}
use Rattle.memory_records.specs.declared.record.DownloadingPiece.{DownloadingPiece as Record}
use Rattle.memory_records.specs.Records.{no_record}
use Rattle.memory_layout.specs.Offsets.{head_length, places_for, words_for, cells_for}
use Rattle.memory_layout.specs.Decode.{head_word, pieces_on, blocks_on, decode}
use Rattle.memory_layout.specs.Good.{short, good_body, or_else, memory_refusal}

-- ---- what is lent
pub record Lent : Type 0 where
  pub words : List ℕ
  pub cells : List ℕ
  pub partials : List Record

-- the picker that the buffers mean
unfoldable pub picker_on : (m : Lent) → Picker
picker_on m = decode m.partials m.words m.cells

-- 2 and 3 of the table, of the memory alone
unfoldable pub memory_on : (m : Lent) → Option Refusal
memory_on m = memory_refusal (length m.partials) m.partials m.words m.cells

-- ---- refusals
-- 2 of the places lent for the records of an answer: the geometry decides it, so it comes before 3
unfoldable pub of_memory : (why : Option Refusal) → Bool
of_memory none = false
of_memory (some Geometry) = false
of_memory (some ShortMemory) = true
of_memory (some IllFormedMemory) = false
of_memory (some FewDraws) = false
of_memory (some OutOfRange) = false
of_memory (some TooManyPeers) = false
of_memory (some NoPeerToTake) = false
of_memory (some HavePiece) = false
of_memory (some NotWriting) = false
of_memory (some TooManyPartials) = false
of_memory (some PickArguments) = false
of_memory (some ShortOutput) = false
of_memory (some (IllFormedImage k)) = false

-- the first of the table that holds: 2 and 3 of the memory, with 2 of the answer's records between them; then the definition's own
unfoldable pub refusal_on : (m : Lent) (a : Action) → Option Refusal
refusal_on m a =
    or_else (ltb (length m.words) head_length) ShortMemory
    (or_else (not (valid_geometry (head_word m.words 0) (head_word m.words 1))) IllFormedMemory
    (or_else (short (length m.partials) m.words m.cells) ShortMemory
    (or_else (of_memory (refusal (picker_on m) a)) ShortMemory
    (or_else (not (good_body m.partials m.words m.cells)) IllFormedMemory (refusal (picker_on m) a)))))

-- ---- the call
-- refused, or what the definition does with the picker that the buffers mean
unfoldable pub step_on : (m : Lent) (a : Action) → Step
step_on m a = unless_refused (refusal_on m a) (picker_on m) a

-- what is answered
unfoldable pub answer_on : (m : Lent) (a : Action) → Answer
answer_on m a = (step_on m a).answer

-- each buffer is as long as before, and nothing beyond the needs of the picker has moved
pub record LentKept (entry exit : Lent) : Type 0 where
  pub long_words : length exit.words ≡ length entry.words
  pub long_cells : length exit.cells ≡ length entry.cells
  pub long_partials : length exit.partials ≡ length entry.partials
  pub words : (k : ℕ) → words_for (pieces_on entry.words) (blocks_on entry.words) ≤ k → get_or exit.words k 0 ≡ get_or entry.words k 0
  pub cells : (k : ℕ) → cells_for (pieces_on entry.words) (blocks_on entry.words) ≤ k → get_or exit.cells k 0 ≡ get_or entry.cells k 0
  pub partials : (k : ℕ) → places_for (pieces_on entry.words) ≤ k → get_or exit.partials k no_record ≡ get_or entry.partials k no_record

-- a call on the buffers `entry` left them as `exit` and was answered r. What they hold where nothing is read is left open
pub record Called (entry : Lent) (a : Action) (exit : Lent) (r : Answer) : Type 0 where
  pub answer : r ≡ answer_on entry a
  pub after : picker_on exit ≡ (step_on entry a).after
  -- refused: every buffer as it was
  pub unchanged : (why : Refusal) → refusal_on entry a ≡ some why → exit ≡ entry
  -- done: the next call finds a well-formed picker
  pub good : refusal_on entry a ≡ none → memory_on exit ≡ none
  pub kept : LentKept entry exit
