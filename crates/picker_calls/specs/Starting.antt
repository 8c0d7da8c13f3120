-- What the public calls that make a picker (`new`, `read_image`) and the one that takes its image (`take_image`) do with any buffers that
-- are lent to them. Each contract cites `NewCalled`, `ReadCalled` or `ImageCalled`, and nothing else. Assumes nothing.
use Rattle.std.specs.Prelude.{◌≡◌, List, ◌++◌, ℕ, ◌≤◌, ℤ, length, get_or, drop}
use Rattle.std.proofs.Math.Option.{Option, none, some}
use Rattle.types.specs.declared.refusal.Refusal.{Refusal}
use Rattle.types.specs.Piece.{number_of}
use Rattle.model.specs.State.{Picker}
use Rattle.model.specs.Memory.{Memory, memory_needed}
use Rattle.model.specs.Calls.{Made, made, not_made, new_picker, read_picker, Taken, taken, not_taken, take_image}
use Rattle.memory_records.specs.Records.{no_record}
use Rattle.memory_layout.specs.Good.{lengths}
use Rattle.picker_calls.specs.Calling.{Lent, picker_on, memory_on}

-- the lengths of the buffers
unfoldable pub lengths_on : (m : Lent) → Memory
lengths_on m = lengths (length m.partials) m.words m.cells

-- ---- making a picker
-- why there is none
unfoldable pub why_not_made : (m : Made) → Option Refusal
why_not_made (made s) = none
why_not_made (not_made why) = some why

-- each buffer is as long as before, and nothing beyond these needs has moved
pub record KeptBeyond (need : Memory) (entry exit : Lent) : Type 0 where
  pub long_words : length exit.words ≡ length entry.words
  pub long_cells : length exit.cells ≡ length entry.cells
  pub long_partials : length exit.partials ≡ length entry.partials
  pub words : (k : ℕ) → need.words ≤ k → get_or exit.words k 0 ≡ get_or entry.words k 0
  pub cells : (k : ℕ) → need.cells ≤ k → get_or exit.cells k 0 ≡ get_or entry.cells k 0
  pub partials : (k : ℕ) → need.partials ≤ k → get_or exit.partials k no_record ≡ get_or entry.partials k no_record

-- a call that was to make m of the buffers `entry`, whatever they held, left them as `exit`; r is its refusal, or none. What they hold
-- where nothing is read is left open
pub record MakingCalled (entry : Lent) (m : Made) (exit : Lent) (r : Option Refusal) : Type 0 where
  pub answer : r ≡ why_not_made m
  -- refused: every buffer as it was
  pub unchanged : (why : Refusal) → m ≡ not_made why → exit ≡ entry
  -- made: the picker stands in the buffers, and the next call finds it well-formed
  pub after : (s : Picker) → m ≡ made s → picker_on exit ≡ s
  pub good : (s : Picker) → m ≡ made s → memory_on exit ≡ none
  pub kept : (s : Picker) → m ≡ made s → KeptBeyond (memory_needed s) entry exit

-- `new`, of a total and a piece size with a sign: a negative one is past every geometry, so that it is refused with 1
abbrev pub NewCalled : (entry : Lent) (total_size piece_size : ℤ) (exit : Lent) (r : Option Refusal) → Type 0
NewCalled entry total_size piece_size exit r =
    MakingCalled entry (new_picker (lengths_on entry) (number_of total_size) (number_of piece_size)) exit r

-- `read_image`, of lent bytes
abbrev pub ReadCalled : (entry : Lent) (bytes : List ℕ) (exit : Lent) (r : Option Refusal) → Type 0
ReadCalled entry bytes exit r = MakingCalled entry (read_picker (lengths_on entry) bytes) exit r

-- ---- taking the image
-- 2 and 3 of the memory, or what the definition says
unfoldable pub unless_ill : (why : Option Refusal) (t : Taken) → Taken
unless_ill none t = t
unless_ill (some why) t = not_taken why

-- the image of the picker that the buffers mean, or why it is not taken; `room` is the number of bytes lent for it
unfoldable pub taken_on : (m : Lent) (room : ℕ) → Taken
taken_on m room = unless_ill (memory_on m) (take_image (picker_on m) (lengths_on m) room)

-- what is answered: how many bytes the image has, or why it is not taken
pub data Written : Type 0 where
  wrote : (n : ℕ) → Written
  not_written : (why : Refusal) → Written

unfoldable pub written : (t : Taken) → Written
written (taken bytes) = wrote (length bytes)
written (not_taken why) = not_written why

-- `take_image`, which only reads the picker's buffers: the bytes lent for the image, and what they are afterwards
pub record ImageCalled (m : Lent) (before after : List ℕ) (r : Written) : Type 0 where
  pub answer : r ≡ written (taken_on m (length before))
  -- refused: every byte as it was
  pub unchanged : (why : Refusal) → taken_on m (length before) ≡ not_taken why → after ≡ before
  -- taken: the image in front, and behind it every byte as it was
  pub given : (bytes : List ℕ) → taken_on m (length before) ≡ taken bytes → after ≡ bytes ++ drop (length bytes) before
