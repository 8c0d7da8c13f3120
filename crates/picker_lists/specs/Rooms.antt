-- The places that a question which fills a lent list needs, and 2 of them: between 2 and 3 of the memory, since the geometry decides it.
-- Assumes nothing.
use Rattle.std.specs.Prelude.{◌≡◌, Bool, false, not, ◌&&◌, List, ℕ, ◌≤◌, ltb, length, Err, Ok, Result}
use Rattle.std.proofs.Math.Option.{Option, some}
use Rattle.types.specs.declared.refusal.Refusal.{Refusal}
use Rattle.types.specs.declared.refusal.Refusal.TheVariants.{ShortMemory}
use Rattle.model.specs.State.{Picker, valid_geometry, pieces_in, blocks_per_piece}
use Rattle.model.specs.Memory.{partials_needed}
use Rattle.model.specs.ask.Questions.{Question}
use Rattle.model.specs.Calls.{question, check}
use Rattle.memory_records.specs.declared.record.DownloadingPiece.{DownloadingPiece as Record}
use Rattle.memory_records.specs.Rows.{rows_of}
use Rattle.memory_layout.specs.declared.shape.Shape.{Shape}
use Rattle.memory_layout.specs.Offsets.{head_length}
use Rattle.memory_layout.specs.Decode.{head_word, pieces_on, blocks_on}
use Rattle.picker_calls.specs.Calling.{refusal_on, of_memory}
use Rattle.picker_calls.specs.Cores.{lending, Stood}
use Rattle.picker_answers.specs.Admitting.{Ruled}
use Rattle.picker_lists.specs.declared.rooms.Need.{Need}
use Rattle.picker_lists.specs.declared.rooms.Need.TheVariants.{Pieces, Partials, Blocks}

-- ---- how many places a list needs
-- by the picker
abbrev pub need_in : (need : Need) (d : Picker) → ℕ
need_in Pieces d = pieces_in d
need_in Partials d = partials_needed (pieces_in d)
need_in Blocks d = blocks_per_piece d

-- by its shape
abbrev pub need_of : (need : Need) (s : Shape) → ℕ
need_of Pieces s = s.pieces
need_of Partials s = s.places
need_of Blocks s = s.blocks

-- by the head
abbrev pub need_on : (need : Need) (words : List ℕ) → ℕ
need_on Pieces words = pieces_on words
need_on Partials words = partials_needed (pieces_on words)
need_on Blocks words = blocks_on words

-- the head gives a geometry, and that needs more places
unfoldable pub short_on : (need : Need) (room : ℕ) (words : List ℕ) → Bool
short_on need room words =
    not (ltb (length words) head_length) && (valid_geometry (head_word words 0) (head_word words 1) && ltb room (need_on need words))

-- ---- refusals
-- 2 of the places, then the rest of a question's rule
unfoldable pub room_rule : (need : Need) (room : ℕ) (rest : Picker → Option Refusal) (d : Picker) → Option Refusal
room_rule need room rest d = check (ltb room (need_in need d)) ShortMemory (rest d)

-- a picker stands, and the list has places enough
pub record Roomy (need : Need) (room : ℕ) (s : Shape) (live lent : ℕ) (rows counts words cells : List ℕ) : Type 0 where
  pub stood : Stood s live lent rows counts words cells
  pub enough : need_of need s ≤ room

-- refused for memory or places, whatever records the rows are and whatever the rest of the rule says; or neither
unfoldable pub RoomAdmitted : (need : Need) (room : ℕ) (words cells rows counts : List ℕ) (lent : ℕ) (v : Result Shape Refusal) → Type 0
RoomAdmitted need room words cells rows counts lent (Err why) =
    (partials : List Record) → length partials ≡ lent → rows ≡ rows_of words partials → (rest : Picker → Option Refusal)
    → ((d : Picker) → of_memory (rest d) ≡ false) → (q : Question) → Ruled (room_rule need room rest) q
    → refusal_on (lending words cells partials) (question q) ≡ some why
RoomAdmitted need room words cells rows counts lent (Ok s) = Roomy need room s (head_word words 7) lent rows counts words cells
