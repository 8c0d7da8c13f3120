-- What the test of the live records asks of each, and the counts that it leaves. Assumes nothing.
use Rattle.std.specs.Prelude.{ℕ, zero, suc, ◌+◌, ◌≤◌, ◌<◌, ◌≡◌, Bool, true, not, ◌&&◌, List, get_or, eqb, ltb, leb}
use Rattle.types.specs.declared.block.BlockState.TheVariants.{Requested, Writing, Finished}
use Rattle.model.specs.State.{DownloadingPiece, Picker, valid_geometry}
use Rattle.model.specs.change.Partials.{blocks_in_state}
use Rattle.memory_records.specs.declared.record.DownloadingPiece.{DownloadingPiece as Record}
use Rattle.memory_layout.specs.declared.shape.Shape.{Shape}
use Rattle.memory_layout.specs.Decode.{head_word, piece_cell, record_at, pieces_on, blocks_on, blocks_of, partial_held}
use Rattle.memory_layout.specs.Changes.{partial_in}
use Rattle.memory_layout.specs.Bounds.{Spans}
use Rattle.memory_layout.specs.Good.{record_raw}
use Rattle.check_blocks.specs.Below.{count_below}
use Rattle.check_blocks.specs.Rows.{rows_ok, in_state, busy_in}
use Rattle.check_partials.specs.States.{state_by}

-- ---- one record
-- the blocks of piece i at place p are good, and its state is theirs
unfoldable pub blocks_good : (words cells : List ℕ) (n b i p : ℕ) (hashing : Bool) → Bool
blocks_good words cells n b i p hashing =
    rows_ok cells n b p (blocks_of words i)
    && state_by (piece_cell cells n 1 i) (piece_cell cells n 2 i) (in_state cells n b p 1 (blocks_of words i))
    (busy_in cells n b p (blocks_of words i)) (blocks_of words i) hashing

-- a record on its own: a piece that is there and not Open, flags, the blocks
unfoldable pub record_good : (words cells : List ℕ) (n b : ℕ) (r : Record) → Bool
record_good words cells n b r =
    ltb r.index n
    && (not (eqb (piece_cell cells n 1 r.index) 4)
    && (leb r.flags 7 && blocks_good words cells n b r.index r.info_idx (leb 4 r.flags)))

-- ---- records by place
abbrev pub index_at : (rs : List Record) (k : ℕ) → ℕ
index_at rs k = (record_at rs k).index

abbrev pub place_at : (rs : List Record) (k : ℕ) → ℕ
place_at rs k = (record_at rs k).info_idx

abbrev pub flags_at : (rs : List Record) (k : ℕ) → ℕ
flags_at rs k = (record_at rs k).flags

abbrev pub raw_at : (rs : List Record) (words cells : List ℕ) (n b k : ℕ) → Bool
raw_at rs words cells n b k = record_raw words cells n b (record_at rs k)

abbrev pub good_at : (rs : List Record) (words cells : List ℕ) (n b k : ℕ) → Bool
good_at rs words cells n b k = record_good words cells n b (record_at rs k)

abbrev pub held_at : (rs : List Record) (words cells : List ℕ) (n b k : ℕ) → DownloadingPiece
held_at rs words cells n b k = partial_held words cells n b (record_at rs k)

-- the least number that element k of a rising list may have, from lo on
unfoldable pub lowest : (lo : ℕ) (p : ℕ → ℕ) (k : ℕ) → ℕ
lowest lo p zero = lo
lowest lo p (suc k) = suc (p k)

-- record k is good, and of a higher piece than those before it
unfoldable pub record_next : (rs : List Record) (words cells : List ℕ) (n b k : ℕ) → Bool
record_next rs words cells n b k = leb (lowest 0 (index_at rs) k) (index_at rs k) && good_at rs words cells n b k

-- pieces that are not Open
unfoldable pub at_work : (cells : List ℕ) (n : ℕ) → ℕ
at_work cells n = count_below (λ i. not (eqb (piece_cell cells n 1 i) 4)) n

-- ---- the counts: three columns of 512, requested, writing, finished
-- those of the blocks at the places of the first records
pub record Columns (rs : List Record) (words cells : List ℕ) (n b many : ℕ) (counts : List ℕ) : Type 0 where
  pub requested : (k : ℕ) → k < many → get_or counts k 0 ≡ in_state cells n b (place_at rs k) 1 (blocks_of words (index_at rs k))
  pub writing : (k : ℕ) → k < many → get_or counts (512 + k) 0 ≡ in_state cells n b (place_at rs k) 2 (blocks_of words (index_at rs k))
  pub finished : (k : ℕ) → k < many → get_or counts (1024 + k) 0 ≡ in_state cells n b (place_at rs k) 3 (blocks_of words (index_at rs k))

-- those of the first partials of a picker
pub record CountsHeld (d : Picker) (many : ℕ) (counts : List ℕ) : Type 0 where
  pub requested : (k : ℕ) → k < many → get_or counts k 0 ≡ blocks_in_state Requested (partial_in d k)
  pub writing : (k : ℕ) → k < many → get_or counts (512 + k) 0 ≡ blocks_in_state Writing (partial_in d k)
  pub finished : (k : ℕ) → k < many → get_or counts (1024 + k) 0 ≡ blocks_in_state Finished (partial_in d k)

-- ---- what stands before the test
-- of the buffers
pub record Ready (s : Shape) (words cells : List ℕ) : Type 0 where
  pub spans : Spans s words cells
  pub geometry : valid_geometry (head_word words 0) (head_word words 1) ≡ true
  pub pieces : s.pieces ≡ pieces_on words
  pub blocks : s.blocks ≡ blocks_on words
  pub states : (i : ℕ) → i < s.pieces → piece_cell cells s.pieces 1 i ≤ 6

-- of the live records
pub record Placed (s : Shape) (rs : List Record) (live : ℕ) : Type 0 where
  pub few : live ≤ s.places
  pub there : (k : ℕ) → k < live → place_at rs k < s.places
