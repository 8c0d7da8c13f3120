-- What the tests of head, extents and pieces answer, and under what they run. None of them reads records: each answer is the definition's
-- whatever records stand beside the words and cells. Assumes nothing.
use Rattle.std.specs.Prelude.{ℕ, ◌+◌, ◌≤◌, ◌<◌, ◌≡◌, Bool, true, cond, ◌&&◌, List, eqb, leb, length, get_or}
use Rattle.model.specs.State.{max_peers, valid_geometry}
use Rattle.model.specs.list.Order.{rank}
use Rattle.memory_records.specs.declared.record.DownloadingPiece.{DownloadingPiece as Record}
use Rattle.memory_layout.specs.declared.shape.Shape.{Shape}
use Rattle.memory_layout.specs.Tables.{tabulate}
use Rattle.memory_layout.specs.Decode.{head_word, pieces_on, blocks_on, decode}
use Rattle.memory_layout.specs.Bounds.{WordsSpan}
use Rattle.memory_layout.specs.Good.{good_head, good_pieces, good_extents}

-- ---- the head
-- for n pieces and so many places for partials: the dirty flag, and the numbers of list places, partials and extents
unfoldable pub lengths_ok : (n places dirty list partials extents : ℕ) → Bool
lengths_ok n places dirty list partials extents =
    leb dirty 1 && (leb list (cond (eqb dirty 1) 0 n) && (leb partials places && leb extents 5))

-- seeds and cursors
unfoldable pub ranges_ok : (n seeds cursor reverse : ℕ) → Bool
ranges_ok n seeds cursor reverse = leb seeds max_peers && (leb cursor n && leb reverse n)

-- the answer of its test
abbrev pub HeadTest : (r : Bool) (words : List ℕ) → Type 0
HeadTest r words = (records : List Record) (cells : List ℕ) → r ≡ good_head records words cells

-- the words are long enough for the shape that their head gives, and the head passed its test
pub record HeadPassed (s : Shape) (words : List ℕ) : Type 0 where
  pub in_words : WordsSpan s words
  pub geometry : valid_geometry (head_word words 0) (head_word words 1) ≡ true
  pub pieces : s.pieces ≡ pieces_on words
  pub blocks : s.blocks ≡ blocks_on words
  pub head : HeadTest true words

-- ---- extents
-- the first k extents
unfoldable pub extents_before : (words : List ℕ) (k : ℕ) → List ℕ
extents_before words k = tabulate k (λ j. head_word words (9 + j))

-- the answer of their test
abbrev pub ExtentTest : (r : Bool) (words : List ℕ) → Type 0
ExtentTest r words = (records : List Record) (cells : List ℕ) → r ≡ good_extents records words cells

-- ---- pieces
-- the first n ranks are those of the picker's pieces
abbrev pub RanksOf : (n : ℕ) (words cells ranks : List ℕ) → Type 0
RanksOf n words cells ranks = (records : List Record) (i : ℕ) → i < n → get_or ranks i 0 ≡ rank (decode records words cells) i

-- what their test leaves: its answer, and the ranks where it passes
pub record PieceTest (s : Shape) (r : Bool) (words cells ranks : List ℕ) : Type 0 where
  pub is : (records : List Record) → r ≡ good_pieces records words cells
  pub each : r ≡ true → RanksOf s.pieces words cells ranks
  pub long : s.pieces ≤ length ranks
