-- What the test of the list answers. It reads no records: the answer is the definition's whatever records stand beside the words and cells.
-- Assumes nothing.
use Rattle.std.specs.Prelude.{ℕ, ◌≡◌, Bool, ◌&&◌, List, []}
use Rattle.model.specs.Lists.{every, from}
use Rattle.model.specs.list.Order.{rank}
use Rattle.model.specs.image.WellFormed.{order_ok}
use Rattle.memory_records.specs.declared.record.DownloadingPiece.{DownloadingPiece as Record}
use Rattle.memory_layout.specs.Decode.{head_word, pieces_on, list_held, decode}
use Rattle.memory_layout.specs.Good.{rank_raw, good_list}
use Rattle.check_pieces.specs.Parts.{RanksOf}

-- the places of the list, each with its rank and in order
unfoldable pub places_ok : (records : List Record) (words cells : List ℕ) → Bool
places_ok records words cells =
    every (rank_raw words (pieces_on words) (rank (decode records words cells))) (from 0 (head_word words 6))
    && order_ok (decode records words cells) [] (list_held words (pieces_on words))

-- the answer of their test, where the ranks are those of the n pieces
abbrev pub PlaceTest : (n : ℕ) (r : Bool) (words ranks : List ℕ) → Type 0
PlaceTest n r words ranks =
    (cells : List ℕ) → RanksOf n words cells ranks → (records : List Record) → r ≡ places_ok records words cells

-- the answer of the list's test, where the ranks are those of the n pieces
abbrev pub ListTest : (n : ℕ) (r : Bool) (words ranks : List ℕ) → Type 0
ListTest n r words ranks =
    (cells : List ℕ) → RanksOf n words cells ranks → (records : List Record) → r ≡ good_list records words cells
