-- When the lent buffers hold a well-formed picker: they are long enough, their numbers are numbers that an image could hold, the list has
-- its ranks, and the picker that they mean is well-formed. `lent` is the number of records lent. Assumes nothing.
use Rattle.std.specs.Prelude.{ℕ, Bool, true, false, cond, not, ◌&&◌, List, [], length, eqb, ltb, leb}
use Rattle.std.proofs.Math.Option.{Option, none, some}
use Rattle.types.specs.declared.refusal.Refusal.{Refusal}
use Rattle.types.specs.declared.refusal.Refusal.TheVariants.{ShortMemory, IllFormedMemory}
use Rattle.model.specs.Lists.{every, from, member}
use Rattle.model.specs.State.{max_extents, valid_geometry}
use Rattle.model.specs.list.Order.{rank}
use Rattle.model.specs.Memory.{Memory, memory_for, is_short}
use Rattle.model.specs.image.WellFormed.{head_ok, pieces_ok, partials_ok, extents_ok, listing_ok}
use Rattle.list_entries.specs.Words.{listed_piece, listed_rank}
use Rattle.memory_records.specs.declared.record.DownloadingPiece.{DownloadingPiece as Record}
use Rattle.memory_layout.specs.Tables.{tabulate}
use Rattle.memory_layout.specs.Offsets.{places_for, head_length}
use Rattle.memory_layout.specs.Decode.{head_word, piece_word, piece_cell, block_cell, record_at, pieces_on, blocks_on, blocks_of}
use Rattle.memory_layout.specs.Decode.{decode}

-- ---- lengths
-- the memory that is lent
unfoldable pub lengths : (lent : ℕ) (words cells : List ℕ) → Memory
lengths lent words cells = record { words = length words; cells = length cells; partials = lent }

-- a buffer is shorter than the geometry of the head needs
unfoldable pub short : (lent : ℕ) (words cells : List ℕ) → Bool
short lent words cells = is_short (lengths lent words cells) (memory_for (pieces_on words) (blocks_on words))

-- ---- numbers that an image could hold
-- dirty is 0 or 1, and the numbers of list places, partials and extents have room; a dirty list has no place
unfoldable pub head_raw : (words : List ℕ) → Bool
head_raw words =
    leb (head_word words 5) 1
    && (leb (head_word words 6) (cond (eqb (head_word words 5) 1) 0 (pieces_on words))
    && (leb (head_word words 7) (places_for (pieces_on words)) && leb (head_word words 8) max_extents))

-- piece i: a state, and flushed or not
unfoldable pub piece_raw : (cells : List ℕ) (n i : ℕ) → Bool
piece_raw cells n i = leb (piece_cell cells n 1 i) 6 && leb (piece_cell cells n 3 i) 1

-- all pieces
unfoldable pub pieces_raw : (words cells : List ℕ) → Bool
pieces_raw words cells = every (piece_raw cells (pieces_on words)) (from 0 (pieces_on words))

-- block j of place p: a state, and a peer or none
unfoldable pub block_raw : (cells : List ℕ) (n b p j : ℕ) → Bool
block_raw cells n b p j = leb (block_cell cells n b 0 p j) 3 && leb (block_cell cells n b 2 p j) 1

-- a record: flags, and the blocks at its place
unfoldable pub record_raw : (words cells : List ℕ) (n b : ℕ) (r : Record) → Bool
record_raw words cells n b r =
    leb r.flags 7 && every (block_raw cells n b r.info_idx) (from 0 (blocks_of words r.index))

-- record k has a place that is there and that no record before it has
unfoldable pub place_raw : (records : List Record) (n k : ℕ) → Bool
place_raw records n k =
    ltb (record_at records k).info_idx (places_for n)
    && not (member (record_at records k).info_idx (tabulate k (λ l. (record_at records l).info_idx)))

-- place k of the list has the rank of its piece
unfoldable pub rank_raw : (words : List ℕ) (n : ℕ) (r : ℕ → ℕ) (k : ℕ) → Bool
rank_raw words n r k = eqb (listed_rank (piece_word words n 1 k)) (r (listed_piece (piece_word words n 1 k)))

-- ---- the parts of the test, in the order in which they are made
unfoldable pub good_head : (records : List Record) (words cells : List ℕ) → Bool
good_head records words cells = head_raw words && head_ok (decode records words cells)

-- the pieces
unfoldable pub good_pieces : (records : List Record) (words cells : List ℕ) → Bool
good_pieces records words cells =
    pieces_raw words cells && pieces_ok (decode records words cells) 0 (decode records words cells).pieces

-- each live record has a place of its own
unfoldable pub good_places : (records : List Record) (words : List ℕ) → Bool
good_places records words = every (place_raw records (pieces_on words)) (from 0 (head_word words 7))

-- the records and their blocks
unfoldable pub good_partials : (records : List Record) (words cells : List ℕ) → Bool
good_partials records words cells =
    every (λ k. record_raw words cells (pieces_on words) (blocks_on words) (record_at records k)) (from 0 (head_word words 7))
    && partials_ok (decode records words cells) 0 0 (decode records words cells).pieces (decode records words cells).partials

-- the extents
unfoldable pub good_extents : (records : List Record) (words cells : List ℕ) → Bool
good_extents records words cells = extents_ok (decode records words cells) [] (decode records words cells).recent_extents

-- the list, with the ranks beside it
unfoldable pub good_list : (records : List Record) (words cells : List ℕ) → Bool
good_list records words cells =
    every (rank_raw words (pieces_on words) (rank (decode records words cells))) (from 0 (head_word words 6))
    && listing_ok (decode records words cells) (decode records words cells).listing

-- ---- the whole test
-- a well-formed picker stands in buffers that are long enough
unfoldable pub good_body : (records : List Record) (words cells : List ℕ) → Bool
good_body records words cells =
    good_head records words cells
    && (good_pieces records words cells
    && (good_places records words && (good_partials records words cells && (good_extents records words cells
    && good_list records words cells))))

-- the refusal of the table that a test names, or what the next one says
unfoldable pub or_else : (test : Bool) (r : Refusal) (next : Option Refusal) → Option Refusal
or_else true r next = some r
or_else false r next = next

-- 2 and 3 of the table: words shorter than the head, 2; a geometry that is not valid, 3; a buffer shorter than that geometry needs, 2;
-- then 3
unfoldable pub memory_refusal : (lent : ℕ) (records : List Record) (words cells : List ℕ) → Option Refusal
memory_refusal lent records words cells =
    or_else (ltb (length words) head_length) ShortMemory
    (or_else (not (valid_geometry (head_word words 0) (head_word words 1))) IllFormedMemory
    (or_else (short lent words cells) ShortMemory (or_else (not (good_body records words cells)) IllFormedMemory none)))
