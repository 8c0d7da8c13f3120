-- What a store leaves. A function on one buffer says what becomes of the picker for every content of the others. Assumes nothing.
use Rattle.std.specs.Prelude.{ℕ, ◌≤◌, ◌<◌, ◌≡◌, List, length, get_or}
use Rattle.model.specs.State.{Picker}
use Rattle.memory_records.specs.declared.record.DownloadingPiece.{DownloadingPiece as Record}
use Rattle.memory_layout.specs.declared.shape.Shape.{Shape}
use Rattle.memory_layout.specs.Offsets.{words_for, cells_for}
use Rattle.memory_layout.specs.Decode.{head_word, piece_word, decode}
use Rattle.memory_layout.specs.Bounds.{InBounds, Plain}

-- ---- the frame
-- the words are as long as before, of the same geometry, and nothing beyond the need has moved
pub record WordsKept (s : Shape) (entry exit : List ℕ) : Type 0 where
  pub long : length exit ≡ length entry
  pub total_size : head_word exit 0 ≡ head_word entry 0
  pub piece_size : head_word exit 1 ≡ head_word entry 1
  pub beyond : (k : ℕ) → words_for s.pieces s.blocks ≤ k → get_or exit k 0 ≡ get_or entry k 0

-- the cells are as long as before, and nothing beyond the need has moved
pub record CellsKept (s : Shape) (entry exit : List ℕ) : Type 0 where
  pub long : length exit ≡ length entry
  pub beyond : (k : ℕ) → cells_for s.pieces s.blocks ≤ k → get_or exit k 0 ≡ get_or entry k 0

-- the places of the list are as they were, with the ranks in them, and as many are the list
pub record ListKept (s : Shape) (entry exit : List ℕ) : Type 0 where
  pub long : head_word exit 6 ≡ head_word entry 6
  pub word : (k : ℕ) → k < s.pieces → piece_word exit s.pieces 1 k ≡ piece_word entry s.pieces 1 k

-- ---- the picker after a store
-- what stands in bounds is changed so, stays in bounds, and stays plain where it was
pub record Became (s : Shape) (change : Picker → Picker) (records : List Record) (words cells words' cells' : List ℕ) : Type 0 where
  pub is : decode records words' cells' ≡ change (decode records words cells)
  pub bounds : InBounds s records words' cells'
  pub plain : Plain s records words cells → Plain s records words' cells'

-- a store into the words, whatever records and cells stand beside them
pub record WordsBecame (s : Shape) (change : Picker → Picker) (entry exit : List ℕ) : Type 0 where
  pub kept : WordsKept s entry exit
  pub became : (records : List Record) (cells : List ℕ) → InBounds s records entry cells → Became s change records entry cells exit cells

-- a store into the cells, whatever records and words stand beside them
pub record CellsBecame (s : Shape) (change : Picker → Picker) (entry exit : List ℕ) : Type 0 where
  pub kept : CellsKept s entry exit
  pub became : (records : List Record) (words : List ℕ) → InBounds s records words entry → Became s change records words entry words exit

-- a change of both, with the records as they are
pub record BothBecame (s : Shape) (change : Picker → Picker) (words words' cells cells' : List ℕ) : Type 0 where
  pub words_kept : WordsKept s words words'
  pub cells_kept : CellsKept s cells cells'
  pub became : (records : List Record) → InBounds s records words cells → Became s change records words cells words' cells'
