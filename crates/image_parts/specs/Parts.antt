-- The parts of an image put one behind another. Assumes nothing.
use Rattle.std.specs.Prelude.{ℕ, ◌+◌, ◌<◌, ◌≡◌, cond, List, length}
use Rattle.memory_layout.specs.declared.shape.Shape.{Shape}
use Rattle.memory_layout.specs.Decode.{head_word, yes?}
use Rattle.memory_layout.specs.Bounds.{PlainBlock}
use Rattle.image_bytes.specs.Put.{Put}
use Rattle.image_put.specs.Fields.{head_fields}

-- bytes from a place on, and the place behind them
pub record Appended (at : ℕ) (bs before after : List ℕ) (next : ℕ) : Type 0 where
  pub put : Put at bs before after
  pub place : next ≡ at + length bs

-- the head by the words that hold it
unfoldable pub head_in : (words : List ℕ) → List ℕ
head_in words =
    head_fields (head_word words 0) (head_word words 1) (head_word words 2) (head_word words 3) (head_word words 4) (head_word words 5)

-- the number that is written for a peer: 0 where there is none
unfoldable pub peer_written : (has peer : ℕ) → ℕ
peer_written has peer = cond (yes? has) peer 0

-- the first blocks of a place are an image's
abbrev pub PlainBlocks : (s : Shape) (cells : List ℕ) (p many : ℕ) → Type 0
PlainBlocks s cells p many = (j : ℕ) → j < many → PlainBlock s.pieces s.blocks cells p j
