-- What a picker that stands in the words gives: what was read there, and how many blocks its pieces have. Assumes nothing.
use mathlib.Core.Path.{◌≡◌, sym, ap, ◌∙◌}
use mathlib.Core.List.{List}
use Prim.Native.Nat.{ℕ, ◌≤◌}
use native.Mathlib.Omega.{arith}
use Rattle.model.specs.State.{Picker, blocks_in_piece, payload_blocks_in_piece}
use Rattle.model.proofs.base.Bep3Laws.{blocks_per_piece_pos, blocks_in_piece_le}
use Rattle.geometry.proofs.ValidLaws.{bounds}
use Rattle.memory_layout.specs.declared.shape.Shape.{Shape}
use Rattle.memory_layout.specs.Decode.{head_word, blocks_on}
use Rattle.memory_layout.specs.Bounds.{ShapeOf, WordsSpan}
use Rattle.memory_fields.specs.Reading.{WordsSay}
use Rattle.pick_new.specs.Runs.{InWords, InBuffers}

-- in both, so in the words
pub in_words : {s : Shape} {words cells : List ℕ} {d : Picker} → InBuffers s words cells d → InWords s words d
in_words {cells = cells} h = record { records = h.records; cells = cells; bounds = h.bounds; is = h.is }

-- a number read from the words is the picker's
pub words_say : {A : Type 0} {s : Shape} {words : List ℕ} {r : A} (field : Picker → A) → WordsSay s words field r → (d : Picker) → InWords s words d → r ≡ field d
words_say field y d h = y.is h.records h.cells h.bounds ∙ ap field (sym h.is)

module _ {s : Shape} {words : List ℕ} {d : Picker} (h : InWords s words d) where
  pub in_span : WordsSpan s words × ShapeOf s words
  in_span = (
    h.bounds.spans.in_words,
    record { sizes = h.bounds.spans.in_words.sizes; pieces = h.bounds.pieces; blocks = h.bounds.blocks },
  )

  -- a piece has a block, and no piece more than a whole one
  pub some_blocks : 1 ≤ s.blocks
  unfolding blocks_on
  some_blocks =
      omega (arith, h.bounds.blocks, blocks_per_piece_pos (head_word words 1) (bounds (head_word words 0) (head_word words 1) h.bounds.geometry).some_size)

  pub few_blocks : (s.blocks ≤ 256) × (s.pieces ≤ 4096)
  few_blocks = let z = h.bounds.spans.in_words.sizes in (z.wide, z.many)

  pub blocks_few : (k : ℕ) → blocks_in_piece d k ≤ s.blocks
  unfolding blocks_on blocks_in_piece
  blocks_few k =
      rw h.is (omega (
        arith,
        h.bounds.blocks,
        blocks_in_piece_le (head_word words 0) (head_word words 1) k (bounds (head_word words 0) (head_word words 1) h.bounds.geometry).some_size,
      ))

  pub payload_few : (k : ℕ) → payload_blocks_in_piece d k ≤ s.blocks
  unfolding payload_blocks_in_piece
  payload_few k = omega (arith, blocks_few k)
