-- How many blocks a piece has, by the head words. Assumes nothing.
use mathlib.Core.Path.{◌≡◌, sym, ◌∙◌}
use mathlib.Core.List.{List}
use Prim.Native.Nat.{ℕ, suc, ◌+◌, ◌<◌}
use native.Mathlib.Omega.{arith}
use Rattle.model.specs.Bep3.{num_pieces, piece_blocks}
use Rattle.model.specs.State.{piece_at, blocks_in_piece, payload_blocks_in_piece}
use Rattle.model.proofs.base.Bep3Laws.{blocks_in_piece_whole}
use Rattle.geometry.specs.Numbers.{payload_blocks}
use Rattle.geometry.proofs.PartLaws.{part_some}
use Rattle.memory_layout.specs.declared.shape.Shape.{Shape}
use Rattle.memory_layout.specs.Decode.{head_word, pieces_on, blocks_on, blocks_of}
use Rattle.memory_layout.specs.Bounds.{ShapeOf}
use Rattle.memory_fields.specs.Reading.{WordsSay}

-- a piece that is there
pub piece_low : (s : Shape) (words : List ℕ) → ShapeOf s words → (i total size k : ℕ) → i < s.pieces → total ≡ head_word words 0
    → size ≡ head_word words 1 → k ≡ i → k < num_pieces total size
unfolding pieces_on
piece_low s words r i total size k h et ez ek = rw (et, ez, ek, ← r.pieces) h

-- one that is not the last is whole
pub blocks_whole : (s : Shape) (words : List ℕ) → ShapeOf s words → (i : ℕ) → i + 1 < s.pieces → s.blocks ≡ blocks_of words i
unfolding pieces_on blocks_on blocks_of num_pieces
blocks_whole s words r i h =
    let l : suc i < num_pieces (head_word words 0) (head_word words 1) = omega (arith, h, r.pieces) in
    r.blocks ∙ sym (blocks_in_piece_whole (head_word words 0) (head_word words 1) i (part_some (head_word words 0) _ (suc i) l) l)

pub blocks_is : (words : List ℕ) (i total size k v w : ℕ) → total ≡ head_word words 0 → size ≡ head_word words 1 → k ≡ i
    → v ≡ piece_blocks total size k → w ≡ v → w ≡ blocks_of words i
unfolding blocks_of
blocks_is words i total size k v w et ez ek ev ew = ew ∙ ev ∙ rw (et, ez, ek)

pub payload_is : (s : Shape) (words : List ℕ) (i total size k pad v w : ℕ) → total ≡ head_word words 0 → size ≡ head_word words 1 → k ≡ i
    → WordsSay s words (λ d. (piece_at d i).pad_bytes) pad → v ≡ payload_blocks total size k pad → w ≡ v
    → WordsSay s words (λ d. payload_blocks_in_piece d i) w
unfolding payload_blocks payload_blocks_in_piece blocks_in_piece
payload_is s words i total size k pad v w et ez ek ep ev ew = record {
  is = λ records cells r. ew ∙ ev ∙ rw (et, ez, ek, ep.is records cells r);
}
