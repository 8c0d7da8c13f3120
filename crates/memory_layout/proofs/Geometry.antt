-- The shape of a picker of a valid geometry. Assumes nothing.
use mathlib.Core.Path.{◌≡◌, sym, ◌∙◌}
use mathlib.Core.Bool.{true}
use Prim.Native.Nat.{ℕ, min}
use mathlib.Core.List.{List}
use Rattle.model.specs.Bep3.{num_pieces, whole_piece_blocks}
use Rattle.model.specs.State.{valid_geometry}
use Rattle.geometry.proofs.ValidLaws.{bounds}
use Rattle.memory_layout.specs.declared.shape.Shape.{Shape}
use Rattle.memory_layout.specs.Decode.{head_word, pieces_on, blocks_on}
use Rattle.memory_layout.specs.Bounds.{ShapeOf}
use Rattle.memory_layout.proofs.OffsetLaws.{places_min}

-- the shape computed from the head is the one that the head gives
pub shape_is : (s : Shape) (words : List ℕ) → valid_geometry (head_word words 0) (head_word words 1) ≡ true
    → s.pieces ≡ num_pieces (head_word words 0) (head_word words 1)
    → s.blocks ≡ whole_piece_blocks (head_word words 1)
    → s.places ≡ min s.pieces 512 → ShapeOf s words
unfolding pieces_on blocks_on
shape_is s words h p b m =
    let v = bounds (head_word words 0) (head_word words 1) h in
    record {
      sizes = record {
        places = m ∙ sym (places_min s.pieces);
        many = rw p v.pieces_most;
        wide = rw b v.blocks_most;
      };
      pieces = p;
      blocks = b;
    }
