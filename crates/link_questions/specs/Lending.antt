-- The shape that a caller names. Assumes nothing.
use Rattle.memory_layout.specs.declared.shape.Shape.{Shape}
use Rattle.link_lists.specs.declared.Geometry.{Geometry}

-- of so many pieces, blocks and places
abbrev pub shaped : (g : Geometry) → Shape
shaped g = record { pieces = g.pieces; blocks = g.blocks; places = g.places }
