-- `memory_needed` meets its contract: a valid geometry is within the limits. Assumes nothing.
use mathlib.Core.Path.{sym, ◌∙◌}
use Rattle.geometry_needs.proofs.NeedLaws.{small, lengths_valid, lengths_none}
use borrow.Author.Rules.{rules}
use Rattle.geometry_needs.proofs.needs.memory_needed.Goals as goal

pub words_needed-requires : goal.words_needed-requires
words_needed-requires c = rw (c.num_pieces-n.ensures, c.blocks_per_piece-b.ensures)
    (small _ _ (sym c.valid_geometry.ensures ∙ c.if-valid_geometry.true))

pub cells_needed-requires : goal.cells_needed-requires
cells_needed-requires c = rw (c.num_pieces-n.ensures, c.blocks_per_piece-b.ensures)
    (small _ _ (sym c.valid_geometry.ensures ∙ c.if-valid_geometry.true))

pub returns-then-valid_geometry : goal.returns-then-valid_geometry
returns-then-valid_geometry c = lengths_valid _ _
    (sym c.valid_geometry.ensures
    ∙ c.if-valid_geometry.true)
    c.num_pieces-n.ensures c.blocks_per_piece-b.ensures
    c.words_needed.ensures c.cells_needed.ensures c.partials_needed.ensures

pub returns : goal.returns
returns c = lengths_none _ _ (sym c.valid_geometry.ensures ∙ c.if-valid_geometry.false)
