-- `im_write` meets its contract. Assumes nothing.
use mathlib.Core.Path.{sym, subst}
use Rattle.memory_layout.specs.declared.shape.Shape.{Shape}
use Rattle.ask_picker.specs.Asked.{Asked}
use borrow.Author.Rules.{rules}
use Rattle.link_image.proofs.im_write.Goals as goal

pub write_image-requires : goal.write_image-requires
write_image-requires c = record {
  asked = subst (λ (s : Shape). Asked s c.args.live c.args.rows.now c.args.words.now c.args.cells.now) (sym c.shape-s.ensures) c.requires.asked;
  cells_in_bounds = c.requires.cells_in_bounds;
}
