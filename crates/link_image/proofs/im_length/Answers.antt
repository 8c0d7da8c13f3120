-- `im_length` meets its contract. Assumes nothing.
use mathlib.Core.Path.{sym, subst}
use Rattle.memory_layout.specs.declared.shape.Shape.{Shape}
use Rattle.image_write.specs.Written.{AskedBeside, LengthSays}
use borrow.Author.Rules.{rules}
use Rattle.link_image.proofs.im_length.Goals as goal

pub image_length-requires : goal.image_length-requires
image_length-requires c = subst (λ (s : Shape). AskedBeside s c.args.live c.args.rows.now c.args.words.now) (sym c.shape.ensures) c.requires

pub returns : goal.returns
returns c = subst (λ (s : Shape). LengthSays s c.args.live c.args.rows.now c.args.words.now c.image_length.result) c.shape.ensures
    c.image_length.ensures
