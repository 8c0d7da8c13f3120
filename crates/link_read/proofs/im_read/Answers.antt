-- `im_read` meets its contract. Assumes nothing.
use mathlib.Core.Path.{sym, ap, ◌∙◌}
use Rattle.link_read.specs.Numbers.{number_of}
use borrow.Author.Rules.{rules}
use Rattle.link_read.proofs.im_read.Goals as goal

pub returns-in-Ok : goal.returns-in-Ok
returns-in-Ok c = record { read = c.read_image.result; told = c.read_image.ensures; is = ap number_of (sym c.in-Ok.is) }

pub returns-in-Err : goal.returns-in-Err
returns-in-Err c = record {
  read = c.read_image.result;
  told = c.read_image.ensures;
  is = c.number.ensures ∙ ap number_of (sym c.in-Err.is);
}
