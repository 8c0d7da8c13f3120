-- `im_judge_image` meets its contract. Assumes nothing.
use mathlib.Core.Path.{sym, ap, ◌∙◌}
use Rattle.link_judge.specs.Places.{place_of}
use borrow.Author.Rules.{rules}
use Rattle.link_judge.proofs.im_judge_image.Goals as goal

pub returns-in-Ok : goal.returns-in-Ok
returns-in-Ok c = ap place_of (sym c.in-Ok.is ∙ c.judge_image.ensures)

pub returns-in-Err : goal.returns-in-Err
returns-in-Err c = ap place_of (sym c.in-Err.is ∙ c.judge_image.ensures)
