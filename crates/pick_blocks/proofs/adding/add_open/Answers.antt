-- `add_open` meets its contract. Assumes nothing.
use Rattle.pick_blocks.proofs.AddingLaws.{kept_run}
use mathlib.Core.List.{[]}
use borrow.Author.Rules.{rules}
use Rattle.pick_blocks.proofs.adding.add_open.Goals as goal

pub shape_of-out : goal.shape_of-out
shape_of-out c = (c.add_new_piece-r.ensures []).kept.long

pub shape_of-ignored : goal.shape_of-ignored
shape_of-ignored c = (c.add_new_piece-r.ensures []).marks

pub returns : goal.returns
returns c loops = kept_run (c.add_new_piece-r.ensures loops) c.with_run.result c.with_run.ensures
