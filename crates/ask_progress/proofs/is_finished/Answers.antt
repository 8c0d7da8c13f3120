-- `is_finished` meets its contract. Assumes nothing.
use mathlib.Core.Path.{sym, ◌∙◌}
use mathlib.Core.Bool.{◌||◌}
use borrow.Author.Rules.{rules}
use Rattle.ask_totals.proofs.TotalLaws.{asked_pieces, counted_same}
use Rattle.ask_progress.proofs.ClassLaws.{finished_is}
use Rattle.ask_progress.proofs.is_finished.Goals as goal

pub returns : goal.returns
returns c = let n = asked_pieces c.args.s c.args.live c.args.rows.now c.args.words.now c.args.cells.now c.requires in
    finished_is _ _ _ (counted_same _ _ _ (c.of-kinds.ensures.computed (λ h f. h || f) (λ h f r p. search rules)) c.counted.ensures).pieces (c.usize_to_u64.ensures ∙ sym n)
