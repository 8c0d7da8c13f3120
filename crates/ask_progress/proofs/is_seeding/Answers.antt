-- `is_seeding` meets its contract. Assumes nothing.
use mathlib.Core.Path.{sym, ◌∙◌}
use borrow.Author.Rules.{rules}
use Rattle.model.specs.ask.Questions.{num_have}
use Rattle.ask_totals.proofs.TotalLaws.{asked_pieces, counted_same}
use Rattle.ask_progress.proofs.ClassLaws.{seeding_is}
use Rattle.ask_progress.proofs.is_seeding.Goals as goal

pub returns : goal.returns
unfolding num_have
returns c = let n = asked_pieces c.args.s c.args.live c.args.rows.now c.args.words.now c.args.cells.now c.requires in
    seeding_is _ _ _ (counted_same _ _ _ (c.of-kinds.ensures.computed (λ h f. h) (λ h f r p. search rules)) c.counted.ensures).pieces (c.usize_to_u64.ensures ∙ sym n)
