-- `info_at` meets its contract. Assumes nothing.
use Rattle.ask_partial.proofs.InfoLaws.{info_says}
use mathlib.Core.Path.{refl}
use borrow.Author.Rules.{rules}
use Rattle.ask_partial.proofs.info.info_at.Goals as goal

pub returns : goal.returns
returns c = info_says c.args.rows.now c.args.counts.now c.args.k _ _ c.row-d.ensures c.u32_to_usize.ensures c.finished.ensures refl
    c.writing.ensures refl
    c.requested.ensures refl
