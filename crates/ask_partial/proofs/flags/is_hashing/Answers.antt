-- `is_hashing` meets its contract. Assumes nothing.
use Rattle.ask_partial.proofs.FlagLaws.{hashing_says}
use Rattle.model.specs.ask.Questions.{reply_piece, flag}
use mathlib.Core.Logic.{inr}
use mathlib.Core.Path.{refl, ap, ◌∙◌}
use borrow.Author.Rules.{rules}
use Rattle.ask_partial.proofs.flags.is_hashing.Goals as goal

pub flag_of-requires : goal.flag_of-requires
flag_of-requires c = record {
  live_bound = c.requires.live_bound;
  rows_value = c.requires.rows_value;
  weight = inr (inr refl);
}

pub returns : goal.returns
unfolding reply_piece
returns c = let f = hashing_says c.args.live c.args.rows.now c.args.i c.flag_of.result c.flag_of.ensures in
    record { is = λ s words cells v. ap flag (c.unwrap_or.ensures ∙ f.is s words cells v) }
