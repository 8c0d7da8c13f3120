-- `hashing` meets its contract. Assumes nothing.
use Rattle.ask_partial.proofs.FlagLaws.{flag_asked}
use Rattle.ask_partial.specs.Flags.{flag_in, flag_reply}
use Rattle.memory_rows.specs.Lookup.{picker_in}
use Rattle.model.specs.ask.Questions.{reply_piece}
use Rattle.model.specs.change.Partials.{partial_of}
use mathlib.Core.Logic.{inr}
use mathlib.Core.Path.{refl, ap, ◌∙◌}
use Rattle.ask_partial.proofs.flags.hashing.Goals as goal

pub flag_of-requires : goal.flag_of-requires
flag_of-requires c = record {
  live_bound = c.requires.live_bound;
  rows_value = c.requires.rows_value;
  weight = inr (inr refl);
}

pub returns : goal.returns
unfolding reply_piece flag_in
returns c = record {
  is = λ s words cells v.
      ap flag_reply (c.flag_of.ensures.is s words cells v)
      ∙ flag_asked 4 (partial_of (picker_in c.args.live c.args.rows.now words cells) c.args.i);
}
