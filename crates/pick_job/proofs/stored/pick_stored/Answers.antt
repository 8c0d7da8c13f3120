-- `pick_stored` meets its contract. Assumes nothing.
use Rattle.std.specs.Prelude.{Err}
use mathlib.Core.Path.{refl, ◌∙◌}
use Rattle.check_memory.specs.Verdicts.{refusal_of}
use Rattle.pick_job.proofs.StoredLaws.{words_long, never_refused, asked_here, few_here, counts_here, program_is}
use borrow.Author.Rules.{rules}
use Rattle.pick_job.proofs.stored.pick_stored.Goals as goal

pub returns-in_err-check_memory : goal.returns-in_err-check_memory
unfolding refusal_of
returns-in_err-check_memory c = never_refused c.requires.0 {v = Err _} c.in_err-check_memory.ensures _ refl

pub shape_of-s-requires : goal.shape_of-s-requires
shape_of-s-requires c = record {
  in_bounds = words_long c.requires.0;
  words_value = c.requires.0.asked.stands.bounds.geometry;
}

pub pick_program-requires : goal.pick_program-requires
pick_program-requires c = let k = c.in_ok-check_memory.ensures in
    let s = c.shape_of-s.ensures in
    record {
      asked = (asked_here c.requires.0 k refl c.shape_of-s.result s, few_here c.requires.0 k refl c.shape_of-s.result s, c.requires.1);
      counts_held = counts_here c.requires.0 k refl c.shape_of-s.result s;
    }

pub returns : goal.returns
returns c = c.pick_program.ensures
    ∙ program_is c.requires.0 c.in_ok-check_memory.ensures refl c.shape_of-s.result c.shape_of-s.ensures c.args.p _ c.requires.2
