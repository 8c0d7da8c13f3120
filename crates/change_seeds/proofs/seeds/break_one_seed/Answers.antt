-- `break_one_seed` meets its contract. Assumes nothing.
use native.Mathlib.Omega.{arith}
use Rattle.memory_layout.proofs.StandingLaws.{words_span_kept}
use Rattle.change_seeds.proofs.SeedLaws.{counts_fit, seed_broken}
use Rattle.change_seeds.proofs.seeds.break_one_seed.Goals as goal

pub seeds-n-requires : goal.seeds-n-requires
seeds-n-requires c = c.requires.stands_beside.stands.bounds.spans.in_words

pub overflow_sub-n : goal.overflow_sub-n
overflow_sub-n c = omega (arith, c.seeds-n.ensures.is c.requires.stands_beside.records c.args.cells.now, c.requires.bound)

pub set_seeds-requires : goal.set_seeds-requires
set_seeds-requires c = c.requires.stands_beside.stands.bounds.spans.in_words

pub raise_all-requires : goal.raise_all-requires
raise_all-requires c = record {
  cells_span = c.requires.stands_beside.stands.bounds.spans.in_cells;
  counts_fit = counts_fit c.args.s c.args.words.now c.args.cells.now c.requires.stands_beside;
}

pub mark_dirty-requires : goal.mark_dirty-requires
mark_dirty-requires c = words_span_kept c.args.s c.args.words.now _ c.requires.stands_beside.stands.bounds.spans.in_words
    c.set_seeds.ensures.became.kept

pub returns : goal.returns
returns c = seed_broken c.args.s c.args.words.now c.mark_dirty.new.words c.args.cells.now c.raise_all.new.cells c.seeds-n.result
    c.seeds-n.ensures c.set_seeds.new.words c.set_seeds.ensures c.raise_all.ensures c.mark_dirty.ensures
