-- `inc_refcount_all` meets its contract. Assumes nothing.
use native.Mathlib.Omega.{arith}
use Rattle.memory_layout.proofs.StandingLaws.{words_span_kept}
use Rattle.change_seeds.proofs.SeedLaws.{seeds_few, seed_came}
use Rattle.change_seeds.proofs.seeds.inc_refcount_all.Goals as goal

pub seeds-n-requires : goal.seeds-n-requires
seeds-n-requires c = c.requires.stands.bounds.spans.in_words

pub overflow_add-n : goal.overflow_add-n
overflow_add-n c = omega (arith, c.seeds-n.ensures.is c.requires.records c.args.cells.now, seeds_few c.args.s c.args.words.now c.args.cells.now c.requires)

pub set_seeds-requires : goal.set_seeds-requires
set_seeds-requires c = c.requires.stands.bounds.spans.in_words

pub mark_dirty_if-requires : goal.mark_dirty_if-requires
mark_dirty_if-requires c = words_span_kept c.args.s c.args.words.now _ c.requires.stands.bounds.spans.in_words
    c.set_seeds.ensures.became.kept

pub returns : goal.returns
returns c = seed_came c.args.s c.args.words.now c.set_seeds.new.words c.mark_dirty_if.new.words c.args.cells.now c.seeds-n.result
    c.seeds-n.ensures c.set_seeds.ensures c.mark_dirty_if.ensures
