-- `dec_refcount_all` meets its contract. Assumes nothing.
use Rattle.memory_layout.proofs.StandingLaws.{words_span_kept}
use Rattle.change_seeds.proofs.SeedLaws.{peers_went, seed_went}
use Rattle.change_seeds.proofs.seeds.dec_refcount_all.Goals as goal

pub seeds-n-requires : goal.seeds-n-requires
seeds-n-requires c = c.requires.stands.bounds.spans.in_words

pub lower_all-requires : goal.lower_all-requires
lower_all-requires c = c.requires.stands.bounds.spans.in_cells

pub mark_dirty-requires : goal.mark_dirty-requires
mark_dirty-requires c = c.requires.stands.bounds.spans.in_words

pub returns-then-n-eq0 : goal.returns-then-n-eq0
returns-then-n-eq0 c = peers_went c.args.s c.args.words.now c.mark_dirty.new.words c.args.cells.now c.lower_all.new.cells c.seeds-n.result
    c.seeds-n.ensures c.if-n-eq0.true c.lower_all.ensures c.mark_dirty.ensures

pub set_seeds-requires : goal.set_seeds-requires
set_seeds-requires c = c.requires.stands.bounds.spans.in_words

pub mark_dirty_if-requires : goal.mark_dirty_if-requires
mark_dirty_if-requires c = words_span_kept c.args.s c.args.words.now _ c.requires.stands.bounds.spans.in_words
    c.set_seeds.ensures.became.kept

pub returns : goal.returns
returns c = seed_went c.args.s c.args.words.now c.set_seeds.new.words c.mark_dirty_if.new.words c.args.cells.now c.seeds-n.result
    c.seeds-n.ensures c.if-n-eq0.false c.set_seeds.ensures c.mark_dirty_if.ensures
