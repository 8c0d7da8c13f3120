-- `update` meets its contract: one arm for each way in which the rank may have changed. Assumes nothing.
use borrow.Author.Rules.{rules}
use mathlib.Core.Path.{sym, ◌∙◌}
use native.Mathlib.Omega.{arith}
use lib.ListN.{take}
use Rattle.list_entries.specs.Words.{list_word}
use Rattle.list_words.proofs.Arms.{in_words, one_more, words_rise, word_in_list, ranked, ranks_differ, word_none}
use Rattle.list_words.proofs.Arms.{update_same, update_added, update_removed, update_changed}
use Rattle.list_words.proofs.update.Goals as goal

pub returns-then-new-old : goal.returns-then-new-old
returns-then-new-old c = update_same c.args.old c.args.new c.args.i c.args.n c.args.list.now c.requires.i_bound c.requires.in_bounds c.requires.ready c.args.draws.now
    c.args.used c.if-new-old.true

pub add-next-requires : goal.add-next-requires
unfolding list_word
add-next-requires c = record {
  n_in_bounds = one_more c.args.old c.args.new c.args.i c.args.n c.args.list.now c.requires.i_bound c.requires.in_bounds c.requires.ready c.if-old-eq0.true;
  rises = words_rise c.args.old c.args.new c.args.i c.args.n c.args.list.now c.requires.i_bound c.requires.in_bounds c.requires.ready;
  w_nonzero = ranked c.args.old c.args.new c.args.i c.args.n c.args.list.now c.requires.i_bound c.requires.in_bounds c.requires.ready c.args.new (λ e. c.if-new-old.false (e
      ∙ sym c.if-old-eq0.true));
  used_in_bounds = c.requires.used_in_bounds;
}

pub overflow_add-result : goal.overflow_add-result
overflow_add-result c = let h = one_more c.args.old c.args.new c.args.i c.args.n c.args.list.now c.requires.i_bound c.requires.in_bounds c.requires.ready
    c.if-old-eq0.true in
    search rules

pub returns-then-old-eq0 : goal.returns-then-old-eq0
unfolding list_word
returns-then-old-eq0 c = update_added c.args.old c.args.new c.args.i c.args.n c.args.list.now c.requires.i_bound c.requires.in_bounds c.requires.ready c.args.draws.now c.args.used
    c.if-old-eq0.true c.if-new-old.false c.add-next.new.list c.add-next.result
    c.add-next.ensures.list_after c.add-next.ensures.value

pub remove-requires : goal.remove-requires
unfolding list_word
remove-requires c = record {
  n_in_bounds = in_words c.args.old c.args.new c.args.i c.args.n c.args.list.now c.requires.i_bound c.requires.in_bounds c.requires.ready;
  rises = words_rise c.args.old c.args.new c.args.i c.args.n c.args.list.now c.requires.i_bound c.requires.in_bounds c.requires.ready;
  w_nonzero = ranked c.args.old c.args.new c.args.i c.args.n c.args.list.now c.requires.i_bound c.requires.in_bounds c.requires.ready c.args.old c.if-old-eq0.false;
  list_bound = word_in_list c.args.old c.args.new c.args.i c.args.n c.args.list.now c.requires.i_bound c.requires.in_bounds c.requires.ready c.if-old-eq0.false;
}

pub overflow_sub-result : goal.overflow_sub-result
overflow_sub-result c = let h = word_in_list c.args.old c.args.new c.args.i c.args.n c.args.list.now c.requires.i_bound c.requires.in_bounds c.requires.ready
    c.if-old-eq0.false in
    omega (arith, h)

pub returns-then-new-eq0 : goal.returns-then-new-eq0
unfolding list_word
returns-then-new-eq0 c = update_removed c.args.old c.args.new c.args.i c.args.n c.args.list.now c.requires.i_bound c.requires.in_bounds c.requires.ready c.args.draws.now
    c.args.used
    c.if-old-eq0.false c.if-new-eq0.true c.remove.new.list c.remove.ensures

pub change-next-requires : goal.change-next-requires
unfolding list_word
change-next-requires c = let le = in_words c.args.old c.args.new c.args.i c.args.n c.args.list.now c.requires.i_bound c.requires.in_bounds c.requires.ready in record {
  n_in_bounds = le;
  rises = words_rise c.args.old c.args.new c.args.i c.args.n c.args.list.now c.requires.i_bound c.requires.in_bounds c.requires.ready;
  v_nonzero = ranked c.args.old c.args.new c.args.i c.args.n c.args.list.now c.requires.i_bound c.requires.in_bounds c.requires.ready c.args.old c.if-old-eq0.false;
  w_nonzero = ranked c.args.old c.args.new c.args.i c.args.n c.args.list.now c.requires.i_bound c.requires.in_bounds c.requires.ready c.args.new c.if-new-eq0.false;
  w_nonzero_2 = ranks_differ c.args.old c.args.new c.args.i c.args.n c.args.list.now c.requires.i_bound c.requires.in_bounds c.requires.ready c.if-new-old.false;
  list_bound = word_in_list c.args.old c.args.new c.args.i c.args.n c.args.list.now c.requires.i_bound c.requires.in_bounds c.requires.ready c.if-old-eq0.false;
  list_value = word_none c.args.old c.args.new c.args.i c.requires.i_bound (take c.args.n c.args.list.now) c.requires.ready
      (omega (arith, c.if-old-eq0.false)) c.if-new-old.false;
  used_in_bounds = c.requires.used_in_bounds;
}

pub returns : goal.returns
unfolding list_word
returns c = update_changed c.args.old c.args.new c.args.i c.args.n c.args.list.now c.requires.i_bound c.requires.in_bounds c.requires.ready c.args.draws.now
    c.args.used
    c.if-old-eq0.false c.if-new-eq0.false
    c.if-new-old.false c.change-next.new.list c.change-next.result c.change-next.ensures.list_after c.change-next.ensures.value
