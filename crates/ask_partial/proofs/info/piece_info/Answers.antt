-- `piece_info` meets its contract. Assumes nothing.
use Rattle.ask_partial.proofs.InfoLaws.{counts_beside, info_none, info_some}
use Rattle.ask_picker.proofs.AskedLaws.{asked_queues, asked_rise}
use Rattle.memory_rows.specs.Lookup.{FoundIn}
use mathlib.Core.Path.{subst}
use native.Mathlib.Omega.{arith}
use borrow.Author.Rules.{rules}
use Rattle.ask_partial.proofs.info.piece_info.Goals as goal

pub find-requires : goal.find-requires
find-requires c = record {
  live_bound = ((asked_queues c.args.s c.args.live c.args.rows.now c.args.words.now c.args.cells.now c.requires.asked_counts.asked).few, c.requires.asked_counts.asked.wide);
  rows_value = asked_rise c.args.s c.args.live c.args.rows.now c.args.words.now c.args.cells.now c.requires.asked_counts.asked;
}

pub unopened-requires : goal.unopened-requires
unopened-requires c = record {
  stands_beside = counts_beside c.args.s c.args.live c.args.rows.now c.args.counts.now c.args.words.now c.args.cells.now c.requires.asked_counts;
  i_lt_pieces = c.requires.i_lt_pieces;
}

pub returns-in_default : goal.returns-in_default
returns-in_default c = let f = subst (FoundIn c.args.live c.args.rows.now c.args.i) c.in_default.is c.find.ensures.picker in
    info_none c.args.s c.args.live c.args.rows.now c.args.counts.now c.args.words.now c.args.cells.now c.requires.asked_counts c.args.i _ f c.unopened.ensures

pub info_at-requires : goal.info_at-requires
info_at-requires c = let f = subst (FoundIn c.args.live c.args.rows.now c.args.i) c.in-Some.is c.find.ensures.picker in
    let n = (asked_queues c.args.s c.args.live c.args.rows.now c.args.words.now c.args.cells.now c.requires.asked_counts.asked).few in
    record {
      k_bound = (omega (arith, f.row.0), c.requires.asked_counts.asked.wide);
      counts_len = c.requires.asked_counts.wide;
    }

pub returns : goal.returns
returns c = let f = subst (FoundIn c.args.live c.args.rows.now c.args.i) c.in-Some.is c.find.ensures.picker in
    info_some c.args.s c.args.live c.args.rows.now c.args.counts.now c.args.words.now c.args.cells.now c.requires.asked_counts c.args.i _ _ f c.info_at.ensures
