-- `tally_at` meets its contract. Assumes nothing.
use Rattle.change_priority.proofs.StateLaws.{rows_few, rows_rising, found_asks, found_tallied, none_tallied}
use Rattle.change_priority.proofs.changes.tally_at.Goals as goal

pub find-requires : goal.find-requires
find-requires c = record {
  live_bound = (rows_few _ _ _ _ _ _ c.requires.tallies_at.stand, c.requires.tallies_at.stand.long_rows);
  rows_value = rows_rising _ _ _ _ _ _ c.requires.tallies_at.stand;
}

pub tally_of-requires : goal.tally_of-requires
tally_of-requires c = record {
  tallies_beside = found_asks c.args.s c.args.live c.args.rows.now c.args.counts.now c.args.words.now c.args.i _ c.find.result c.in-Some.is
      c.find.ensures.picker c.requires.tallies_at;
  i_lt_pieces = c.requires.i_lt_pieces;
  rows_len = (c.requires.tallies_at.stand.long_rows, c.requires.tallies_at.stand.long_counts);
}

pub returns-in-Some : goal.returns-in-Some
returns-in-Some c = found_tallied c.args.s c.args.live c.args.rows.now c.args.counts.now c.args.words.now c.args.i _ c.find.result
    c.in-Some.is c.find.ensures.picker c.tally_of.result c.tally_of.ensures

pub returns-in-None : goal.returns-in-None
returns-in-None c = none_tallied c.args.s c.args.live c.args.rows.now c.args.counts.now c.args.words.now c.args.i c.find.result c.in-None.is
    c.find.ensures.picker _
