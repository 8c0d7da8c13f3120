-- `tally_of` meets its contract. Assumes nothing.
use native.Mathlib.Omega.{arith}
use Rattle.change_tally.proofs.TallyLaws.{row_low, row_shape, blocks_few, busy_few, tallied}
use Rattle.change_tally.proofs.tally_of.Goals as goal

pub blocks_in_piece-many-requires : goal.blocks_in_piece-many-requires
blocks_in_piece-many-requires c = record {
  words_span = row_shape _ _ _ _ _ _ c.requires.tallies_beside;
  i_lt_pieces = c.requires.i_lt_pieces;
}

pub requested-asked-requires : goal.requested-asked-requires
requested-asked-requires c = (row_low _ _ _ _ _ _ c.requires.tallies_beside, c.requires.rows_len.1)

pub writing-came-requires : goal.writing-came-requires
writing-came-requires c = (row_low _ _ _ _ _ _ c.requires.tallies_beside, c.requires.rows_len.1)

pub finished-held-requires : goal.finished-held-requires
finished-held-requires c = (row_low _ _ _ _ _ _ c.requires.tallies_beside, c.requires.rows_len.1)

pub hashing-hashed-requires : goal.hashing-hashed-requires
hashing-hashed-requires c = (row_low _ _ _ _ _ _ c.requires.tallies_beside, c.requires.rows_len.0)

pub overflow_cast-result : goal.overflow_cast-result
overflow_cast-result c = record { fits = omega (arith, c.blocks_in_piece-many.ensures, blocks_few _ _ _ _ _ _ c.requires.tallies_beside) }

pub overflow_add-result : goal.overflow_add-result
overflow_add-result c = record {
  fits = omega (
    arith,
    busy_few _ _ _ _ _ _ c.requires.tallies_beside c.requested-asked.result c.writing-came.result
        c.finished-held.result c.requested-asked.ensures c.writing-came.ensures c.finished-held.ensures,
  );
}

pub overflow_add-result-2 : goal.overflow_add-result-2
overflow_add-result-2 c = record {
  fits = omega (
    arith,
    busy_few _ _ _ _ _ _ c.requires.tallies_beside c.requested-asked.result c.writing-came.result
        c.finished-held.result c.requested-asked.ensures c.writing-came.ensures c.finished-held.ensures,
  );
}

pub returns : goal.returns
returns c = tallied _ _ _ _ _ _ c.requires.tallies_beside c.requested-asked.result c.writing-came.result c.finished-held.result
    c.requested-asked.ensures c.writing-came.ensures c.finished-held.ensures c.blocks_in_piece-many.result
    c.blocks_in_piece-many.ensures c.hashing-hashed.result c.hashing-hashed.ensures
