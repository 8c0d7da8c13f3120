-- `blocks_ok` meets its contract: the tests on the fields that are lent are those on the place. Assumes nothing.
use Rattle.check_blocks.proofs.CountLaws.{place_answer}
use borrow.Author.Rules.{rules}
use Rattle.check_blocks.proofs.blocks.blocks_ok.Goals as goal

pub returns : goal.returns
returns c = let all = place_answer _ _ _ _ _ _ _ c.block_column-states.ensures c.block_column-num_peers.ensures
    c.block_column-has.ensures _ _ (c.rows_pass.ensures.all, (c.rows_pass.ensures.requested, (c.rows_pass.ensures.writing, c.rows_pass.ensures.finished))) in
    record {
      all = all.0;
      requested = all.1.0;
      writing = all.1.1.0;
      finished = all.1.1.1;
    }
