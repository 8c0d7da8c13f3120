-- `write_block` meets its contract: the peer changes, or the block is replaced. Assumes nothing.
use native.Mathlib.Omega.{arith}
use mathlib.Core.Path.{refl}
use Rattle.change_blocks.proofs.StandingLaws.{stands_there, block_places, state_low, retally_asks}
use Rattle.change_receipts.proofs.ReceiptLaws.{write_kept, write_made}
use Rattle.change_receipts.proofs.receipts.write_block.Goals as goal

pub get_block-b-requires : goal.get_block-b-requires
get_block-b-requires c = let all = block_places c.args.s c.args.words.now c.args.cells.now c.args.i c.args.p c.args.j c.args.t c.requires.tally_beside in
    record {
      spans = all.0;
      p_lt_places = all.1;
    }

pub put_block-requires : goal.put_block-requires
put_block-requires c = let b = block_places c.args.s c.args.words.now c.args.cells.now c.args.i c.args.p c.args.j c.args.t c.requires.tally_beside in
    let m = state_low c.args.s c.args.words.now c.args.cells.now c.args.i c.args.p c.args.j c.args.t c.get_block-b.result c.get_block-b.ensures
    c.requires.tally_beside in
    record {
      spans = b.0;
      p_lt_places = b.1;
      state_bound = m;
    }

pub returns-then-b : goal.returns-then-b
returns-then-b c = write_kept c.args.s _ c.args.i c.args.p c.args.j c.args.t c.args.words.now c.args.cells.now c.args.used c.get_block-b.result c.get_block-b.ensures
    c.if-b.true _ refl refl _ _ c.put_block.ensures

pub retally-after-requires : goal.retally-after-requires
retally-after-requires c = let all = retally_asks c.args.s c.args.words.now c.args.cells.now c.args.i c.args.p c.args.j c.args.t c.get_block-b.result c.get_block-b.ensures
    _ refl c.requires.tally_beside in
    record {
      bound = all.0;
      bound_2 = all.1;
    }

pub set_block-next-requires : goal.set_block-next-requires
set_block-next-requires c = let b = stands_there c.args.s c.args.words.now c.args.cells.now c.args.i c.args.p c.args.j c.args.t c.requires.tally_beside in
    record {
      partial_beside = b;
      i_lt_pieces = c.requires.i_lt_pieces;
      state_bound = omega arith;
      used_in_bounds = c.requires.used_in_bounds;
    }

pub returns : goal.returns
returns c = write_made c.args.s _ c.args.i c.args.p c.args.j c.args.t c.args.words.now c.args.cells.now c.args.used c.get_block-b.result c.get_block-b.ensures
    c.if-b.false c.retally-after.result c.retally-after.ensures _ refl refl _ _ c.set_block-next.result c.set_block-next.ensures
