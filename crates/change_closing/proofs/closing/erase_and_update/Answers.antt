-- `erase_and_update` meets its contract: the partial is closed, then the list mended. Assumes nothing.
use Rattle.change_closing.proofs.ErasingLaws.{erased_asks, erased_mended}
use Rattle.change_closing.proofs.closing.erase_and_update.Goals as goal

pub update-requires : goal.update-requires
update-requires c = let k = erased_asks c.args.s c.args.i c.args.words.now c.args.cells.now _ _ c.erase_download_piece.ensures c.rank_at-old.result
    c.rank_at-old.ensures c.requires.partial_beside in
    record {
      list_bounds = k.0;
      i_lt_pieces = c.requires.i_lt_pieces;
      list_before = k.1;
      used_in_bounds = c.requires.used_in_bounds;
    }

pub returns : goal.returns
returns c = erased_mended c.args.s c.args.i c.args.words.now c.args.cells.now _ _ c.erase_download_piece.ensures c.rank_at-old.result
    c.rank_at-old.ensures _ c.args.used _ c.update.result c.update.ensures
