-- `set_peer_count` meets its contract: the count is stored, then the list mended. Assumes nothing.
use Rattle.model.specs.State.{with_peer_count}
use Rattle.change_steps.proofs.FieldMends.{field_asks, field_mended}
use Rattle.change_counts.proofs.CountLaws.{count_range}
use Rattle.change_counts.proofs.set_peer_count.Goals as goal

pub update-requires : goal.update-requires
update-requires c = let k = field_asks c.args.s c.args.i (with_peer_count c.args.count) c.args.words.now c.args.cells.now _ c.set_peer_count.ensures
    (count_range c.args.s c.args.i c.requires.i_lt_pieces.0 c.args.count c.requires.i_lt_pieces.1 c.args.words.now c.args.cells.now) c.rank_at-old.result
    c.rank_at-old.ensures c.requires.works_beside in
    record {
      list_bounds = k.0;
      i_lt_pieces = c.requires.i_lt_pieces.0;
      list_before = k.1;
      used_in_bounds = c.requires.used_in_bounds;
    }

pub returns : goal.returns
returns c = field_mended c.args.s c.args.i (with_peer_count c.args.count) c.args.words.now c.args.cells.now _ c.set_peer_count.ensures
    (count_range c.args.s c.args.i c.requires.i_lt_pieces.0 c.args.count c.requires.i_lt_pieces.1 c.args.words.now c.args.cells.now) c.rank_at-old.result
    c.rank_at-old.ensures _ c.args.used _ c.update.result c.update.ensures
