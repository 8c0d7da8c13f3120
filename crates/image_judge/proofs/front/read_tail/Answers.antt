-- `read_tail` meets its contract: extents, then the list. Assumes nothing.
use Rattle.image_judge.proofs.FrontLaws.{extents_fail, extents_within, tail_read}
use Rattle.image_pieces.proofs.PassedOn.{passed_on}
use Rattle.image_judge.proofs.front.read_tail.Goals as goal

pub read_listing-requires : goal.read_listing-requires
read_listing-requires c = record {
  n_bound = c.requires.n_bound;
  at_in_bounds = extents_within c.args.at c.args.head c.args.n c.args.bytes.now _ _ _ c.num_extents-limit.ensures c.usize_to_u64.ensures
      c.blocks_per_piece.ensures _
      c.read_extents.ensures _ c.requires.pieces_stand _ c.in_ok-end.was;
}

pub returns : goal.returns
returns c = tail_read c.args.at c.args.head c.args.n c.args.bytes.now _ _ _ c.num_extents-limit.ensures c.usize_to_u64.ensures
    c.blocks_per_piece.ensures _
    c.read_extents.ensures _ c.requires.pieces_stand _ c.in_ok-end.was _ c.read_listing.ensures

pub returns-in_err-end : goal.returns-in_err-end
returns-in_err-end c = rw (passed_on c.from_residual.result c.in_err-end.field-0.0 c.from_residual.ensures.1)
    (extents_fail c.args.at c.args.head c.args.n c.args.bytes.now _ _ _ c.num_extents-limit.ensures c.usize_to_u64.ensures
    c.blocks_per_piece.ensures _
    c.read_extents.ensures _ c.in_err-end.was)
