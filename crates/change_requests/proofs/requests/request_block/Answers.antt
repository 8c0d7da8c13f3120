-- `request_block` meets its contract: the block is left, or replaced, with the piece turned before and back after it. Assumes nothing.
use native.Mathlib.Omega.{arith}
use mathlib.Core.Path.{refl}
use Rattle.change_blocks.proofs.StandingLaws.{works_there, block_places, retally_asks}
use Rattle.change_requests.proofs.RequestLaws.{one_more, request_refused, turned_asks, set_asks, request_made}
use Rattle.change_requests.proofs.requests.request_block.Goals as goal

pub get_block-b-requires : goal.get_block-b-requires
get_block-b-requires c = let all = block_places c.args.s c.args.words.now c.args.cells.now c.args.i c.args.p c.args.j c.args.t c.requires.request_beside.beside in
    record {
      spans = all.0;
      p_lt_places = all.1;
    }

pub returns-then-b : goal.returns-then-b
returns-then-b c = request_refused c.args.s _ c.args.i c.args.p c.args.j c.args.back c.args.t c.args.words.now c.args.cells.now c.args.used c.get_block-b.result
    c.get_block-b.ensures c.args.has_peer c.args.peer c.if-b.true

pub retally-after-requires : goal.retally-after-requires
retally-after-requires c = let all = retally_asks c.args.s c.args.words.now c.args.cells.now c.args.i c.args.p c.args.j c.args.t c.get_block-b.result c.get_block-b.ensures
    _ refl c.requires.request_beside.beside in
    record {
      bound = all.0;
      bound_2 = all.1;
    }

pub overflow_add-x : goal.overflow_add-x
overflow_add-x c = let m = one_more c.args.s c.args.draws.now c.args.i c.args.p c.args.j c.args.back c.args.t c.args.words.now c.args.cells.now c.args.used
    c.get_block-b.result c.get_block-b.ensures c.requires.request_beside in
    omega (arith, m)

pub make_piece_reverse-turned-requires : goal.make_piece_reverse-turned-requires
make_piece_reverse-turned-requires c = let w = works_there c.args.s c.args.words.now c.args.cells.now c.args.i c.args.p c.args.j c.args.t c.requires.request_beside.beside in
    record {
      works_beside = w;
      i_lt_pieces = c.requires.i_lt_pieces;
      used_in_bounds = omega (arith, c.requires.used_in_bounds);
    }

pub set_block-next-requires : goal.set_block-next-requires
set_block-next-requires c = let k = turned_asks c.args.s _ c.args.i c.args.p c.args.j c.args.back c.args.t c.args.words.now c.args.cells.now c.args.used c.get_block-b.result
    c.get_block-b.ensures _ _ c.make_piece_reverse-turned.result c.make_piece_reverse-turned.ensures c.requires.request_beside.beside in
    record {
      partial_beside = k.0;
      i_lt_pieces = c.requires.i_lt_pieces;
      state_bound = omega arith;
      used_in_bounds = omega (arith, k.1, c.requires.used_in_bounds);
    }

pub unreverse_piece-last-requires : goal.unreverse_piece-last-requires
unreverse_piece-last-requires c = let k = set_asks c.args.s _ c.args.i c.args.p c.args.j c.args.back c.args.t c.args.words.now c.args.cells.now c.args.used c.get_block-b.result
    c.get_block-b.ensures _ _ c.make_piece_reverse-turned.result c.make_piece_reverse-turned.ensures c.retally-after.result
    c.retally-after.ensures _ refl refl _ _ c.set_block-next.result c.set_block-next.ensures c.requires.request_beside.beside in
    record {
      works_beside = k.0;
      i_lt_pieces = c.requires.i_lt_pieces;
      used_in_bounds = omega (arith, k.1, c.requires.used_in_bounds);
    }

pub returns : goal.returns
returns c = request_made c.args.s _ c.args.i c.args.p c.args.j c.args.back c.args.t c.args.words.now c.args.cells.now c.args.used c.get_block-b.result
    c.get_block-b.ensures _ _ c.make_piece_reverse-turned.result c.make_piece_reverse-turned.ensures c.retally-after.result
    c.retally-after.ensures _ refl refl _ _ c.set_block-next.result c.set_block-next.ensures c.if-b.false _ _ c.unreverse_piece-last.result
    c.unreverse_piece-last.ensures
