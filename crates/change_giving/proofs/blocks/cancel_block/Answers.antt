-- `cancel_block` meets its contract. Assumes nothing.
use mathlib.Core.Path.{refl, sym, ◌∙◌}
use native.Mathlib.Omega.{arith}
use Rattle.change_blocks.proofs.StandingLaws.{stands_there, block_places, state_low, retally_asks}
use Rattle.memory_records.specs.declared.edits.Edit.TheVariants.{Keep}
use Rattle.memory_blocks.specs.declared.info.BlockInfo.{BlockInfo}
use Rattle.change_giving.proofs.FreeLaws.{close_asks, freed_closed, freed_kept}
use Rattle.change_giving.proofs.GivingLaws.{cancel_nothing, cancel_free, cancel_put}
use Rattle.change_giving.proofs.blocks.cancel_block.Goals as goal

pub get_block-b-requires : goal.get_block-b-requires
get_block-b-requires c = let all = block_places c.args.s c.args.words.now c.args.cells.now c.args.i c.args.p c.args.j c.args.t c.requires.tally_beside in
    record {
      spans = all.0;
      p_lt_places = all.1;
    }

pub returns-then-b : goal.returns-then-b
returns-then-b c = cancel_nothing c.args.s c.args.words.now c.args.cells.now c.args.i c.args.p c.args.j c.args.t _ c.args.has_peer c.args.peer
    c.get_block-b.result c.get_block-b.ensures c.if-b.true

pub close_partial-requires : goal.close_partial-requires
close_partial-requires c = record {
  partial_beside = close_asks c.args.s c.args.words.now c.args.cells.now c.args.i c.args.p c.args.j c.args.t c.requires.tally_beside;
  i_lt_pieces = c.requires.i_lt_pieces;
}

pub returns-then-is_last : goal.returns-then-is_last
returns-then-is_last c = let x : BlockInfo = record { state = 0; num_peers = c.get_block-b.result.num_peers; has_peer = c.args.has_peer; peer = c.args.peer } in
    let g = freed_closed c.args.s c.args.words.now c.args.cells.now c.args.i c.args.p c.args.j c.args.t x c.args.draws.now _ _ c.close_partial.result.used c.close_partial.result.edit
    c.close_partial.ensures.edit (sym c.if-is_last.true ∙ c.is_last.ensures) c.close_partial.ensures.change in
    cancel_free c.args.s c.args.words.now c.args.cells.now c.args.i c.args.p c.args.j c.args.t c.args.draws.now c.args.has_peer c.args.peer
    c.get_block-b.result c.get_block-b.ensures c.if-b.false c.if-b-2.true _ _ c.close_partial.result.edit c.close_partial.result.used g

pub retally-after-requires : goal.retally-after-requires
retally-after-requires c = let all = retally_asks c.args.s c.args.words.now c.args.cells.now c.args.i c.args.p c.args.j c.args.t c.get_block-b.result c.get_block-b.ensures
    2 c.if-b-2.true c.requires.tally_beside in
    record {
      bound = all.0;
      bound_2 = all.1;
    }

pub set_block-next-requires : goal.set_block-next-requires
set_block-next-requires c = let b = stands_there c.args.s c.args.words.now c.args.cells.now c.args.i c.args.p c.args.j c.args.t c.requires.tally_beside in
    record {
      partial_beside = b;
      i_lt_pieces = c.requires.i_lt_pieces;
      state_bound = omega arith;
      used_in_bounds = omega arith;
    }

pub returns-then-b-2 : goal.returns-then-b-2
returns-then-b-2 c = let x : BlockInfo = record { state = 0; num_peers = c.get_block-b.result.num_peers; has_peer = c.args.has_peer; peer = c.args.peer } in
    let g = freed_kept c.args.s c.args.words.now c.args.cells.now c.args.i c.args.p c.args.j c.args.t x c.args.draws.now _ _ c.set_block-next.result
    c.get_block-b.result c.get_block-b.ensures 2 c.if-b-2.true c.retally-after.result c.retally-after.ensures refl
    (sym c.if-is_last.false ∙ c.is_last.ensures) c.set_block-next.ensures in
    cancel_free c.args.s c.args.words.now c.args.cells.now c.args.i c.args.p c.args.j c.args.t c.args.draws.now c.args.has_peer c.args.peer
    c.get_block-b.result c.get_block-b.ensures c.if-b.false c.if-b-2.true _ _ Keep c.set_block-next.result g

pub put_block-requires : goal.put_block-requires
put_block-requires c = let b = block_places c.args.s c.args.words.now c.args.cells.now c.args.i c.args.p c.args.j c.args.t c.requires.tally_beside in
    let w = state_low c.args.s c.args.words.now c.args.cells.now c.args.i c.args.p c.args.j c.args.t c.get_block-b.result
    c.get_block-b.ensures c.requires.tally_beside in
    record {
      spans = b.0;
      p_lt_places = b.1;
      state_bound = w;
    }

pub returns : goal.returns
returns c = cancel_put c.args.s c.args.words.now c.args.cells.now c.args.i c.args.p c.args.j c.args.t _ c.args.has_peer c.args.peer
    c.get_block-b.result c.get_block-b.ensures c.if-b.false c.if-b-2.false _ _
    c.put_block.ensures
