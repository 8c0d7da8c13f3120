-- `release_block` meets its contract. Assumes nothing.
use mathlib.Core.Path.{refl, sym, ◌∙◌}
use mathlib.Core.Bool.{false}
use native.Mathlib.Omega.{arith}
use Rattle.change_blocks.proofs.StandingLaws.{stands_there, block_places, retally_asks}
use Rattle.memory_records.specs.declared.edits.Edit.TheVariants.{Keep}
use Rattle.memory_blocks.specs.declared.info.BlockInfo.{BlockInfo}
use Rattle.change_giving.proofs.FreeLaws.{close_asks, freed_closed, freed_kept}
use Rattle.change_giving.proofs.GivingLaws.{release_nothing, release_put, release_free}
use Rattle.change_giving.proofs.blocks.release_block.Goals as goal

pub get_block-b-requires : goal.get_block-b-requires
get_block-b-requires c = let all = block_places c.args.s c.args.words.now c.args.cells.now c.args.i c.args.p c.args.j c.args.t c.requires.tally_beside in
    record {
      spans = all.0;
      p_lt_places = all.1;
    }

pub returns-then-b : goal.returns-then-b
returns-then-b c = release_nothing c.args.s c.args.words.now c.args.cells.now c.args.i c.args.p c.args.j c.args.t _ c.args.has_peer c.args.peer
    c.get_block-b.result c.get_block-b.ensures c.if-b.true

pub put_block-requires : goal.put_block-requires
put_block-requires c = let b = block_places c.args.s c.args.words.now c.args.cells.now c.args.i c.args.p c.args.j c.args.t c.requires.tally_beside in
    record {
      spans = b.0;
      p_lt_places = b.1;
      state_bound = omega (arith, c.release-x.ensures.0);
    }

pub returns-then-b-gt1 : goal.returns-then-b-gt1
returns-then-b-gt1 c = release_put c.args.s c.args.words.now c.args.cells.now c.args.i c.args.p c.args.j c.args.t _ c.args.has_peer c.args.peer
    c.get_block-b.result c.get_block-b.ensures c.if-b.false c.if-b-gt1.true
    c.release-x.result c.release-x.ensures.1 _ _ c.put_block.ensures

pub close_partial-requires : goal.close_partial-requires
close_partial-requires c = record {
  partial_beside = close_asks c.args.s c.args.words.now c.args.cells.now c.args.i c.args.p c.args.j c.args.t c.requires.tally_beside;
  i_lt_pieces = c.requires.i_lt_pieces;
}

pub returns-then-is_last : goal.returns-then-is_last
returns-then-is_last c = let x : BlockInfo = record { state = 0; num_peers = 0; has_peer = false; peer = c.get_block-b.result.peer } in
    let g = freed_closed c.args.s c.args.words.now c.args.cells.now c.args.i c.args.p c.args.j c.args.t x c.args.draws.now _ _ c.close_partial.result.used c.close_partial.result.edit
    c.close_partial.ensures.edit (sym c.if-is_last.true ∙ c.is_last.ensures) c.close_partial.ensures.change in
    release_free c.args.s c.args.words.now c.args.cells.now c.args.i c.args.p c.args.j c.args.t c.args.draws.now c.args.has_peer c.args.peer
    c.get_block-b.result c.get_block-b.ensures c.if-b.false (omega (arith, c.if-b-gt1.false)) x.peer _ _ c.close_partial.result.edit c.close_partial.result.used g

pub retally-after-requires : goal.retally-after-requires
retally-after-requires c = let all = retally_asks c.args.s c.args.words.now c.args.cells.now c.args.i c.args.p c.args.j c.args.t c.get_block-b.result c.get_block-b.ensures
    1 c.if-b.false c.requires.tally_beside in
    record {
      bound = all.0;
      bound_2 = all.1;
    }

pub set_block-next-requires : goal.set_block-next-requires
set_block-next-requires c = let b = stands_there c.args.s c.args.words.now c.args.cells.now c.args.i c.args.p c.args.j c.args.t c.requires.tally_beside in
    record {
      partial_beside = b;
      i_lt_pieces = c.requires.i_lt_pieces;
      state_bound = omega arith;
      used_in_bounds = omega arith;
    }

pub returns : goal.returns
returns c = let x : BlockInfo = record { state = 0; num_peers = 0; has_peer = false; peer = c.get_block-b.result.peer } in
    let g = freed_kept c.args.s c.args.words.now c.args.cells.now c.args.i c.args.p c.args.j c.args.t x c.args.draws.now _ _ c.set_block-next.result
    c.get_block-b.result c.get_block-b.ensures 1 c.if-b.false c.retally-after.result c.retally-after.ensures refl
    (sym c.if-is_last.false ∙ c.is_last.ensures) c.set_block-next.ensures in
    release_free c.args.s c.args.words.now c.args.cells.now c.args.i c.args.p c.args.j c.args.t c.args.draws.now c.args.has_peer c.args.peer
    c.get_block-b.result c.get_block-b.ensures c.if-b.false (omega (arith, c.if-b-gt1.false)) x.peer _ _ Keep c.set_block-next.result g
