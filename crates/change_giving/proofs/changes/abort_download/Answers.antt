-- `abort_download` meets its contract. Assumes nothing.
use mathlib.Core.Path.{refl}
use Rattle.types.specs.Peer.{named_peer}
use Rattle.model.specs.change.Changes.{abort_in, abort_download}
use Rattle.change_blocks.specs.Replacing.{TallyAt}
use Rattle.change_returns.proofs.WholeLaws.{find_asks, standing_asks, tally_here, tally_beside, whole_nothing, whole_found}
use Rattle.change_giving.proofs.changes.abort_download.Goals as goal

pub find-requires : goal.find-requires
find-requires c = let all = find_asks c.args.s c.args.live c.args.rows.now c.args.counts.now c.args.words.now c.args.cells.now c.requires.rows_stand in
    record {
      live_bound = all.0;
      rows_value = all.1;
    }

pub returns-in_default : goal.returns-in_default
unfolding abort_download abort_in
returns-in_default c = let all = whole_nothing c.args.s c.args.live c.args.rows.now c.args.counts.now c.args.words.now c.args.cells.now c.requires.rows_stand c.args.i
    (λ found w. abort_in c.args.draws.now c.args.i found c.args.j (named_peer c.args.has_peer c.args.peer) w)
    c.find.result c.in_default.is c.find.ensures.picker refl in
    record {
      change = all.0;
      room = all.1;
    }

pub standing_in-d-requires : goal.standing_in-d-requires
standing_in-d-requires c = let all = standing_asks c.args.s c.args.live c.args.rows.now c.args.counts.now c.args.words.now c.args.cells.now c.requires.rows_stand c.args.i _
    c.find.result c.in-Some.is c.find.ensures.picker c.requires.i_lt_pieces.0 in
    record {
      tallies_beside = all.0;
      i_lt_pieces = all.1.0;
      rows_len = all.1.1;
    }

pub release_block-requires : goal.release_block-requires
release_block-requires c = let b = tally_beside c.args.s c.args.live c.args.rows.now c.args.counts.now c.args.words.now c.args.cells.now c.requires.rows_stand c.args.i _
    c.find.result c.in-Some.is c.find.ensures.picker c.standing_in-d.result c.standing_in-d.ensures c.args.j c.requires.i_lt_pieces.1 in
    record {
      tally_beside = b;
      i_lt_pieces = c.requires.i_lt_pieces.0;
    }

pub returns : goal.returns
unfolding abort_download
returns c = let h = tally_here c.args.s c.args.live c.args.rows.now c.args.counts.now c.args.words.now c.args.cells.now c.requires.rows_stand c.args.i _
    c.find.result c.in-Some.is c.find.ensures.picker c.standing_in-d.result c.standing_in-d.ensures c.args.j c.requires.i_lt_pieces.1 in
    let all = whole_found c.args.s c.args.live c.args.rows.now c.args.counts.now c.args.words.now c.args.cells.now c.requires.rows_stand c.args.i
    (λ found w. abort_in c.args.draws.now c.args.i found c.args.j (named_peer c.args.has_peer c.args.peer) w)
    _ c.find.result c.in-Some.is c.find.ensures.picker _ _ c.release_block.result.used
    (λ records k. TallyAt c.args.s records c.args.words.now c.args.cells.now c.args.i c.standing_in-d.result.place c.args.j c.standing_in-d.result.tally k) h
    c.release_block.result.edit c.release_block.ensures in
    record {
      change = all.0;
      room = all.1;
    }
