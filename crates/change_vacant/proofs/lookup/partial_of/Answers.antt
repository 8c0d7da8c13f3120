-- `partial_of` meets its contract: an Open piece has no row. Assumes nothing.
use mathlib.Core.Path.{sym, ◌∙◌}
use Rattle.memory_rows.proofs.LookupLaws.{no_partial_lem}
use Rattle.change_returns.proofs.WholeLaws.{find_asks}
use Rattle.change_vacant.proofs.LookupLaws.{open_number, open_rows}
use Rattle.change_vacant.proofs.lookup.partial_of.Goals as goal

pub returns-then-state : goal.returns-then-state
returns-then-state c = let e = sym (c.state.ensures.is _ c.requires.rows_beside.words c.requires.rows_beside.stand.stands.bounds) ∙ c.if-state.true in
    no_partial_lem c.args.live c.args.rows.now c.args.i
    (open_rows c.args.s c.args.live c.args.rows.now c.requires.rows_beside.counts c.requires.rows_beside.words c.args.cells.now c.requires.rows_beside.stand c.args.i (open_number _ e))

pub find-requires : goal.find-requires
find-requires c = let all = find_asks c.args.s c.args.live c.args.rows.now c.requires.rows_beside.counts c.requires.rows_beside.words c.args.cells.now c.requires.rows_beside.stand in
    record {
      live_bound = all.0;
      rows_value = all.1;
    }
