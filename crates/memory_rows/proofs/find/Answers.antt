-- `find` meets its contract: the search ends at the piece's row, at a row of a higher piece, or behind the last. Assumes nothing.
use borrow.Author.Rules.{rules}
use mathlib.Core.Path.{◌≡◌, sym, ◌∙◌}
use lib.ListN.{get_or}
use Rattle.memory_halving.proofs.HalvesLaws.{other_row, past_rows}
use Rattle.memory_rows.proofs.LookupLaws.{found_there, found_partial, none_there, no_partial_lem}
use Rattle.memory_rows.proofs.find.Goals as goal

pub returns-then-u32_to_usize-i : goal.returns-then-u32_to_usize-i
returns-then-u32_to_usize-i c = let e : get_or c.args.rows.now c.lower_bound-k.result 0 ≡ c.args.i = sym c.u32_to_usize.ensures ∙ c.if-u32_to_usize-i.true in
    record {
      at = found_there c.args.live c.args.rows.now c.args.i c.lower_bound-k.result c.lower_bound-k.ensures c.requires.rows_value c.if-k-live.true e;
      picker = found_partial c.args.live c.args.rows.now c.args.i c.lower_bound-k.result c.lower_bound-k.ensures c.requires.rows_value c.if-k-live.true e;
    }

pub returns-else-u32_to_usize-i : goal.returns-else-u32_to_usize-i
returns-else-u32_to_usize-i c = let n = other_row c.args.live c.args.rows.now c.args.i c.lower_bound-k.result c.lower_bound-k.ensures c.requires.rows_value c.if-k-live.true
    (λ e. c.if-u32_to_usize-i.false (c.u32_to_usize.ensures ∙ e)) in
    record {
      at = none_there c.args.live c.args.rows.now c.args.i n;
      picker = no_partial_lem c.args.live c.args.rows.now c.args.i n;
    }

pub returns-else-k-live : goal.returns-else-k-live
returns-else-k-live c = let n = past_rows c.args.live c.args.rows.now c.args.i c.lower_bound-k.result c.lower_bound-k.ensures c.if-k-live.false in
    record {
      at = none_there c.args.live c.args.rows.now c.args.i n;
      picker = no_partial_lem c.args.live c.args.rows.now c.args.i n;
    }
