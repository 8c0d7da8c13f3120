-- `span_of` meets its contract. Assumes nothing.
use mathlib.Core.Path.{refl}
use mathlib.Core.Bool.{cond}
use Prim.Native.Nat.{◌+◌}
use native.Mathlib.Omega.{arith}
use Rattle.pick_laws.proofs.SpanLaws.{least_right}
use Rattle.pick_free.proofs.FreeLaws.{span_told}
use borrow.Author.Rules.{rules}
use Rattle.pick_free.proofs.spans.span_of.Goals as goal

pub up_by-end-requires : goal.up_by-end-requires
up_by-end-requires c = let l = least_right (cond c.contains-aligned.result c.lowest_start-lowest.result
    c.down_by-first.result + c.args.n) c.args.s.pieces in
    record {
      picks_cells = c.requires.picks_cells;
      n_bound = omega arith;
    }

pub returns : goal.returns
returns c = span_told c.args.s c.args.cells.now c.args.q c.args.bytes.now c.args.i c.args.n c.requires.i_lt_pieces.1
    c.contains-aligned.result c.contains-aligned.ensures
    c.lowest_start-lowest.result c.lowest_start-lowest.ensures.0
    c.down_by-first.result c.down_by-first.ensures.0
    c.highest_end-most.result c.highest_end-most.ensures
    c.saturating_sub-more.result c.saturating_sub-more.ensures _ c.up_by-end.ensures refl
