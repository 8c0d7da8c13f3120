-- `put_queue` meets its contract: after j turns the partials of the first j places are there. Assumes nothing.
use Prim.Native.Nat.{◌-◌, ◌≤◌}
use Rattle.ask_queue.proofs.InfoRecords.{infos_start, infos_next, infos_end}
use Rattle.ask_queue.specs.Infos.{InfosPut}
use Rattle.model.specs.Lists.{nth}
use mathlib.Core.List.{[]}
use native.Mathlib.Omega.{arith}
use borrow.Author.Rules.{rules}
use Rattle.ask_queue.proofs.put_queue.Goals as goal

pub loop-j-init : goal.loop-j-init
loop-j-init c = (omega arith, infos_start _ _ _ _ _)

pub place_at-k-requires : goal.place_at-k-requires
place_at-k-requires c = (c.requires.q_bound.0, omega (arith, c.requires.q_bound.1))

pub overflow_add-n : goal.overflow_add-n
overflow_add-n c = omega (arith, c.requires.size_in_bounds)

pub info_at-requires : goal.info_at-requires
info_at-requires c = record {
  k_bound = (omega (arith, c.place_at-k.ensures, c.requires.places_low c.loop-j.j c.loop-j-test.true), c.requires.rows_len.0);
  counts_len = c.requires.rows_len.1;
}

pub put_info-requires : goal.put_info-requires
put_info-requires c = omega (arith, c.requires.size_in_bounds, c.loop-j.invariant.1.long)

pub loop-j-preserved : goal.loop-j-preserved
loop-j-preserved c = (
  omega arith,
  infos_next _ _ _ _ _ _ _ _ _ _ c.loop-j.invariant.1 c.place_at-k.ensures c.info_at.ensures
      c.put_info.ensures,
)

pub shape_of-out : goal.shape_of-out
shape_of-out c = c.loop-j.invariant.1.long

pub returns : goal.returns
returns c = infos_end _ _ _ _ _ _ _ _ c.loop-j.invariant.1 (omega (arith, c.loop-j.invariant.0))
