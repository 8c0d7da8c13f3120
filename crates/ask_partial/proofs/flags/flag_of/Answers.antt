-- `flag_of` meets its contract. Assumes nothing.
use Rattle.ask_partial.proofs.FlagLaws.{weight_some, flag_there, flag_none}
use Rattle.memory_rows.specs.Lookup.{FoundIn}
use mathlib.Core.Path.{subst}
use native.Mathlib.Omega.{arith}
use borrow.Author.Rules.{rules}
use Rattle.ask_partial.proofs.flags.flag_of.Goals as goal

pub returns-in_err-k : goal.returns-in_err-k
returns-in_err-k c = let f = subst (FoundIn c.args.live c.args.rows.now c.args.i) c.in_err-k.was c.find.ensures.picker in
    rw c.from_residual.ensures (flag_none c.args.live c.args.rows.now c.args.i c.args.weight f)

pub overflow_add-result : goal.overflow_add-result
overflow_add-result c = let f = subst (FoundIn c.args.live c.args.rows.now c.args.i) c.in_ok-k.was c.find.ensures.picker in
    omega (arith, f.row.0, c.requires.live_bound.0)

pub offset_bounds-rows-k : goal.offset_bounds-rows-k
offset_bounds-rows-k c = let f = subst (FoundIn c.args.live c.args.rows.now c.args.i) c.in_ok-k.was c.find.ensures.picker in
    omega (arith, f.row.0, c.requires.live_bound.0)

pub bounds-rows-k : goal.bounds-rows-k
bounds-rows-k c = let f = subst (FoundIn c.args.live c.args.rows.now c.args.i) c.in_ok-k.was c.find.ensures.picker in
    omega (arith, f.row.0, c.requires.live_bound.0, c.requires.live_bound.1)

pub nonzero_div-result : goal.nonzero_div-result
nonzero_div-result c = omega (arith, weight_some _ c.requires.weight)

pub returns : goal.returns
returns c = let f = subst (FoundIn c.args.live c.args.rows.now c.args.i) c.in_ok-k.was c.find.ensures.picker in
    flag_there c.args.live c.args.rows.now c.args.i c.args.weight c.requires.weight _ f
