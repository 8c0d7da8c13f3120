-- `lock_piece` meets its contract. Assumes nothing.
use mathlib.Core.Path.{subst}
use Rattle.memory_rows.specs.Lookup.{FoundIn}
use Rattle.change_flags.proofs.PassLaws.{lock_nothing, lock_found}
use Rattle.change_flags.proofs.flags.lock_piece.Goals as goal

pub returns-in_default : goal.returns-in_default
returns-in_default c = lock_nothing c.args.live c.args.rows.now c.args.i
    (subst (FoundIn c.args.live c.args.rows.now c.args.i) c.in_default.is c.find.ensures.picker)

pub returns : goal.returns
returns c = let x = subst (FoundIn c.args.live c.args.rows.now c.args.i) c.in-Some.is c.find.ensures.picker in
    lock_found c.args.live c.args.rows.now c.args.i _ x c.row-r.result c.with_flags.result c.row-r.ensures
    c.with_flags.ensures
