-- `read_full` meets its contract. Assumes nothing.
use Rattle.std.proofs.Common.{rules, refl, length, ◌-◌}
use Rattle.pick.proofs.ReadLaws.{read_more}
use Rattle.pick.proofs.reading.read_full.Goals as goal

pub loop-done-preserved : goal.loop-done-preserved
loop-done-preserved g c =
    let at = c.loop-done.done in
    let room = length c.loop-done.buf - at in
    let read = c.in_ok-n.ensures in
    (search rules, search (rules, read.bound), read_more _ _ _ at room c.loop-done.buf c.read.new.buf c.loop-done.invariant.1 c.loop-done.invariant.2 c.in_ok-n.n _ refl read.bound.0 read.bytes.0)
