-- `print_picked` meets its contract. Assumes nothing.
use Rattle.std.proofs.Common.{[], ◌∷◌, codes, refl, rules, subst}
use Rattle.std.specs.Io.KnownBytes.{Appends}
use Rattle.std.proofs.KnownBytes.{Appends-trans}
use Rattle.pick.specs.Printed.{named}
use Rattle.pick.proofs.TextLaws.{then_more, lines_between}
use Rattle.pick.proofs.printing.print_picked.Goals as goal

pub returns : goal.returns
returns g c =
    let blocks = subst (Appends _ _) (lines_between c.args.out.now c.args.p.now.end c.min-end.result (search (rules, c.min-end.ensures))) c.in_ok-print_blocks.ensures in
    let flags = Appends-trans _ _ _ _ (named (codes "flags") (c.args.p.now.flags ∷ [])) blocks c.in_ok-writeln.ensures.bytes in
    let draws = Appends-trans _ _ _ _ (named (codes "draws") (c.args.p.now.used ∷ [])) flags c.in_ok-writeln-2.ensures.bytes in
    then_more c.print_loops.result _ _ _ _ _ _ refl draws c.print_loops.ensures
