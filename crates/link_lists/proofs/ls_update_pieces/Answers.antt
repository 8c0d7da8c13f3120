-- `ls_update_pieces` asks of its caller what `update_pieces` asks, and answers what that answers. Assumes nothing.
use mathlib.Core.Path.{sym, subst}
use native.Mathlib.Omega.{arith}
use Rattle.model.specs.list.Order.{update_pieces}
use Rattle.memory_list.specs.Listings.{ListBounds, RanksRight, ListBecame}
use Rattle.link_lists.proofs.ls_update_pieces.Goals as goal

pub update_pieces-requires : goal.update_pieces-requires
update_pieces-requires c = let a = c.args in
    let e = sym c.from-s.ensures in
    let bounds = subst (λ s. ListBounds s a.words.now a.cells.now) e c.requires.list_bounds in
    record {
      list_bounds = bounds;
      ranks_right = subst (λ s. RanksRight s a.words.now a.cells.now) e c.requires.ranks_right;
      used_in_bounds = omega arith;
    }

pub returns : goal.returns
returns c = let a = c.args in
    let u = c.update_pieces in
    subst (λ s. ListBecame s (update_pieces a.draws.now) a.words.now u.new.words a.cells.now 0 u.result)
    c.from-s.ensures u.ensures
