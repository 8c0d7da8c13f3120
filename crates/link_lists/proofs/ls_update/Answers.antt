-- `ls_update` asks of its caller what `update` asks, and answers what that answers. Assumes nothing.
use mathlib.Core.Path.{sym, subst}
use Prim.Native.Nat.{◌<◌}
use native.Mathlib.Omega.{arith}
use Rattle.model.specs.list.Order.{update}
use Rattle.memory_layout.specs.declared.shape.Shape.{Shape}
use Rattle.memory_list.specs.Listings.{ListBounds, ListBefore, ListBecame}
use Rattle.link_lists.proofs.ls_update.Goals as goal

pub update-requires : goal.update-requires
update-requires c = let a = c.args in
    let e = sym c.from-s.ensures in
    let bounds = subst (λ s. ListBounds s a.words.now a.cells.now) e c.requires.list_bounds in
    let was = subst (λ s. ListBefore s a.words.now a.cells.now a.old a.i) e c.requires.list_before in
    record {
      list_bounds = bounds;
      i_lt_pieces = subst (λ (s : Shape). a.i < s.pieces) e c.requires.i_lt_pieces;
      list_before = was;
      used_in_bounds = omega arith;
    }

pub returns : goal.returns
returns c = let a = c.args in
    let u = c.update in
    subst (λ s. ListBecame s (update a.draws.now a.old a.i) a.words.now u.new.words a.cells.now 0 u.result)
    c.from-s.ensures u.ensures
