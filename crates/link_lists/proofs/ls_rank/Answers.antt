-- `ls_rank` asks of its caller what `rank_at` asks. Assumes nothing.
use mathlib.Core.Path.{sym, subst, ap, ◌∙◌}
use Prim.Native.Nat.{◌<◌}
use Rattle.memory_layout.specs.declared.shape.Shape.{Shape}
use Rattle.memory_list.specs.Listings.{ListBounds}
use Rattle.link_lists.proofs.ls_rank.Goals as goal

pub rank_at-requires : goal.rank_at-requires
rank_at-requires c = let a = c.args in
    let e = sym c.from.ensures in
    let bounds = subst (λ s. ListBounds s a.words.now a.cells.now) e c.requires.list_bounds in
    record {
      spans = bounds.spans;
      ranges = bounds.ranges;
      i_lt_pieces = subst (λ (s : Shape). a.i < s.pieces) e c.requires.i_lt_pieces;
    }

pub returns : goal.returns
returns c = c.rank_at.ensures.is (ap (λ (s : Shape). s.pieces) c.from.ensures ∙ c.requires.list_bounds.pieces)
