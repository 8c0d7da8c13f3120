-- `in_range` meets its contract. Assumes nothing.
use mathlib.Core.Path.{refl, sym, ◌∙◌}
use borrow.Author.Rules.{rules}
use Rattle.model.specs.pick.Blocks.{option}
use Rattle.model.specs.pick.Pick.{in_range}
use Rattle.pick_state.specs.Requests.{request_of}
use Rattle.pick_visits.proofs.visits.in_range.Goals as goal

pub returns-then-contains : goal.returns-then-contains
unfolding in_range option request_of
returns-then-contains c = record {
  is = λ records cells.
      rw (
        sym c.contains.ensures ∙ c.if-contains.true,
        c.cursor.ensures.is records cells,
        c.reverse_cursor.ensures.is records cells,
        c.usize_to_u64-n.ensures,
      ) refl;
}

pub returns : goal.returns
unfolding in_range option request_of
returns c = record { is = λ records cells. rw (sym c.contains.ensures ∙ c.if-contains.false) refl }
