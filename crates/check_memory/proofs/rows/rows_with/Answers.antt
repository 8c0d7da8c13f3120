-- `rows::rows_with` meets its contract: each test gives the next what it requires, and each return says what it says of all. Assumes
-- nothing.
use mathlib.Core.Path.{sym, ◌∙◌}
use borrow.Author.Tests.{not-true, not-false}
use Rattle.check_memory.proofs.RowLaws.{few, bad_pieces, bad_places, bad_partials, bad_extents, by_list}
use borrow.Author.Rules.{rules}
use Rattle.check_memory.proofs.rows.rows_with.Goals as goal

pub returns-then-not-pieces_ok : goal.returns-then-not-pieces_ok
returns-then-not-pieces_ok c = bad_pieces _ _ _ _ _ c.requires.rows_len.1
    (sym (c.pieces_ok.ensures.is _) ∙ not-true _ c.if-not-pieces_ok.true-raw)

pub places_ok-requires : goal.places_ok-requires
places_ok-requires c = record {
  shape_of = c.requires.begun.shape;
  live_value = (
    c.requires.begun.many,
    few _ _ _ _
        c.requires.begun,
    c.requires.rows_len.0,
  );
}

pub returns-then-not-places_ok : goal.returns-then-not-places_ok
returns-then-not-places_ok c = bad_places _ _ _ _ _ c.requires.rows_len.1 (sym (c.pieces_ok.ensures.is _) ∙ not-false _
    c.if-not-pieces_ok.false-raw) (sym c.places_ok.ensures ∙ not-true _ c.if-not-places_ok.true-raw)

pub partials_ok-requires : goal.partials_ok-requires
partials_ok-requires c = record {
  shape_of = (
    c.requires.begun.shape,
    c.requires.begun.spans,
  );
  live_value = (
    c.requires.begun.many,
    c.requires.rows_len.0,
    c.requires.rows_len.1,
  );
  cells_value = (
    sym
        (c.requires.begun.passed.head _
        _),
    (sym (c.pieces_ok.ensures.is _) ∙ not-false _
        c.if-not-pieces_ok.false-raw),
    (sym c.places_ok.ensures ∙ not-false _ c.if-not-places_ok.false-raw),
  );
}

pub returns-then-not-partials_ok : goal.returns-then-not-partials_ok
returns-then-not-partials_ok c = bad_partials _ _ _ _ _ c.partials_ok.ensures.long (sym
    (c.pieces_ok.ensures.is _) ∙ not-false _
    c.if-not-pieces_ok.false-raw) (sym
    c.places_ok.ensures ∙ not-false _
    c.if-not-places_ok.false-raw) (sym c.partials_ok.ensures.test ∙ not-true _
    c.if-not-partials_ok.true-raw)

pub returns-then-not-extents_ok : goal.returns-then-not-extents_ok
returns-then-not-extents_ok c = bad_extents _ _ _ _ _ c.partials_ok.ensures.long (sym
    (c.pieces_ok.ensures.is _) ∙
    not-false _ c.if-not-pieces_ok.false-raw) (sym
    c.places_ok.ensures ∙ not-false _
    c.if-not-places_ok.false-raw) (sym
    c.partials_ok.ensures.test ∙ not-false _ c.if-not-partials_ok.false-raw) (sym
    (c.extents_ok.ensures _ _) ∙ not-true _ c.if-not-extents_ok.true-raw)

pub returns : goal.returns
returns c = by_list _ _ _ _ _ c.partials_ok.ensures.long
    (sym (c.pieces_ok.ensures.is _) ∙ not-false _ c.if-not-pieces_ok.false-raw) (sym c.places_ok.ensures ∙ not-false _ c.if-not-places_ok.false-raw) (sym c.partials_ok.ensures.test ∙ not-false _ c.if-not-partials_ok.false-raw) (sym
    (c.extents_ok.ensures _ _) ∙ not-false _ c.if-not-extents_ok.false-raw)
    (c.partials_ok.ensures.counted (not-false _
    c.if-not-partials_ok.false-raw)) _ (c.list_ok.ensures _
    (c.pieces_ok.ensures.each (not-false _ c.if-not-pieces_ok.false-raw)) _)
