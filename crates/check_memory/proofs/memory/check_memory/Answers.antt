-- `memory::check_memory` meets its contract: each return is the definition's verdict. Assumes nothing.
use mathlib.Core.Path.{sym, ◌∙◌}
use borrow.Author.Tests.{not-true, not-false}
use Rattle.check_memory.proofs.VerdictLaws.{geometry_read, head_says, begun, no_head}
use Rattle.check_memory.proofs.VerdictLaws.{no_geometry, too_short, bad_head, bad_rows, good_rows_lem}
use borrow.Author.Rules.{rules}
use Rattle.check_memory.proofs.memory.check_memory.Goals as goal

pub returns-then-words-lt16 : goal.returns-then-words-lt16
returns-then-words-lt16 c = no_head _ _ _ _ _ c.requires.1 c.if-words-lt16.true

pub returns-then-not-valid_geometry : goal.returns-then-not-valid_geometry
returns-then-not-valid_geometry c = no_geometry _ _ _ _ _ c.requires.1
    c.if-words-lt16.false (geometry_read _ _ _ _ c.head_word.ensures
    c.head_word-2.ensures c.valid_geometry.ensures _ (not-true _ c.if-not-valid_geometry.true-raw))

pub shape_of-s-requires : goal.shape_of-s-requires
shape_of-s-requires c = record {
  in_bounds = c.if-words-lt16.false;
  words_value = (geometry_read _ _ _ _
      c.head_word.ensures c.head_word-2.ensures c.valid_geometry.ensures _
      (not-false _ c.if-not-valid_geometry.false-raw));
}

pub returns-then-not-fits : goal.returns-then-not-fits
returns-then-not-fits c = too_short _ _ _ _ _ c.requires.1 c.if-words-lt16.false (geometry_read _ _ _ _
    c.head_word.ensures
    c.head_word-2.ensures c.valid_geometry.ensures _
    (not-false _ c.if-not-valid_geometry.false-raw)) (sym c.fits.ensures ∙ c.if-not-fits.true-raw)

pub head_ok-requires : goal.head_ok-requires
head_ok-requires c = record {
  in_bounds = c.if-words-lt16.false;
  words_value = (geometry_read _ _ _ _
      c.head_word.ensures
      c.head_word-2.ensures c.valid_geometry.ensures _
      (not-false _ c.if-not-valid_geometry.false-raw));
}

pub returns-then-not-head_ok : goal.returns-then-not-head_ok
returns-then-not-head_ok c = bad_head _ _ _ _ _ c.requires.1 c.if-words-lt16.false
    (geometry_read _ _ _ _ c.head_word.ensures
    c.head_word-2.ensures
    c.valid_geometry.ensures _ (not-false _
    c.if-not-valid_geometry.false-raw)) (sym
    c.fits.ensures ∙ c.if-not-fits.false-raw) (head_says _ _ c.head_ok.ensures _
    (not-true _ c.if-not-head_ok.true-raw))

pub rows_ok-requires : goal.rows_ok-requires
rows_ok-requires c = record {
  begun = begun _ _ _ _ c.shape_of-s.ensures
      c.if-words-lt16.false (geometry_read _ _ _ _
      c.head_word.ensures
      c.head_word-2.ensures
      c.valid_geometry.ensures _ (not-false _
      c.if-not-valid_geometry.false-raw)) (sym
      c.fits.ensures ∙ c.if-not-fits.false-raw) (head_says _ _
      c.head_ok.ensures _ (not-false _ c.if-not-head_ok.false-raw)) _
      c.live_records-live.ensures;
  rows_len = c.requires;
}

pub returns-then-not-rows_ok : goal.returns-then-not-rows_ok
returns-then-not-rows_ok c = bad_rows _ _ _ _ _ c.rows_ok.ensures.long
    c.if-words-lt16.false (geometry_read _ _ _ _ c.head_word.ensures c.head_word-2.ensures c.valid_geometry.ensures _ (not-false _ c.if-not-valid_geometry.false-raw)) (sym c.fits.ensures ∙ c.if-not-fits.false-raw) (head_says _ _
    c.head_ok.ensures _ (not-false _
    c.if-not-head_ok.false-raw)) _
    c.live_records-live.ensures _ (not-true _ c.if-not-rows_ok.true-raw)
    c.rows_ok.ensures

pub returns : goal.returns
returns c = good_rows_lem _ _ _ _ _ c.rows_ok.ensures.long
    c.if-words-lt16.false (geometry_read _ _ _ _ c.head_word.ensures c.head_word-2.ensures c.valid_geometry.ensures _ (not-false _ c.if-not-valid_geometry.false-raw)) (sym c.fits.ensures ∙ c.if-not-fits.false-raw) (head_says _ _
    c.head_ok.ensures _ (not-false _
    c.if-not-head_ok.false-raw)) _
    c.shape_of-s.ensures _
    c.live_records-live.ensures _ (not-false _ c.if-not-rows_ok.false-raw)
    c.rows_ok.ensures
