-- `read_piece` meets its contract. Assumes nothing.
use mathlib.Core.Path.{sym, ◌∙◌}
use native.Mathlib.Omega.{arith}
use borrow.Author.Tests.{not-true, not-false}
use Rattle.model.specs.Lists.{nth}
use Rattle.model.specs.image.Image.{body_length}
use Rattle.image_pieces.proofs.PieceLaws.{piece_none, piece_found, piece_fault}
use Rattle.image_pieces.proofs.piece.read_piece.Goals as goal

pub returns-then-not-stands : goal.returns-then-not-stands
returns-then-not-stands c = λ s i en el. piece_none s i c.args.at c.args.bytes.now
    (sym c.stands.ensures ∙ not-true _ c.if-not-stands.true-raw)

pub body_of-body-requires : goal.body_of-body-requires
body_of-body-requires c = record {
  le_kind = (omega arith, omega arith);
  bytes_value = sym c.stands.ensures ∙ not-false _ c.if-not-stands.false-raw;
}

pub read2-count-requires : goal.read2-count-requires
unfolding body_length nth
read2-count-requires c = omega (arith, c.body_of-body.ensures.long)

pub read1-state-requires : goal.read1-state-requires
unfolding body_length nth
read1-state-requires c = omega (arith, c.body_of-body.ensures.long)

pub read1-priority-requires : goal.read1-priority-requires
unfolding body_length nth
read1-priority-requires c = omega (arith, c.body_of-body.ensures.long)

pub read1-flushed-requires : goal.read1-flushed-requires
unfolding body_length nth
read1-flushed-requires c = omega (arith, c.body_of-body.ensures.long)

pub read4-pad-requires : goal.read4-pad-requires
unfolding body_length nth
read4-pad-requires c = omega (arith, c.body_of-body.ensures.long)

pub returns-then-piece_ok : goal.returns-then-piece_ok
returns-then-piece_ok c = λ s i en el. piece_found s i _ _ (sym c.stands.ensures ∙ not-false _ c.if-not-stands.false-raw) _ c.body_of-body.ensures _ _ _ _ _
    c.read2-count.ensures.is c.read1-state.ensures.is c.read1-priority.ensures.is c.read1-flushed.ensures.is
    c.read4-pad.ensures.is _ _ en el (sym c.piece_ok.ensures ∙ c.if-piece_ok.true)

pub returns : goal.returns
returns c = λ s i en el. piece_fault s i _ _ (sym c.stands.ensures ∙ not-false _ c.if-not-stands.false-raw) _ c.body_of-body.ensures _ _ _ _ _
    c.read2-count.ensures.is c.read1-state.ensures.is c.read1-priority.ensures.is c.read1-flushed.ensures.is
    c.read4-pad.ensures.is _ _ en el (sym c.piece_ok.ensures ∙ c.if-piece_ok.false)
