-- `read_partial` meets its contract. Assumes nothing.
use mathlib.Core.Path.{sym, ◌∙◌}
use native.Mathlib.Omega.{arith}
use borrow.Author.Tests.{not-true, not-false}
use Rattle.model.specs.Lists.{nth}
use Rattle.model.specs.image.Image.{body_length}
use Rattle.image_records.proofs.RecordLaws.{partial_none, partial_found, partial_fault}
use Rattle.image_records.proofs.partial.read_partial.Goals as goal

pub returns-then-not-stands : goal.returns-then-not-stands
returns-then-not-stands c = partial_none _ _ c.args.at c.args.bytes.now
    (sym c.stands.ensures ∙ not-true _ c.if-not-stands.true-raw)

pub body_of-body-requires : goal.body_of-body-requires
body_of-body-requires c = record {
  le_kind = (omega arith, omega arith);
  bytes_value = sym c.stands.ensures ∙ not-false _ c.if-not-stands.false-raw;
}

pub read1-flags-requires : goal.read1-flags-requires
unfolding body_length nth
read1-flags-requires c = omega (arith, c.body_of-body.ensures.long)

pub read4-requires : goal.read4-requires
unfolding body_length nth
read4-requires c = omega (arith, c.body_of-body.ensures.long)

pub returns-then-read4-i : goal.returns-then-read4-i
returns-then-read4-i c = partial_found _ _ _ _ (sym c.stands.ensures ∙ not-false _ c.if-not-stands.false-raw) _ c.body_of-body.ensures _ _
    c.read4.ensures.is c.read1-flags.ensures.is c.if-read4-i.true

pub returns : goal.returns
returns c = partial_fault _ _ _ _ (sym c.stands.ensures ∙ not-false _ c.if-not-stands.false-raw) _ c.body_of-body.ensures _ _
    c.read4.ensures.is c.read1-flags.ensures.is c.if-read4-i.false
