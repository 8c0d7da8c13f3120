-- `read_number` meets its contract. Assumes nothing.
use mathlib.Core.Path.{sym, ◌∙◌}
use native.Mathlib.Omega.{arith}
use borrow.Author.Tests.{not-true, not-false}
use Rattle.image_records.proofs.NumberKinds.{four}
use Rattle.image_records.proofs.RecordLaws.{number_none, number_found}
use Rattle.image_records.proofs.number.read_number.Goals as goal

pub returns-then-not-stands : goal.returns-then-not-stands
returns-then-not-stands c = number_none _ c.args.at c.args.bytes.now
    (sym c.stands.ensures ∙ not-true _ c.if-not-stands.true-raw)

pub body_of-body-requires : goal.body_of-body-requires
body_of-body-requires c = record {
  le_kind = (omega arith, omega arith);
  bytes_value = sym c.stands.ensures ∙ not-false _ c.if-not-stands.false-raw;
}

pub read4-requires : goal.read4-requires
read4-requires c = omega (arith, c.body_of-body.ensures.long, four _ c.requires.0 c.requires.1)

pub returns : goal.returns
returns c = number_found _ _ _ (sym c.stands.ensures ∙ not-false _ c.if-not-stands.false-raw) _
    c.body_of-body.ensures _ c.read4.ensures.is
