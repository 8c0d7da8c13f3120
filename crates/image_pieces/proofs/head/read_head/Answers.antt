-- `read_head` meets its contract. Assumes nothing.
use mathlib.Core.Path.{sym, ◌∙◌}
use native.Mathlib.Omega.{arith}
use borrow.Author.Tests.{not-true, not-false}
use Rattle.model.specs.Lists.{nth}
use Rattle.model.specs.image.Image.{body_length}
use Rattle.image_pieces.proofs.HeadLaws.{head_none, head_found, head_fault}
use Rattle.image_pieces.proofs.head.read_head.Goals as goal

pub returns-then-not-stands : goal.returns-then-not-stands
returns-then-not-stands c = head_none c.args.bytes.now (sym c.stands.ensures ∙ not-true _ c.if-not-stands.true-raw)

pub body_of-body-requires : goal.body_of-body-requires
body_of-body-requires c = record {
  le_kind = (omega arith, omega arith);
  bytes_value = sym c.stands.ensures ∙ not-false _ c.if-not-stands.false-raw;
}

pub read8-total-requires : goal.read8-total-requires
unfolding body_length nth
read8-total-requires c = omega (arith, c.body_of-body.ensures.long)

pub read4-size-requires : goal.read4-size-requires
unfolding body_length nth
read4-size-requires c = omega (arith, c.body_of-body.ensures.long)

pub read2-seeds-requires : goal.read2-seeds-requires
unfolding body_length nth
read2-seeds-requires c = omega (arith, c.body_of-body.ensures.long)

pub read4-cursor-requires : goal.read4-cursor-requires
unfolding body_length nth
read4-cursor-requires c = omega (arith, c.body_of-body.ensures.long)

pub read4-reverse-requires : goal.read4-reverse-requires
unfolding body_length nth
read4-reverse-requires c = omega (arith, c.body_of-body.ensures.long)

pub read1-dirty-requires : goal.read1-dirty-requires
unfolding body_length nth
read1-dirty-requires c = omega (arith, c.body_of-body.ensures.long)

pub returns-then-head_ok : goal.returns-then-head_ok
returns-then-head_ok c = head_found _ (sym c.stands.ensures ∙ not-false _ c.if-not-stands.false-raw) _ c.body_of-body.ensures _ _ _ _ _ _ c.read8-total.ensures.is
    c.read4-size.ensures.is c.read2-seeds.ensures.is c.read4-cursor.ensures.is c.read4-reverse.ensures.is
    c.read1-dirty.ensures.is (sym c.head_ok.ensures ∙ c.if-head_ok.true)

pub returns : goal.returns
returns c = head_fault _ (sym c.stands.ensures ∙ not-false _ c.if-not-stands.false-raw) _ c.body_of-body.ensures _ _ _ _ _ _ c.read8-total.ensures.is
    c.read4-size.ensures.is c.read2-seeds.ensures.is c.read4-cursor.ensures.is c.read4-reverse.ensures.is
    c.read1-dirty.ensures.is (sym c.head_ok.ensures ∙ c.if-head_ok.false)
