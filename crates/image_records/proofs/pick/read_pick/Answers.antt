-- `read_pick` meets its contract. Assumes nothing.
use mathlib.Core.Path.{sym, ◌∙◌}
use native.Mathlib.Omega.{arith}
use borrow.Author.Tests.{not-true, not-false}
use Rattle.model.specs.Lists.{nth}
use Rattle.model.specs.image.Image.{body_length}
use Rattle.image_records.proofs.RecordLaws.{pick_none, pick_found, pick_fault}
use Rattle.image_records.proofs.pick.read_pick.Goals as goal

pub returns-then-not-stands : goal.returns-then-not-stands
returns-then-not-stands c = pick_none c.args.at c.args.bytes.now
    (sym c.stands.ensures ∙ not-true _ c.if-not-stands.true-raw)

pub body_of-body-requires : goal.body_of-body-requires
body_of-body-requires c = record {
  le_kind = (omega arith, omega arith);
  bytes_value = sym c.stands.ensures ∙ not-false _ c.if-not-stands.false-raw;
}

pub read1-has-requires : goal.read1-has-requires
unfolding body_length nth
read1-has-requires c = omega (arith, c.body_of-body.ensures.long)

pub read8-peer-requires : goal.read8-peer-requires
unfolding body_length nth
read8-peer-requires c = omega (arith, c.body_of-body.ensures.long)

pub returns-then-not-peer_fits : goal.returns-then-not-peer_fits
returns-then-not-peer_fits c = pick_fault _ _ (sym c.stands.ensures ∙ not-false _ c.if-not-stands.false-raw) _ c.body_of-body.ensures _ _ c.read1-has.ensures.is
    c.read8-peer.ensures.is (sym c.peer_fits.ensures ∙ not-true _ c.if-not-peer_fits.true-raw)

pub read2-requires : goal.read2-requires
unfolding body_length nth
read2-requires c = omega (arith, c.body_of-body.ensures.long)

pub read2-requires-2 : goal.read2-requires-2
unfolding body_length nth
read2-requires-2 c = omega (arith, c.body_of-body.ensures.long)

pub read2-requires-3 : goal.read2-requires-3
unfolding body_length nth
read2-requires-3 c = omega (arith, c.body_of-body.ensures.long)

pub read2-requires-4 : goal.read2-requires-4
unfolding body_length nth
read2-requires-4 c = omega (arith, c.body_of-body.ensures.long)

pub returns : goal.returns
returns c = pick_found _ _ (sym c.stands.ensures ∙ not-false _ c.if-not-stands.false-raw) _ c.body_of-body.ensures _ _ c.read1-has.ensures.is
    c.read8-peer.ensures.is (sym c.peer_fits.ensures ∙ not-false _ c.if-not-peer_fits.false-raw) _ _ _ _ c.read2.ensures.is
    c.read2-2.ensures.is c.read2-3.ensures.is c.read2-4.ensures.is
