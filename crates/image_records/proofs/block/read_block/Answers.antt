-- `read_block` meets its contract. Assumes nothing.
use mathlib.Core.Path.{sym, ◌∙◌}
use native.Mathlib.Omega.{arith}
use borrow.Author.Tests.{not-true, not-false}
use Rattle.model.specs.Lists.{nth}
use Rattle.model.specs.image.Image.{body_length}
use Rattle.image_records.proofs.RecordLaws.{block_none, block_found, block_fault}
use Rattle.image_records.proofs.block.read_block.Goals as goal

pub returns-then-not-stands : goal.returns-then-not-stands
returns-then-not-stands c = block_none c.args.at c.args.bytes.now
    (sym c.stands.ensures ∙ not-true _ c.if-not-stands.true-raw)

pub body_of-body-requires : goal.body_of-body-requires
body_of-body-requires c = record {
  le_kind = (omega arith, omega arith);
  bytes_value = sym c.stands.ensures ∙ not-false _ c.if-not-stands.false-raw;
}

pub read1-state-requires : goal.read1-state-requires
unfolding body_length nth
read1-state-requires c = omega (arith, c.body_of-body.ensures.long)

pub read2-num_peers-requires : goal.read2-num_peers-requires
unfolding body_length nth
read2-num_peers-requires c = omega (arith, c.body_of-body.ensures.long)

pub read1-has-requires : goal.read1-has-requires
unfolding body_length nth
read1-has-requires c = omega (arith, c.body_of-body.ensures.long)

pub read8-peer-requires : goal.read8-peer-requires
unfolding body_length nth
read8-peer-requires c = omega (arith, c.body_of-body.ensures.long)

pub returns-then-block_ok : goal.returns-then-block_ok
returns-then-block_ok c = block_found _ _ (sym c.stands.ensures ∙ not-false _ c.if-not-stands.false-raw) _ c.body_of-body.ensures _ _ _ _ c.read1-state.ensures.is
    c.read2-num_peers.ensures.is c.read1-has.ensures.is c.read8-peer.ensures.is
    c.read8-peer.ensures.small (sym c.block_ok.ensures ∙ c.if-block_ok.true)

pub returns : goal.returns
returns c = block_fault _ _ (sym c.stands.ensures ∙ not-false _ c.if-not-stands.false-raw) _ c.body_of-body.ensures _ _ _ _ c.read1-state.ensures.is
    c.read2-num_peers.ensures.is c.read1-has.ensures.is c.read8-peer.ensures.is
    c.read8-peer.ensures.small (sym c.block_ok.ensures ∙ c.if-block_ok.false)
