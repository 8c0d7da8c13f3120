-- `read_each` meets its contract. The loop's invariant: so many blocks were read and counted, and what is left decides.
use mathlib.Core.Path.{sym, ◌∙◌}
use native.Mathlib.Omega.{arith}
use Rattle.image_records.proofs.FoundLaws.{block_got, block_bad}
use Rattle.image_pass.proofs.BlockLaws.{reading_start, reading_next, reading_fault, reading_end, reading_few}
use Rattle.image_partials.specs.Blocks.{BlocksJudged}
use Rattle.image_partials.proofs.blocks.read_each.Goals as goal

pub loop-j-init : goal.loop-j-init
loop-j-init c = reading_start _ _ _ c.requires.0 c.requires.1

pub returns-in_default : goal.returns-in_default
unfolding BlocksJudged
returns-in_default c = let e = sym c.in_default.is ∙ c.read_block.ensures in
    reading_fault _ _ _ _ _ _ c.loop-j.invariant (omega arith) (block_bad c.loop-j.at c.args.bytes.now e)

pub count_block-t-requires : goal.count_block-t-requires
count_block-t-requires c = let few = reading_few _ _ _ _ _ _ c.loop-j.invariant in
    (omega (arith, few.0), omega (arith, few.1))

pub overflow_add-at : goal.overflow_add-at
overflow_add-at c = let e = sym c.in-Some.is ∙ c.read_block.ensures in
    omega (arith, (block_got c.loop-j.at c.args.bytes.now _ e).room)

pub loop-j-preserved : goal.loop-j-preserved
loop-j-preserved c = let e = sym c.in-Some.is ∙ c.read_block.ensures in
    reading_next _ _ _ _ _ _ c.loop-j.invariant (omega arith) _ (block_got c.loop-j.at c.args.bytes.now _ e) _ c.count_block-t.ensures

pub returns : goal.returns
unfolding BlocksJudged
returns c = reading_end _ _ _ _ _ _ c.loop-j.invariant (omega arith)
