-- `read_extents` meets its contract. The loop's invariant: so many extents were read, and what is left decides.
use mathlib.Core.Path.{sym, ◌∙◌}
use Prim.Native.Nat.{◌-◌}
use native.Mathlib.Omega.{arith}
use borrow.Author.Tests.{not-true, not-false}
use Rattle.model.specs.Lists.{nth}
use Rattle.model.specs.image.Image.{body_length, extent_kind}
use Rattle.image_records.specs.Records.{number_in}
use Rattle.image_records.proofs.FoundLaws.{number_got, number_bad}
use Rattle.image_tail.proofs.ExtentLaws.{Reading, reading_start, reading_ends, reading_full, reading_fault, reading_breaks}
use Rattle.image_tail.proofs.ExtentLaws.{reading_next}
use borrow.Author.Rules.{rules}
use Rattle.image_tail.proofs.extents.read_extents.Goals as goal

pub loop-k-init : goal.loop-k-init
loop-k-init c = reading_start _ _ _ c.requires

pub returns-then-not-comes : goal.returns-then-not-comes
returns-then-not-comes c = reading_ends _ _ _ _ _ c.loop-k.invariant (sym c.comes.ensures ∙ not-true _ c.if-not-comes.true-raw)

pub returns-in_default : goal.returns-in_default
returns-in_default c = reading_fault _ _ _ _ _ c.loop-k.invariant (omega arith) (sym c.comes.ensures ∙ not-false _ c.if-not-comes.false-raw)
    (number_bad extent_kind number_in c.loop-k.at c.args.bytes.now (sym c.in_default.is ∙ c.read_number.ensures))

pub returns-then-limit-e : goal.returns-then-limit-e
returns-then-limit-e c = let g = number_got extent_kind number_in c.loop-k.at c.args.bytes.now _ (sym c.in-Some.is ∙ c.read_number.ensures) in
    reading_breaks _ _ _ _ _ c.loop-k.invariant (omega arith) (sym c.comes.ensures ∙ not-false _ c.if-not-comes.false-raw) _ g _
    c.among.ensures c.if-limit-e.true

pub overflow_add-at : goal.overflow_add-at
unfolding body_length nth
overflow_add-at c = let g = number_got extent_kind number_in c.loop-k.at c.args.bytes.now _ (sym c.in-Some.is ∙ c.read_number.ensures) in
    omega (arith, g.room)

pub loop-k-preserved : goal.loop-k-preserved
loop-k-preserved c = let g = number_got extent_kind number_in c.loop-k.at c.args.bytes.now _ (sym c.in-Some.is ∙ c.read_number.ensures) in
    reading_next _ _ _ _ _ c.loop-k.invariant (omega arith) (sym c.comes.ensures ∙ not-false _ c.if-not-comes.false-raw) _ g _
    c.among.ensures c.if-limit-e.false

pub returns-then-comes : goal.returns-then-comes
returns-then-comes c = reading_full _ _ _ _ _ c.loop-k.invariant (omega arith) (sym c.comes-2.ensures ∙ c.if-comes.true)

pub returns : goal.returns
returns c = reading_ends _ _ _ _ _ c.loop-k.invariant (sym c.comes-2.ensures ∙ c.if-comes.false)
