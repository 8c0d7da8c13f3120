-- `mark_dirty_if` meets its contract. Assumes nothing.
use mathlib.Core.Path.{sym, subst}
use mathlib.Core.Bool.{Bool}
use borrow.Author.Tests.{not-true, not-false}
use Rattle.change_seeds.specs.Seeds.{DirtyWhere}
use Rattle.change_seeds.proofs.SeedLaws.{dirty_yes, dirty_no}
use Rattle.change_seeds.proofs.seeds.mark_dirty_if.Goals as goal

pub returns-then-not-test : goal.returns-then-not-test
returns-then-not-test c = subst (λ (t : Bool). DirtyWhere c.args.s t c.args.words.now c.args.words.now) (sym (not-true c.args.test c.if-not-test.true-raw))
    (dirty_no c.args.s c.args.words.now)

pub returns : goal.returns
returns c = subst (λ (t : Bool). DirtyWhere c.args.s t c.args.words.now c.mark_dirty.new.words) (sym (not-false c.args.test c.if-not-test.false-raw))
    (dirty_yes c.args.s c.args.words.now _ c.mark_dirty.ensures)
