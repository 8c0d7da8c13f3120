-- `of` meets its contract: the four answers are all that the closure gives. Assumes nothing.
use borrow.Author.Rules.{rules}
use Rattle.ask_totals.proofs.TotalLaws.{answers_all, included_is}
use Rattle.ask_totals.proofs.count.Kinds.of.Goals as goal

pub returns : goal.returns
returns g c = let a = answers_all (goal.F-post g c.args.test) (record {
  neither = c.test-neither.result;
  filtered = c.test-filtered.result;
  had = c.test-had.result;
  both = c.test-both.result;
}) c.test-neither.ensures c.test-filtered.ensures c.test-had.ensures c.test-both.ensures in
    record {
      answered = a;
      computed = included_is (goal.F-post g c.args.test) _ a;
    }
