-- `push` meets its contract. Assumes nothing.
use Rattle.pick_append.proofs.RowLaws.{one_more, none_more}
use mathlib.Core.Path.{refl}
use borrow.Author.Rules.{rules}
use Rattle.pick_append.proofs.rows.push.Goals as goal

pub returns-then-keep : goal.returns-then-keep
returns-then-keep c = record {
  row_after = refl;
  value = one_more _ _ c.if-keep.true;
}

pub returns-else-keep : goal.returns-else-keep
returns-else-keep c = record {
  row_after = refl;
  value = none_more _ _ c.if-keep.false;
}
