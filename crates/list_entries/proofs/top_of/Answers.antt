-- `top_of` meets its contract. Assumes nothing.
use borrow.Author.Rules.{rules}
use Rattle.list_entries.proofs.WordLaws.{top_is}
use Rattle.list_entries.proofs.top_of.Goals as goal

pub returns : goal.returns
returns c = top_is c.args.w
