-- `draw` meets its contract: the word modulo one more than the limit, and 0 beyond the last word. Assumes nothing.
use borrow.Author.Rules.{rules}
use Rattle.list_draws.proofs.Draws.{drawn, drawn_none}
use Rattle.list_draws.proofs.draw.Goals as goal

pub returns-then-used-draws : goal.returns-then-used-draws
returns-then-used-draws c = drawn c.args.draws.now c.args.used c.args.limit c.u32_to_usize.result c.u32_to_usize.ensures

pub returns : goal.returns
returns c = drawn_none c.args.draws.now c.args.used c.args.limit c.if-used-draws.false
