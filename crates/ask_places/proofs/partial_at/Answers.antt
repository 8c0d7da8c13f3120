-- `partial_at` meets its contract. Assumes nothing.
use mathlib.Core.Path.{◌∙◌}
use borrow.Author.Rules.{rules}
use Rattle.ask_places.proofs.PlacedLaws.{partial_there, partial_past}
use Rattle.ask_places.proofs.partial_at.Goals as goal

pub returns-then-k-live : goal.returns-then-k-live
returns-then-k-live c = partial_there _ _ _ c.if-k-live.true _ (c.usize_to_u64.ensures ∙ c.u32_to_usize.ensures)

pub returns : goal.returns
returns c = partial_past _ _ _ c.if-k-live.false
