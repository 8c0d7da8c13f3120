-- `stands` meets its contract: the kind, and room for the body; that all are bytes is their type.
use mathlib.Core.Path.{sym, ap, ◌∙◌}
use Prim.Native.Nat.{ℕ, ◌-◌}
use lib.Dec.{ltb}
use lib.ListN.{length}
use native.Mathlib.Omega.{arith}
use Rattle.image_records.proofs.FrontLaws.{starts_none, starts_other, starts_here}
use Rattle.image_records.proofs.front.stands.Goals as goal

pub returns-then-n-at : goal.returns-then-n-at
returns-then-n-at c = starts_none _ _ _ c.if-n-at.true

pub returns-then-from-kind : goal.returns-then-from-kind
returns-then-from-kind c = starts_other c.args.kind c.args.at c.args.bytes.now (omega arith) (λ e. c.if-from-kind.true (c.from.ensures ∙ e))

pub returns : goal.returns
returns c = ap (λ (x : ℕ). ltb x (length c.args.bytes.now - c.args.at)) c.body_length.ensures
    ∙ starts_here c.args.kind c.args.at c.args.bytes.now (omega arith) (λ i. omega (arith, c.shared_slice_known-1.given i))
    (sym c.from.ensures ∙ c.if-from-kind.false)
