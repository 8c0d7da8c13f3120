-- `body_of` meets its contract: the bytes have the record. Assumes nothing.
use mathlib.Core.Path.{refl, ap}
use Prim.Native.Nat.{ℕ, ◌+◌}
use native.Mathlib.Omega.{arith}
use Rattle.image_records.proofs.FrontLaws.{stands_within, body_is}
use Rattle.image_records.proofs.front.body_of.Goals as goal

pub overflow_add-start : goal.overflow_add-start
overflow_add-start c = omega (arith, stands_within c.args.kind c.args.at c.args.bytes.now c.requires.bytes_value)

pub overflow_add-end : goal.overflow_add-end
overflow_add-end c = omega (arith, c.body_length.ensures, stands_within c.args.kind c.args.at c.args.bytes.now c.requires.bytes_value)

pub slice_bounds-result-end : goal.slice_bounds-result-end
slice_bounds-result-end c = omega (arith, c.body_length.ensures, stands_within c.args.kind c.args.at c.args.bytes.now c.requires.bytes_value)

pub returns : goal.returns
returns c = body_is c.args.kind c.args.at c.args.bytes.now c.requires.bytes_value (c.args.at + 1) _ refl
    (ap (λ (n : ℕ). c.args.at + 1 + n) c.body_length.ensures)
