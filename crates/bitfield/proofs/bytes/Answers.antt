-- `bytes` meets its contract: a list ends where it ends, however many are taken. Assumes nothing.
use mathlib.Core.Path.{◌≡◌, sym, ◌∙◌}
use Prim.Native.Nat.{ℕ, min}
use mathlib.Core.List.{List}
use native.Mathlib.Decide.{dec_le}
use lib.ListN.{length, take, length-take}
use lib.Seq.{take_all}
use Rattle.model.specs.Bep3.{bitfield_bytes}
use native.Mathlib.Omega.{arith}
use Rattle.bitfield.proofs.bytes.Goals as goal

-- taking no more than there are
within : (k n : ℕ) (xs : List ℕ) → k ≡ min n (length xs) → take k xs ≡ take n xs
within k n xs h = elim (dec_le n (length xs)) [
  | yes l ↦ let e : k ≡ n = omega arith in rw e
  | no l ↦ take_all k xs (omega arith) ∙ sym (take_all n xs (omega arith))
]

pub slice_bounds-result-end : goal.slice_bounds-result-end
slice_bounds-result-end c = rw (length-take c.min-n.result c.args.buf.now) (omega arith)

pub returns : goal.returns
returns c = within c.min-n.result (bitfield_bytes c.args.bits) c.args.buf.now (omega arith)
