-- `count` meets its contract. The invariant: n is the count of the bits below i. Assumes nothing.
use mathlib.Core.Path.{◌≡◌, refl, sym, ◌∙◌, ap}
use Prim.Native.Nat.{◌*◌, min}
use lib.ListN.{length}
use Rattle.bitfield.specs.Bitfield.{count_bits}
use Rattle.bitfield.proofs.ScanLaws.{count-set, count_clear, count_within}
use borrow.Author.Rules.{rules}
use native.Mathlib.Omega.{arith}
use Rattle.bitfield.proofs.count.Goals as goal
use Rattle.bitfield.proofs.count.Goals.{else-bit_at, then-bit_at}

pub loop-i-init : goal.loop-i-init
unfolding count_bits
loop-i-init c = (refl, search rules, search rules)

pub loop-i-preserved : goal.loop-i-preserved
loop-i-preserved c = let e = sym c.bit_at.ensures in
    elim c.if-bit_at.branch [ then-bit_at w ↦ let s = count-set _ c.loop-i.i (e ∙ w.if-bit_at.true) in (omega arith, omega arith, omega arith) | else-bit_at w ↦ let s = count_clear _ c.loop-i.i (e ∙ w.if-bit_at.false) in (omega arith, omega arith, omega arith) ]

pub returns : goal.returns
returns c = let e : c.loop-i.i ≡ min c.args.bits (8 * length c.args.bytes.now) = omega arith in
    c.loop-i.invariant.0 ∙ ap (count_bits c.args.bytes.now) e ∙ count_within c.args.bytes.now c.args.bits
