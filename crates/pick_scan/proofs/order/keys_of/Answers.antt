-- `keys_of` meets its contract. Assumes nothing.
use mathlib.Core.Path.{ap, ◌∙◌}
use Rattle.pick_scan.specs.Scans.{key_of}
use Rattle.pick_scan.proofs.KeyLaws.{Giving, giving_start, giving_next, giving_end}
use Rattle.memory_rows.specs.Lookup.{picker_in}
use native.Mathlib.Omega.{arith}
use Prim.Native.Nat.{◌-◌}
use borrow.Author.Rules.{rules}
use Rattle.pick_scan.proofs.order.keys_of.Goals as goal

pub loop-j-init : goal.loop-j-init
loop-j-init c = giving_start _ _ _ c.requires.places_rise.1

pub key_of-requires : goal.key_of-requires
key_of-requires c = record {
  asked = c.requires.asked;
  counts_held = c.requires.counts_held;
  k_lt_live = omega (arith, c.u16_to_usize.ensures, c.requires.places_rise.0.low _ c.loop-j-test.true);
}

pub loop-j-preserved : goal.loop-j-preserved
loop-j-preserved c = giving_next _ _ _ _ c.loop-j.invariant (omega (arith, c.requires.places_rise.0.few, c.requires.places_rise.0.most, c.loop-j-test.true)) _
    (c.key_of.ensures ∙ ap (key_of _) c.u16_to_usize.ensures)

pub returns : goal.returns
returns c = giving_end _ _ _ _ _ (omega (arith, c.requires.places_rise.0.few, c.requires.places_rise.0.most)) c.requires.places_rise.0.long c.loop-j.invariant c.loop-j-test.false
