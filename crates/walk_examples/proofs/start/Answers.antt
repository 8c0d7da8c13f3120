-- `start` meets its contract: the edit of its core fits the records lent. Assumes nothing.
use mathlib.Core.Path.{◌≡◌, refl, sym, subst, ◌∙◌}
use mathlib.Core.List.{List, [], ◌∷◌}
use Prim.Native.Nat.{ℕ}
use native.Mathlib.Omega.{arith}
use lib.ListN.{length}
use Rattle.memory_records.specs.declared.record.DownloadingPiece.{DownloadingPiece}
use Rattle.memory_records.specs.declared.edits.Edit.{Edit}
use Rattle.memory_records.specs.Records.{EditFits, rising_from}
use Rattle.memory_records.proofs.laws.LiveLaws.{live_most}
use Rattle.walk_examples.specs.Starting.{start_edit}
use Rattle.walk_examples.proofs.start.Goals as goal

-- no records rise, and one is put in only where one is lent
none_rise : (a : ℕ) (ds : List DownloadingPiece) → EditFits 0 (start_edit (length ds) a) ds
unfolding rising_from
none_rise a [] = omega arith
none_rise a (d ∷ ds) = (omega arith, (omega arith, refl))

start_fits : (count : ℕ) (edit : Edit) (lent a : ℕ) (ds : List DownloadingPiece) → lent ≡ length ds → count ≡ 0 → edit ≡ start_edit lent a
    → EditFits count edit ds
start_fits count edit lent a ds l n e =
    subst (λ (x : Edit). EditFits count x ds) (sym e)
    (subst (λ (m : ℕ). EditFits m (start_edit lent a) ds) (sym n)
    (subst (λ (m : ℕ). EditFits 0 (start_edit m a) ds) (sym l) (none_rise a ds)))

pub unpack-lent-requires : goal.unpack-lent-requires
unpack-lent-requires c = grind (arith, live_most)

pub apply-requires : goal.apply-requires
apply-requires c =
    let r = c.start_core-r.ensures in
    start_fits _ _ _ _ _ c.unpack-lent.ensures.0 r.1 r.2
