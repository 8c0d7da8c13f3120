-- Records of rising pieces, by place. Assumes nothing.
use mathlib.Core.Path.{◌≡◌, ap}
use mathlib.Core.Bool.{true}
use mathlib.Core.List.{List, [], ◌∷◌}
use Prim.Native.Nat.{ℕ, zero, suc, ◌≤◌, ◌<◌}
use native.Mathlib.Nat.{not-suc-le-zero, le_of_suc-le-suc}
use native.Mathlib.Decide.{ℕ_discrete}
use native.Mathlib.Omega.{arith}
use lib.ListN.{length, get_or, take}
use lib.Seq.{get_or-take, length-take-le}
use Rattle.memory_records.specs.declared.record.DownloadingPiece.{DownloadingPiece}
use Rattle.memory_records.specs.Records.{no_record, rising_from, Rising}
use Rattle.memory_records.proofs.laws.EditLaws.{RisesBy, rises}

index_above : (low : ℕ) (ds : List DownloadingPiece) (k : ℕ) → rising_from low ds ≡ true → k < length ds → low ≤ (get_or ds k no_record).index
unfolding RisesBy
index_above low [] k r h = absurd (not-suc-le-zero h)
index_above low (d ∷ ds) zero r h = (rises low d ds r).0
index_above low (d ∷ ds) (suc k) r h =
    let e = rises low d ds r in
    omega (arith, e.0, index_above (suc d.index) ds k e.1 (le_of_suc-le-suc h))

-- a later one is of a higher piece
pub index_rises : (low : ℕ) (ds : List DownloadingPiece) (k l : ℕ) → rising_from low ds ≡ true → k < l → l < length ds
    → (get_or ds k no_record).index < (get_or ds l no_record).index
unfolding RisesBy
index_rises low [] k l r e h = absurd (not-suc-le-zero h)
index_rises low (d ∷ ds) k zero r e h = absurd (not-suc-le-zero e)
index_rises low (d ∷ ds) zero (suc l) r e h = index_above (suc d.index) ds l (rises low d ds r).1 (le_of_suc-le-suc h)
index_rises low (d ∷ ds) (suc k) (suc l) r e h =
    index_rises (suc d.index) ds k l (rises low d ds r).1 (le_of_suc-le-suc e) (le_of_suc-le-suc h)

-- where one of the first n is of a lower piece than p, so are those before it
pub lower_up_to : (n p : ℕ) (ds : List DownloadingPiece) → Rising n ds → (k : ℕ) → k < n → (get_or ds k no_record).index < p
    → (j : ℕ) → j ≤ k → (get_or ds j no_record).index < p
lower_up_to n p ds r k h l j m = elim (ℕ_discrete j k) [
  | yes e ↦ rw e l
  | no e ↦ omega (
    arith,
    l,
    ap (λ (d : DownloadingPiece). d.index) (get_or-take n ds j no_record (omega arith)),
    ap (λ (d : DownloadingPiece). d.index) (get_or-take n ds k no_record h),
    index_rises 0 (take n ds) j k r.1 (omega (arith, e)) (omega (arith, length-take-le n ds r.0)),
  )
]
