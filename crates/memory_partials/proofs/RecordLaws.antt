-- The live records put in, taken out and replaced, place by place and as the model's partials. Assumes nothing.
use mathlib.Core.Path.{◌≡◌, refl, sym, ap, ap₂, ◌∙◌}
use mathlib.Core.Logic.{◌⊎◌, inl, inr}
use mathlib.Core.Bool.{Bool, true, false, cond, not}
use mathlib.Core.Option.{some, none-ne-some}
use mathlib.Core.List.{List, [], ◌∷◌}
use Prim.Native.Nat.{ℕ, zero, suc, ◌≤◌, ◌<◌}
use native.Mathlib.Nat.{le_of_suc-le-suc, not-suc-le-zero}
use native.Mathlib.Decide.{ℕ_discrete}
use native.Mathlib.Omega.{arith}
use lib.Dec.{eqb, ltb}
use lib.ListN.{length, get_or, take}
use lib.Seq.{get_or-take}
use borrow.Author.Tests.{eq-eqb, ne_eqb}
use Rattle.model.specs.Lists.{each, filter, insert_by}
use Rattle.model.specs.State.{DownloadingPiece}
use Rattle.model.specs.change.Partials.{find_dl_piece, insert_in, replace_in}
use Rattle.model.specs.image.Sound.{partials_from}
use Rattle.model.proofs.sound.PartialLaws.{find_dl_piece_there}
use Rattle.memory_records.specs.declared.record.DownloadingPiece.{DownloadingPiece as Record}
use Rattle.memory_records.specs.Records.{no_record, rising_from, has_record, insert_record, without_record, replace_record}
use Rattle.memory_layout.specs.Tables.{tabulate}
use Rattle.memory_layout.specs.Decode.{record_at}

-- ---- the live records as a list
-- record k is the one at place k of the live ones
pub at_live : (records : List Record) (n k : ℕ) → k < n → record_at records k ≡ get_or (take n records) k no_record
unfolding record_at
at_live records n k h = sym (get_or-take n records k no_record h)

-- what a function gives for each of them
pub tabulate_live : {A : Type 0} (f : Record → A) (n : ℕ) (records : List Record) → n ≤ length records
    → tabulate n (λ k. f (record_at records k)) ≡ each f (take n records)
unfolding tabulate record_at each
tabulate_live f zero records h = refl
tabulate_live f (suc n) [] h = absurd (not-suc-le-zero h)
tabulate_live f (suc n) (r ∷ rs) h = ap (λ l. f r ∷ l) (tabulate_live f n rs (le_of_suc-le-suc h))

-- ---- as partials: f keeps the piece
module _ (f : Record → DownloadingPiece) (piece : (r : Record) → (f r).piece ≡ r.index) where
  pub rising_each : (low : ℕ) (rs : List Record) → rising_from low rs ≡ partials_from low (each f rs)
  unfolding rising_from partials_from each
  rising_each low [] = refl
  rising_each low (r ∷ rs) = rw (piece r, rising_each (suc r.index) rs)

  pub insert_each : (r : Record) (rs : List Record) → each f (insert_record r rs) ≡ insert_in (f r) (each f rs)
  unfolding insert_record insert_in insert_by each
  insert_each r [] = refl
  insert_each r (x ∷ xs) =
      go (ltb r.index x.index) (insert_each r xs)
      ∙ ap (λ (t : Bool). cond {A = List DownloadingPiece} t (f r ∷ f x ∷ each f xs) (f x ∷ insert_in (f r) (each f xs)))
      (sym (ap₂ ltb (piece r) (piece x)))
    where
      go : (t : Bool) → each f (insert_record r xs) ≡ insert_in (f r) (each f xs)
          → each f (cond {A = List Record} t (r ∷ x ∷ xs) (x ∷ insert_record r xs))
          ≡ cond {A = List DownloadingPiece} t (f r ∷ f x ∷ each f xs) (f x ∷ insert_in (f r) (each f xs))
      go true again = refl
      go false again = ap (λ l. f x ∷ l) again

  pub without_each : (i : ℕ) (rs : List Record) → each f (without_record i rs) ≡ filter (λ d. not (eqb d.piece i)) (each f rs)
  unfolding without_record filter each
  without_each i [] = refl
  without_each i (x ∷ xs) =
      go (not (eqb x.index i)) (without_each i xs)
      ∙ ap (λ (k : ℕ). cond {A = List DownloadingPiece} (not (eqb k i)) (f x ∷ filter (λ d. not (eqb d.piece i)) (each f xs))
      (filter (λ d. not (eqb d.piece i)) (each f xs))) (sym (piece x))
    where
      go : (t : Bool) → each f (without_record i xs) ≡ filter (λ d. not (eqb d.piece i)) (each f xs)
          → each f (cond {A = List Record} t (x ∷ without_record i xs) (without_record i xs))
          ≡ cond {A = List DownloadingPiece} t (f x ∷ filter (λ d. not (eqb d.piece i)) (each f xs))
          (filter (λ d. not (eqb d.piece i)) (each f xs))
      go true again = ap (λ l. f x ∷ l) again
      go false again = again

  pub replace_each : (r : Record) (rs : List Record) → each f (replace_record r rs) ≡ replace_in (f r) (each f rs)
  unfolding replace_record replace_in each
  replace_each r [] = refl
  replace_each r (x ∷ xs) =
      go (eqb x.index r.index) (replace_each r xs)
      ∙ ap (λ (t : Bool). cond {A = DownloadingPiece} t (f r) (f x) ∷ replace_in (f r) (each f xs)) (sym (ap₂ eqb (piece x) (piece r)))
    where
      go : (t : Bool) → each f (replace_record r xs) ≡ replace_in (f r) (each f xs)
          → f (cond {A = Record} t r x) ∷ each f (replace_record r xs)
          ≡ cond {A = DownloadingPiece} t (f r) (f x) ∷ replace_in (f r) (each f xs)
      go true again = ap (λ l. f r ∷ l) again
      go false again = ap (λ l. f x ∷ l) again

  -- a partial of the piece is a record of it
  pub has_each : (i : ℕ) (rs : List Record) (d : DownloadingPiece) → find_dl_piece i (each f rs) ≡ some d → has_record i rs ≡ true
  unfolding has_record find_dl_piece each
  has_each i [] d e = absurd (none-ne-some d e)
  has_each i (x ∷ xs) d e = elim (ℕ_discrete x.index i) [
    | yes q ↦ rw (eq-eqb x.index i q)
    | no q ↦ rw (ne_eqb x.index i q) (has_each i xs d (sym (find_dl_piece_there i (f x) (each f xs) (λ h. q (sym (piece x) ∙ h))) ∙ e))
  ]

-- ---- place by place
-- d stands at place q of the records with it put in
pub record Slot (d : Record) (ds : List Record) (q : ℕ) : Type 0 where
  pub within : q ≤ length ds
  pub here : get_or (insert_record d ds) q no_record ≡ d
  pub below : (k : ℕ) → k < q → get_or (insert_record d ds) k no_record ≡ get_or ds k no_record
  pub above : (k : ℕ) → q ≤ k → get_or (insert_record d ds) (suc k) no_record ≡ get_or ds k no_record

slot_first : (d : Record) (ds : List Record) → insert_record d ds ≡ d ∷ ds → Slot d ds 0
slot_first d ds e = record {
  within = omega arith;
  here = ap (λ l. get_or l 0 no_record) e;
  below = λ k h. absurd (not-suc-le-zero h);
  above = λ k h. ap (λ l. get_or l (suc k) no_record) e;
}

slot_later : (d x : Record) (ds : List Record) (q : ℕ) → insert_record d (x ∷ ds) ≡ x ∷ insert_record d ds → Slot d ds q
    → Slot d (x ∷ ds) (suc q)
slot_later d x ds q e a = record {
  within = omega (arith, a.within);
  here = ap (λ l. get_or l (suc q) no_record) e ∙ a.here;
  below = below;
  above = above;
}
  where
    below : (k : ℕ) → k < suc q → get_or (insert_record d (x ∷ ds)) k no_record ≡ get_or (x ∷ ds) k no_record
    below zero h = ap (λ l. get_or l 0 no_record) e
    below (suc k) h = ap (λ l. get_or l (suc k) no_record) e ∙ a.below k (le_of_suc-le-suc h)

    above : (k : ℕ) → suc q ≤ k → get_or (insert_record d (x ∷ ds)) (suc k) no_record ≡ get_or (x ∷ ds) k no_record
    above zero h = absurd (not-suc-le-zero h)
    above (suc k) h = ap (λ l. get_or l (suc (suc k)) no_record) e ∙ a.above k (le_of_suc-le-suc h)

pub slot : (d : Record) (ds : List Record) → (q : ℕ) × Slot d ds q
unfolding insert_record
slot d [] = (0, slot_first d [] refl)
slot d (x ∷ xs) = go (ltb d.index x.index) refl (slot d xs)
  where
    go : (t : Bool) → ltb d.index x.index ≡ t → (q : ℕ) × Slot d xs q → (q : ℕ) × Slot d (x ∷ xs) q
    go true e again = (0, slot_first d (x ∷ xs) (rw e))
    go false e again = (suc again.0, slot_later d x xs again.0 (rw e) again.1)

-- the records ds' are some of ds, in their order
pub record Among (ds' ds : List Record) : Type 0 where
  pub to : ℕ → ℕ
  pub within : (k : ℕ) → k < length ds' → to k < length ds
  pub same : (k : ℕ) → k < length ds' → get_or ds' k no_record ≡ get_or ds (to k) no_record
  pub rises : (k l : ℕ) → k < l → to k < to l

-- one more in front of both
abbrev past : (to : ℕ → ℕ) (k : ℕ) → ℕ
past to zero = zero
past to (suc k) = suc (to k)

among_both : (x : Record) (ds' ds : List Record) → Among ds' ds → Among (x ∷ ds') (x ∷ ds)
among_both x ds' ds a = record { to = past a.to; within = within; same = same; rises = rises }
  where
    within : (k : ℕ) → k < suc (length ds') → past a.to k < suc (length ds)
    within zero h = omega arith
    within (suc k) h = omega (arith, a.within k (le_of_suc-le-suc h))

    same : (k : ℕ) → k < suc (length ds') → get_or (x ∷ ds') k no_record ≡ get_or (x ∷ ds) (past a.to k) no_record
    same zero h = refl
    same (suc k) h = a.same k (le_of_suc-le-suc h)

    rises : (k l : ℕ) → k < l → past a.to k < past a.to l
    rises k zero h = absurd (not-suc-le-zero h)
    rises zero (suc l) h = omega arith
    rises (suc k) (suc l) h = omega (arith, a.rises k l (le_of_suc-le-suc h))

among_less : (x : Record) (ds' ds : List Record) → Among ds' ds → Among ds' (x ∷ ds)
among_less x ds' ds a = record {
  to = λ k. suc (a.to k);
  within = λ k h. omega (arith, a.within k h);
  same = a.same;
  rises = λ k l h. omega (arith, a.rises k l h);
}

pub without_among : (i : ℕ) (ds : List Record) → Among (without_record i ds) ds
unfolding without_record
without_among i [] = record { to = λ k. k; within = λ k h. h; same = λ k h. refl; rises = λ k l h. h }
without_among i (x ∷ xs) = go (not (eqb x.index i)) (without_among i xs)
  where
    go : (t : Bool) → Among (without_record i xs) xs
        → Among (cond {A = List Record} t (x ∷ without_record i xs) (without_record i xs)) (x ∷ xs)
    go true again = among_both x (without_record i xs) xs again
    go false again = among_less x (without_record i xs) xs again

-- each record of d's piece is d, the others are as they were
pub replaced_at : (d : Record) (ds : List Record) (k : ℕ) → k < length ds
    → (((get_or ds k no_record).index ≡ d.index) × (get_or (replace_record d ds) k no_record ≡ d))
    ⊎ (get_or (replace_record d ds) k no_record ≡ get_or ds k no_record)
unfolding replace_record
replaced_at d [] k h = absurd (not-suc-le-zero h)
replaced_at d (x ∷ xs) zero h = elim (ℕ_discrete x.index d.index) [
  | yes e ↦ inl (e, rw (eq-eqb x.index d.index e))
  | no e ↦ inr (rw (ne_eqb x.index d.index e))
]
replaced_at d (x ∷ xs) (suc k) h = replaced_at d xs k (le_of_suc-le-suc h)
