-- Gaps opened and closed: the records between them moved at once, one by one, or some first. Assumes nothing.
use mathlib.Core.Path.{◌≡◌, sym, ap, ◌∙◌}
use mathlib.Core.List.{List, [], ◌∷◌, ◌++◌}
use Prim.Native.Nat.{ℕ, zero, suc, ◌+◌, ◌-◌, ◌<◌, ◌≤◌}
use native.Mathlib.Omega.{arith}
use lib.ListN.{length, get_or, set, take, drop}
use Rattle.std.proofs.Common.{append_assoc}
use Rattle.std.specs.List.{copy_within}
use Rattle.memory_records.specs.declared.record.DownloadingPiece.{DownloadingPiece}
use Rattle.memory_records.specs.Records.{no_record, open_gap, close_gap}
use Rattle.memory_records.proofs.laws.EditLaws.{open_past, close_past, open_front, close_front}

abbrev Records : Type 0
Records = List DownloadingPiece

-- ---- up
-- a gap opened in two parts: the last m of m + t records go up first
pub open_last : (m t i : ℕ) (ds : List DownloadingPiece) → open_gap (m + t) i ds ≡ open_gap t i (open_gap m (i + t) ds)
open_last zero t i ds = ap (λ (k : ℕ). open_gap k i ds) same
  where
    same : 0 + t ≡ t
    same = omega arith
open_last (suc m) t i ds =
    ap (λ (k : ℕ). open_gap k i ds) more
    ∙ open_last m t i (set ds (suc (i + (m + t))) (get_or ds (i + (m + t)) no_record))
    ∙ ap (λ (k : ℕ). open_gap t i (open_gap m (i + t) (set ds (suc k) (get_or ds k no_record)))) place
  where
    more : suc m + t ≡ suc (m + t)
    more = omega arith

    place : i + (m + t) ≡ (i + t) + m
    place = omega arith

opened : (t i m : ℕ) (ds : Records) → m ≡ i + t → m < length ds → open_gap t i ds ≡ take (suc i) ds ++ (take t (drop i ds) ++ drop (suc m) ds)
opened t zero m ds e h =
    let same : t ≡ m = omega (arith, e) in
    open_front t ds (omega (arith, e, h)) ∙ ap (λ (k : ℕ). take 1 ds ++ (take t ds ++ drop (suc k) ds)) same
opened t (suc i) m [] e h = absurd (omega (arith, h))
opened t (suc i) zero (d ∷ ds) e h = absurd (omega (arith, e))
opened t (suc i) (suc m) (d ∷ ds) e h = open_past t i d ds ∙ ap (λ (l : Records). d ∷ l) (opened t i m ds (omega (arith, e)) (omega (arith, h)))

pub opened_at : (i n : ℕ) (ds : Records) → i ≤ n → n < length ds → copy_within ds i n (i + 1) ≡ open_gap (n - i) i ds
opened_at i n ds l h =
    let next : i + 1 ≡ suc i = omega arith in
    let behind : i + 1 + (n - i) ≡ suc n = omega (arith, l) in
    let end : n ≡ i + (n - i) = omega (arith, l) in
    append_assoc (take (i + 1) ds) (take (n - i) (drop i ds)) (drop (i + 1 + (n - i)) ds)
    ∙ ap (λ (k : ℕ). take k ds ++ (take (n - i) (drop i ds) ++ drop (i + 1 + (n - i)) ds)) next
    ∙ ap (λ (k : ℕ). take (suc i) ds ++ (take (n - i) (drop i ds) ++ drop k ds)) behind
    ∙ sym (opened (n - i) i n ds end h)

-- ---- down
-- a gap closed in two parts: the first m of m + t records go down first
pub close_first : (m t i : ℕ) (ds : List DownloadingPiece) → close_gap (m + t) i ds ≡ close_gap t (i + m) (close_gap m i ds)
close_first zero t i ds = ap (λ (k : ℕ). close_gap k i ds) same ∙ ap (λ (k : ℕ). close_gap t k ds) place
  where
    same : 0 + t ≡ t
    same = omega arith

    place : i ≡ i + 0
    place = omega arith
close_first (suc m) t i ds =
    ap (λ (k : ℕ). close_gap k i ds) more
    ∙ close_first m t (suc i) (set ds i (get_or ds (suc i) no_record))
    ∙ ap (λ (k : ℕ). close_gap t k (close_gap m (suc i) (set ds i (get_or ds (suc i) no_record)))) place
  where
    more : suc m + t ≡ suc (m + t)
    more = omega arith

    place : suc i + m ≡ i + suc m
    place = omega arith

closed : (t i m : ℕ) (ds : Records) → m ≡ i + t → m < length ds → close_gap t i ds ≡ take i ds ++ (take t (drop (suc i) ds) ++ drop m ds)
closed t i m [] e h = absurd (omega (arith, h))
closed t zero m (d ∷ ds) e h =
    let same : t ≡ m = omega (arith, e) in
    close_front t d ds (omega (arith, e, h)) ∙ ap (λ (k : ℕ). take t ds ++ drop k (d ∷ ds)) same
closed t (suc i) zero (d ∷ ds) e h = absurd (omega (arith, e))
closed t (suc i) (suc m) (d ∷ ds) e h = close_past t i d ds ∙ ap (λ (l : Records). d ∷ l) (closed t i m ds (omega (arith, e)) (omega (arith, h)))

pub closed_at : (i last : ℕ) (ds : Records) → i ≤ last → last < length ds → copy_within ds (i + 1) (last + 1) i ≡ close_gap (last - i) i ds
closed_at i last ds l h =
    let many : last + 1 - (i + 1) ≡ last - i = omega arith in
    let next : i + 1 ≡ suc i = omega arith in
    let end : last ≡ i + (last - i) = omega (arith, l) in
    append_assoc (take i ds) (take (last + 1 - (i + 1)) (drop (i + 1) ds)) (drop (i + (last + 1 - (i + 1))) ds)
    ∙ ap (λ (k : ℕ). take i ds ++ (take k (drop (i + 1) ds) ++ drop (i + k) ds)) many
    ∙ ap (λ (k : ℕ). take i ds ++ (take (last - i) (drop k ds) ++ drop (i + (last - i)) ds)) next
    ∙ ap (λ (k : ℕ). take i ds ++ (take (last - i) (drop (suc i) ds) ++ drop k ds)) (sym end)
    ∙ sym (closed (last - i) i last ds end h)

-- ---- a step of a gap
-- the last record goes up, and the gap is opened below it
pub open_one : (i k : ℕ) (ds : List DownloadingPiece) → i < k
    → open_gap (k - i) i ds ≡ open_gap (k - 1 - i) i (set ds k (get_or ds (k - 1) no_record))
open_one i k ds h =
    ap (λ (t : ℕ). open_gap t i ds) left
    ∙ ap (λ (j : ℕ). open_gap (k - 1 - i) i (set ds (suc j) (get_or ds j no_record))) place
    ∙ ap (λ (j : ℕ). open_gap (k - 1 - i) i (set ds j (get_or ds (k - 1) no_record))) above
  where
    left : k - i ≡ suc (k - 1 - i)
    left = omega (arith, h)

    place : i + (k - 1 - i) ≡ k - 1
    place = omega (arith, h)

    above : suc (k - 1) ≡ k
    above = omega (arith, h)

-- the last four records go up, and the gap is opened below them
pub open_fours : (i k : ℕ) (ds : List DownloadingPiece) → i + 4 ≤ k → open_gap (k - i) i ds ≡ open_gap (k - 4 - i) i (open_gap 4 (k - 4) ds)
open_fours i k ds h =
    ap (λ (t : ℕ). open_gap t i ds) left
    ∙ open_last 4 (k - 4 - i) i ds
    ∙ ap (λ (j : ℕ). open_gap (k - 4 - i) i (open_gap 4 j ds)) place
  where
    left : k - i ≡ 4 + (k - 4 - i)
    left = omega (arith, h)

    place : i + (k - 4 - i) ≡ k - 4
    place = omega (arith, h)

-- the first record goes down, and the gap is closed above it
pub close_one : (k last : ℕ) (ds : List DownloadingPiece) → k < last
    → close_gap (last - k) k ds ≡ close_gap (last - (k + 1)) (k + 1) (set ds k (get_or ds (k + 1) no_record))
close_one k last ds h =
    ap (λ (t : ℕ). close_gap t k ds) left
    ∙ ap (λ (j : ℕ). close_gap (last - (k + 1)) j (set ds k (get_or ds j no_record))) place
  where
    left : last - k ≡ suc (last - (k + 1))
    left = omega (arith, h)

    place : suc k ≡ k + 1
    place = omega arith

-- the first four records go down, and the gap is closed above them
pub close_fours : (k last : ℕ) (ds : List DownloadingPiece) → k + 4 ≤ last
    → close_gap (last - k) k ds ≡ close_gap (last - (k + 4)) (k + 4) (close_gap 4 k ds)
close_fours k last ds h = ap (λ (t : ℕ). close_gap t k ds) left ∙ close_first 4 (last - (k + 4)) k ds
  where
    left : last - k ≡ 4 + (last - (k + 4))
    left = omega (arith, h)
