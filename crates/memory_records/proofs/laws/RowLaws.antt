-- Rows and records: the rows of unpacked records read back as the records, packed records are the rows. Assumes nothing.
use mathlib.Core.Path.{◌≡◌, refl, sym, ap, subst, ◌∙◌}
use mathlib.Core.Logic.{◌≢◌}
use Prim.Native.Nat.{ℕ, zero, suc, ◌+◌, ◌<◌, ◌≤◌}
use native.Mathlib.Nat.{zero-add}
use native.Mathlib.Omega.{arith}
use native.Mathlib.Decide.{ℕ_discrete}
use mathlib.Core.List.{List}
use lib.ListN.{length, get_or, set, take, drop, replicate, length-set, length-replicate, get_or-replicate}
use lib.Seq.{get_or-set_same, get_or-set_other, drop-set-lt, length-take-le, ext_get_or, get_or-take}
use Rattle.memory_records.specs.declared.record.DownloadingPiece.{DownloadingPiece}
use Rattle.memory_records.specs.Records.{no_record}
use Rattle.memory_records.specs.Rows.{lesser, live_records, row_put, row_at, unpack_from, unpacked, pack_from, packed, records_from}
use Rattle.memory_records.specs.Rows.{records_in, rows_of}
use Rattle.memory_records.proofs.laws.LiveLaws.{lesser_both, below_lesser, live_most}

abbrev Records : Type 0
Records = List DownloadingPiece

abbrev record_of : (index place flags : ℕ) → DownloadingPiece
record_of i p f = record { index = i; info_idx = p; flags = f }

-- ---- one row
three : {i p f j r g : ℕ} → i ≡ j → p ≡ r → f ≡ g → record_of i p f ≡ record_of j r g
three {i} {p} {f} {j} {r} {g} a b c = ap (λ (x : ℕ). record_of x p f) a ∙ ap (λ (x : ℕ). record_of j x f) b ∙ ap (record_of j r) c

pub length_put : (rows : List ℕ) (k : ℕ) (d : DownloadingPiece) → length (row_put rows k d) ≡ length rows
unfolding row_put
length_put rows k d =
    length-set (set (set rows k d.index) (512 + k) d.info_idx) (1024 + k) d.flags
    ∙ length-set (set rows k d.index) (512 + k) d.info_idx
    ∙ length-set rows k d.index

module _ (rows : List ℕ) (k : ℕ) (d : DownloadingPiece) (h : k < 512) (long : length rows ≡ 1536) where
  abbrev one : List ℕ
  one = set rows k d.index

  abbrev two : List ℕ
  two = set one (512 + k) d.info_idx

  away : (i : ℕ) → i ≢ 1024 + k → i ≢ 512 + k → i ≢ k → get_or (set two (1024 + k) d.flags) i 0 ≡ get_or rows i 0
  away i x y z =
      get_or-set_other two (1024 + k) i d.flags 0 x ∙ get_or-set_other one (512 + k) i d.info_idx 0 y
      ∙ get_or-set_other rows k i d.index 0 z

  -- the row holds the record
  pub put_here : row_at (row_put rows k d) k ≡ d
  unfolding row_at row_put
  put_here =
      three
      (get_or-set_other two (1024 + k) k d.flags 0 (λ e. omega (arith, e))
      ∙ get_or-set_other one (512 + k) k d.info_idx 0 (λ e. omega (arith, e))
      ∙ get_or-set_same rows k d.index 0 (omega (arith, h, long)))
      (get_or-set_other two (1024 + k) (512 + k) d.flags 0 (λ e. omega (arith, e))
      ∙ get_or-set_same one (512 + k) d.info_idx 0 (omega (arith, h, long, length-set rows k d.index)))
      (get_or-set_same two (1024 + k) d.flags 0 (omega (
        arith,
        h,
        long,
        length-set rows k d.index,
        length-set one (512 + k)
            d.info_idx,
      )))

  -- and the others are as they were
  pub put_other : (j : ℕ) → j < 512 → j ≢ k → row_at (row_put rows k d) j ≡ row_at rows j
  unfolding row_at row_put
  put_other j l ne =
      three
      (away j (λ e. omega (arith, e, l)) (λ e. omega (arith, e, l)) ne)
      (away (512 + j) (λ e. omega (arith, e, l, h)) (λ e. ne (omega (arith, e))) (λ e. omega (arith, e, h)))
      (away (1024 + j) (λ e. ne (omega (arith, e))) (λ e. omega (arith, e, h)) (λ e. omega (arith, e, h)))

-- a row of zeros is no record
pub row_empty : (j : ℕ) → j < 512 → row_at (replicate 1536 0) j ≡ no_record
unfolding row_at
row_empty j h = three (zeros j (omega (arith, h))) (zeros (512 + j) (omega (arith, h))) (zeros (1024 + j) (omega (arith, h)))
  where
    zeros : (i : ℕ) → i < 1536 → get_or {A = ℕ} (replicate 1536 0) i 0 ≡ 0
    zeros i l = get_or-replicate {A = ℕ} 1536 i 0 0 l

-- ---- unpacked records
length-from : (t k : ℕ) (ds : Records) (rows : List ℕ) → length (unpack_from t k ds rows) ≡ length rows
length-from zero k ds rows = refl
length-from (suc t) k ds rows = length-from t (suc k) ds (row_put rows k (get_or ds k no_record)) ∙ length_put rows k (get_or ds k no_record)

pub length-unpacked : (live : ℕ) (ds : Records) (rows : List ℕ) → length (unpacked live ds rows) ≡ length rows
unfolding unpacked
length-unpacked live ds rows = length-from (lesser live (length ds)) 0 ds rows

-- rows before k and from k + t on stay as they are
stays : (t k : ℕ) (ds : Records) (rows : List ℕ) → k + t ≤ 512 → length rows ≡ 1536 → (j : ℕ) → j < 512 → (k ≤ j → k + t ≤ j)
    → row_at (unpack_from t k ds rows) j ≡ row_at rows j
stays zero k ds rows b long j l out = refl
stays (suc t) k ds rows b long j l out =
    stays t (suc k) ds (row_put rows k (get_or ds k no_record)) (omega (arith, b)) (length_put rows k (get_or ds k no_record) ∙ long) j l
    (λ h. omega (arith, out (omega (arith, h))))
    ∙ put_other rows k (get_or ds k no_record) (omega (arith, b)) long j l other
  where
    other : j ≢ k
    other e = omega (arith, e, out (omega (arith, e)))

reads : (t k : ℕ) (ds : Records) (rows : List ℕ) → k + t ≤ 512 → length rows ≡ 1536 → (j : ℕ) → k ≤ j → j < k + t
    → row_at (unpack_from t k ds rows) j ≡ get_or ds j no_record
reads zero k ds rows b long j l h = absurd (none_left l h)
  where
    none_left : k ≤ j → j < k + 0 → ⊥
    none_left x y = omega (arith, x, y)
reads (suc t) k ds rows b long j l h = elim (ℕ_discrete k j) [
  | yes e ↦ (
      subst (λ (i : ℕ). row_at (unpack_from t (suc k) ds (row_put rows k (get_or ds k no_record))) i ≡ get_or ds i no_record) e
      (stays t (suc k) ds (row_put rows k (get_or ds k no_record)) (omega (arith, b)) (length_put rows k (get_or ds k no_record) ∙ long) k
      (omega (arith, b)) (λ m. omega (arith, m))
      ∙ put_here rows k (get_or ds k no_record) (omega (arith, b)) long)
      )
  | no ne ↦ (
      reads t (suc k) ds (row_put rows k (get_or ds k no_record)) (omega (arith, b)) (length_put rows k (get_or ds k no_record) ∙ long) j
      (next ne l) (omega (arith, h))
      )
]
  where
    next : k ≢ j → k ≤ j → suc k ≤ j
    next ne l = elim (ℕ_discrete (suc k) j) [
      | yes e ↦ omega (arith, e)
      | no m ↦ omega (arith, l, ne, m)
    ]

-- row j of the unpacked records is the record at place j
pub unpacked_at : (live : ℕ) (ds : Records) (rows : List ℕ) → live ≤ 512 → length rows ≡ 1536 → (j : ℕ) → j < live → j < length ds
    → row_at (unpacked live ds rows) j ≡ get_or ds j no_record
unfolding unpacked
unpacked_at live ds rows small long j l h =
    reads (lesser live (length ds)) 0 ds rows (omega (arith, small, (lesser_both live (length ds)).0)) long j (omega arith)
    (omega (arith, below_lesser live (length ds) (suc j) l h))

-- rows past the last of them stay as they are
pub unpacked_beyond : (live : ℕ) (ds : Records) (rows : List ℕ) → live ≤ 512 → length rows ≡ 1536 → (j : ℕ) → j < 512
    → lesser live (length ds) ≤ j → row_at (unpacked live ds rows) j ≡ row_at rows j
unfolding unpacked
unpacked_beyond live ds rows small long j l h =
    stays (lesser live (length ds)) 0 ds rows (omega (arith, small, (lesser_both live (length ds)).0)) long j l (λ m. omega (arith, h))

-- ---- rows as records
length_run : (t k : ℕ) (rows : List ℕ) → length (records_from t k rows) ≡ t
length_run zero k rows = refl
length_run (suc t) k rows = ap suc (length_run t (suc k) rows)

pub length_records : (n : ℕ) (rows : List ℕ) → length (records_in n rows) ≡ n
unfolding records_in
length_records n rows = length_run n 0 rows

run_at : (t k : ℕ) (rows : List ℕ) (j : ℕ) → j < t → get_or (records_from t k rows) j no_record ≡ row_at rows (k + j)
run_at zero k rows j h = absurd (none_left h)
  where
    none_left : j < 0 → ⊥
    none_left l = omega (arith, l)
run_at (suc t) k rows zero h = ap (row_at rows) same
  where
    same : k ≡ k + 0
    same = omega arith
run_at (suc t) k rows (suc j) h = run_at t (suc k) rows j (omega (arith, h)) ∙ ap (row_at rows) same
  where
    same : suc k + j ≡ k + suc j
    same = omega arith

pub records_at : (n : ℕ) (rows : List ℕ) (j : ℕ) → j < n → get_or (records_in n rows) j no_record ≡ row_at rows j
unfolding records_in
records_at n rows j h = run_at n 0 rows j h ∙ ap (row_at rows) (zero-add j)

-- the first k rows of the unpacked records are the first k records
pub records_unpacked : (live : ℕ) (ds : Records) (rows : List ℕ) (k : ℕ) → live ≤ 512 → length rows ≡ 1536 → k ≤ live → k ≤ length ds
    → records_in k (unpacked live ds rows) ≡ take k ds
records_unpacked live ds rows k small long l h =
    ext_get_or no_record (records_in k (unpacked live ds rows)) (take k ds)
    (length_records k (unpacked live ds rows) ∙ sym (length-take-le k ds h)) same
  where
    same : (j : ℕ) → j < length (records_in k (unpacked live ds rows)) → get_or (records_in k (unpacked live ds rows)) j no_record
        ≡ get_or (take k ds) j no_record
    same j m = go (subst (λ (n : ℕ). j < n) (length_records k (unpacked live ds rows)) m)
      where
        go : j < k → get_or (records_in k (unpacked live ds rows)) j no_record ≡ get_or (take k ds) j no_record
        go b =
            records_at k (unpacked live ds rows) j b
            ∙ unpacked_at live ds rows small long j (omega (arith, b, l)) (omega (arith, b, h))
            ∙ sym (get_or-take k ds j no_record b)

-- the same of the rows that a public call works on
pub records_of : (words : List ℕ) (ds : Records) (k : ℕ) → k ≤ live_records words → k ≤ length ds → records_in k (rows_of words ds) ≡ take k ds
records_of words ds k l h = records_unpacked (live_records words) ds (replicate 1536 0) k (live_most words) (length-replicate {A = ℕ} 1536 0)
    l h

pub length_rows : (words : List ℕ) (ds : Records) → length (rows_of words ds) ≡ 1536
length_rows words ds = length-unpacked (live_records words) ds (replicate 1536 0) ∙ length-replicate {A = ℕ} 1536 0

-- ---- packed records
length_packs : (t k : ℕ) (rows : List ℕ) (ds : Records) → length (pack_from t k rows ds) ≡ length ds
length_packs zero k rows ds = refl
length_packs (suc t) k rows ds = length_packs t (suc k) rows (set ds k (row_at rows k)) ∙ length-set ds k (row_at rows k)

pub length-packed : (n : ℕ) (rows : List ℕ) (ds : Records) → length (packed n rows ds) ≡ length ds
unfolding packed
length-packed n rows ds = length_packs n 0 rows ds

packs_other : (t k : ℕ) (rows : List ℕ) (ds : Records) (j : ℕ) → (k ≤ j → k + t ≤ j) → get_or (pack_from t k rows ds) j no_record
    ≡ get_or ds j no_record
packs_other zero k rows ds j out = refl
packs_other (suc t) k rows ds j out =
    packs_other t (suc k) rows (set ds k (row_at rows k)) j (λ h. omega (arith, out (omega (arith, h))))
    ∙ get_or-set_other ds k j (row_at rows k) no_record other
  where
    other : j ≢ k
    other e = omega (arith, e, out (omega (arith, e)))

packs_at : (t k : ℕ) (rows : List ℕ) (ds : Records) (j : ℕ) → k + t ≤ length ds → k ≤ j → j < k + t → get_or (pack_from t k rows ds) j no_record
    ≡ row_at rows j
packs_at zero k rows ds j b l h = absurd (none_left l h)
  where
    none_left : k ≤ j → j < k + 0 → ⊥
    none_left x y = omega (arith, x, y)
packs_at (suc t) k rows ds j b l h = elim (ℕ_discrete k j) [
  | yes e ↦ (
      subst (λ (i : ℕ). get_or (pack_from t (suc k) rows (set ds k (row_at rows k))) i no_record ≡ row_at rows i) e
      (packs_other t (suc k) rows (set ds k (row_at rows k)) k (λ m. omega (arith, m))
      ∙ get_or-set_same ds k (row_at rows k) no_record (omega (arith, b)))
      )
  | no ne ↦ packs_at t (suc k) rows (set ds k (row_at rows k)) j (omega (arith, b, length-set ds k (row_at rows k))) (next ne l)
      (omega (arith, h))
]
  where
    next : k ≢ j → k ≤ j → suc k ≤ j
    next ne l = elim (ℕ_discrete (suc k) j) [
      | yes e ↦ omega (arith, e)
      | no m ↦ omega (arith, l, ne, m)
    ]

-- the first n records are the first n rows
pub packed_live : (n : ℕ) (rows : List ℕ) (ds : Records) → n ≤ length ds → take n (packed n rows ds) ≡ records_in n rows
unfolding packed
packed_live n rows ds h = ext_get_or no_record (take n (pack_from n 0 rows ds)) (records_in n rows) (long ∙ sym (length_records n rows)) same
  where
    long : length (take n (pack_from n 0 rows ds)) ≡ n
    long = length-take-le n (pack_from n 0 rows ds) (omega (arith, h, length_packs n 0 rows ds))

    same : (j : ℕ) → j < length (take n (pack_from n 0 rows ds)) → get_or (take n (pack_from n 0 rows ds)) j no_record
        ≡ get_or (records_in n rows) j no_record
    same j m = go (subst (λ (k : ℕ). j < k) long m)
      where
        go : j < n → get_or (take n (pack_from n 0 rows ds)) j no_record ≡ get_or (records_in n rows) j no_record
        go b =
            get_or-take n (pack_from n 0 rows ds) j no_record b
            ∙ packs_at n 0 rows ds j (omega (arith, h)) (omega arith) (omega (arith, b))
            ∙ sym (records_at n rows j b)

behind : (t k m : ℕ) (rows : List ℕ) (ds : Records) → k + t ≤ m → drop m (pack_from t k rows ds) ≡ drop m ds
behind zero k m rows ds h = refl
behind (suc t) k m rows ds h =
    behind t (suc k) m rows (set ds k (row_at rows k)) (omega (arith, h)) ∙ drop-set-lt m ds k (row_at rows k) (omega (arith, h))

-- behind them nothing moved
pub packed_behind : (n : ℕ) (rows : List ℕ) (ds : Records) → drop n (packed n rows ds) ≡ drop n ds
unfolding packed
packed_behind n rows ds = behind n 0 n rows ds (omega arith)
