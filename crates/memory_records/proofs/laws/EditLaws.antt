-- What an insert, a removal and a replacement come to on the live records, and that nothing behind them moves. Assumes nothing.
use mathlib.Core.Path.{◌≡◌, refl, sym, ap, subst, ◌∙◌}
use mathlib.Core.Bool.{Bool, true, false, cond, not, ◌&&◌, ◌||◌}
use Prim.Native.Nat.{ℕ, zero, suc, ◌+◌, ◌-◌, ◌<◌, ◌≤◌}
use native.Mathlib.Nat.{zero-add, suc-add, suc-sub-suc, sub-zero, le_of_suc-le-suc}
use native.Mathlib.Omega.{arith}
use mathlib.Core.List.{List, [], ◌∷◌, ◌++◌}
use lib.Dec.{T, ltb, leb, eqb, ltb→lt, leb→le, le→leb, eqb→eq}
use lib.ListN.{length, get_or, set, take, drop, take-append-drop, length-set}
use lib.Seq.{take-set-le, drop-set-lt, drop-cons, take-suc, append_snoc, get_or-set_same, take_at, drop_at, drop-drop, length-take-le}
use Rattle.memory_records.specs.declared.record.DownloadingPiece.{DownloadingPiece}
use Rattle.memory_records.specs.declared.edits.Edit.{Edit}
use Rattle.memory_records.specs.declared.edits.Edit.TheVariants.{Keep, Replace, Insert, Remove}
use Rattle.memory_records.specs.Records.{no_record, place_of, first_from, seek_from, above_from, open_gap, close_gap, inserted_at, inserted}
use Rattle.memory_records.specs.Records.{removed_at, removed, replaced, edited, rising_from, has_record, insert_record, without_record}
use Rattle.memory_records.specs.Records.{replace_record}
use Rattle.memory_records.proofs.laws.SearchLaws.{holds, fails}

abbrev Records : Type 0
Records = List DownloadingPiece

one_less : (m : ℕ) → suc m - 1 ≡ m
one_less m = omega arith

-- ---- lengths
length_open : (t i : ℕ) (ds : Records) → length (open_gap t i ds) ≡ length ds
length_open zero i ds = refl
length_open (suc t) i ds = length_open t i (set ds (suc (i + t)) (get_or ds (i + t) no_record))
    ∙ length-set ds (suc (i + t)) (get_or ds (i + t) no_record)

length_close : (t i : ℕ) (ds : Records) → length (close_gap t i ds) ≡ length ds
length_close zero i ds = refl
length_close (suc t) i ds = length_close t (suc i) (set ds i (get_or ds (suc i) no_record)) ∙ length-set ds i (get_or ds (suc i) no_record)

pub length-inserted : (n : ℕ) (d : DownloadingPiece) (ds : Records) → length (inserted n d ds) ≡ length ds
length-inserted n d ds =
    length-set (open_gap (n - above_from n 0 ds d.index) (above_from n 0 ds d.index) ds) (above_from n 0 ds d.index) d
    ∙ length_open (n - above_from n 0 ds d.index) (above_from n 0 ds d.index) ds

pub length-removed : (n piece : ℕ) (ds : Records) → length (removed n piece ds) ≡ length ds
length-removed n piece ds = go (leb n (seek_from n 0 ds piece))
  where
    go : (t : Bool) → length (cond {A = Records} t ds (removed_at (seek_from n 0 ds piece) n ds)) ≡ length ds
    go true = refl
    go false = length_close (n - 1 - seek_from n 0 ds piece) (seek_from n 0 ds piece) ds

pub length-replaced : (n : ℕ) (d : DownloadingPiece) (ds : Records) → length (replaced n d ds) ≡ length ds
length-replaced n d ds = go (leb n (seek_from n 0 ds d.index))
  where
    go : (t : Bool) → length (cond {A = Records} t ds (set ds (seek_from n 0 ds d.index) d)) ≡ length ds
    go true = refl
    go false = length-set ds (seek_from n 0 ds d.index) d

pub length-edited : (n : ℕ) (edit : Edit) (ds : Records) → length (edited n edit ds) ≡ length ds
length-edited n Keep ds = refl
length-edited n (Replace d) ds = length-replaced n d ds
length-edited n (Insert d) ds = length-inserted n d ds
length-edited n (Remove piece) ds = length-removed n piece ds

-- ---- gaps and searches behind the first record
pub open_past : (t i : ℕ) (e : DownloadingPiece) (es : Records) → open_gap t (suc i) (e ∷ es) ≡ e ∷ open_gap t i es
open_past zero i e es = refl
open_past (suc t) i e es =
    ap (λ (k : ℕ). open_gap t (suc i) (set (e ∷ es) (suc k) (get_or (e ∷ es) k no_record))) (suc-add i t)
    ∙ open_past t i e (set es (suc (i + t)) (get_or es (i + t) no_record))

pub close_past : (t i : ℕ) (e : DownloadingPiece) (es : Records) → close_gap t (suc i) (e ∷ es) ≡ e ∷ close_gap t i es
close_past zero i e es = refl
close_past (suc t) i e es = close_past t (suc i) e (set es i (get_or es (suc i) no_record))

first_past : (test : ℕ → Bool) (t k : ℕ) → first_from test t (suc k) ≡ suc (first_from (λ i. test (suc i)) t k)
first_past test zero k = refl
first_past test (suc t) k = go (test (suc k)) (first_past test t (suc k))
  where
    go : (b : Bool) → first_from test t (suc (suc k)) ≡ suc (first_from (λ i. test (suc i)) t (suc k))
        → place_of b (suc k) (first_from test t (suc (suc k))) ≡ suc (place_of b k (first_from (λ i. test (suc i)) t (suc k)))
    go true again = refl
    go false again = again

-- ---- an insert
pub open_front : (t : ℕ) (ds : Records) → t < length ds → open_gap t 0 ds ≡ take 1 ds ++ (take t ds ++ drop (suc t) ds)
open_front zero ds h = sym (take-append-drop 1 ds)
open_front (suc t) ds h =
    ap (λ (k : ℕ). open_gap t 0 (set ds (suc k) (get_or ds k no_record))) (zero-add t)
    ∙ open_front t next (omega (arith, h, length-set ds (suc t) (get_or ds t no_record)))
    ∙ ap (λ (l : Records). l ++ (take t next ++ drop (suc t) next)) (take-set-le 1 ds (suc t) (get_or ds t no_record) (omega arith))
    ∙ ap (λ (l : Records). take 1 ds ++ (l ++ drop (suc t) next)) (take-set-le t ds (suc t) (get_or ds t no_record) (omega arith))
    ∙ ap (λ (l : Records). take 1 ds ++ (take t ds ++ l)) behind
    ∙ ap (λ (l : Records). take 1 ds ++ l) (sym (append_snoc (take t ds) (get_or ds t no_record) (drop (suc (suc t)) ds)))
    ∙ ap (λ (l : Records). take 1 ds ++ (l ++ drop (suc (suc t)) ds)) (sym (take-suc ds t no_record (omega (arith, h))))
  where
    next : Records
    next = set ds (suc t) (get_or ds t no_record)

    behind : drop (suc t) next ≡ get_or ds t no_record ∷ drop (suc (suc t)) ds
    behind =
        drop-cons next (suc t) no_record (omega (arith, h, length-set ds (suc t) (get_or ds t no_record)))
        ∙ ap (λ (x : DownloadingPiece). x ∷ drop (suc (suc t)) next) (get_or-set_same ds (suc t) (get_or ds t no_record) no_record h)
        ∙ ap (λ (l : Records). get_or ds t no_record ∷ l) (drop-set-lt (suc (suc t)) ds (suc t) (get_or ds t no_record) (omega arith))

pub insert_whole : (n : ℕ) (d : DownloadingPiece) (ds : Records) → n < length ds → inserted n d ds
    ≡ insert_record d (take n ds) ++ drop (suc n) ds
unfolding insert_record
insert_whole n d [] h = absurd (nothing_there h)
  where
    nothing_there : n < 0 → ⊥
    nothing_there l = omega (arith, l)
insert_whole zero d (e ∷ es) h = refl
insert_whole (suc n) d (e ∷ es) h = go (ltb d.index e.index) (insert_whole n d es (le_of_suc-le-suc h))
  where
    q : ℕ
    q = first_from (λ i. ltb d.index (get_or (e ∷ es) i no_record).index) n 1

    go : (t : Bool) → inserted n d es ≡ insert_record d (take n es) ++ drop (suc n) es
        → inserted_at (place_of t 0 q) (suc n) d (e ∷ es) ≡ cond {A = Records} t (d ∷ e ∷ take n es) (e ∷ insert_record d (take n es)) ++ drop
        (suc n) es
    go true again = ap (λ (k : ℕ). set (open_gap k 0 (e ∷ es)) 0 d) (sub-zero (suc n))
        ∙ ap (λ (l : Records). set l 0 d) (open_front (suc n) (e ∷ es) h)
    go false again =
        ap (λ (k : ℕ). inserted_at k (suc n) d (e ∷ es)) (first_past (λ i. ltb d.index (get_or (e ∷ es) i no_record).index) n 0)
        ∙ ap (λ (k : ℕ). set (open_gap k (suc (above_from n 0 es d.index)) (e ∷ es)) (suc (above_from n 0 es d.index)) d)
        (suc-sub-suc n (above_from n 0 es d.index))
        ∙ ap (λ (l : Records). set l (suc (above_from n 0 es d.index)) d)
        (open_past (n - above_from n 0 es d.index) (above_from n 0 es d.index) e es)
        ∙ ap (λ (l : Records). e ∷ l) again

length_insert : (d : DownloadingPiece) (l : Records) → length (insert_record d l) ≡ suc (length l)
unfolding insert_record
length_insert d [] = refl
length_insert d (e ∷ es) = go (ltb d.index e.index) (length_insert d es)
  where
    go : (t : Bool) → length (insert_record d es) ≡ suc (length es) → length (cond {A = Records} t (d ∷ e ∷ es) (e ∷ insert_record d es))
        ≡ suc (suc (length es))
    go true again = refl
    go false again = ap suc again

length_first : (n : ℕ) (d : DownloadingPiece) (ds : Records) → n ≤ length ds → length (insert_record d (take n ds)) ≡ suc n
length_first n d ds h = length_insert d (take n ds) ∙ ap suc (length-take-le n ds h)

-- the live records after an insert: d by its piece
pub inserted_live : (n : ℕ) (d : DownloadingPiece) (ds : Records) → n < length ds → take (suc n) (inserted n d ds)
    ≡ insert_record d (take n ds)
inserted_live n d ds h =
    ap (take (suc n)) (insert_whole n d ds h) ∙ take_at (insert_record d (take n ds)) (drop (suc n) ds) (suc n)
    (length_first n d ds (omega (arith, h)))

-- behind them nothing moved
pub inserted_behind : (n : ℕ) (d : DownloadingPiece) (ds : Records) → n < length ds → drop (suc n) (inserted n d ds) ≡ drop (suc n) ds
inserted_behind n d ds h =
    ap (drop (suc n)) (insert_whole n d ds h) ∙ drop_at (insert_record d (take n ds)) (drop (suc n) ds) (suc n)
    (length_first n d ds (omega (arith, h)))

-- ---- a search among the first n
pub seek_there : (n piece : ℕ) (ds : Records) → n ≤ length ds → has_record piece (take n ds) ≡ true → seek_from n 0 ds piece < n
unfolding has_record
seek_there zero piece ds h e = absurd (subst T (sym e) tt)
seek_there (suc n) piece [] h e = absurd (subst T (sym e) tt)
seek_there (suc n) piece (d ∷ ds) h e = go (eqb d.index piece) e (seek_there n piece ds (le_of_suc-le-suc h))
  where
    go : (t : Bool) → t || has_record piece (take n ds) ≡ true → (has_record piece (take n ds) ≡ true → seek_from n 0 ds piece < n)
        → place_of t 0 (first_from (λ i. eqb (get_or (d ∷ ds) i no_record).index piece) n 1) < suc n
    go true m again = omega arith
    go false m again =
        subst (λ (k : ℕ). k < suc n) (sym (first_past (λ i. eqb (get_or (d ∷ ds) i no_record).index piece) n 0))
        (omega (arith, again m))

pub seek_absent : (n piece : ℕ) (ds : Records) → n ≤ length ds → has_record piece (take n ds) ≡ false → seek_from n 0 ds piece ≡ n
unfolding has_record
seek_absent zero piece ds h e = refl
seek_absent (suc n) piece [] h e = absurd (nothing_there h)
  where
    nothing_there : suc n ≤ 0 → ⊥
    nothing_there l = omega (arith, l)
seek_absent (suc n) piece (d ∷ ds) h e = go (eqb d.index piece) e (seek_absent n piece ds (le_of_suc-le-suc h))
  where
    go : (t : Bool) → t || has_record piece (take n ds) ≡ false → (has_record piece (take n ds) ≡ false → seek_from n 0 ds piece ≡ n)
        → place_of t 0 (first_from (λ i. eqb (get_or (d ∷ ds) i no_record).index piece) n 1) ≡ suc n
    go true m again = absurd (subst T m tt)
    go false m again = first_past (λ i. eqb (get_or (d ∷ ds) i no_record).index piece) n 0 ∙ ap suc (again m)

-- ---- a removal
pub close_front : (t : ℕ) (e : DownloadingPiece) (es : Records) → t ≤ length es → close_gap t 0 (e ∷ es) ≡ take t es ++ drop t (e ∷ es)
close_front zero e es h = refl
close_front (suc t) e [] h = absurd (nothing_there h)
  where
    nothing_there : suc t ≤ 0 → ⊥
    nothing_there l = omega (arith, l)
close_front (suc t) e (f ∷ fs) h = close_past t 0 f (f ∷ fs) ∙ ap (λ (l : Records). f ∷ l) (close_front t f fs (le_of_suc-le-suc h))

-- the first of the piece left out
unfoldable without_first : (piece : ℕ) (ds : Records) → Records
without_first piece [] = []
without_first piece (d ∷ ds) = cond (eqb d.index piece) ds (d ∷ without_first piece ds)

remove_whole : (n piece : ℕ) (ds : Records) → n ≤ length ds → has_record piece (take n ds) ≡ true
    → removed_at (seek_from n 0 ds piece) n ds ≡ without_first piece (take n ds) ++ drop (n - 1) ds
unfolding has_record without_first
remove_whole zero piece ds h e = absurd (subst T (sym e) tt)
remove_whole (suc n) piece [] h e = absurd (subst T (sym e) tt)
remove_whole (suc n) piece (d ∷ ds) h e =
    go (eqb d.index piece) e (remove_whole n piece ds (le_of_suc-le-suc h))
    ∙ ap (λ (k : ℕ). without_first piece (d ∷ take n ds) ++ drop k (d ∷ ds)) (sym (one_less n))
  where
    later : (m : ℕ) → has_record piece (take m ds) ≡ true → drop (m - 1) ds ≡ drop m (d ∷ ds)
    later zero k = absurd (subst T (sym k) tt)
    later (suc m) k = ap (λ (i : ℕ). drop i ds) (one_less m)

    go : (t : Bool) → t || has_record piece (take n ds) ≡ true
        → (has_record piece (take n ds) ≡ true → removed_at (seek_from n 0 ds piece) n ds ≡ without_first piece (take n ds) ++ drop (n - 1) ds)
        → removed_at (place_of t 0 (first_from (λ i. eqb (get_or (d ∷ ds) i no_record).index piece) n 1)) (suc n) (d ∷ ds)
        ≡ cond {A = Records} t (take n ds) (d ∷ without_first piece (take n ds)) ++ drop n (d ∷ ds)
    go true m again = ap (λ (k : ℕ). close_gap k 0 (d ∷ ds)) whole ∙ close_front n d ds (le_of_suc-le-suc h)
      where
        whole : suc n - 1 - 0 ≡ n
        whole = omega arith
    go false m again =
        ap (λ (k : ℕ). removed_at k (suc n) (d ∷ ds)) (first_past (λ i. eqb (get_or (d ∷ ds) i no_record).index piece) n 0)
        ∙ ap (λ (k : ℕ). close_gap k (suc (seek_from n 0 ds piece)) (d ∷ ds)) (shorter (seek_from n 0 ds piece))
        ∙ close_past (n - 1 - seek_from n 0 ds piece) (seek_from n 0 ds piece) d ds
        ∙ ap (λ (l : Records). d ∷ l) (again m)
        ∙ ap (λ (l : Records). d ∷ (without_first piece (take n ds) ++ l)) (later n m)
      where
        shorter : (k : ℕ) → suc n - 1 - suc k ≡ n - 1 - k
        shorter k = omega arith

length_without : (piece : ℕ) (l : Records) → has_record piece l ≡ true → length (without_first piece l) ≡ length l - 1
unfolding has_record without_first
length_without piece [] e = absurd (subst T (sym e) tt)
length_without piece (d ∷ ds) e = go (eqb d.index piece) e (length_without piece ds) ∙ sym (one_less (length ds))
  where
    some_left : (l : Records) → has_record piece l ≡ true → suc (length l - 1) ≡ length l
    some_left [] m = absurd (subst T (sym m) tt)
    some_left (x ∷ xs) m = ap suc (one_less (length xs))

    go : (t : Bool) → t || has_record piece ds ≡ true → (has_record piece ds ≡ true → length (without_first piece ds) ≡ length ds - 1)
        → length (cond {A = Records} t ds (d ∷ without_first piece ds)) ≡ length ds
    go true m again = refl
    go false m again = ap suc (again m) ∙ some_left ds m

-- ---- rising pieces
unfoldable pub RisesBy : (low : ℕ) (d : DownloadingPiece) (ds : Records) → Type 0
RisesBy low d ds = (low ≤ d.index) × (rising_from (suc d.index) ds ≡ true)

-- the first record of a rising list is not below `low`, and the rest rises from behind it
pub rises : (low : ℕ) (d : DownloadingPiece) (ds : Records) → rising_from low (d ∷ ds) ≡ true → RisesBy low d ds
unfolding rising_from RisesBy
rises low d ds r = go (ltb low (suc d.index)) refl r
  where
    go : (t : Bool) → ltb low (suc d.index) ≡ t → t && rising_from (suc d.index) ds ≡ true → (low ≤ d.index)
        × (rising_from (suc d.index) ds ≡ true)
    go true eq m = (le_of_suc-le-suc (ltb→lt low (suc d.index) (subst T (sym eq) tt)), m)
    go false eq m = absurd (subst T (sym m) tt)

-- none of a piece that is lower than all
without_low : (piece low : ℕ) (l : Records) → rising_from low l ≡ true → piece < low → without_record piece l ≡ l
unfolding without_record RisesBy
without_low piece low [] r h = refl
without_low piece low (d ∷ ds) r h =
    ap (λ (t : Bool). cond {A = Records} (not t) (d ∷ without_record piece ds) (without_record piece ds)) (fails (eqb d.index piece) other)
    ∙ ap (λ (l : Records). d ∷ l) (without_low piece (suc d.index) ds (rises low d ds r).1 (omega (arith, h, (rises low d ds r).0)))
  where
    other : T (eqb d.index piece) → ⊥
    other t = omega (arith, eqb→eq d.index piece t, h, (rises low d ds r).0)

replace_low : (x : DownloadingPiece) (low : ℕ) (l : Records) → rising_from low l ≡ true → x.index < low → replace_record x l ≡ l
unfolding replace_record RisesBy
replace_low x low [] r h = refl
replace_low x low (d ∷ ds) r h =
    ap (λ (t : Bool). cond {A = DownloadingPiece} t x d ∷ replace_record x ds) (fails (eqb d.index x.index) other)
    ∙ ap (λ (l : Records). d ∷ l) (replace_low x (suc d.index) ds (rises low d ds r).1 (omega (arith, h, (rises low d ds r).0)))
  where
    other : T (eqb d.index x.index) → ⊥
    other t = omega (arith, eqb→eq d.index x.index t, h, (rises low d ds r).0)

-- of a rising list the first of the piece is the only one
without_one : (piece low : ℕ) (l : Records) → rising_from low l ≡ true → without_first piece l ≡ without_record piece l
unfolding without_first without_record RisesBy
without_one piece low [] r = refl
without_one piece low (d ∷ ds) r = go (eqb d.index piece) refl (without_one piece (suc d.index) ds (rises low d ds r).1)
  where
    go : (t : Bool) → eqb d.index piece ≡ t → without_first piece ds ≡ without_record piece ds
        → cond {A = Records} t ds (d ∷ without_first piece ds) ≡ cond {A = Records} (not t) (d ∷ without_record piece ds)
        (without_record piece ds)
    go true eq again = sym (without_low piece (suc d.index) ds (rises low d ds r).1
        (omega (arith, eqb→eq d.index piece (subst T (sym eq) tt))))
    go false eq again = ap (λ (l : Records). d ∷ l) again

removed_there : (n piece : ℕ) (ds : Records) → n ≤ length ds → has_record piece (take n ds) ≡ true → removed n piece ds
    ≡ without_first piece (take n ds) ++ drop (n - 1) ds
removed_there n piece ds h e =
    ap (λ (t : Bool). cond {A = Records} t ds (removed_at (seek_from n 0 ds piece) n ds)) (fails (leb n (seek_from n 0 ds piece)) inside)
    ∙ remove_whole n piece ds h e
  where
    inside : T (leb n (seek_from n 0 ds piece)) → ⊥
    inside t = omega (arith, leb→le n (seek_from n 0 ds piece) t, seek_there n piece ds h e)

length_left : (n piece : ℕ) (ds : Records) → n ≤ length ds → has_record piece (take n ds) ≡ true → length (without_first piece (take n ds))
    ≡ n - 1
length_left n piece ds h e = length_without piece (take n ds) e ∙ ap (λ (k : ℕ). k - 1) (length-take-le n ds h)

-- the live records after the removal of a piece that has one: those of other pieces
pub removed_live : (n piece : ℕ) (ds : Records) → n ≤ length ds → rising_from 0 (take n ds) ≡ true → has_record piece (take n ds) ≡ true
    → take (n - 1) (removed n piece ds) ≡ without_record piece (take n ds)
removed_live n piece ds h r e =
    ap (take (n - 1)) (removed_there n piece ds h e)
    ∙ take_at (without_first piece (take n ds)) (drop (n - 1) ds) (n - 1) (length_left n piece ds h e)
    ∙ without_one piece 0 (take n ds) r

-- no record of the piece: nothing moves
pub removed_absent : (n piece : ℕ) (ds : Records) → n ≤ length ds → has_record piece (take n ds) ≡ false → removed n piece ds ≡ ds
removed_absent n piece ds h e =
    ap (λ (t : Bool). cond {A = Records} t ds (removed_at (seek_from n 0 ds piece) n ds))
    (holds (leb n (seek_from n 0 ds piece)) (le→leb n (seek_from n 0 ds piece) (omega (arith, seek_absent n piece ds h e))))

behind_one : (k : ℕ) (l ds : Records) → length l ≡ k → drop (k + 1) (l ++ drop k ds) ≡ drop (k + 1) ds
behind_one k l ds e = sym (drop-drop 1 k (l ++ drop k ds)) ∙ ap (drop 1) (drop_at l (drop k ds) k e) ∙ drop-drop 1 k ds

-- from the last live place on nothing moved
pub removed_behind : (n piece : ℕ) (ds : Records) → n ≤ length ds → drop n (removed n piece ds) ≡ drop n ds
removed_behind n piece ds h = go (has_record piece (take n ds)) refl
  where
    go : (t : Bool) → has_record piece (take n ds) ≡ t → drop n (removed n piece ds) ≡ drop n ds
    go true e =
        subst (λ (m : ℕ). drop m (removed n piece ds) ≡ drop m ds) some
        (ap (drop (n - 1 + 1)) (removed_there n piece ds h e) ∙ behind_one (n - 1) (without_first piece (take n ds)) ds
        (length_left n piece ds h e))
      where
        some : n - 1 + 1 ≡ n
        some = omega (arith, seek_there n piece ds h e)
    go false e = ap (drop n) (removed_absent n piece ds h e)

-- ---- a replacement
-- d in the place of the first of its piece
unfoldable replace_first : (d : DownloadingPiece) (ds : Records) → Records
replace_first d [] = []
replace_first d (e ∷ es) = cond (eqb e.index d.index) (d ∷ es) (e ∷ replace_first d es)

replace_whole : (n : ℕ) (d : DownloadingPiece) (ds : Records) → n ≤ length ds → replaced n d ds ≡ replace_first d (take n ds) ++ drop n ds
unfolding replace_first
replace_whole zero d ds h = ap (λ (t : Bool). cond {A = Records} t ds (set ds 0 d)) (holds (leb 0 0) (le→leb 0 0 (omega arith)))
replace_whole (suc n) d [] h = absurd (nothing_there h)
  where
    nothing_there : suc n ≤ 0 → ⊥
    nothing_there l = omega (arith, l)
replace_whole (suc n) d (e ∷ es) h = go (eqb e.index d.index) (replace_whole n d es (le_of_suc-le-suc h))
  where
    seek : ℕ
    seek = first_from (λ i. eqb (get_or (e ∷ es) i no_record).index d.index) n 1

    later : (k : ℕ) (t : Bool) → leb n k ≡ t
        → cond {A = Records} (leb (suc n) (suc k)) (e ∷ es) (e ∷ set es k d) ≡ e ∷ cond {A = Records} (leb n k) es (set es k d)
    later k true b =
        ap (λ (t : Bool). cond {A = Records} t (e ∷ es) (e ∷ set es k d))
        (holds (leb (suc n) (suc k)) (le→leb (suc n) (suc k) (omega (arith, leb→le n k (subst T (sym b) tt)))))
        ∙ ap (λ (t : Bool). e ∷ cond {A = Records} t es (set es k d)) (sym b)
    later k false b =
        ap (λ (t : Bool). cond {A = Records} t (e ∷ es) (e ∷ set es k d))
        (fails (leb (suc n) (suc k)) (λ t. subst T b (le→leb n k (le_of_suc-le-suc (leb→le (suc n) (suc k) t)))))
        ∙ ap (λ (t : Bool). e ∷ cond {A = Records} t es (set es k d)) (sym b)

    go : (t : Bool) → replaced n d es ≡ replace_first d (take n es) ++ drop n es
        → cond {A = Records} (leb (suc n) (place_of t 0 seek)) (e ∷ es) (set (e ∷ es) (place_of t 0 seek) d)
        ≡ cond {A = Records} t (d ∷ take n es) (e ∷ replace_first d (take n es)) ++ drop n es
    go true again =
        ap (λ (t : Bool). cond {A = Records} t (e ∷ es) (d ∷ es)) (fails (leb (suc n) 0) (λ t. past (leb→le (suc n) 0 t)))
        ∙ ap (λ (l : Records). d ∷ l) (sym (take-append-drop n es))
      where
        past : suc n ≤ 0 → ⊥
        past l = omega (arith, l)
    go false again =
        ap (λ (k : ℕ). cond {A = Records} (leb (suc n) k) (e ∷ es) (set (e ∷ es) k d))
        (first_past (λ i. eqb (get_or (e ∷ es) i no_record).index d.index) n 0)
        ∙ later (seek_from n 0 es d.index) (leb n (seek_from n 0 es d.index)) refl
        ∙ ap (λ (l : Records). e ∷ l) again

length_replace : (d : DownloadingPiece) (l : Records) → length (replace_first d l) ≡ length l
unfolding replace_first
length_replace d [] = refl
length_replace d (e ∷ es) = go (eqb e.index d.index) (length_replace d es)
  where
    go : (t : Bool) → length (replace_first d es) ≡ length es → length (cond {A = Records} t (d ∷ es) (e ∷ replace_first d es))
        ≡ suc (length es)
    go true again = refl
    go false again = ap suc again

replace_one : (d : DownloadingPiece) (low : ℕ) (l : Records) → rising_from low l ≡ true → replace_first d l ≡ replace_record d l
unfolding replace_first replace_record RisesBy
replace_one d low [] r = refl
replace_one d low (e ∷ es) r = go (eqb e.index d.index) refl (replace_one d (suc e.index) es (rises low e es r).1)
  where
    go : (t : Bool) → eqb e.index d.index ≡ t → replace_first d es ≡ replace_record d es
        → cond {A = Records} t (d ∷ es) (e ∷ replace_first d es) ≡ cond {A = DownloadingPiece} t d e ∷ replace_record d es
    go true eq again =
        ap (λ (l : Records). d ∷ l)
        (sym (replace_low d (suc e.index) es (rises low e es r).1 (omega (arith, eqb→eq e.index d.index (subst T (sym eq) tt)))))
    go false eq again = ap (λ (l : Records). e ∷ l) again

length_kept : (n : ℕ) (d : DownloadingPiece) (ds : Records) → n ≤ length ds → length (replace_first d (take n ds)) ≡ n
length_kept n d ds h = length_replace d (take n ds) ∙ length-take-le n ds h

-- the live records after a replacement: d in the place of its piece's
pub replaced_live : (n : ℕ) (d : DownloadingPiece) (ds : Records) → n ≤ length ds → rising_from 0 (take n ds) ≡ true
    → take n (replaced n d ds) ≡ replace_record d (take n ds)
replaced_live n d ds h r =
    ap (take n) (replace_whole n d ds h)
    ∙ take_at (replace_first d (take n ds)) (drop n ds) n (length_kept n d ds h)
    ∙ replace_one d 0 (take n ds) r

-- behind them nothing moved
pub replaced_behind : (n : ℕ) (d : DownloadingPiece) (ds : Records) → n ≤ length ds → drop n (replaced n d ds) ≡ drop n ds
replaced_behind n d ds h = ap (drop n) (replace_whole n d ds h) ∙ drop_at (replace_first d (take n ds)) (drop n ds) n (length_kept n d ds h)
