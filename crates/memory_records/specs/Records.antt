-- The lent records by place and by piece: searches, and one put in, taken out or replaced. Assumes nothing.
use Rattle.std.specs.Prelude.{◌≡◌, Bool, true, false, cond, not, ◌&&◌, ◌||◌, ℕ, zero, suc, ◌+◌, ◌-◌, ◌<◌, ◌≤◌, ltb, leb, eqb, List, [], ◌∷◌, length, get_or, set, take, None, Option, Some}
use Rattle.memory_records.specs.declared.record.DownloadingPiece.{DownloadingPiece}
use Rattle.memory_records.specs.declared.edits.Edit.{Edit}
use Rattle.memory_records.specs.declared.edits.Edit.TheVariants.{Keep, Replace, Insert, Remove}

-- what stands past the last record
abbrev pub no_record : DownloadingPiece
no_record = record { index = 0; info_idx = 0; flags = 0 }

-- by rising piece, none below `low`
unfoldable pub rising_from : (low : ℕ) (ds : List DownloadingPiece) → Bool
rising_from low [] = true
rising_from low (d ∷ ds) = ltb low (suc d.index) && rising_from (suc d.index) ds

-- the first n are lent, and rise
abbrev pub Rising : (n : ℕ) (ds : List DownloadingPiece) → Type 0
Rising n ds = (n ≤ length ds) × (rising_from 0 (take n ds) ≡ true)

-- a choice by a truth value, of answers
abbrev pub choice_of : (test : Bool) (a b : Option ℕ) → Option ℕ
choice_of true a b = a
choice_of false a b = b

-- the answer of a search that stopped at place k of n
abbrev pub answer_of : (k n : ℕ) → Option ℕ
answer_of k n = choice_of (ltb k n) (Some k) None

-- a choice by a truth value, of places
abbrev pub place_of : (test : Bool) (a b : ℕ) → ℕ
place_of true a b = a
place_of false a b = b

-- the first of t places from k on that passes a test, or the place behind them
abbrev pub first_from : (test : ℕ → Bool) (t k : ℕ) → ℕ
first_from test zero k = k
first_from test (suc t) k = place_of (test k) k (first_from test t (suc k))

-- the first of t records from place k on that is of a piece
abbrev pub seek_from : (t k : ℕ) (ds : List DownloadingPiece) (piece : ℕ) → ℕ
seek_from t k ds piece = first_from (λ i. eqb (get_or ds i no_record).index piece) t k

-- the first of t records from place k on that is of a higher piece
abbrev pub above_from : (t k : ℕ) (ds : List DownloadingPiece) (piece : ℕ) → ℕ
above_from t k ds piece = first_from (λ i. ltb piece (get_or ds i no_record).index) t k

-- t records from place i on, the last one first, each to the place after its own
abbrev pub open_gap : (t i : ℕ) (ds : List DownloadingPiece) → List DownloadingPiece
open_gap zero i ds = ds
open_gap (suc t) i ds = open_gap t i (set ds (suc (i + t)) (get_or ds (i + t) no_record))

-- t records after place i, the first one first, each to the place before its own
abbrev pub close_gap : (t i : ℕ) (ds : List DownloadingPiece) → List DownloadingPiece
close_gap zero i ds = ds
close_gap (suc t) i ds = close_gap t (suc i) (set ds i (get_or ds (suc i) no_record))

-- d at place q of the first n, those from q on one place up
abbrev pub inserted_at : (q n : ℕ) (d : DownloadingPiece) (ds : List DownloadingPiece) → List DownloadingPiece
inserted_at q n d ds = set (open_gap (n - q) q ds) q d

-- d among the first n, before those of higher pieces
abbrev pub inserted : (n : ℕ) (d : DownloadingPiece) (ds : List DownloadingPiece) → List DownloadingPiece
inserted n d ds = inserted_at (above_from n 0 ds d.index) n d ds

-- the record at place q of the first n taken out: those after it one place down
abbrev pub removed_at : (q n : ℕ) (ds : List DownloadingPiece) → List DownloadingPiece
removed_at q n ds = close_gap (n - 1 - q) q ds

-- the piece's record out of the first n, where there is one
abbrev pub removed : (n piece : ℕ) (ds : List DownloadingPiece) → List DownloadingPiece
removed n piece ds = cond (leb n (seek_from n 0 ds piece)) ds (removed_at (seek_from n 0 ds piece) n ds)

-- d in the place of its piece's record among the first n, where there is one
abbrev pub replaced : (n : ℕ) (d : DownloadingPiece) (ds : List DownloadingPiece) → List DownloadingPiece
replaced n d ds = cond (leb n (seek_from n 0 ds d.index)) ds (set ds (seek_from n 0 ds d.index) d)

-- the first n are lent, and one more where a record is put in
abbrev pub HasRoom : (n : ℕ) (edit : Edit) (ds : List DownloadingPiece) → Type 0
HasRoom n Keep ds = n ≤ length ds
HasRoom n (Replace d) ds = n ≤ length ds
HasRoom n (Insert d) ds = n < length ds
HasRoom n (Remove piece) ds = n ≤ length ds

-- what an edit relies on: there is room, and the first n rise, by which it finds its place
abbrev pub EditFits : (n : ℕ) (edit : Edit) (ds : List DownloadingPiece) → Type 0
EditFits n Keep ds = n ≤ length ds
EditFits n (Replace d) ds = Rising n ds
EditFits n (Insert d) ds = (n < length ds) × Rising n ds
EditFits n (Remove piece) ds = Rising n ds

-- one edit of the first n
abbrev pub edited : (n : ℕ) (edit : Edit) (ds : List DownloadingPiece) → List DownloadingPiece
edited n Keep ds = ds
edited n (Replace d) ds = replaced n d ds
edited n (Insert d) ds = inserted n d ds
edited n (Remove piece) ds = removed n piece ds

-- ---- what the edits come to, on the live records alone
-- one is of the piece
unfoldable pub has_record : (piece : ℕ) (ds : List DownloadingPiece) → Bool
has_record piece [] = false
has_record piece (d ∷ ds) = eqb d.index piece || has_record piece ds

-- d before the first of a higher piece
unfoldable pub insert_record : (d : DownloadingPiece) (ds : List DownloadingPiece) → List DownloadingPiece
insert_record d [] = d ∷ []
insert_record d (e ∷ es) = cond (ltb d.index e.index) (d ∷ e ∷ es) (e ∷ insert_record d es)

-- those of other pieces
unfoldable pub without_record : (piece : ℕ) (ds : List DownloadingPiece) → List DownloadingPiece
without_record piece [] = []
without_record piece (d ∷ ds) = cond (not (eqb d.index piece)) (d ∷ without_record piece ds) (without_record piece ds)

-- d in the place of each of its piece
unfoldable pub replace_record : (d : DownloadingPiece) (ds : List DownloadingPiece) → List DownloadingPiece
replace_record d [] = []
replace_record d (e ∷ es) = cond (eqb e.index d.index) d e ∷ replace_record d es
