-- The live records as rows of numbers: three columns of 512, the piece, the place of its blocks, the flags. Assumes nothing.
use Rattle.std.specs.Prelude.{cond, ℕ, zero, suc, ◌+◌, ltb, List, [], ◌∷◌, length, get_or, set, replicate}
use Rattle.memory_records.specs.declared.record.DownloadingPiece.{DownloadingPiece}
use Rattle.memory_records.specs.Records.{no_record}

-- the smaller one
abbrev pub lesser : (a b : ℕ) → ℕ
lesser a b = cond (ltb a b) a b

-- how many records are live by word 7 of a head of 16 words, at most 512
unfoldable pub live_records : (words : List ℕ) → ℕ
live_records words = cond (ltb (length words) 16) 0 (lesser (get_or words 7 0) 512)

-- row k holds d
unfoldable pub row_put : (rows : List ℕ) (k : ℕ) (d : DownloadingPiece) → List ℕ
row_put rows k d = set (set (set rows k d.index) (512 + k) d.info_idx) (1024 + k) d.flags

-- the record in row k
unfoldable pub row_at : (rows : List ℕ) (k : ℕ) → DownloadingPiece
row_at rows k = record { index = get_or rows k 0; info_idx = get_or rows (512 + k) 0; flags = get_or rows (1024 + k) 0 }

-- t records from place k on, each in its row
abbrev pub unpack_from : (t k : ℕ) (ds : List DownloadingPiece) (rows : List ℕ) → List ℕ
unpack_from zero k ds rows = rows
unpack_from (suc t) k ds rows = unpack_from t (suc k) ds (row_put rows k (get_or ds k no_record))

-- the first `live` records, as far as they are lent, each in its row
unfoldable pub unpacked : (live : ℕ) (ds : List DownloadingPiece) (rows : List ℕ) → List ℕ
unpacked live ds rows = unpack_from (lesser live (length ds)) 0 ds rows

-- t rows from k on, each as the record at its place
abbrev pub pack_from : (t k : ℕ) (rows : List ℕ) (ds : List DownloadingPiece) → List DownloadingPiece
pack_from zero k rows ds = ds
pack_from (suc t) k rows ds = pack_from t (suc k) rows (set ds k (row_at rows k))

-- the first n rows as the first n records
unfoldable pub packed : (n : ℕ) (rows : List ℕ) (ds : List DownloadingPiece) → List DownloadingPiece
packed n rows ds = pack_from n 0 rows ds

-- t rows from k on, as records
abbrev pub records_from : (t k : ℕ) (rows : List ℕ) → List DownloadingPiece
records_from zero k rows = []
records_from (suc t) k rows = row_at rows k ∷ records_from t (suc k) rows

-- the first n rows, as records
unfoldable pub records_in : (n : ℕ) (rows : List ℕ) → List DownloadingPiece
records_in n rows = records_from n 0 rows

-- the rows that every public call works on
abbrev pub rows_of : (words : List ℕ) (ds : List DownloadingPiece) → List ℕ
rows_of words ds = unpacked (live_records words) ds (replicate 1536 0)
