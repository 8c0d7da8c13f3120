-- The rows of a call are its live records: the test of the memory says of them what it says of all records that are lent. Assumes nothing.
use mathlib.Core.Path.{◌≡◌, refl, sym, ap, ◌∙◌}
use mathlib.Core.Bool.{Bool, true, false, cond, not, ◌&&◌}
use mathlib.Core.List.{List, []}
use mathlib.Core.Option.{Option, none}
use Prim.Native.Nat.{ℕ, ◌≤◌, ◌<◌}
use native.Mathlib.Omega.{arith}
use lib.Dec.{eqb, ltb, leb}
use lib.ListN.{length, take}
use borrow.Author.Tests.{leb-true, ltb-false}
use Rattle.types.specs.declared.refusal.Refusal.{Refusal}
use Rattle.types.specs.declared.refusal.Refusal.TheVariants.{ShortMemory, IllFormedMemory}
use Rattle.model.specs.Lists.{every, from, member}
use Rattle.model.specs.State.{valid_geometry}
use Rattle.model.specs.list.Order.{rank}
use Rattle.model.specs.Memory.{memory_for}
use Rattle.model.specs.image.WellFormed.{head_ok, pieces_ok, partials_ok, extents_ok, listing_ok}
use Rattle.model.proofs.base.Truths.{and_left, and_right}
use Rattle.model.proofs.base.MemoryLaws.{long_enough}
use Rattle.memory_records.specs.declared.record.DownloadingPiece.{DownloadingPiece as Record}
use Rattle.memory_records.specs.Rows.{live_records, rows_of, records_in}
use Rattle.memory_records.proofs.laws.LiveLaws.{live_few}
use Rattle.memory_records.proofs.laws.RowLaws.{records_of}
use Rattle.memory_layout.specs.declared.shape.Shape.{Shape}
use Rattle.memory_layout.specs.Tables.{tabulate}
use Rattle.memory_layout.specs.Offsets.{places_for}
use Rattle.memory_layout.specs.Decode.{head_word, record_at, pieces_on, blocks_on, decode}
use Rattle.memory_layout.specs.Good.{lengths, short, head_raw, pieces_raw, record_raw, place_raw, rank_raw, good_head, good_pieces}
use Rattle.memory_layout.specs.Good.{good_places, good_partials, good_extents, good_list, good_body, or_else, memory_refusal}
use Rattle.memory_layout.proofs.EditedRecords.{decode_live, live_at}
use Rattle.memory_layout.proofs.TableLaws.{tabulate_ext}
use Rattle.memory_layout.proofs.OffsetLaws.{places_min}
use Rattle.check_pieces.proofs.Passes.{every_same}

-- ---- records that are the same as far as they are live
module _ (s : Shape) (rs ds : List Record) (words cells : List ℕ)
    (same : (k : ℕ) → k < head_word words 7 → record_at ds k ≡ record_at rs k) where
  abbrev one : decode ds words cells ≡ decode rs words cells
  one = decode_live s rs ds words cells same

  place_same : (k : ℕ) → k < head_word words 7 → place_raw ds (pieces_on words) k ≡ place_raw rs (pieces_on words) k
  unfolding place_raw
  place_same k h =
      let e : (record_at ds k).info_idx ≡ (record_at rs k).info_idx = ap (λ (r : Record). r.info_idx) (same k h) in
      let t : tabulate k (λ l. (record_at ds l).info_idx) ≡ tabulate k (λ l. (record_at rs l).info_idx) =
      tabulate_ext k (λ l. (record_at ds l).info_idx) (λ l. (record_at rs l).info_idx)
      (λ l m. ap (λ (r : Record). r.info_idx) (same l (omega arith))) in
      λ i. ltb (e i) (places_for (pieces_on words)) && not (member (e i) (t i))

  -- the test behind the head
  body_same : good_body ds words cells ≡ good_body rs words cells
  unfolding good_body good_head good_pieces good_places good_partials good_extents good_list
  body_same = λ i.
      (head_raw words && head_ok (one i))
      && ((pieces_raw words cells && pieces_ok (one i) 0 (one i).pieces)
      && (every_same (place_raw ds (pieces_on words)) (place_raw rs (pieces_on words)) 0 (head_word words 7)
      (λ k l u. place_same k (omega arith)) i
      && ((every_same (λ k. record_raw words cells (pieces_on words) (blocks_on words) (record_at ds k))
      (λ k. record_raw words cells (pieces_on words) (blocks_on words) (record_at rs k)) 0 (head_word words 7)
      (λ k l u. ap (record_raw words cells (pieces_on words) (blocks_on words)) (same k (omega arith))) i
      && partials_ok (one i) 0 0 (one i).pieces (one i).partials)
      && (extents_ok (one i) [] (one i).recent_extents
      && (every (rank_raw words (pieces_on words) (rank (one i))) (from 0 (head_word words 6)) && listing_ok (one i) (one i).listing)))))

-- ---- the rows of a call
module _ (words cells : List ℕ) (partials : List Record) where
  abbrev live : List Record
  live = records_in (live_records words) (rows_of words partials)

  -- the head is of both
  head_same : good_head partials words cells ≡ good_head live words cells
  unfolding good_head head_ok
  head_same = refl

  -- where a head passes in memory that is long enough, the rows are the first records
  module _ (long : 16 ≤ length words) (fits : short (length partials) words cells ≡ false) (head : good_head live words cells ≡ true) where
    few : (head_word words 7 ≤ 512) × (head_word words 7 ≤ length partials)
    unfolding good_head head_raw short lengths memory_for head_word
    few =
        let n = pieces_on words in
        let a = and_left (head_raw words) _ head in
        let b = and_right (leb (head_word words 5) 1) _ a in
        let c = and_right (leb (head_word words 6) (cond (eqb (head_word words 5) 1) 0 n)) _ b in
        let p = leb-true (head_word words 7) (places_for n) (and_left (leb (head_word words 7) (places_for n)) _ c) in
        let e = (long_enough (lengths (length partials) words cells) (memory_for n (blocks_on words)) fits).partials in
        (omega (arith, p, places_min n), omega (arith, p, e))

    pub live_number : live_records words ≡ head_word words 7
    unfolding head_word
    live_number = live_few words long few.0

    pub live_front : live ≡ take (head_word words 7) partials
    live_front =
        records_of words partials (live_records words) (omega arith) (omega (arith, live_number, few.1))
        ∙ ap (λ (n : ℕ). take n partials) live_number

    pub live_same : (k : ℕ) → k < head_word words 7 → record_at partials k ≡ record_at live k
    live_same k h = sym (ap (λ (l : List Record). record_at l k) live_front ∙ live_at (head_word words 7) partials few.1 k h)

-- ---- the test
-- two tables that agree where the first test does not hold
else_same : (t : Bool) (r : Refusal) (x y : Option Refusal) → (t ≡ false → x ≡ y) → or_else t r x ≡ or_else t r y
unfolding or_else
else_same true r x y h = refl
else_same false r x y h = h refl

-- the whole test says the same of the rows and of all records
module _ (words cells : List ℕ) (partials : List Record) where
  body_live : 16 ≤ length words → short (length partials) words cells ≡ false
      → good_body partials words cells ≡ good_body (records_in (live_records words) (rows_of words partials)) words cells
  unfolding good_body
  body_live long fits = go (good_head (live words cells partials) words cells) refl
    where
      shape : Shape
      shape = record { pieces = 0; blocks = 0; places = 0 }

      go : (t : Bool) → good_head (live words cells partials) words cells ≡ t
          → good_body partials words cells ≡ good_body (live words cells partials) words cells
      go true e = body_same shape (live words cells partials) partials words cells (live_same words cells partials long fits e)
      go false e = rw (head_same words cells partials, e) refl

  pub memory_live : memory_refusal (length partials) (records_in (live_records words) (rows_of words partials)) words cells
      ≡ memory_refusal (length partials) partials words cells
  unfolding memory_refusal
  memory_live =
      else_same (ltb (length words) 16) ShortMemory _ _ (λ a.
      else_same (not (valid_geometry (head_word words 0) (head_word words 1))) IllFormedMemory _ _ (λ b.
      else_same (short (length partials) words cells) ShortMemory _ _ (λ c.
      ap (λ (t : Bool). or_else (not t) IllFormedMemory none) (sym (body_live (ltb-false (length words) 16 a) c)))))
