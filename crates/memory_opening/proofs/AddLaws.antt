-- All that opening a partial stores, from the rows: the contract of `add_partial`. Assumes nothing.
use mathlib.Core.Path.{◌≡◌, refl, sym, ap, subst, ◌∙◌}
use mathlib.Core.Logic.{◌≢◌}
use mathlib.Core.Bool.{true}
use mathlib.Core.Option.{none, some-injective}
use mathlib.Core.List.{List}
use Prim.Native.Nat.{ℕ, suc, ◌+◌, ◌<◌}
use native.Mathlib.Numerals.{add-one}
use native.Mathlib.Omega.{arith}
use lib.ListN.{length, get_or, set, take}
use Rattle.model.specs.State.{DownloadingPiece, Picker, payload_blocks_in_piece}
use Rattle.model.specs.change.Partials.{partial_of, fresh_partial, add_partial, replace_block}
use Rattle.model.specs.image.Sound.{partials_from}
use Rattle.model.proofs.sound.PartialLaws.{partial_of_add_same}
use Rattle.memory_records.specs.declared.record.DownloadingPiece.{DownloadingPiece as Record}
use Rattle.memory_records.specs.declared.edits.Edit.TheVariants.{Insert}
use Rattle.memory_records.specs.Records.{no_record, edited}
use Rattle.memory_records.specs.Rows.{records_in}
use Rattle.memory_records.proofs.laws.RowLaws.{length_records, records_at}
use Rattle.memory_layout.specs.declared.shape.Shape.{Shape}
use Rattle.memory_layout.specs.Decode.{head_word, blocks_of, record_at, decode}
use Rattle.memory_layout.specs.Changes.{partial_in}
use Rattle.memory_layout.specs.Bounds.{ShapeOf, InBounds}
use Rattle.memory_layout.proofs.ReadLaws.{SameRead}
use Rattle.memory_fields.specs.Reading.{WordsSay}
use Rattle.memory_blocks.specs.declared.info.BlockInfo.{BlockInfo}
use Rattle.memory_blocks.specs.Blocks.{block_of, BlockStored}
use Rattle.memory_places.specs.Places.{places_taken, PlacesBelow, PlacesApart, lowest_free}
use Rattle.memory_places.proofs.PlaceLaws.{place_free}
use Rattle.memory_partials.specs.Partials.{Edited}
use Rattle.memory_opening.specs.Opening.{Fresh, Opened}
use Rattle.memory_partials.proofs.RecordLaws.{at_live, slot}
use Rattle.memory_partials.proofs.CountLaws.{Counted, counted_store, counted_kept, counted_list, opened_rising}
use Rattle.memory_opening.proofs.OpenLaws.{opened_low, opened_here, opened}
use Rattle.memory_partials.proofs.MarkLaws.{Standing, standing_found, block_replaced}

-- the shape is the head's
pub bounds_shape : (s : Shape) (records : List Record) (words cells : List ℕ) → InBounds s records words cells → ShapeOf s words
bounds_shape s records words cells r = record { sizes = r.spans.in_words.sizes; pieces = r.pieces; blocks = r.blocks }

-- the rows have places that are there
pub rows_below : (s : Shape) (live : ℕ) (rows words cells : List ℕ) → InBounds s (records_in live rows) words cells → live ≡ head_word words 7
    → PlacesBelow s.places live rows
unfolding record_at
rows_below s live rows words cells r e k h =
    subst (λ (x : Record). x.info_idx < s.places) (records_at live rows k h) (r.placed k (omega (arith, e)))

-- no two of them the same
pub rows_apart : (s : Shape) (live : ℕ) (rows words cells : List ℕ) → InBounds s (records_in live rows) words cells → live ≡ head_word words 7
    → PlacesApart live rows
unfolding record_at
rows_apart s live rows words cells r e k l h m q =
    r.apart k l (omega (arith, e)) (omega (arith, e))
    (ap (λ (x : Record). x.info_idx) (records_at live rows k h) ∙ (q ∙ sym (ap (λ (x : Record). x.info_idx) (records_at live rows l m))))

row_record : (live : ℕ) (rows : List ℕ) (records : List Record) → take live records ≡ records_in live rows → (k : ℕ) → k < live
    → record_at (records_in live rows) k ≡ record_at records k
unfolding record_at
row_record live rows records e k h = ap (λ (ds : List Record). get_or ds k no_record) (sym e) ∙ sym (at_live records live k h)

-- no live record has the lowest place that is free
record_free : (places live : ℕ) (rows : List ℕ) (records : List Record) → live < places → take live records ≡ records_in live rows
    → (k : ℕ) → k < live → (record_at records k).info_idx ≢ lowest_free places (places_taken live rows)
record_free places live rows records h e k l q =
    place_free places live rows h k l
    (ap (λ (x : Record). x.info_idx)
    (sym (at_live records live k l ∙ ap (λ (ds : List Record). get_or ds k no_record) e ∙ records_at live rows k l)) ∙ q)

-- the rows say what the records do that they were made of
pub rows_read : (s : Shape) (records : List Record) (live : ℕ) (rows words cells : List ℕ) → InBounds s records words cells
    → live ≡ head_word words 7 → take live records ≡ records_in live rows → SameRead s records (records_in live rows) words words cells cells
rows_read s records live rows words cells r el e = record {
  long_words = r.spans.in_words.long;
  long_cells = r.spans.in_cells.long;
  live = omega (arith, el, length_records live rows);
  head = λ k h. refl;
  extents = λ k h. refl;
  pads = λ k h. refl;
  list = λ k h. refl;
  fields = λ f k h l. refl;
  records_are = λ k h. row_record live rows records e k (omega (arith, el));
  blocks = λ k j f h l m. refl;
  peers = λ k j h l m. refl;
}

module _ (s : Shape) (i live : ℕ) (rows words cells words' cells' : List ℕ) (p many payload w : ℕ) (x : Record)
    (q : InBounds s (records_in live rows) words cells) (el : live ≡ head_word words 7) (room : live < s.places)
    (ep : p ≡ lowest_free s.places (places_taken live rows)) (hp : p < s.places) (em : many ≡ blocks_of words i)
    (says : WordsSay s words (λ d. payload_blocks_in_piece d i) payload) (b : Fresh s cells cells' p many payload) (ew : w ≡ live + 1)
    (stored : words' ≡ set words 7 w) (ei : x.index ≡ i) (ex : x.info_idx ≡ p) (ef : x.flags ≡ 0) where
  counted : Counted s words words' (suc (head_word words 7))
  counted = rw (stored, ew, el, add-one) (counted_store s words q.spans.in_words (suc (head_word words 7)))

  module _ (records : List Record) (r : InBounds s records words cells) (e : take live records ≡ records_in live rows)
      (fits : live < length records) where
    free : (k : ℕ) → k < head_word words 7 → (record_at records k).info_idx ≢ x.info_idx
    free k h z = record_free s.places live rows records room e k (omega (arith, el)) (z ∙ ex ∙ ep)

    fresh : Fresh s cells cells' x.info_idx (blocks_of words x.index) (payload_blocks_in_piece (decode records words cells) x.index)
    fresh =
        subst (λ (n : ℕ). Fresh s cells cells' n (blocks_of words x.index)
        (payload_blocks_in_piece (decode records words cells) x.index)) (sym ex)
        (subst (λ (n : ℕ). Fresh s cells cells' p (blocks_of words n) (payload_blocks_in_piece (decode records words cells) n)) (sym ei)
        (subst (λ (n : ℕ). Fresh s cells cells' p n (payload_blocks_in_piece (decode records words cells) i)) em
        (subst (λ (n : ℕ). Fresh s cells cells' p many n) (says.is records cells r) b)))

    became : Edited s (add_partial i) (Insert x) records words cells words' cells'
    became =
        subst (λ (n : ℕ). Edited s (add_partial n) (Insert x) records words cells words' cells') ei
        (opened s records words cells words' cells' x r (omega (arith, el)) counted (omega (arith, el)) ef (omega (arith, ex)) free fresh)

  pub opened_all : Opened s i live rows words cells words' cells' x
  opened_all = record {
    index = ei;
    place = ex ∙ ep;
    flags = ef;
    count = counted.count ∙ ap suc (sym el);
    words_kept = counted_kept s words words' (suc (head_word words 7)) counted;
    cells_kept = b.kept;
    list = counted_list s words words' (suc (head_word words 7)) counted;
    became = became;
  }

-- ---- what stands once a record is put in
module _ (s : Shape) (i live : ℕ) (rows words cells words' cells' : List ℕ) (x : Record)
    (o : Opened s i live rows words cells words' cells' x)
    (records : List Record) (r : InBounds s records words cells) (el : live ≡ head_word words 7) (fits : live < length records) where
  -- a live record of the piece, at the place taken
  pub opened_standing : (k : ℕ) × Standing (edited (head_word words 7) (Insert x) records) words' i
      (lowest_free s.places (places_taken live rows)) k
  opened_standing = (
    (slot x (take (head_word words 7) records)).0,
    record {
      low = omega (arith, o.count, el, opened_low s records words cells words cells x r (omega (arith, el)));
      index = ap (λ (y : Record). y.index) (opened_here s records words cells words cells x r (omega (arith, el))) ∙ o.index;
      place = ap (λ (y : Record). y.info_idx) (opened_here s records words cells words cells x r (omega (arith, el))) ∙ o.place;
    },
  )

  module _ (e : take live records ≡ records_in live rows) (rising : partials_from 0 (decode records words cells).partials ≡ true)
      (vacant : partial_of (decode records words cells) i ≡ none) (words'' cells'' : List ℕ) (j : ℕ) (y : BlockInfo)
      (b : BlockStored s words' cells' words'' cells'' (lowest_free s.places (places_taken live rows)) j y) where
    -- a block stored at that place is a block of the fresh partial replaced
    pub opened_block : Edited s (λ d. replace_block (fresh_partial d i) j (block_of y) (add_partial i d)) (Insert x) records words cells words''
        cells''
    opened_block =
        let a = o.became records r e fits in
        let up = opened_rising s i records words cells words' cells' rising x a vacant in
        let t = opened_standing in
        let d : Picker = decode records words cells in
        let after : Picker = decode (edited (head_word words 7) (Insert x) records) words' cells' in
        let found = standing_found s (edited (head_word words 7) (Insert x) records) words' cells' i _ t.0 t.1 a.bounds up in
        let put = block_replaced s (edited (head_word words 7) (Insert x) records) words' cells' i _ t.0 t.1 a.bounds up words''
        cells'' j y b in
        let same : partial_in after t.0 ≡ fresh_partial d i =
        some-injective (partial_in after t.0) (fresh_partial d i)
        (sym found ∙ ap (λ (z : Picker). partial_of z i) a.is ∙ partial_of_add_same d i vacant) in
        record {
          is = put.is ∙ ap (λ (z : DownloadingPiece). replace_block z j (block_of y) after) same
              ∙ ap (replace_block (fresh_partial d i) j (block_of y)) a.is;
          bounds = put.bounds;
          plain = λ p. put.plain (a.plain p);
        }
