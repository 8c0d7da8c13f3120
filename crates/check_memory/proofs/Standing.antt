-- What a good verdict gives a call: a well-formed picker, and the bounds under which the buffers may be read and written. Assumes nothing.
use mathlib.Core.Path.{◌≡◌, refl, sym}
use Prim.Native.Nat.{ℕ, zero, suc, ◌≤◌, ◌<◌}
use native.Mathlib.Omega.{arith}
use native.Mathlib.Decide.{dec_lt}
use mathlib.Core.Bool.{Bool, true, false, not, or-true}
use mathlib.Core.List.{List, []}
use mathlib.Core.Option.{Option, none, none-ne-some}
use lib.Dec.{ltb, leb}
use lib.ListN.{length}
use borrow.Author.Tests.{eq-eqb, eqb-true, ltb-false, leb-true, not-true, not-false}
use Rattle.types.specs.declared.refusal.Refusal.{Refusal}
use Rattle.types.specs.declared.refusal.Refusal.TheVariants.{ShortMemory, IllFormedMemory}
use Rattle.model.specs.Lists.{member, any, every, from}
use Rattle.model.specs.Bep3.{num_pieces}
use Rattle.model.specs.State.{pieces_in, valid_geometry}
use Rattle.model.specs.list.Order.{rank}
use Rattle.model.specs.image.WellFormed.{head_ok, pieces_ok, partials_ok, extents_ok, listing_ok, well_formed}
use Rattle.model.proofs.base.Truths.{both_true, and_left, and_right, true_both, not_both}
use Rattle.list_entries.specs.Words.{listed_piece, listed_rank}
use Rattle.memory_records.specs.declared.record.DownloadingPiece.{DownloadingPiece as Record}
use Rattle.memory_records.specs.Rows.{live_records, records_in}
use Rattle.memory_records.proofs.laws.RowLaws.{length_records}
use Rattle.memory_layout.specs.declared.shape.Shape.{Shape}
use Rattle.memory_layout.specs.Tables.{tabulate}
use Rattle.memory_layout.specs.Offsets.{places_for}
use Rattle.memory_layout.specs.Decode.{head_word, piece_word, piece_cell, block_cell}
use Rattle.memory_layout.specs.Decode.{record_at, pieces_on, blocks_on, blocks_of, yes?, decode}
use Rattle.memory_layout.specs.Bounds.{ShapeOf, InBounds, PlainPieces, PlainBlock, PlainRecord, Plain, RanksHeld}
use Rattle.memory_layout.specs.Good.{short, head_raw, piece_raw, pieces_raw, block_raw, record_raw, place_raw, rank_raw, good_head, good_pieces}
use Rattle.memory_layout.specs.Good.{good_places, good_partials, good_extents, good_list, good_body, or_else, memory_refusal}
use Rattle.check_pieces.proofs.HeadLaws.{headed}
use Rattle.check_pieces.proofs.ExtentTests.{pieces_in_lem}
use Rattle.check_blocks.proofs.BelowLaws.{every_at}
use Rattle.check_partials.proofs.ReadyLaws.{placed}
use Rattle.check_memory.proofs.LengthLaws.{spanned}
use Rattle.check_memory.proofs.VerdictLaws.{head_any, passed, live_is}

-- ---- places
-- an element of a table stands in it
in_table : (f : ℕ → ℕ) (l k : ℕ) → k < l → member (f k) (tabulate l f) ≡ true
unfolding member any tabulate
in_table f zero k h = absurd (omega arith)
in_table f (suc l) zero h = rw (eq-eqb (f zero) (f zero) refl)
in_table f (suc l) (suc k) h = rw (in_table (λ j. f (suc j)) l k (omega arith), or-true)

module _ (rs : List Record) (n many : ℕ) (h : every (place_raw rs n) (from 0 many) ≡ true) where
  -- a later record has another place
  later_other : (k l : ℕ) → k < l → l < many → (record_at rs k).info_idx ≡ (record_at rs l).info_idx → ⊥
  unfolding place_raw
  later_other k l a b e =
      let f = and_right (ltb (record_at rs l).info_idx (places_for n)) _ (every_at (place_raw rs n) many h l b) in
      not_both (member (record_at rs l).info_idx (tabulate l (λ j. (record_at rs j).info_idx)))
      (rw e at (in_table (λ j. (record_at rs j).info_idx) l k a)) (not-true _ f)

  places_apart : (k l : ℕ) → k < many → l < many → (record_at rs k).info_idx ≡ (record_at rs l).info_idx → k ≡ l
  places_apart k l a b e = elim (dec_lt k l) [
    | yes p ↦ absurd (later_other k l p b e)
    | no p ↦ elim (dec_lt l k) [
      | yes q ↦ absurd (later_other l k q a (sym e))
      | no q ↦ omega (arith, p, q)
    ]
  ]

-- ---- the whole test
-- its parts
pub record Passes (lent : ℕ) (rs : List Record) (words cells : List ℕ) : Type 0 where
  pub there : 16 ≤ length words
  pub geometry : valid_geometry (head_word words 0) (head_word words 1) ≡ true
  pub long : short lent words cells ≡ false
  pub head : good_head rs words cells ≡ true
  pub pieces : good_pieces rs words cells ≡ true
  pub places : good_places rs words ≡ true
  pub partials : good_partials rs words cells ≡ true
  pub recent_extents : good_extents rs words cells ≡ true
  pub list : good_list rs words cells ≡ true

-- a table that refuses nothing: its first row does not, nor do the others
or_none : (t : Bool) (r : Refusal) (next : Option Refusal) → or_else t r next ≡ none → (t ≡ false) × (next ≡ none)
unfolding or_else
or_none true r next h = absurd (none-ne-some r (sym h))
or_none false r next h = (refl, h)

pub parts_pass : (lent : ℕ) (rs : List Record) (words cells : List ℕ) → memory_refusal lent rs words cells ≡ none → Passes lent rs words cells
unfolding memory_refusal good_body
parts_pass lent rs words cells h =
    let a = or_none (ltb (length words) 16) ShortMemory _ h in
    let b = or_none (not (valid_geometry (head_word words 0) (head_word words 1))) IllFormedMemory _ a.1 in
    let c = or_none (short lent words cells) ShortMemory _ b.1 in
    let d = or_none (not (good_body rs words cells)) IllFormedMemory none c.1 in
    let e = both_true (good_head rs words cells) _ (not-false (good_body rs words cells) d.0) in
    let f = both_true (good_pieces rs words cells) _ e.1 in
    let g = both_true (good_places rs words) _ f.1 in
    let i = both_true (good_partials rs words cells) _ g.1 in
    let j = both_true (good_extents rs words cells) _ i.1 in
    record {
      there = ltb-false (length words) 16 a.0;
      geometry = not-false _ b.0;
      long = c.0;
      head = e.0;
      pieces = f.0;
      places = g.0;
      partials = i.0;
      recent_extents = j.0;
      list = j.1;
    }

-- record k and its blocks
abbrev record_raw_at : (rs : List Record) (words cells : List ℕ) (k : ℕ) → Bool
record_raw_at rs words cells k = record_raw words cells (pieces_on words) (blocks_on words) (record_at rs k)

-- the picker that they mean is well-formed
pub well_formed_picker : (lent : ℕ) (rs : List Record) (words cells : List ℕ) → memory_refusal lent rs words cells ≡ none
    → well_formed (decode rs words cells) ≡ true
unfolding well_formed good_head good_pieces good_partials good_extents good_list
well_formed_picker lent rs words cells h =
    let v = parts_pass lent rs words cells h in
    let s = decode rs words cells in
    let a = and_right (head_raw words) (head_ok s) v.head in
    let b = eq-eqb (pieces_in s) (num_pieces s.total_size s.piece_size) (unfold pieces_on in pieces_in_lem rs words cells) in
    let c = and_right (pieces_raw words cells) (pieces_ok s 0 s.pieces) v.pieces in
    let d = and_right (every (record_raw_at rs words cells) (from 0 (head_word words 7))) (partials_ok s 0 0 s.pieces s.partials)
    v.partials in
    let e = and_right (every (rank_raw words (pieces_on words) (rank s)) (from 0 (head_word words 6))) (listing_ok s s.listing) v.list in
    true_both (head_ok s) _ a (true_both _ _ b (true_both (pieces_ok s 0 s.pieces) _ c
    (true_both (partials_ok s 0 0 s.pieces s.partials) _ d (true_both (extents_ok s [] s.recent_extents) _ v.recent_extents e))))

module _ (s : Shape) (lent : ℕ) (rows words cells : List ℕ) (g : ShapeOf s words)
    (h : memory_refusal lent (records_in (live_records words) rows) words cells ≡ none) where
  rs : List Record
  rs = records_in (live_records words) rows

  -- the buffers may be read and written
  pub in_bounds : InBounds s (records_in (live_records words) rows) words cells
  unfolding good_places yes? rs
  in_bounds =
      let v = parts_pass lent rs words cells h in
      let a = head_any rs words cells v.head in
      let p = passed s lent words cells g v.there v.geometry v.long a in
      let w = headed s words p in
      let e = live_is s lent words cells g v.there v.geometry v.long a in
      let sp = spanned s lent words cells g v.long in
      let q = placed rs words cells s g sp v.head v.pieces v.places (head_word words 7) refl in
      record {
        spans = sp;
        geometry = v.geometry;
        pieces = g.pieces;
        blocks = g.blocks;
        list = omega (arith, w.list, g.pieces);
        idle = λ f. w.idle (eqb-true (head_word words 5) 1 f);
        partials = q.few;
        live = omega (arith, length_records (live_records words) rows, e);
        recent_extents = w.recent_extents;
        placed = q.there;
        apart = places_apart rs (pieces_on words) (head_word words 7) v.places;
      }

-- ---- numbers that an image could hold
module _ (rs : List Record) (words cells : List ℕ) where
  raw_piece : good_pieces rs words cells ≡ true → (i : ℕ) → i < pieces_on words → piece_raw cells (pieces_on words) i ≡ true
  unfolding good_pieces pieces_raw
  raw_piece h = every_at (piece_raw cells (pieces_on words)) (pieces_on words) (both_true (pieces_raw words cells) _ h).0

  raw_record : good_partials rs words cells ≡ true → (k : ℕ) → k < head_word words 7 → record_raw_at rs words cells k ≡ true
  unfolding good_partials
  raw_record h =
      every_at (record_raw_at rs words cells) (head_word words 7)
      (both_true (every (record_raw_at rs words cells) (from 0 (head_word words 7))) _ h).0

plain_pieces : (cells : List ℕ) (n : ℕ) → ((i : ℕ) → i < n → piece_raw cells n i ≡ true) → PlainPieces n cells
unfolding piece_raw
plain_pieces cells n h =
    record {
      states = λ i l. leb-true (piece_cell cells n 1 i) 6 (and_left (leb (piece_cell cells n 1 i) 6) (leb (piece_cell cells n 3 i) 1) (h i l));
      flushed = λ i l. leb-true (piece_cell cells n 3 i) 1
          (and_right (leb (piece_cell cells n 1 i) 6) (leb (piece_cell cells n 3 i) 1) (h i l));
    }

plain_block : (cells : List ℕ) (n b p j : ℕ) → block_raw cells n b p j ≡ true → PlainBlock n b cells p j
unfolding block_raw
plain_block cells n b p j h =
    let a = both_true (leb (block_cell cells n b 0 p j) 3) (leb (block_cell cells n b 2 p j) 1) h in
    record { state = leb-true (block_cell cells n b 0 p j) 3 a.0; has = leb-true (block_cell cells n b 2 p j) 1 a.1 }

plain_record : (words cells : List ℕ) (n b : ℕ) (r : Record) → record_raw words cells n b r ≡ true → PlainRecord n b words cells r
unfolding record_raw
plain_record words cells n b r h =
    let a = both_true (leb r.flags 7) (every (block_raw cells n b r.info_idx) (from 0 (blocks_of words r.index))) h in
    record {
      flags = leb-true r.flags 7 a.0;
      blocks = λ j l. plain_block cells n b r.info_idx j
          (every_at (block_raw cells n b r.info_idx) (blocks_of words r.index) a.1 j l);
    }

pub plain : (s : Shape) (lent : ℕ) (rs : List Record) (words cells : List ℕ) → ShapeOf s words → memory_refusal lent rs words cells ≡ none
    → Plain s rs words cells
plain s lent rs words cells g h =
    let v = parts_pass lent rs words cells h in
    let a = head_any rs words cells v.head in
    let w = headed s words (passed s lent words cells g v.there v.geometry v.long a) in
    record {
      dirty = w.flag;
      pieces = rw g.pieces (plain_pieces cells (pieces_on words) (raw_piece rs words cells v.pieces));
      partials = λ k l. rw (g.pieces, g.blocks)
          (plain_record words cells (pieces_on words) (blocks_on words) (record_at rs k) (raw_record rs words cells v.partials k l));
    }

-- ---- each word of the list has the rank of its piece
pub ranks_held : (lent : ℕ) (rs : List Record) (words cells : List ℕ) → memory_refusal lent rs words cells ≡ none
    → RanksHeld (pieces_on words) words (rank (decode rs words cells))
unfolding good_list rank_raw
ranks_held lent rs words cells h k l =
    let v = parts_pass lent rs words cells h in
    let t = rank_raw words (pieces_on words) (rank (decode rs words cells)) in
    let a = both_true (every t (from 0 (head_word words 6))) (listing_ok (decode rs words cells) (decode rs words cells).listing)
    v.list in
    eqb-true (listed_rank (piece_word words (pieces_on words) 1 k))
    (rank (decode rs words cells) (listed_piece (piece_word words (pieces_on words) 1 k))) (every_at t (head_word words 6) a.0 k l)
