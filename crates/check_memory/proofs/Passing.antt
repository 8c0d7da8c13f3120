-- The memory test passes exactly where a well-formed picker stands in the buffers: what a call gets from a passed test, and that the test
-- passes again after a change that leaves a well-formed picker. Assumes nothing.
use mathlib.Core.Path.{◌≡◌, refl, sym, ap, subst, ◌∙◌}
use Prim.Native.Nat.{ℕ, zero, suc, ◌≤◌, ◌<◌}
use native.Mathlib.Omega.{arith}
use native.Mathlib.Decide.{ℕ_discrete}
use mathlib.Core.Bool.{Bool, true, false, cond, not}
use mathlib.Core.List.{List, []}
use mathlib.Core.Option.{none}
use lib.Dec.{eqb, ltb, leb}
use lib.ListN.{length}
use borrow.Author.Tests.{eq-eqb, ne_eqb, lt-ltb, le-ltb, le-leb}
use Rattle.model.specs.Lists.{member, any, every, from}
use Rattle.model.specs.Bep3.{num_pieces}
use Rattle.model.specs.State.{Picker, pieces_in}
use Rattle.model.specs.list.Order.{rank}
use Rattle.model.specs.image.WellFormed.{head_ok, pieces_ok, partials_ok, extents_ok, listing_ok, well_formed}
use Rattle.model.specs.Memory.{memory_for}
use Rattle.model.proofs.base.Truths.{both_true, true_both}
use Rattle.model.proofs.base.MemoryLaws.{enough_long}
use Rattle.memory_records.specs.declared.record.DownloadingPiece.{DownloadingPiece as Record}
use Rattle.memory_records.specs.Rows.{live_records, records_in}
use Rattle.memory_layout.specs.declared.shape.Shape.{Shape}
use Rattle.memory_layout.specs.Tables.{tabulate}
use Rattle.memory_layout.specs.Offsets.{places_for, words_for, cells_for}
use Rattle.memory_layout.specs.Decode.{head_word, piece_cell, block_cell}
use Rattle.memory_layout.specs.Decode.{record_at, pieces_on, blocks_on, blocks_of, yes?, decode}
use Rattle.memory_layout.specs.Bounds.{ShapeOf, PlainPieces, PlainRecord, RanksHeld}
use Rattle.memory_layout.specs.Standing.{Stands, Changed}
use Rattle.memory_layout.specs.Good.{lengths, short, head_raw, piece_raw, pieces_raw, block_raw, record_raw, place_raw, rank_raw, good_head, good_pieces}
use Rattle.memory_layout.specs.Good.{good_places, good_partials, good_extents, good_list, good_body, or_else, memory_refusal}
use Rattle.memory_layout.proofs.OffsetLaws.{head_in}
use Rattle.memory_layout.proofs.StandingLaws.{changed_stands}
use Rattle.check_blocks.proofs.BelowLaws.{every_all}
use Rattle.check_memory.proofs.Standing.{well_formed_picker, in_bounds, plain, ranks_held}

-- ---- a passed test
pub passed_stands : (s : Shape) (lent : ℕ) (rows words cells : List ℕ) → ShapeOf s words
    → memory_refusal lent (records_in (live_records words) rows) words cells ≡ none
    → Stands s (records_in (live_records words) rows) words cells
passed_stands s lent rows words cells g h =
    let records = records_in (live_records words) rows in
    record {
      bounds = in_bounds s lent rows words cells g h;
      plain = plain s lent records words cells g h;
      ranks = subst (λ (n : ℕ). RanksHeld n words (rank (decode records words cells))) (sym g.pieces)
          (ranks_held lent records words cells h);
      sound = well_formed_picker lent records words cells h;
    }

-- ---- the parts of the test
-- what is no element of a table does not stand in it
not_in_table : (f : ℕ → ℕ) (x l : ℕ) → ((k : ℕ) → k < l → x ≡ f k → ⊥) → member x (tabulate l f) ≡ false
unfolding member any tabulate
not_in_table f x zero h = refl
not_in_table f x (suc l) h =
    rw (ne_eqb x (f zero) (h zero (omega arith)), not_in_table (λ j. f (suc j)) x l (λ k m. h (suc k) (omega arith)))

-- the length of the list, none where it is dirty
list_room : (dirty list n : ℕ) → (yes? dirty ≡ true → list ≡ 0) → list ≤ n → leb list (cond (eqb dirty 1) 0 n) ≡ true
unfolding yes?
list_room dirty list n idle room = elim (ℕ_discrete dirty 1) [
  | yes e ↦ let z = idle (eq-eqb dirty 1 e) in rw (eq-eqb dirty 1 e) (le-leb list 0 (omega arith))
  | no m ↦ rw (ne_eqb dirty 1 m) (le-leb list n room)
]

raw_piece : (cells : List ℕ) (n : ℕ) → PlainPieces n cells → (i : ℕ) → i < n → piece_raw cells n i ≡ true
unfolding piece_raw
raw_piece cells n p i h =
    true_both (leb (piece_cell cells n 1 i) 6) (leb (piece_cell cells n 3 i) 1) (le-leb (piece_cell cells n 1 i) 6 (p.states i h))
    (le-leb (piece_cell cells n 3 i) 1 (p.flushed i h))

raw_record : (words cells : List ℕ) (n b : ℕ) (r : Record) → PlainRecord n b words cells r → record_raw words cells n b r ≡ true
unfolding record_raw block_raw
raw_record words cells n b r p =
    true_both (leb r.flags 7) (every (block_raw cells n b r.info_idx) (from 0 (blocks_of words r.index)))
    (le-leb r.flags 7 p.flags)
    (every_all (block_raw cells n b r.info_idx) (blocks_of words r.index) (λ j h.
    let q = p.blocks j h in
    true_both (leb (block_cell cells n b 0 r.info_idx j) 3) (leb (block_cell cells n b 2 r.info_idx j) 1)
    (le-leb (block_cell cells n b 0 r.info_idx j) 3 q.state) (le-leb (block_cell cells n b 2 r.info_idx j) 1 q.has)))

module _ (s : Shape) (records : List Record) (words cells : List ℕ) (t : Stands s records words cells) where
  abbrev d : Picker
  d = decode records words cells

  -- places for partials, by the head
  places_are : s.places ≡ places_for (pieces_on words)
  places_are = t.bounds.spans.in_words.sizes.places ∙ ap places_for t.bounds.pieces

  head_raw_lem : head_raw words ≡ true
  unfolding head_raw
  head_raw_lem =
      true_both (leb (head_word words 5) 1) _ (le-leb (head_word words 5) 1 t.plain.dirty)
      (true_both (leb (head_word words 6) (cond (eqb (head_word words 5) 1) 0 (pieces_on words))) _
      (list_room (head_word words 5) (head_word words 6) (pieces_on words) t.bounds.idle
      (omega (arith, t.bounds.list, t.bounds.pieces)))
      (true_both (leb (head_word words 7) (places_for (pieces_on words))) (leb (head_word words 8) 5)
      (le-leb (head_word words 7) (places_for (pieces_on words)) (omega (arith, t.bounds.partials, places_are)))
      (le-leb (head_word words 8) 5 t.bounds.recent_extents)))

  pieces_raw_lem : pieces_raw words cells ≡ true
  unfolding pieces_raw
  pieces_raw_lem =
      every_all (piece_raw cells (pieces_on words)) (pieces_on words)
      (raw_piece cells (pieces_on words) (subst (λ (n : ℕ). PlainPieces n cells) t.bounds.pieces t.plain.pieces))

  places_good : good_places records words ≡ true
  unfolding good_places place_raw
  places_good = every_all (place_raw records (pieces_on words)) (head_word words 7) (λ k h.
      let x = (record_at records k).info_idx in
      let f : member x (tabulate k (λ l. (record_at records l).info_idx)) ≡ false =
      not_in_table (λ l. (record_at records l).info_idx) x k (λ l m e. omega (arith, t.bounds.apart k l h (omega arith) e)) in
      true_both (ltb x (places_for (pieces_on words))) (not (member x (tabulate k (λ l. (record_at records l).info_idx))))
      (lt-ltb x (places_for (pieces_on words)) (omega (arith, t.bounds.placed k h, places_are))) (ap not f))

  abbrev record_raw_at : ℕ → Bool
  record_raw_at k = record_raw words cells (pieces_on words) (blocks_on words) (record_at records k)

  records_raw : every record_raw_at (from 0 (head_word words 7)) ≡ true
  records_raw = every_all record_raw_at (head_word words 7) (λ k h.
      raw_record words cells (pieces_on words) (blocks_on words) (record_at records k)
      (subst (λ (n : ℕ). PlainRecord n (blocks_on words) words cells (record_at records k)) t.bounds.pieces
      (subst (λ (b : ℕ). PlainRecord s.pieces b words cells (record_at records k)) t.bounds.blocks (t.plain.partials k h))))

  ranks_raw : every (rank_raw words (pieces_on words) (rank d)) (from 0 (head_word words 6)) ≡ true
  unfolding rank_raw
  ranks_raw = every_all (rank_raw words (pieces_on words) (rank d)) (head_word words 6) (λ k h.
      eq-eqb _ _ (subst (λ (n : ℕ). RanksHeld n words (rank d)) t.bounds.pieces t.ranks k h))

  body_good : good_body records words cells ≡ true
  unfolding good_body good_head good_pieces good_partials good_extents good_list well_formed
  body_good =
      let a = both_true (head_ok d) _ t.sound in
      let b = both_true (eqb (pieces_in d) (num_pieces d.total_size d.piece_size)) _ a.1 in
      let c = both_true (pieces_ok d 0 d.pieces) _ b.1 in
      let e = both_true (partials_ok d 0 0 d.pieces d.partials) _ c.1 in
      let f = both_true (extents_ok d [] d.recent_extents) (listing_ok d d.listing) e.1 in
      true_both (good_head records words cells) _ (true_both (head_raw words) (head_ok d) head_raw_lem a.0)
      (true_both (good_pieces records words cells) _ (true_both (pieces_raw words cells) (pieces_ok d 0 d.pieces) pieces_raw_lem c.0)
      (true_both (good_places records words) _ places_good
      (true_both (good_partials records words cells) _
      (true_both (every record_raw_at (from 0 (head_word words 7))) (partials_ok d 0 0 d.pieces d.partials) records_raw e.0)
      (true_both (good_extents records words cells) (good_list records words cells) f.0
      (true_both (every (rank_raw words (pieces_on words) (rank d)) (from 0 (head_word words 6))) (listing_ok d d.listing) ranks_raw
      f.1)))))

  -- no buffer is short, where enough records are lent
  long_enough : (lent : ℕ) → s.places ≤ lent → short lent words cells ≡ false
  unfolding short lengths memory_for
  long_enough lent h =
      let w : words_for (pieces_on words) (blocks_on words) ≤ length words =
      subst (λ (n : ℕ). words_for n (blocks_on words) ≤ length words) t.bounds.pieces
      (subst (λ (b : ℕ). words_for s.pieces b ≤ length words) t.bounds.blocks t.bounds.spans.in_words.long) in
      let c : cells_for (pieces_on words) (blocks_on words) ≤ length cells =
      subst (λ (n : ℕ). cells_for n (blocks_on words) ≤ length cells) t.bounds.pieces
      (subst (λ (b : ℕ). cells_for s.pieces b ≤ length cells) t.bounds.blocks t.bounds.spans.in_cells.long) in
      enough_long (lengths lent words cells) (memory_for (pieces_on words) (blocks_on words)) (record {
        words = w;
        cells = c;
        partials = omega (arith, places_are);
      })

  -- ---- the whole test passes
  pub stands_passes : (lent : ℕ) → s.places ≤ lent → memory_refusal lent records words cells ≡ none
  unfolding memory_refusal or_else
  stands_passes lent h =
      rw (
        le-ltb (length words) 16 (head_in s words t.bounds.spans.in_words),
        t.bounds.geometry,
        long_enough lent h,
        body_good,
      )

-- and again after a change that leaves a well-formed picker
pub changed_passes : (s : Shape) (lent : ℕ) (after : Picker) (words cells : List ℕ) (records' : List Record) (words' cells' : List ℕ)
    → s.places ≤ lent → well_formed after ≡ true → Changed s after words cells records' words' cells'
    → memory_refusal lent records' words' cells' ≡ none
changed_passes s lent after words cells records' words' cells' h v c =
    stands_passes s records' words' cells' (changed_stands s after words cells records' words' cells' v c) lent h
