-- The test of the head, by the ways in which it fails or passes. Assumes nothing.
use mathlib.Core.Path.{◌≡◌, sym, ap, ◌∙◌}
use mathlib.Core.Bool.{true, false, cond, ◌&&◌}
use mathlib.Core.List.{List, []}
use Prim.Native.Nat.{ℕ, ◌≤◌, ◌<◌}
use native.Mathlib.Decide.{ℕ_discrete}
use native.Mathlib.Omega.{arith}
use lib.Dec.{eqb, leb}
use borrow.Author.Tests.{eq-eqb, ne_eqb, le-leb, lt-leb, leb-true}
use lib.ListN.{length}
use Rattle.model.specs.State.{valid_geometry}
use Rattle.model.specs.image.WellFormed.{head_ok}
use Rattle.model.proofs.base.Truths.{both_true}
use Rattle.memory_records.specs.declared.record.DownloadingPiece.{DownloadingPiece as Record}
use Rattle.memory_layout.specs.declared.shape.Shape.{Shape}
use Rattle.memory_layout.specs.Offsets.{places_for}
use Rattle.memory_layout.specs.Decode.{head_word, pieces_on, decode}
use Rattle.memory_layout.specs.Bounds.{ShapeOf}
use Rattle.memory_layout.specs.Good.{head_raw, good_head}
use Rattle.memory_layout.proofs.ColumnLaws.{words_room}
use Rattle.check_pieces.specs.Parts.{lengths_ok, ranges_ok, HeadTest, HeadPassed}

-- ---- flags and numbers
module _ (n places dirty list partials extents : ℕ) where
  pub many_dirty : 1 < dirty → false ≡ lengths_ok n places dirty list partials extents
  unfolding lengths_ok
  many_dirty h = rw (lt-leb dirty 1 h)

  pub dirty_listed : dirty ≡ 1 → 0 < list → false ≡ lengths_ok n places dirty list partials extents
  unfolding lengths_ok
  dirty_listed e h = rw (le-leb dirty 1 (omega arith), eq-eqb dirty 1 e, lt-leb list 0 h)

  module _ (s : dirty ≤ 1) where
    room : (dirty ≡ 1 → list ≤ 0) → list ≤ n → leb list (cond (eqb dirty 1) 0 n) ≡ true
    room f h = elim (ℕ_discrete dirty 1) [
      | yes e ↦ rw (eq-eqb dirty 1 e) (le-leb list 0 (f e))
      | no m ↦ rw (ne_eqb dirty 1 m) (le-leb list n h)
    ]

    pub long_list : n < list → false ≡ lengths_ok n places dirty list partials extents
    unfolding lengths_ok
    long_list h =
        let f : leb list (cond (eqb dirty 1) 0 n) ≡ false = elim (ℕ_discrete dirty 1) [
          | yes e ↦ rw (eq-eqb dirty 1 e) (lt-leb list 0 (omega arith))
          | no m ↦ rw (ne_eqb dirty 1 m) (lt-leb list n h)
        ] in
        rw (le-leb dirty 1 s, f)

    module _ (f : dirty ≡ 1 → list ≤ 0) (l : list ≤ n) where
      pub many_partials : places < partials → false ≡ lengths_ok n places dirty list partials extents
      unfolding lengths_ok
      many_partials h = rw (le-leb dirty 1 s, room f l, lt-leb partials places h)

      pub extents_test : partials ≤ places → leb extents 5 ≡ lengths_ok n places dirty list partials extents
      unfolding lengths_ok
      extents_test h = rw (le-leb dirty 1 s, room f l, le-leb partials places h)

-- ---- seeds and cursors
module _ (n seeds cursor reverse : ℕ) where
  pub many_seeds : 1000 < seeds → false ≡ ranges_ok n seeds cursor reverse
  unfolding ranges_ok
  many_seeds h = rw (lt-leb seeds 1000 h)

  pub far_cursor : seeds ≤ 1000 → n < cursor → false ≡ ranges_ok n seeds cursor reverse
  unfolding ranges_ok
  far_cursor s h = rw (le-leb seeds 1000 s, lt-leb cursor n h)

  pub reverse_test : seeds ≤ 1000 → cursor ≤ n → leb reverse n ≡ ranges_ok n seeds cursor reverse
  unfolding ranges_ok
  reverse_test s h = rw (le-leb seeds 1000 s, le-leb cursor n h)

-- ---- the head of a memory
module _ (words : List ℕ) (v : valid_geometry (head_word words 0) (head_word words 1) ≡ true) where
  pub head_parts : (records : List Record) (cells : List ℕ) → good_head records words cells
      ≡ (lengths_ok (pieces_on words) (places_for (pieces_on words)) (head_word words 5) (head_word words 6) (head_word words 7) (head_word words 8)
      && ranges_ok (pieces_on words) (head_word words 2) (head_word words 3) (head_word words 4))
  unfolding good_head head_raw head_ok lengths_ok ranges_ok pieces_on
  head_parts records cells = rw v

  -- by the words that were read
  module _ (s : Shape) (h : ShapeOf s words) (n places dirty list partials extents : ℕ) (en : n ≡ s.pieces) (ep : places ≡ s.places)
      (e5 : dirty ≡ head_word words 5) (e6 : list ≡ head_word words 6) (e7 : partials ≡ head_word words 7) (e8 : extents ≡ head_word words 8) where
    lengths_read : lengths_ok (pieces_on words) (places_for (pieces_on words)) (head_word words 5) (head_word words 6) (head_word words 7) (head_word words 8)
        ≡ lengths_ok n places dirty list partials extents
    lengths_read =
        let e = en ∙ h.pieces in
        let f = ep ∙ h.sizes.places ∙ ap places_for h.pieces in
        λ k. lengths_ok (sym e k) (sym f k) (sym e5 k) (sym e6 k) (sym e7 k) (sym e8 k)

    pub head_bad : lengths_ok n places dirty list partials extents ≡ false → HeadTest false words
    head_bad e records cells = sym (head_parts records cells ∙ rw (lengths_read ∙ e))

    pub head_rest : lengths_ok n places dirty list partials extents ≡ true → (seeds cursor reverse : ℕ)
        → seeds ≡ head_word words 2 → cursor ≡ head_word words 3 → reverse ≡ head_word words 4 → HeadTest (ranges_ok n seeds cursor reverse) words
    head_rest e seeds cursor reverse e2 e3 e4 records cells =
        (λ k. ranges_ok ((en ∙ h.pieces) k) (e2 k) (e3 k) (e4 k)) ∙ sym (head_parts records cells ∙ rw (lengths_read ∙ e))

-- ---- what a head that passes gives
pub record Headed (words : List ℕ) : Type 0 where
  pub flag : head_word words 5 ≤ 1
  pub idle : head_word words 5 ≡ 1 → head_word words 6 ≡ 0
  pub list : head_word words 6 ≤ pieces_on words
  pub partials : head_word words 7 ≤ places_for (pieces_on words)
  pub recent_extents : head_word words 8 ≤ 5
  pub seeds : head_word words 2 ≤ 1000

-- a bound that is 0 for a dirty list
list_bound : (n dirty list : ℕ) → leb list (cond (eqb dirty 1) 0 n) ≡ true → (dirty ≡ 1 → list ≡ 0) × (list ≤ n)
list_bound n dirty list h = elim (ℕ_discrete dirty 1) [
  | yes e ↦ let l : list ≤ 0 = leb-true list 0 (rw (eq-eqb dirty 1 e) at h) in ((λ q. omega arith), omega arith)
  | no m ↦ ((λ q. absurd (m q)), leb-true list n (rw (ne_eqb dirty 1 m) at h))
]

pub headed : (s : Shape) (words : List ℕ) → HeadPassed s words → Headed words
unfolding good_head head_raw head_ok
headed s words p =
    let h = sym (p.head [] []) in
    let n = pieces_on words in
    let a = both_true (head_raw words) (head_ok (decode [] words [])) h in
    let b = both_true (leb (head_word words 5) 1) (leb (head_word words 6) (cond (eqb (head_word words 5) 1) 0 n) && (leb (head_word words 7) (places_for n) && leb (head_word words 8) 5)) a.0 in
    let d = both_true (leb (head_word words 6) (cond (eqb (head_word words 5) 1) 0 n)) (leb (head_word words 7) (places_for n) && leb (head_word words 8) 5) b.1 in
    let e = both_true (leb (head_word words 7) (places_for n)) (leb (head_word words 8) 5) d.1 in
    let f = list_bound n (head_word words 5) (head_word words 6) d.0 in
    let g = both_true (valid_geometry (head_word words 0) (head_word words 1)) _ a.1 in
    let s = both_true (leb (head_word words 2) 1000) _ g.1 in
    record {
      flag = leb-true (head_word words 5) 1 b.0;
      idle = f.0;
      list = f.1;
      partials = leb-true (head_word words 7) (places_for n) e.0;
      recent_extents = leb-true (head_word words 8) 5 e.1;
      seeds = leb-true (head_word words 2) 1000 s.0;
    }

-- ---- room
module _ (s : Shape) (words : List ℕ) (p : HeadPassed s words) where
  -- the head is there
  pub head_there : 16 ≤ length words
  head_there = omega (arith, words_room s words p.in_words)

  -- the list is no longer than there are pieces
  pub list_most : head_word words 6 ≤ s.pieces
  list_most = omega (arith, p.pieces, (headed s words p).list)
