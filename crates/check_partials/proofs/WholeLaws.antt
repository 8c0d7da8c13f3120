-- The pass over the records and the count of pieces at work come to the test on pieces and partials side by side. Assumes nothing.
use mathlib.Core.Path.{◌≡◌, refl, sym, ap, ◌∙◌}
use mathlib.Core.Logic.{inl, inr}
use mathlib.Core.Bool.{Bool, true, false, not, ◌&&◌, true≢false}
use mathlib.Core.List.{List}
use mathlib.Core.Option.{none, some, none-ne-some}
use Prim.Native.Nat.{ℕ, ◌^◌, ◌≤◌, ◌<◌}
use native.Mathlib.Decide.{dec_le}
use native.Mathlib.Omega.{arith}
use lib.Dec.{eqb, leb}
use borrow.Author.Tests.{eq-eqb, eqb-true, lt-ltb, le-leb, leb-true}
use Rattle.model.specs.Lists.{every, from, len}
use Rattle.model.specs.State.{Piece, DownloadingPiece, no_piece, same_queue, is_open, piece_at, pieces_in, blocks_in_piece}
use Rattle.model.specs.change.Partials.{find_dl_piece}
use Rattle.model.specs.image.Sound.{partials_from, PartialSound}
use Rattle.model.specs.image.WellFormed.{partials_ok}
use Rattle.model.proofs.base.Truths.{both_true, true_both, true_or_false, not_both}
use Rattle.model.proofs.sound.PieceLaws.{piece_at_beyond}
use Rattle.model.proofs.sound.PartialLaws.{found_or_none}
use Rattle.model.proofs.sound.SoundPartials.{Standing, partials_ok_standing, standing_partials_ok}
use Rattle.memory_records.specs.declared.record.DownloadingPiece.{DownloadingPiece as Record}
use Rattle.memory_layout.specs.Offsets.{places_for}
use Rattle.memory_layout.specs.Decode.{head_word, piece_cell, peer_word, record_at, blocks_of, piece_held, block_held, blocks_held, partial_from}
use Rattle.memory_layout.specs.Decode.{partial_held, pieces_held, partials_held, decode_at}
use Rattle.memory_layout.specs.Good.{block_raw, record_raw}
use Rattle.memory_layout.proofs.TableLaws.{tabulate-len, tabulate-nth}
use Rattle.memory_layout.proofs.OffsetLaws.{places_min}
use Rattle.check_blocks.specs.Below.{all_below, count_below}
use Rattle.check_blocks.specs.Rows.{rows_ok}
use Rattle.check_partials.specs.Records.{blocks_good, record_good, index_at, place_at, flags_at, raw_at, good_at, held_at, lowest, record_next}
use Rattle.check_partials.specs.Records.{at_work}
use Rattle.check_blocks.proofs.BelowLaws.{all_at, all_from, count_same, count_tight, every_at, every_all}
use Rattle.check_partials.proofs.PassLaws.{good_parts}
use Rattle.check_partials.proofs.HeldLaws.{rising_from_lem, from_rising, found_each, found_has, held, held-none, held-some, count_held}
use Rattle.check_partials.proofs.MeaningLaws.{open_is, rows_raw, rows_each, rows_both, state_words}

-- ---- what stands at a place
module _ (n b : ℕ) (rs : List Record) (words cells : List ℕ) where
  piece_at_lem : (i : ℕ) → i < n → piece_at (decode_at n b rs words cells) i ≡ piece_held words cells n i
  unfolding piece_at pieces_held
  piece_at_lem i h = tabulate-nth n (piece_held words cells n) i no_piece h

  partials_size : len (partials_held rs words cells n b) ≡ head_word words 7
  unfolding partials_held
  partials_size = tabulate-len (head_word words 7) (held_at rs words cells n b)

-- tests that pass together are the same
pub same_test : (s t : Bool) → (s ≡ true → t ≡ true) → (t ≡ true → s ≡ true) → s ≡ t
same_test true t f g = sym (f refl)
same_test false true f g = absurd (true≢false (sym (g refl)))
same_test false false f g = refl

module _ (rs : List Record) (words cells : List ℕ) (n b : ℕ) (fits : (p j : ℕ) → peer_word words n b p j < 2 ^ 64) where
  -- ---- one partial
  good_sound : (k : ℕ) → good_at rs words cells n b k ≡ true → PartialSound (decode_at n b rs words cells) (index_at rs k)
      (held_at rs words cells n b k)
  unfolding blocks_good partial_held partial_from blocks_held blocks_in_piece blocks_of
  good_sound k h =
      let g = good_parts rs words cells n b k h in
      let i = index_at rs k in
      let p = place_at rs k in
      let m = blocks_of words i in
      let d = both_true (rows_ok cells n b p m) _ g.3 in
      let raw = rows_raw words cells n b fits p m d.0 in
      record {
        piece = refl;
        blocks = tabulate-len m (block_held words cells n b p);
        each = rows_each words cells n b fits p m d.0;
        state = rw (piece_at_lem n b rs words cells i g.0) (state_words words cells n b fits (record_at rs k) m refl raw g.2 i ∙ d.1);
      }

  sound_good : (k : ℕ) → index_at rs k < n → eqb (piece_cell cells n 1 (index_at rs k)) 4 ≡ false → leb (flags_at rs k) 7 ≡ true
      → every (block_raw cells n b (place_at rs k)) (from 0 (blocks_of words (index_at rs k))) ≡ true
      → PartialSound (decode_at n b rs words cells) (index_at rs k) (held_at rs words cells n b k) → good_at rs words cells n b k ≡ true
  unfolding record_good blocks_good partial_held partial_from blocks_held
  sound_good k l w f raw g =
      let i = index_at rs k in
      let p = place_at rs k in
      let m = blocks_of words i in
      let rows = rows_both words cells n b fits p m raw g.each in
      let st = sym (state_words words cells n b fits (record_at rs k) m refl raw f i) ∙ rw (piece_at_lem n b rs words cells i l) at g.state in
      rw (lt-ltb i n l, w, f, rows) st

  raw_parts : (k : ℕ) → raw_at rs words cells n b k ≡ true → (leb (flags_at rs k) 7 ≡ true)
      × (every (block_raw cells n b (place_at rs k)) (from 0 (blocks_of words (index_at rs k))) ≡ true)
  unfolding record_raw
  raw_parts k h = both_true (leb (flags_at rs k) 7) _ h

  good_raw : (k : ℕ) → good_at rs words cells n b k ≡ true → raw_at rs words cells n b k ≡ true
  unfolding record_raw blocks_good
  good_raw k h =
      let g = good_parts rs words cells n b k h in
      let m = blocks_of words (index_at rs k) in
      let d = both_true (rows_ok cells n b (place_at rs k) m) _ g.3 in
      rw g.2 (rows_raw words cells n b fits (place_at rs k) m d.0)

  next_parts : (k : ℕ) → record_next rs words cells n b k ≡ true → (lowest 0 (index_at rs) k ≤ index_at rs k)
      × (good_at rs words cells n b k ≡ true)
  unfolding record_next
  next_parts k h =
      let a = both_true (leb (lowest 0 (index_at rs) k) (index_at rs k)) _ h in
      (leb-true (lowest 0 (index_at rs) k) (index_at rs k) a.0, a.1)

  -- the blocks of a record that passes
  pub pass_blocks : (k : ℕ) → record_next rs words cells n b k ≡ true
      → every (block_raw cells n b (place_at rs k)) (from 0 (blocks_of words (index_at rs k))) ≡ true
  pass_blocks k h = (raw_parts k (good_raw k (next_parts k h).1)).1

  -- ---- pieces
  pieces_size : pieces_in (decode_at n b rs words cells) ≡ n
  unfolding pieces_in pieces_held
  pieces_size = tabulate-len n (piece_held words cells n)

  beyond_open : (i : ℕ) → n ≤ i → is_open (piece_at (decode_at n b rs words cells) i).state ≡ true
  unfolding no_piece is_open same_queue
  beyond_open i l = rw (piece_at_beyond (decode_at n b rs words cells) i (omega (arith, pieces_size)))

  module _ (states : (i : ℕ) → i < n → piece_cell cells n 1 i ≤ 6) (few : head_word words 7 ≤ places_for n) where
    open_at : (i : ℕ) → i < n → is_open (piece_at (decode_at n b rs words cells) i).state ≡ eqb (piece_cell cells n 1 i) 4
    unfolding piece_held
    open_at i l = ap (λ (p : Piece). is_open p.state) (piece_at_lem n b rs words cells i l) ∙ open_is (piece_cell cells n 1 i) (states i l)

    few_partials : len (partials_held rs words cells n b) ≤ 512
    few_partials = omega (arith, partials_size n b rs words cells, few, places_min n)

    -- ---- from the pass to the picker
    module _ (h : all_below (record_next rs words cells n b) (head_word words 7) ≡ true) (c : at_work cells n ≡ head_word words 7) where
      pass_raw : every (raw_at rs words cells n b) (from 0 (head_word words 7)) ≡ true
      pass_raw =
          every_all (raw_at rs words cells n b) (head_word words 7) (λ k l.
          good_raw k (next_parts k (all_at (record_next rs words cells n b) (head_word words 7) h k l)).1)

      good_at_lem : (k : ℕ) → k < head_word words 7 → good_at rs words cells n b k ≡ true
      good_at_lem k l = (next_parts k (all_at (record_next rs words cells n b) (head_word words 7) h k l)).1

      rising : partials_from 0 (partials_held rs words cells n b) ≡ true
      unfolding partials_held partial_held partial_from
      rising =
          rising_from_lem 0 (head_word words 7) (held_at rs words cells n b) (λ k l.
          (next_parts k (all_at (record_next rs words cells n b) (head_word words 7) h k l)).0)

      found_shut : (i : ℕ) (d : DownloadingPiece) → find_dl_piece i (partials_held rs words cells n b) ≡ some d → (i < n)
          × (is_open (piece_at (decode_at n b rs words cells) i).state ≡ false)
      unfolding partials_held partial_held partial_from
      found_shut i d e =
          found_has (λ j x. (j < n) × (is_open (piece_at (decode_at n b rs words cells) j).state ≡ false)) (head_word words 7)
          (held_at rs words cells n b) (λ k l.
          let g = good_parts rs words cells n b k (good_at_lem k l) in (g.0, open_at (index_at rs k) g.0 ∙ g.1)) i d e

      found_sound : (i : ℕ) (d : DownloadingPiece) → find_dl_piece i (partials_held rs words cells n b) ≡ some d
          → PartialSound (decode_at n b rs words cells) i d
      unfolding partials_held partial_held partial_from
      found_sound i d e =
          found_has (PartialSound (decode_at n b rs words cells)) (head_word words 7) (held_at rs words cells n b)
          (λ k l. good_sound k (good_at_lem k l)) i d e

      held_shut : (i : ℕ) → held (partials_held rs words cells n b) i ≡ true → (i < n)
          × (is_open (piece_at (decode_at n b rs words cells) i).state ≡ false)
      held_shut i e = elim (found_or_none i (partials_held rs words cells n b)) [
        | inl q ↦ absurd (not_both (held (partials_held rs words cells n b) i) e (held-none (partials_held rs words cells n b) i q))
        | inr q ↦ found_shut i q.0 q.1
      ]

      held_count : count_below (held (partials_held rs words cells n b)) n ≡ count_below (λ i. not (eqb (piece_cell cells n 1 i) 4)) n
      unfolding at_work
      held_count =
          count_held 0 n (partials_held rs words cells n b) rising (λ i e. (held_shut i e).0) ∙ partials_size n b rs words cells ∙ sym c

      shut_held : (i : ℕ) → i < n → is_open (piece_at (decode_at n b rs words cells) i).state ≡ false
          → held (partials_held rs words cells n b) i ≡ true
      shut_held i l e =
          count_tight (held (partials_held rs words cells n b)) (λ j. not (eqb (piece_cell cells n 1 j) 4)) n (λ j m q.
          ap not (sym (open_at j m) ∙ (held_shut j q).1)) held_count i l (ap not (sym (open_at i l) ∙ e))

      vacant_open : (i : ℕ) → find_dl_piece i (partials_held rs words cells n b) ≡ none
          → is_open (piece_at (decode_at n b rs words cells) i).state ≡ true
      vacant_open i e = elim (dec_le n i) [
        | yes l ↦ beyond_open i l
        | no l ↦ elim (true_or_false (is_open (piece_at (decode_at n b rs words cells) i).state)) [
          | inl o ↦ o
          | inr o ↦ absurd (not_both (held (partials_held rs words cells n b) i) (shut_held i (omega arith) o)
              (held-none (partials_held rs words cells n b) i e))
        ]
      ]

      open_vacant : (i : ℕ) → is_open (piece_at (decode_at n b rs words cells) i).state ≡ true
          → find_dl_piece i (partials_held rs words cells n b) ≡ none
      open_vacant i o = elim (found_or_none i (partials_held rs words cells n b)) [
        | inl q ↦ q
        | inr q ↦ absurd (not_both (is_open (piece_at (decode_at n b rs words cells) i).state) o (found_shut i q.0 q.1).1)
      ]

      pass_standing : Standing (decode_at n b rs words cells) 0 (partials_held rs words cells n b)
      pass_standing = record {
        rising = rising;
        vacant = λ i l o. open_vacant i o;
        standing = λ i l e. vacant_open i e;
        partial = λ i d l e. found_sound i d e;
      }

      pass_partials : partials_ok (decode_at n b rs words cells) 0 0 (pieces_held words cells n) (partials_held rs words cells n b) ≡ true
      pass_partials = standing_partials_ok (decode_at n b rs words cells) few_partials pass_standing

    -- ---- from the picker to the pass
    module _ (raw : every (raw_at rs words cells n b) (from 0 (head_word words 7)) ≡ true)
        (ok : partials_ok (decode_at n b rs words cells) 0 0 (pieces_held words cells n) (partials_held rs words cells n b) ≡ true) where
      stands : Standing (decode_at n b rs words cells) 0 (partials_held rs words cells n b)
      stands = (partials_ok_standing (decode_at n b rs words cells) ok).1

      here : (k : ℕ) → k < head_word words 7 → find_dl_piece (index_at rs k) (partials_held rs words cells n b)
          ≡ some (held_at rs words cells n b k)
      unfolding partials_held partial_held partial_from
      here k l = found_each 0 (head_word words 7) (held_at rs words cells n b) stands.rising k l

      found_not_open : (i : ℕ) (d : DownloadingPiece) → find_dl_piece i (partials_held rs words cells n b) ≡ some d
          → is_open (piece_at (decode_at n b rs words cells) i).state ≡ false
      found_not_open i d e = elim (true_or_false (is_open (piece_at (decode_at n b rs words cells) i).state)) [
        | inl o ↦ absurd (none-ne-some d (sym (stands.vacant i (omega arith) o) ∙ e))
        | inr o ↦ o
      ]

      found_below : (i : ℕ) (d : DownloadingPiece) → find_dl_piece i (partials_held rs words cells n b) ≡ some d → i < n
      found_below i d e = elim (dec_le n i) [
        | yes l ↦ absurd (not_both (is_open (piece_at (decode_at n b rs words cells) i).state) (beyond_open i l) (found_not_open i d e))
        | no l ↦ omega arith
      ]

      low_at : (k : ℕ) → k < head_word words 7 → lowest 0 (index_at rs) k ≤ index_at rs k
      unfolding partials_held partial_held partial_from
      low_at k l = from_rising 0 (head_word words 7) (held_at rs words cells n b) stands.rising k l

      next_at : (k : ℕ) → k < head_word words 7 → record_next rs words cells n b k ≡ true
      unfolding record_next
      next_at k l =
          let r = raw_parts k (every_at (raw_at rs words cells n b) (head_word words 7) raw k l) in
          let i = index_at rs k in
          let f = here k l in
          let below = found_below i (held_at rs words cells n b k) f in
          let shut = sym (open_at i below) ∙ found_not_open i (held_at rs words cells n b k) f in
          let g = sound_good k below shut r.0 r.1 (stands.partial i (held_at rs words cells n b k) (omega arith) f) in
          rw (le-leb (lowest 0 (index_at rs) k) i (low_at k l)) g

      all_pass : all_below (record_next rs words cells n b) (head_word words 7) ≡ true
      all_pass = all_from (record_next rs words cells n b) (head_word words 7) next_at

      held_at_lem : (i : ℕ) → i < n → not (eqb (piece_cell cells n 1 i) 4) ≡ held (partials_held rs words cells n b) i
      held_at_lem i l = elim (found_or_none i (partials_held rs words cells n b)) [
        | inl q ↦ ap not (sym (open_at i l) ∙ stands.standing i (omega arith) q) ∙ sym (held-none (partials_held rs words cells n b) i q)
        | inr q ↦ ap not (sym (open_at i l) ∙ found_not_open i q.0 q.1)
            ∙ sym (held-some (partials_held rs words cells n b) i q.0 q.1)
      ]

      held_below : (i : ℕ) → held (partials_held rs words cells n b) i ≡ true → i < n
      held_below i e = elim (found_or_none i (partials_held rs words cells n b)) [
        | inl q ↦ absurd (not_both (held (partials_held rs words cells n b) i) e (held-none (partials_held rs words cells n b) i q))
        | inr q ↦ found_below i q.0 q.1
      ]

      work_is : at_work cells n ≡ head_word words 7
      unfolding at_work
      work_is =
          count_same (λ i. not (eqb (piece_cell cells n 1 i) 4)) (held (partials_held rs words cells n b)) n held_at_lem
          ∙ count_held 0 n (partials_held rs words cells n b) stands.rising held_below
          ∙ partials_size n b rs words cells

    -- ---- both
    pub pass_is : (all_below (record_next rs words cells n b) (head_word words 7) && eqb (at_work cells n) (head_word words 7))
        ≡ (every (raw_at rs words cells n b) (from 0 (head_word words 7)) && partials_ok (decode_at n b rs words cells) 0 0
        (pieces_held words cells n) (partials_held rs words cells n b))
    pass_is =
        same_test _ _ (λ e.
        let a = both_true (all_below (record_next rs words cells n b) (head_word words 7)) _ e in
        let w = eqb-true (at_work cells n) (head_word words 7) a.1 in
        true_both _ _ (pass_raw a.0 w) (pass_partials a.0 w)) (λ e.
        let a = both_true (every (raw_at rs words cells n b) (from 0 (head_word words 7))) _ e in
        true_both _ _ (all_pass a.0 a.1) (eq-eqb (at_work cells n) (head_word words 7) (work_is a.0 a.1)))
