-- A peer more or less of a piece: what the stores leave is the definition's change. Assumes nothing.
use mathlib.Core.Path.{◌≡◌, ap, ◌∙◌}
use mathlib.Core.List.{List}
use Prim.Native.Nat.{ℕ, suc, ◌+◌, ◌-◌, ◌≤◌, ◌<◌}
use native.Mathlib.Omega.{arith}
use borrow.Author.Tests.{ne_eqb}
use Rattle.model.specs.Lists.{when}
use Rattle.model.specs.State.{Piece, Picker, max_peers, piece_at, pieces_in, with_piece, with_peer_count, with_seeds, with_listing, mark_dirty}
use Rattle.model.specs.list.Order.{Draws, drawing, no_draw, change_and_update}
use Rattle.model.specs.change.Changes.{inc_peer_count, dec_peer_count, inc_refcount, break_one_seed, dec_refcount}
use Rattle.model.proofs.keep.KeepCounts.{break_one_seed_keeps}
use Rattle.model.proofs.sound.PieceLaws.{piece_at-all_pieces}
use Rattle.model.proofs.sound.SoundLaws.{well_formed_sound, sound_well_formed}
use Rattle.memory_records.specs.declared.record.DownloadingPiece.{DownloadingPiece as Record}
use Rattle.memory_layout.specs.declared.shape.Shape.{Shape}
use Rattle.memory_layout.specs.Decode.{decode, head_word, piece_cell}
use Rattle.memory_layout.specs.Standing.{Stands, StandsBeside, ChangeMade}
use Rattle.memory_layout.proofs.Meanings.{pieces_number, peer_count_is}
use Rattle.memory_layout.proofs.StandingLaws.{changed_stands}
use Rattle.memory_fields.specs.Reading.{CellsSay}
use Rattle.memory_list.proofs.Moving.{PieceInRange, range_peers}
use Rattle.change_steps.specs.Working.{Works, Went, Goes}
use Rattle.change_steps.specs.Whole.{ChangedBy}
use Rattle.change_steps.proofs.FieldLaws.{works_range, works_piece}
use Rattle.change_steps.proofs.WorkLaws.{went_nowhere, went_named, went_then}
use Rattle.change_steps.proofs.MendLaws.{stands_works, went_done, goes_done}
use Rattle.change_counts.specs.Leaving.{broken_for, LeftBy}

-- ---- the count stored
-- in range with so many peers
pub count_range : (s : Shape) (i : ℕ) → i < s.pieces → (count : ℕ) → count ≤ max_peers → (words cells : List ℕ) (records : List Record)
    → Works s records words cells → PieceInRange (with_peer_count count (piece_at (decode records words cells) i))
count_range s i h count m words cells records w =
    range_peers count (piece_at (decode records words cells) i) m
    (works_range s records words cells w i (works_piece s records words cells w i h))

-- by another change that gives the piece as many
same_move : (draws : Draws) (i used : ℕ) (f g : Piece → Piece) (d : Picker) → f (piece_at d i) ≡ g (piece_at d i)
    → change_and_update draws i (with_piece i f) (drawing used d) ≡ change_and_update draws i (with_piece i g) (drawing used d)
unfolding change_and_update with_piece no_draw drawing
same_move draws i used f g d e = rw e

module _ (s : Shape) (draws : Draws) (i : ℕ) (h : i < s.pieces) (words cells : List ℕ) where
  -- ---- a peer more
  module _ (count : ℕ) (say : CellsSay s cells (λ d. (piece_at d i).peer_count) count) where
    count_is : StandsBeside s words cells → count ≡ piece_cell cells s.pieces 0 i
    count_is b =
        let t = b.stands.bounds in
        say.is b.records words t ∙ peer_count_is s b.records words cells t i h

    pub count_room : StandsBeside s words cells → piece_cell cells s.pieces 0 i + head_word words 2 < max_peers → count + 1 ≤ max_peers
    count_room b m = omega (arith, count_is b, m)

    pub peer_came : (words' cells' : List ℕ) (next : ℕ)
        → Goes s (change_and_update draws i (with_piece i (with_peer_count (count + 1)))) words cells 0 words' cells' next
        → ChangedBy s (inc_refcount draws i) words cells words' cells' next
    unfolding inc_refcount inc_peer_count
    peer_came words' cells' next g = goes_done s (inc_refcount draws i) words cells words' cells' next (record {
      went = λ records w.
          let d = decode records words cells in
          let e : count + 1 ≡ suc (piece_at d i).peer_count = omega (arith, say.is records words w.bounds) in
          went_named s records words cells 0 records words' cells' next (change_and_update draws i (with_piece i (with_peer_count (count + 1))))
          (inc_refcount draws i)
          (same_move draws i 0 (with_peer_count (count + 1)) inc_peer_count d (ap (λ (n : ℕ). with_peer_count n (piece_at d i)) e))
          (g.went records w);
    })

    -- ---- a peer to go
    -- there is one
    pub peer_left : 0 < count → LeftBy s i words cells words cells (count - 1)
    unfolding broken_for when drawing
    peer_left m = record {
      begun = record {
        went = λ records t.
            let n = (piece_at (decode records words cells) i).peer_count in
            let e : count ≡ n = say.is records words t.bounds in
            went_nowhere s records words cells 0 (broken_for i) (stands_works s records words cells t)
            (rw (ne_eqb n 0 (λ (z : n ≡ 0). absurd (omega (arith, e, m, z)))));
      };
      is = λ records t. ap (λ (n : ℕ). n - 1) (say.is records words t.bounds);
    }

    -- there is none, so there is a seed
    pub seed_there : StandsBeside s words cells → 0 < piece_cell cells s.pieces 0 i + head_word words 2 → count ≤ 0 → 1 ≤ head_word words 2
    seed_there b m z = omega (arith, count_is b, m)

    module _ (words' cells' : List ℕ) (seeds : 1 ≤ head_word words 2) (none : count ≤ 0)
        (m : ChangeMade s break_one_seed words words' cells cells') (records : List Record) (t : Stands s records words cells) where
      broken_stands : Stands s records words' cells'
      broken_stands =
          let d = decode records words cells in
          changed_stands s (break_one_seed d) words cells records words' cells'
          (sound_well_formed (break_one_seed d) (break_one_seed_keeps d seeds (well_formed_sound d t.sound))) (m.made records t)

      no_peer : (piece_at (decode records words cells) i).peer_count ≡ 0
      no_peer = omega (arith, say.is records words t.bounds, none)

      broken_went : Went s (broken_for i) records words cells 0 records words' cells' 0
      unfolding broken_for when no_draw drawing
      broken_went =
          let c = m.made records t in
          record {
            is = rw (no_peer) (ap (drawing 0) c.is);
            works = stands_works s records words' cells' broken_stands;
            words_kept = c.words_kept;
            cells_kept = c.cells_kept;
          }

      one_each : (d : Picker) → i < pieces_in d → (piece_at (break_one_seed d) i).peer_count ≡ suc (piece_at d i).peer_count
      unfolding break_one_seed mark_dirty with_listing with_seeds piece_at pieces_in inc_peer_count with_peer_count
      one_each d l = ap (λ (p : Piece). p.peer_count) (piece_at-all_pieces inc_peer_count (with_seeds (d.seeds - 1) d) i l)

      one_left : 0 ≡ (piece_at (decode records words' cells') i).peer_count - 1
      one_left =
          let d = decode records words cells in
          let l : i < pieces_in d = rw (pieces_number s records words cells t.bounds) h in
          omega (arith, ap (λ (x : Picker). (piece_at x i).peer_count) (m.made records t).is, one_each d l, no_peer)

    pub seed_left : (words' cells' : List ℕ) → 1 ≤ head_word words 2 → count ≤ 0 → ChangeMade s break_one_seed words words' cells cells'
        → LeftBy s i words cells words' cells' 0
    seed_left words' cells' a z m = record {
      begun = record { went = λ records t. broken_went words' cells' a z m records t };
      is = λ records t. one_left words' cells' a z m records t;
    }

  -- ---- and gone
  module _ (words₁ cells₁ : List ℕ) (left : ℕ) (l : LeftBy s i words cells words₁ cells₁ left) where
    pub left_low : StandsBeside s words cells → left ≤ max_peers
    left_low b =
        let records = b.records in
        let w = (l.begun.went records b.stands).works in
        omega (
          arith,
          l.is records b.stands,
          (works_range s records words₁ cells₁ w i (works_piece s records words₁ cells₁ w i h)).peer_count,
        )

    pub peer_went : (words' cells' : List ℕ) (next : ℕ)
        → Goes s (change_and_update draws i (with_piece i (with_peer_count left))) words₁ cells₁ 0 words' cells' next
        → ChangedBy s (dec_refcount draws i) words cells words' cells' next
    unfolding dec_refcount broken_for dec_peer_count
    peer_went words' cells' next g = record {
      done = λ records t.
          let d = decode records words₁ cells₁ in
          let lower = change_and_update draws i (with_piece i dec_peer_count) in
          let a = l.begun.went records t in
          let b = went_named s records words₁ cells₁ 0 records words' cells' next
          (change_and_update draws i (with_piece i (with_peer_count left))) lower
          (same_move draws i 0 (with_peer_count left) dec_peer_count d (ap (λ (n : ℕ). with_peer_count n (piece_at d i)) (l.is records t)))
          (g.went records a.works) in
          went_done s records words cells (dec_refcount draws i) records words' cells' next
          (went_then s records words cells 0 records words₁ cells₁ 0 (broken_for i) lower a records words' cells' next b);
    }
