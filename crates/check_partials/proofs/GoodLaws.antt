-- The tests of one record, case by case, and the count of pieces at work. Assumes nothing.
use mathlib.Core.Path.{◌≡◌, refl, sym, ap, ap₂, ◌∙◌}
use mathlib.Core.Bool.{Bool, true, false, not}
use mathlib.Core.List.{List}
use Prim.Native.Nat.{ℕ, ◌+◌, ◌≤◌, ◌<◌}
use native.Mathlib.Omega.{arith}
use lib.Dec.{eqb, ltb, leb}
use lib.ListN.{get_or}
use borrow.Author.Tests.{eq-eqb, ne_eqb, lt-ltb, le-ltb, ltb-true, lt-leb, le-leb}
use Rattle.model.specs.Lists.{bit}
use Rattle.model.specs.Bep3.{num_pieces, piece_blocks}
use Rattle.model.proofs.base.Truths.{both_true}
use Rattle.model.proofs.base.Bep3Laws.{blocks_in_piece_le}
use Rattle.geometry.proofs.ValidLaws.{bounds}
use Rattle.memory_records.specs.declared.record.DownloadingPiece.{DownloadingPiece as Record}
use Rattle.memory_layout.specs.declared.shape.Shape.{Shape}
use Rattle.memory_layout.specs.Decode.{head_word, piece_cell, pieces_on, blocks_on, blocks_of}
use Rattle.memory_layout.specs.Bounds.{CellColumn}
use Rattle.check_blocks.specs.declared.blocks.Counts.{Counts}
use Rattle.check_blocks.specs.Below.{count_below}
use Rattle.check_blocks.specs.Rows.{rows_ok, in_state, busy_in, Tallied}
use Rattle.check_partials.specs.States.{state_by}
use Rattle.check_partials.specs.Records.{blocks_good, record_good, at_work, Ready}
use Rattle.check_blocks.proofs.BelowLaws.{count_next, count_few, count_same}

-- ---- pieces at work
-- after i pieces, by the list of their states
pub record Working (states : List ℕ) (many i : ℕ) : Type 0 where
  pub is : many ≡ count_below (λ k. not (eqb (get_or states k 0) 4)) i
  pub few : many ≤ i

module _ (states : List ℕ) where
  pub working_start : Working states 0 0
  unfolding count_below
  working_start = record { is = refl; few = omega arith }

  pub working_next : (m i a : ℕ) → Working states m i → a ≡ bit (not (eqb (get_or states i 0) 4)) → a ≤ 1 → Working states (m + a) (i + 1)
  working_next m i a g e l =
      record {
        is = ap₂ (λ (x y : ℕ). x + y) g.is e ∙ sym (count_next (λ k. not (eqb (get_or states k 0) 4)) i);
        few = omega (arith, g.few);
      }

  pub working_end : (cells : List ℕ) (n m i w : ℕ) → CellColumn cells n 1 states → Working states m i → i ≡ n → w ≡ m → w ≡ at_work cells n
  unfolding at_work
  working_end cells n m i w h g e f =
      f ∙ g.is ∙ ap (count_below (λ k. not (eqb (get_or states k 0) 4))) e
      ∙ count_same (λ k. not (eqb (get_or states k 0) 4)) (λ k. not (eqb (piece_cell cells n 1 k) 4)) n (λ k l.
      ap (λ (x : ℕ). not (eqb x 4)) (h.cell k l))

-- ---- the blocks of a piece, and its state
pub many_is : (words : List ℕ) (i t z p m : ℕ) → t ≡ head_word words 0 → z ≡ head_word words 1 → p ≡ i → m ≡ piece_blocks t z p
    → m ≡ blocks_of words i
unfolding blocks_of
many_is words i t z p m et ez ep em = em ∙ rw (et, ez, ep)

module _ (s : Shape) (words cells : List ℕ) (r : Ready s words cells) where
  pub piece_there : (i t z p : ℕ) → t ≡ head_word words 0 → z ≡ head_word words 1 → p ≡ i → i < s.pieces → p < num_pieces t z
  unfolding pieces_on
  piece_there i t z p et ez ep l = rw (et, ez, ep) (rw r.pieces at l)

  pub blocks_few : (i m : ℕ) → m ≡ blocks_of words i → m ≤ s.blocks
  unfolding blocks_on blocks_of
  blocks_few i m e =
      rw (e, r.blocks)
      (blocks_in_piece_le (head_word words 0) (head_word words 1) i (bounds (head_word words 0) (head_word words 1) r.geometry).some_size)

pub state_most : (cells : List ℕ) (n b p q m : ℕ) → in_state cells n b p q m ≤ m
unfolding in_state
state_most cells n b p q m = count_few _ m

-- so none of the counts passes the blocks of a piece
pub few_counts : (s : Shape) (words cells : List ℕ) → Ready s words cells → (i p m : ℕ) → m ≡ blocks_of words i → (c : Counts)
    → (c.requested ≡ in_state cells s.pieces s.blocks p 1 m)
    × ((c.writing ≡ in_state cells s.pieces s.blocks p 2 m) × (c.finished ≡ in_state cells s.pieces s.blocks p 3 m))
    → (c.requested ≤ 256) × (c.writing ≤ 256) × (c.finished ≤ 256)
few_counts s words cells r i p m em c e =
    let l = blocks_few s words cells r i m em in
    let w = r.spans.in_cells.sizes.wide in (
      omega (arith, e.0, state_most cells s.pieces s.blocks p 1 m, l, w),
      omega (arith, e.1.0, state_most cells s.pieces s.blocks p 2 m, l, w),
      omega (arith, e.1.1, state_most cells s.pieces s.blocks p 3 m, l, w),
    )

module _ (words cells : List ℕ) (n b i p m : ℕ) (h : Bool) (em : m ≡ blocks_of words i) where
  pub tallied : (c : Counts) → (c.requested ≡ in_state cells n b p 1 m)
      × ((c.writing ≡ in_state cells n b p 2 m) × (c.finished ≡ in_state cells n b p 3 m)) → Tallied cells n b p (blocks_of words i) c
  tallied c e =
      record {
        requested = e.0 ∙ ap (in_state cells n b p 1) em;
        writing = e.1.0 ∙ ap (in_state cells n b p 2) em;
        finished = e.1.1 ∙ ap (in_state cells n b p 3) em;
      }

  pub busy_is : (c : Counts) → (c.requested ≡ in_state cells n b p 1 m)
      × ((c.writing ≡ in_state cells n b p 2 m) × (c.finished ≡ in_state cells n b p 3 m))
      → c.requested + c.writing + c.finished ≡ busy_in cells n b p m
  unfolding busy_in
  busy_is c e = omega (arith, e.0, e.1.0, e.1.1)

  module _ (ok : Bool) (eo : ok ≡ rows_ok cells n b p m) where
    pub good_rows_lem : ok ≡ false → ok ≡ blocks_good words cells n b i p h
    unfolding blocks_good
    good_rows_lem e = e ∙ rw (← em, ← eo, e)

    pub good_state : ok ≡ true → (a u st w q : ℕ) → a ≡ in_state cells n b p 1 m → u ≡ busy_in cells n b p m → st ≡ piece_cell cells n 1 i
        → w ≡ piece_cell cells n 2 i → q ≡ m → (r : Bool) → r ≡ state_by st w a u q h → r ≡ blocks_good words cells n b i p h
    unfolding blocks_good
    good_state e a u st w q ea eu es ew eq r er = rw (← em, ← eo, e, ← ea, ← eu, ← es, ← ew) (er ∙ rw eq)

-- ---- a record on its own
pub index_below : (words cells : List ℕ) (n b : ℕ) (d : Record) → record_good words cells n b d ≡ true → d.index < n
unfolding record_good
index_below words cells n b d h = ltb-true d.index n (both_true (ltb d.index n) _ h).0

module _ (words cells : List ℕ) (n b : ℕ) (d : Record) (p : ℕ) (ep : p ≡ d.index) where
  pub part_beyond : n ≤ p → false ≡ record_good words cells n b d
  unfolding record_good
  part_beyond l = rw (← ep, le-ltb p n l)

  module _ (lp : p < n) (w : ℕ) (ew : w ≡ piece_cell cells n 1 p) where
    pub part_open : w ≡ 4 → false ≡ record_good words cells n b d
    unfolding record_good
    part_open e = rw (← ep, lt-ltb p n lp, ← ew, eq-eqb w 4 e)

    module _ (nw : w ≡ 4 → ⊥) where
      pub part_flags : 7 < d.flags → false ≡ record_good words cells n b d
      unfolding record_good
      part_flags l = rw (← ep, lt-ltb p n lp, ← ew, ne_eqb w 4 nw, lt-leb d.flags 7 l)

      pub part_rest : d.flags ≤ 7 → (q : ℕ) → q ≡ d.info_idx → (g : Bool) → g ≡ blocks_good words cells n b p q (leb 4 d.flags)
          → g ≡ record_good words cells n b d
      unfolding record_good
      part_rest lf q eq g e = rw (← ep, lt-ltb p n lp, ← ew, ne_eqb w 4 nw, le-leb d.flags 7 lf, ← eq) e

  -- the counts are those of its blocks
  pub part_counts : (q : ℕ) → q ≡ d.info_idx → (c : Counts) → Tallied cells n b q (blocks_of words p) c
      → Tallied cells n b d.info_idx (blocks_of words d.index) c
  part_counts q eq c t = rw (← ep, ← eq) t
