-- 6 and 7 of all pieces, by one pass over the peer counts. Assumes nothing.
use mathlib.Core.Path.{◌≡◌, refl, sym, ap, ap₂, subst, ◌∙◌}
use mathlib.Core.Bool.{Bool, true, false, ◌&&◌, ◌||◌, and-true, or-false, or_assoc}
use mathlib.Core.List.{List, [], ◌∷◌}
use mathlib.Core.Option.{none, some}
use Prim.Native.Nat.{ℕ, zero, suc, ◌+◌, ◌-◌, ◌≤◌, ◌<◌}
use native.Mathlib.Omega.{arith}
use lib.Dec.{eqb, leb}
use lib.ListN.{length, get_or, drop, drop_of_length-le}
use lib.Seq.{drop-cons}
use borrow.Author.Tests.{le-leb, lt-leb, leb-true, leb-false, eq-eqb, ne_eqb, eqb-true, eqb-false}
use Rattle.types.specs.declared.refusal.Refusal.TheVariants.{TooManyPeers, NoPeerToTake}
use Rattle.model.specs.Lists.{any}
use Rattle.model.specs.State.{Piece}
use Rattle.model.specs.Calls.{do_inc_refcount_all, do_dec_refcount_all, peers_full, refusal}
use Rattle.memory_records.specs.declared.record.DownloadingPiece.{DownloadingPiece as Record}
use Rattle.memory_layout.specs.declared.shape.Shape.{Shape}
use Rattle.memory_layout.specs.Tables.{tabulate}
use Rattle.memory_layout.specs.Decode.{head_word, piece_cell, piece_held, pieces_held, pieces_on, decode}
use Rattle.memory_layout.specs.Bounds.{CellColumn}
use Rattle.memory_layout.specs.Standing.{Stands, StandsBeside}
use Rattle.memory_fields.specs.Reading.{HeadSays}
use Rattle.ask_piece.proofs.PieceLaws.{in_range_lem}
use Rattle.change_seeds.proofs.SeedLaws.{seeds_few}
use Rattle.picker_calls.proofs.JudgeLaws.{check_yes, check_no}
use Rattle.picker_seeds.specs.Counts.{between}

-- ---- the pass: what is found and what is left decide
pub record Finding (low high : ℕ) (counts : List ℕ) (found : Bool) (i : ℕ) : Type 0 where
  pub within : i ≤ length counts
  pub left : (found || any (between low high) (drop i counts)) ≡ any (between low high) counts

module _ (low high : ℕ) (counts : List ℕ) where
  pub finding_start : Finding low high counts false 0
  finding_start = record { within = omega arith; left = refl }

  module _ (found : Bool) (i : ℕ) (p : Finding low high counts found i) where
    pub finding_next : i < length counts → (count : ℕ) → count ≡ get_or counts i 0 → (next : Bool)
        → next ≡ (found || (leb low count && leb count high)) → Finding low high counts next (i + 1)
    unfolding any between
    finding_next h count ec next en =
        let e : suc i ≡ i + 1 = omega arith in
        record {
          within = omega arith;
          left =
              rw (en, ec) (or_assoc found (between low high (get_or counts i 0)) (any (between low high) (drop (i + 1) counts))
              ∙ ap (λ (t : Bool). found || t) (sym (ap (any (between low high)) (drop-cons counts i 0 h)
              ∙ ap (λ (k : ℕ). between low high (get_or counts i 0) || any (between low high) (drop k counts)) e)) ∙ p.left);
        }

    pub finding_end : length counts ≤ i → found ≡ any (between low high) counts
    unfolding any
    finding_end h =
        sym (or-false found) ∙ ap (λ (l : List ℕ). found || any (between low high) l) (sym (drop_of_length-le counts h)) ∙ p.left

-- ---- a test of the pieces that is one of their counts
any_held : (test : Piece → Bool) (low high : ℕ) (f : ℕ → Piece) (counts : List ℕ) (n : ℕ) → length counts ≡ n
    → ((i : ℕ) → i < n → test (f i) ≡ between low high (get_or counts i 0)) → any test (tabulate n f) ≡ any (between low high) counts
unfolding any tabulate
any_held test low high f [] zero e h = refl
any_held test low high f [] (suc n) e h = absurd (omega arith)
any_held test low high f (y ∷ ys) zero e h = absurd (omega arith)
any_held test low high f (y ∷ ys) (suc n) e h =
    ap₂ ◌||◌ (h 0 (omega arith)) (any_held test low high (λ k. f (suc k)) ys n (omega arith) (λ i l. h (suc i) (omega arith)))

-- as many peers with the seeds as may be
full_between : (count seeds : ℕ) → count ≤ 1000 → seeds ≤ 1000 → leb 1000 (count + seeds) ≡ between (1000 - seeds) 1000 count
unfolding between
full_between count seeds l m = rw (le-leb count 1000 l, and-true) (go (leb 1000 (count + seeds)) refl)
  where
    go : (t : Bool) → leb 1000 (count + seeds) ≡ t → t ≡ leb (1000 - seeds) count
    go true e = sym (le-leb (1000 - seeds) count (omega (arith, leb-true 1000 (count + seeds) e)))
    go false e = sym (lt-leb (1000 - seeds) count (omega (arith, leb-false 1000 (count + seeds) e)))

-- none
zero_between : (count : ℕ) → eqb count 0 ≡ between 0 0 count
unfolding between
zero_between count = go (eqb count 0) refl
  where
    go : (t : Bool) → eqb count 0 ≡ t → t ≡ (leb 0 count && leb count 0)
    go true e = sym (ap₂ ◌&&◌ (le-leb 0 count (omega arith)) (le-leb count 0 (omega (arith, eqb-true count 0 e))))
    go false e = let n = eqb-false count 0 e in sym (ap₂ ◌&&◌ (le-leb 0 count (omega arith)) (lt-leb count 0 (omega arith)))

-- ---- the judges, by the column of the peer counts
module _ (s : Shape) (words cells column : List ℕ) (c : CellColumn cells s.pieces 0 column) (n : ℕ)
    (read : HeadSays words (λ d. d.seeds) n) (g : StandsBeside s words cells) (records : List Record)
    (t : Stands s records words cells) where
  column_on : CellColumn cells (pieces_on words) 0 column
  column_on = subst (λ (m : ℕ). CellColumn cells m 0 column) t.bounds.pieces c

  counts_low : (i : ℕ) → i < pieces_on words → piece_cell cells (pieces_on words) 0 i ≤ 1000
  counts_low i h =
      subst (λ (m : ℕ). piece_cell cells m 0 i ≤ 1000) t.bounds.pieces ((in_range_lem s words cells g).peer_count i
      (omega (arith, t.bounds.pieces)))

  -- 6
  full_is : any (peers_full (decode records words cells)) (decode records words cells).pieces ≡ any (between (1000 - n) 1000) column
  unfolding peers_full pieces_held piece_held
  full_is =
      any_held (peers_full (decode records words cells)) (1000 - n) 1000 (piece_held words cells (pieces_on words)) column (pieces_on words)
      column_on.long (λ i h.
      full_between (piece_cell cells (pieces_on words) 0 i) (head_word words 2) (counts_low i h) (seeds_few s words cells g)
      ∙ ap₂ (λ (m x : ℕ). between (1000 - m) 1000 x) (sym (read.is records cells)) (sym (column_on.cell i h)))

  full_from : (low : ℕ) → low ≡ 1000 - n
      → any (peers_full (decode records words cells)) (decode records words cells).pieces ≡ any (between low 1000) column
  full_from low e = full_is ∙ ap (λ (m : ℕ). any (between m 1000) column) (sym e)

  pub inc_all_yes : (low : ℕ) → low ≡ 1000 - n → any (between low 1000) column ≡ true
      → refusal (decode records words cells) do_inc_refcount_all ≡ some TooManyPeers
  unfolding refusal
  inc_all_yes low l e = check_yes _ TooManyPeers none (full_from low l ∙ e)

  pub inc_all_no : (low : ℕ) → low ≡ 1000 - n → any (between low 1000) column ≡ false
      → refusal (decode records words cells) do_inc_refcount_all ≡ none
  unfolding refusal
  inc_all_no low l e = check_no _ TooManyPeers none (full_from low l ∙ e)

  -- 7
  zero_is : any (λ (p : Piece). eqb p.peer_count 0) (decode records words cells).pieces ≡ any (between 0 0) column
  unfolding pieces_held piece_held
  zero_is =
      any_held (λ (p : Piece). eqb p.peer_count 0) 0 0 (piece_held words cells (pieces_on words)) column (pieces_on words)
      column_on.long (λ i h. zero_between (piece_cell cells (pieces_on words) 0 i) ∙ ap (between 0 0) (sym (column_on.cell i h)))

  pub dec_all_yes : n ≡ 0 → any (between 0 0) column ≡ true → refusal (decode records words cells) do_dec_refcount_all ≡ some NoPeerToTake
  unfolding refusal
  dec_all_yes z e =
      check_yes _ NoPeerToTake none (ap₂ ◌&&◌ (eq-eqb (head_word words 2) 0 (sym (read.is records cells) ∙ z)) (zero_is ∙ e))

  pub dec_all_no : n ≡ 0 → any (between 0 0) column ≡ false → refusal (decode records words cells) do_dec_refcount_all ≡ none
  unfolding refusal
  dec_all_no z e =
      check_no _ NoPeerToTake none (ap₂ ◌&&◌ (eq-eqb (head_word words 2) 0 (sym (read.is records cells) ∙ z)) (zero_is ∙ e))

-- a seed is left to take
module _ (words cells : List ℕ) (n : ℕ) (read : HeadSays words (λ d. d.seeds) n) (records : List Record) where
  pub dec_all_seed : 0 < n → refusal (decode records words cells) do_dec_refcount_all ≡ none
  unfolding refusal
  dec_all_seed h =
      check_no _ NoPeerToTake none (ap (λ (t : Bool). t && any (λ (p : Piece). eqb p.peer_count 0) (decode records words cells).pieces)
      (ne_eqb (head_word words 2) 0 (λ z. omega (arith, read.is records cells))))
