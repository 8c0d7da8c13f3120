-- The ranks of pieces by their columns, by their cells and by their records. Assumes nothing.
use mathlib.Core.Path.{◌≡◌, sym, ap, ◌∙◌}
use mathlib.Core.List.{List}
use Prim.Native.Nat.{ℕ, ◌+◌, ◌<◌}
use native.Mathlib.Omega.{arith}
use lib.ListN.{length, get_or}
use Rattle.model.specs.image.Image.{field, piece_of}
use Rattle.memory_layout.specs.declared.shape.Shape.{Shape}
use Rattle.memory_layout.specs.Decode.{queue_from, yes?}
use Rattle.memory_layout.specs.Bounds.{CellsSpan, CellColumn}
use Rattle.check_pieces.specs.Rows.{piece_from, rank_from, Level, rank_in as rank_in_row}
use Rattle.check_pieces.proofs.RowLaws.{rank_pad}
use Rattle.image_lay.specs.Laid.{Laid}
use Rattle.image_lay.proofs.LaidLaws.{laid_end, laid_same}
use Rattle.image_pieces.specs.Pieces.{piece_body, piece_in}
use Rattle.image_columns.specs.Columns.{PiecesStored}
use Rattle.image_store.specs.Given.{PiecesTold, rank_in}
use Rattle.image_store.specs.Ranks.{RowsRanked, CellsRanked, rank_held}

-- ---- columns
module _ (s : Shape) (cells counts states priorities flushed : List ℕ) (q : CellsSpan s cells) (e0 : CellColumn cells s.pieces 0 counts)
    (e1 : CellColumn cells s.pieces 1 states) (e2 : CellColumn cells s.pieces 2 priorities)
    (e3 : CellColumn cells s.pieces 3 flushed) where
  pub columns_level : Level counts states priorities flushed
  columns_level = record {
    most = omega (arith, e0.long, q.sizes.many);
    states_long = e1.long ∙ sym e0.long;
    priorities_long = e2.long ∙ sym e0.long;
    flushed_long = e3.long ∙ sym e0.long;
  }

  pub rows_ranked : CellsRanked s.pieces cells → RowsRanked counts states priorities
  rows_ranked h i l =
      let k : i < s.pieces = omega (arith, e0.long) in
      let r = h i k in
      record {
        count_most = omega (arith, e0.cell i k, r.count_most);
        state_most = omega (arith, e1.cell i k, r.state_most);
        priority_most = omega (arith, e2.cell i k, r.priority_most);
      }

  pub ranks_held : (seeds x : ℕ) (a b : List ℕ) → x ≡ seeds → Laid 0 (length counts) (rank_in_row x counts states priorities flushed) a b
      → Laid 0 s.pieces (rank_held seeds cells s.pieces) a b
  unfolding rank_in_row rank_held
  ranks_held seeds x a b e p =
      laid_same 0 s.pieces (rank_in_row x counts states priorities flushed) (rank_held seeds cells s.pieces) a b
      (laid_end 0 (length counts) s.pieces (rank_in_row x counts states priorities flushed) a b p e0.long)
      (λ i h k. rank_from (e k) (e0.cell i h k) (e1.cell i h k) (e2.cell i h k) (e3.cell i h k))

-- ---- cells of stored pieces
module _ (n : ℕ) (bytes words cells words' cells' : List ℕ) (p : PiecesStored n bytes words cells words' cells') where
  pub cells_ranked : PiecesTold n bytes → CellsRanked n cells'
  cells_ranked t i h =
      let r = t.told i h in
      record {
        count_most = omega (arith, p.counts i h, r.count);
        state_most = omega (arith, p.states i h, r.state);
        priority_most = omega (arith, p.priorities i h, r.priority);
      }

  rank_in-bytes : (seeds i : ℕ) → i < n → rank_held seeds cells' n i ≡ rank_in seeds bytes i
  unfolding rank_held rank_in piece_in piece_of piece_from queue_from yes?
  rank_in-bytes seeds i h =
      (λ k. rank_from seeds (p.counts i h k) (p.states i h k) (p.priorities i h k) (p.flushed i h k))
      ∙ rank_pad seeds (field 0 2 (piece_body bytes i)) (field 2 1 (piece_body bytes i)) (field 3 1 (piece_body bytes i))
      (field 4 1 (piece_body bytes i)) (field 5 4 (piece_body bytes i))

  -- the first ranks are those of the pieces
  pub ranks_are : (seeds : ℕ) (a b : List ℕ) → Laid 0 n (rank_held seeds cells' n) a b
      → (i : ℕ) → i < n → get_or b i 0 ≡ rank_in seeds bytes i
  ranks_are seeds a b r i h =
      let e : i ≡ 0 + i = omega arith in
      ap (λ (k : ℕ). get_or b k 0) e ∙ r.inside i h ∙ rank_in-bytes seeds i h
