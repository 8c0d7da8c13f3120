-- What columns laid one after another come to: the numbers of pieces and of blocks. Assumes nothing.
use mathlib.Core.Path.{◌≡◌, sym, ap, ◌∙◌}
use mathlib.Core.Logic.{◌⊎◌, inl, inr, ⊎_elim}
use mathlib.Core.List.{List}
use Prim.Native.Nat.{ℕ, ◌+◌, ◌-◌, ◌*◌, ◌≤◌, ◌<◌}
use native.Mathlib.Omega.{arith}
use lib.ListN.{length, get_or}
use Rattle.model.specs.Lists.{nth}
use Rattle.model.specs.image.Image.{body_length, piece_kind, partial_kind, block_kind, field}
use Rattle.memory_layout.specs.declared.shape.Shape.{Shape}
use Rattle.memory_layout.specs.Offsets.{cell, places_for, piece_word_at, piece_cell_at, peer_at, block_cell_at, cells_for}
use Rattle.memory_layout.specs.Decode.{piece_word, peer_word, piece_cell, block_cell}
use Rattle.memory_layout.specs.Bounds.{Spans}
use Rattle.memory_layout.proofs.OffsetLaws.{cell_below, peer_from, peer_below, peer_place, block_cell_from, block_cell_below}
use Rattle.memory_layout.proofs.OffsetLaws.{block_cell_place}
use Rattle.image_bytes.specs.Put.{FieldRead}
use Rattle.image_lay.specs.Laid.{fields_at, Elsewhere, Laid, LaidThree, LaidFour}
use Rattle.image_lay.proofs.LaidLaws.{below_column, behind_column}
use Rattle.image_records.specs.Records.{body_at}
use Rattle.image_records.proofs.FrontLaws.{body_field, body_read}
use Rattle.image_pieces.specs.Pieces.{piece_place, piece_body}
use Rattle.image_columns.specs.Columns.{PiecesStored, block_body, BlocksMoved, BlocksStored, flags_at}

-- ---- fields
-- one of a column
column_field : (start many first step w : ℕ) (bytes after : List ℕ)
    → ((j : ℕ) → j < many → get_or after (start + j) 0 ≡ fields_at first step w bytes j)
    → (kind at k j q : ℕ) → k + w ≤ body_length kind → j < many → q ≡ start + j → first + step * j ≡ at + 1 + k
    → get_or after q 0 ≡ field k w (body_at kind at bytes)
unfolding fields_at
column_field start many first step w bytes after a kind at k j q h l e f =
    ap (λ (x : ℕ). get_or after x 0) e ∙ a j l ∙ ap (λ (x : ℕ). field x w bytes) f ∙ sym (body_field kind at k w bytes h)

laid_field : (start many first step w : ℕ) (bytes before after : List ℕ) → Laid start many (fields_at first step w bytes) before after
    → (kind at k j q : ℕ) → k + w ≤ body_length kind → j < many → q ≡ start + j → first + step * j ≡ at + 1 + k
    → get_or after q 0 ≡ field k w (body_at kind at bytes)
laid_field start many first step w bytes before after a = column_field start many first step w bytes after a.inside

-- the flags of a partial
pub flags_read : (at place : ℕ) (bytes : List ℕ) (r : ℕ) → place ≡ at + 5 → FieldRead place 1 bytes r → r ≡ flags_at at bytes
unfolding flags_at body_length nth
flags_read at place bytes r e f = body_read partial_kind at 4 1 place bytes r (omega arith) (omega arith) f

-- ---- the pieces
pub pieces_stored : (n : ℕ) (bytes words cells words' cells' : List ℕ) → Laid 16 n (fields_at 30 10 4 bytes) words words'
    → LaidFour 0 n (2 * n) (3 * n) n (fields_at 25 10 2 bytes) (fields_at 27 10 1 bytes) (fields_at 28 10 1 bytes) (fields_at 29 10 1 bytes)
    cells cells'
    → PiecesStored n bytes words cells words' cells'
unfolding piece_word piece_word_at piece_cell piece_cell_at cell piece_body body_length nth
pieces_stored n bytes words cells words' cells' w c = record {
  words_long = w.long;
  cells_long = c.long;
  pads = λ i h. laid_field 16 n 30 10 4 bytes words words' w piece_kind (piece_place i) 5 i _ (omega arith) h (omega arith) (omega arith);
  counts = λ i h.
      column_field 0 n 25 10 2 bytes cells' c.first piece_kind (piece_place i) 0 i (0 * n + i) (omega arith) h (omega arith) (omega arith);
  states = λ i h.
      column_field n n 27 10 1 bytes cells' c.second piece_kind (piece_place i) 2 i (1 * n + i) (omega arith) h (omega arith)
      (omega arith);
  priorities = λ i h.
      column_field (2 * n) n 28 10 1 bytes cells' c.third piece_kind (piece_place i) 3 i (2 * n + i) (omega arith) h (omega arith)
      (omega arith);
  flushed = λ i h.
      column_field (3 * n) n 29 10 1 bytes cells' c.fourth piece_kind (piece_place i) 4 i (3 * n + i) (omega arith) h (omega arith)
      (omega arith);
  words_below = λ k h. w.other k (below_column _ _ _ h);
  words_behind = λ k h. w.other k (behind_column _ _ _ h);
  cells_behind = λ k h.
      c.other k (behind_column _ _ _ (omega arith)) (behind_column _ _ _ (omega arith)) (behind_column _ _ _ (omega arith))
      (behind_column _ _ _ (omega arith));
}

-- ---- the blocks of a place
peer_step : (n b p j : ℕ) → peer_at n b p 0 + j ≡ peer_at n b p j
unfolding peer_at cell
peer_step n b p j = omega arith

cell_step : (n b f p j : ℕ) → block_cell_at n b f p 0 + j ≡ block_cell_at n b f p j
unfolding block_cell_at cell
cell_step n b f p j = omega arith

-- room for the columns
module _ (s : Shape) (words cells : List ℕ) (r : Spans s words cells) (p many : ℕ) (hp : p < s.places) (hm : many ≤ s.blocks)
    (some : 1 ≤ many) where
  pub placed : p < places_for s.pieces
  placed = rw (← r.in_words.sizes.places) hp

  pub peers_room : (start : ℕ) → start ≡ peer_at s.pieces s.blocks p 0 → start + many ≤ length words
  peers_room start e =
      omega (
        arith,
        peer_below s.pieces s.blocks p (many - 1) placed (omega arith),
        peer_step s.pieces s.blocks p (many - 1),
        r.in_words.long,
      )

  pub cells_room : (f start : ℕ) → f < 3 → start ≡ block_cell_at s.pieces s.blocks f p 0 → start + many ≤ length cells
  cells_room f start h e =
      omega (
        arith,
        block_cell_below s.pieces s.blocks f p (many - 1) h placed (omega arith),
        cell_step s.pieces s.blocks f p (many - 1),
        r.in_cells.long,
      )

  -- the columns stand apart
  wide : many ≤ places_for s.pieces * s.blocks
  unfolding cell
  wide = omega (arith, cell_below s.blocks p (many - 1) (places_for s.pieces) placed (omega arith))

  pub states_apart : (x y : ℕ) → x ≡ block_cell_at s.pieces s.blocks 0 p 0 → y ≡ block_cell_at s.pieces s.blocks 1 p 0
      → x + many ≤ y
  unfolding block_cell_at cell
  states_apart x y ex ey = omega (arith, wide)

  pub counts_apart : (y z : ℕ) → y ≡ block_cell_at s.pieces s.blocks 1 p 0 → z ≡ block_cell_at s.pieces s.blocks 2 p 0
      → y + many ≤ z
  unfolding block_cell_at cell
  counts_apart y z ey ez = omega (arith, wide)

module _ (s : Shape) (p start many : ℕ) (bytes words cells words' cells' : List ℕ) (hp : p < places_for s.pieces) (hm : many ≤ s.blocks)
    (x y z v : ℕ) (ev : v ≡ peer_at s.pieces s.blocks p 0) (ex : x ≡ block_cell_at s.pieces s.blocks 0 p 0)
    (ey : y ≡ block_cell_at s.pieces s.blocks 1 p 0) (ez : z ≡ block_cell_at s.pieces s.blocks 2 p 0)
    (lw : Laid v many (fields_at (start + 5) 13 8 bytes) words words')
    (lc : LaidThree x y z many (fields_at (start + 1) 13 1 bytes) (fields_at (start + 2) 13 2 bytes) (fields_at (start + 4) 13 1 bytes) cells
    cells') where
  -- a cell of another place is none of a column's
  apart : (f g q j at : ℕ) → at ≡ block_cell_at s.pieces s.blocks g p 0 → q < places_for s.pieces → j < s.blocks → (q ≡ p → ⊥)
      → Elsewhere at many (block_cell_at s.pieces s.blocks f q j)
  apart f g q j at e hq hj ne k l d =
      let d' : block_cell_at s.pieces s.blocks f q j ≡ block_cell_at s.pieces s.blocks g p k
      = d ∙ ap (λ (m : ℕ). m + k) e ∙ cell_step s.pieces s.blocks g p k in
      ne (block_cell_place s.pieces s.blocks f g q p j k hq hp hj (omega arith) d')

  -- so is one in front of the blocks, or behind them
  outside : (g q at : ℕ) → g < 3 → at ≡ block_cell_at s.pieces s.blocks g p 0
      → (q < 4 * s.pieces) ⊎ (cells_for s.pieces s.blocks ≤ q) → Elsewhere at many q
  outside g q at hg e h k l d =
      let e' = cell_step s.pieces s.blocks g p k in
      ⊎_elim (λ o. omega (arith, e', block_cell_from s.pieces s.blocks g p k))
      (λ o. omega (arith, e', block_cell_below s.pieces s.blocks g p k hg hp (omega arith))) h

  moved : BlocksMoved s words cells words' cells'
  moved = record {
    words_long = lw.long;
    cells_long = lc.long;
    words_below = λ q h. lw.other q (λ j l d.
        omega (arith, peer_step s.pieces s.blocks p j, peer_from s.pieces s.blocks p j));
    words_beyond = λ q h. lw.other q (λ j l d.
        omega (arith, peer_step s.pieces s.blocks p j, peer_below s.pieces s.blocks p j hp (omega arith)));
    cells_below = λ q h.
        lc.other q (outside 0 q x (omega arith) ex (inl h)) (outside 1 q y (omega arith) ey (inl h))
        (outside 2 q z (omega arith) ez (inl h));
    cells_beyond = λ q h.
        lc.other q (outside 0 q x (omega arith) ex (inr h)) (outside 1 q y (omega arith) ey (inr h))
        (outside 2 q z (omega arith) ez (inr h));
  }

  pub blocks_stored : BlocksStored s p start many bytes words cells words' cells'
  unfolding block_cell peer_word block_body body_length nth
  blocks_stored =
      let n = s.pieces in
      let w = s.blocks in
      record {
        moved = moved;
        states = λ j h.
            column_field x many (start + 1) 13 1 bytes cells' lc.first block_kind (start + 13 * j) 0 j (block_cell_at n w 0 p j)
            (omega arith) h
            (omega (arith, cell_step n w 0 p j)) (omega arith);
        num_peers = λ j h.
            column_field y many (start + 2) 13 2 bytes cells' lc.second block_kind (start + 13 * j) 1 j (block_cell_at n w 1 p j)
            (omega arith) h
            (omega (arith, cell_step n w 1 p j)) (omega arith);
        has = λ j h.
            column_field z many (start + 4) 13 1 bytes cells' lc.third block_kind (start + 13 * j) 3 j (block_cell_at n w 2 p j)
            (omega arith) h
            (omega (arith, cell_step n w 2 p j)) (omega arith);
        peers = λ j h.
            laid_field v many (start + 5) 13 8 bytes words words' lw block_kind (start + 13 * j) 4 j (peer_at n w p j) (omega arith) h
            (omega (arith, peer_step n w p j)) (omega arith);
        other_cells = λ f q j hf hq hj ne.
            lc.other (block_cell_at n w f q j) (apart f 0 q j x ex hq hj ne) (apart f 1 q j y ey hq hj ne) (apart f 2 q j z ez hq hj ne);
        other_peers = λ q j hj ne.
            lw.other (peer_at n w q j) (λ k l d.
            ne (peer_place n w q p j k hj (omega arith) (d ∙ ap (λ (m : ℕ). m + k) ev ∙ peer_step n w p k)));
      }
