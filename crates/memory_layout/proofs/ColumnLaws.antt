-- The numbers of one column lie one after another, and the buffer has them. Assumes nothing.
use mathlib.Core.Path.{◌≡◌, ap, ◌∙◌}
use mathlib.Core.List.{List}
use Prim.Native.Nat.{ℕ, ◌+◌, ◌-◌, ◌*◌, ◌≤◌, ◌<◌}
use native.Mathlib.Nat.{mul-le-mul, add-mul}
use native.Mathlib.Omega.{arith}
use lib.ListN.{length, get_or, take, drop, length-drop}
use lib.Seq.{get_or-take, get_or-drop, length-take-le}
use Rattle.memory_layout.specs.declared.shape.Shape.{Shape}
use Rattle.memory_layout.specs.Offsets.{cell, piece_word_at, piece_cell_at, block_cell_at, cells_for}
use Rattle.memory_layout.specs.Decode.{piece_word, piece_cell, block_cell}
use Rattle.memory_layout.specs.Bounds.{Sizes, WordsSpan, CellsSpan, WordColumn, CellColumn, BlockColumn}
use Rattle.memory_layout.proofs.OffsetLaws.{small, words_from, cells_from}

-- ---- a part of a buffer
module _ (xs : List ℕ) (a k : ℕ) (fits : a + k ≤ length xs) where
  -- it has its length
  pub part_long : length (take (a + k - a) (drop a xs)) ≡ k
  part_long =
      let e : a + k - a ≡ k = omega arith in
      rw e (length-take-le k (drop a xs) (rw (length-drop a xs) (omega arith)))

  -- and the numbers from its start on
  pub part_number : (i : ℕ) → i < k → get_or (take (a + k - a) (drop a xs)) i 0 ≡ get_or xs (a + i) 0
  part_number i l =
      let e : a + k - a ≡ k = omega arith in
      rw e (get_or-take k (drop a xs) i 0 l ∙ get_or-drop a xs i 0)

-- ---- columns of pieces
-- word column f from its start
pub word_column_is : (n : ℕ) (words : List ℕ) (f a : ℕ) → a ≡ piece_word_at n f 0 → a + n ≤ length words
    → WordColumn words n f (take (a + n - a) (drop a words))
unfolding piece_word piece_word_at cell
word_column_is n words f a e h =
    record {
      long = part_long words a n h;
      word = λ i l. part_number words a n h i l ∙ ap (λ (j : ℕ). get_or words j 0) (omega arith);
    }

-- both word columns have room
pub words_room : (s : Shape) (words : List ℕ) → WordsSpan s words → 16 + 2 * s.pieces ≤ length words
words_room s words r = omega (arith, words_from s.pieces s.blocks, r.long)

-- cell column f has room
pub cells_room : (s : Shape) (cells : List ℕ) → CellsSpan s cells → (f : ℕ) → f < 4
    → (f * s.pieces + s.pieces ≤ 16384) × (f * s.pieces + s.pieces ≤ length cells)
cells_room s cells r f h =
    let g : f ≤ 3 = omega arith in
    let n : s.pieces ≤ s.pieces = omega arith in
    let l = mul-le-mul g n in
    (omega (arith, r.sizes.many), omega (arith, r.long, cells_from s.pieces s.blocks))

-- cell column f from its start
pub cell_column_is : (s : Shape) (cells : List ℕ) → CellsSpan s cells → (f : ℕ) → f < 4
    → CellColumn cells s.pieces f (take (f * s.pieces + s.pieces - f * s.pieces) (drop (f * s.pieces) cells))
unfolding piece_cell piece_cell_at cell
cell_column_is s cells r f h =
    record {
      long = part_long cells (f * s.pieces) s.pieces (cells_room s cells r f h).1;
      cell = λ i l. part_number cells (f * s.pieces) s.pieces (cells_room s cells r f h).1 i l;
    }

-- ---- columns of blocks
-- block j stands j cells behind the start
pub block_behind : (n b f p j a : ℕ) → a ≡ block_cell_at n b f p 0 → a + j ≡ block_cell_at n b f p j
unfolding block_cell_at cell
block_behind n b f p j a e = rw e (omega arith)

-- a column of its first blocks starts low
pub block_low : (s : Shape) → Sizes s → (f p : ℕ) → f < 3 → p < s.places → block_cell_at s.pieces s.blocks f p 0 < 2000000
unfolding block_cell_at cell
block_low s z f p lf lp =
    let m = small s f p z (omega arith) (omega arith) in
    rw (← z.places) (omega (arith, z.many, m.places, m.block, m.row))

-- and lies in the cells
pub block_within : (s : Shape) (cells : List ℕ) → CellsSpan s cells → (f p many : ℕ) → f < 3 → p < s.places → many ≤ s.blocks
    → block_cell_at s.pieces s.blocks f p 0 + many ≤ length cells
unfolding block_cell_at cell cells_for
block_within s cells r f p many lf lp lm =
    let b = s.blocks in
    let m = s.places in
    let row : (p + 1) * b ≤ m * b = mul-le-mul (omega arith) (omega arith) in
    let all : (f + 1) * (m * b) ≤ 3 * (m * b) = mul-le-mul (omega arith) (omega arith) in
    let w : 4 * s.pieces + 3 * (m * b) ≤ length cells = rw r.sizes.places r.long in
    rw (← r.sizes.places) (omega (arith, row, all, add-mul p 1 b, add-mul f 1 (m * b), w))

-- the part of it that is lent
pub block_column_is : (s : Shape) (cells : List ℕ) (f p many a : ℕ) → a ≡ block_cell_at s.pieces s.blocks f p 0
    → a + many ≤ length cells
    → BlockColumn cells s f p many (take (a + many - a) (drop a cells))
unfolding block_cell
block_column_is s cells f p many a e h =
    record {
      long = part_long cells a many h;
      cell = λ j l. part_number cells a many h j l ∙ ap (λ (i : ℕ). get_or cells i 0) (block_behind s.pieces s.blocks f p j a e);
    }
