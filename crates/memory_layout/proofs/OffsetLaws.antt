-- Where the numbers stand: each column between its bounds and below the needs, no two numbers at one offset. Assumes nothing.
use mathlib.Core.Path.{◌≡◌, sym, ap, ◌∙◌}
use Prim.Native.Nat.{ℕ, ◌+◌, ◌*◌, ◌/◌, ◌%◌, ◌≤◌, ◌<◌, min}
use native.Mathlib.Nat.{mul-le-mul}
use native.Mathlib.Omega.{arith}
use native.Mathlib.Decide.{dec_le}
use lib.Arith.{digits_lt, digits_div, digits_mod}
use borrow.Author.Tests.{le-leb, lt-leb}
use lib.ListN.{length}
use mathlib.Core.List.{List}
use Rattle.model.specs.Lists.{least}
use Rattle.memory_layout.specs.declared.shape.Shape.{Shape}
use Rattle.memory_layout.specs.Offsets.{cell, places_for, piece_word_at, peer_at, piece_cell_at, block_cell_at, words_for, cells_for}
use Rattle.memory_layout.specs.Bounds.{Sizes, WordsSpan, CellsSpan}

-- ---- columns of one width
-- number i of column f stands below the end of column k, for every k above f
pub cell_below : (w f i k : ℕ) → f < k → i < w → cell w f i < k * w
unfolding cell
cell_below w f i k h l = digits_lt {q = f} {m = k} {r = i} {c = w} h l

-- one offset is of one column
pub cell_column : (w f g i j : ℕ) → i < w → j < w → cell w f i ≡ cell w g j → f ≡ g
unfolding cell
cell_column w f g i j h l e = sym (digits_div f {m = w} {r = i} h) ∙ ap (λ (x : ℕ). x / w) e ∙ digits_div g {m = w} {r = j} l

-- and of one number in it
pub cell_number : (w f g i j : ℕ) → i < w → j < w → cell w f i ≡ cell w g j → i ≡ j
unfolding cell
cell_number w f g i j h l e = sym (digits_mod f {m = w} {r = i} h) ∙ ap (λ (x : ℕ). x % w) e ∙ digits_mod g {m = w} {r = j} l

-- ---- sizes
-- places as the code computes them
pub places_min : (n : ℕ) → places_for n ≡ min n 512
unfolding places_for least
places_min n = elim (dec_le n 512) [
  | yes h ↦ rw (le-leb n 512 h) (omega arith)
  | no h ↦ rw (lt-leb n 512 (omega arith)) (omega arith)
]

-- ---- bounds of the columns
module _ (n f i : ℕ) where
  -- words of pieces stand behind the head
  pub piece_word_from : 16 ≤ piece_word_at n f i
  unfolding piece_word_at
  piece_word_from = omega arith

  -- and in front of the peers
  pub piece_word_below : f < 2 → i < n → piece_word_at n f i < 16 + 2 * n
  unfolding piece_word_at
  piece_word_below h l = omega (arith, cell_below n f i 2 h l)

  -- cells of pieces stand in front of the blocks
  pub piece_cell_below : f < 4 → i < n → piece_cell_at n f i < 4 * n
  unfolding piece_cell_at
  piece_cell_below h l = cell_below n f i 4 h l

module _ (n b p j : ℕ) where
  -- peers stand behind the pieces
  pub peer_from : 16 + 2 * n ≤ peer_at n b p j
  unfolding peer_at
  peer_from = omega arith

  -- and end with the need
  pub peer_below : p < places_for n → j < b → peer_at n b p j < words_for n b
  unfolding peer_at words_for
  peer_below h l = omega (arith, cell_below b p j (places_for n) h l)

module _ (n b f p j : ℕ) where
  -- cells of blocks stand behind the pieces
  pub block_cell_from : 4 * n ≤ block_cell_at n b f p j
  unfolding block_cell_at
  block_cell_from = omega arith

  -- and end with the need
  pub block_cell_below : f < 3 → p < places_for n → j < b → block_cell_at n b f p j < cells_for n b
  unfolding block_cell_at cells_for
  block_cell_below h l m = omega (arith, cell_below (places_for n * b) f (cell b p j) 3 h (cell_below b p j (places_for n) l m))

-- the head and the words of the pieces lie in the need
pub words_from : (n b : ℕ) → 16 + 2 * n ≤ words_for n b
unfolding words_for
words_from n b = omega arith

-- the cells of the pieces do
pub cells_from : (n b : ℕ) → 4 * n ≤ cells_for n b
unfolding cells_for
cells_from n b = omega arith

-- ---- no two at one offset
module _ (n f g i j : ℕ) (hi : i < n) (hj : j < n) where
  -- words of pieces: one column
  pub piece_word_column : piece_word_at n f i ≡ piece_word_at n g j → f ≡ g
  unfolding piece_word_at
  piece_word_column e = cell_column n f g i j hi hj (omega arith)

  -- and one piece
  pub piece_word_piece : piece_word_at n f i ≡ piece_word_at n g j → i ≡ j
  unfolding piece_word_at
  piece_word_piece e = cell_number n f g i j hi hj (omega arith)

  -- cells of pieces: one column
  pub piece_cell_column : piece_cell_at n f i ≡ piece_cell_at n g j → f ≡ g
  unfolding piece_cell_at
  piece_cell_column e = cell_column n f g i j hi hj e

  -- and one piece
  pub piece_cell_piece : piece_cell_at n f i ≡ piece_cell_at n g j → i ≡ j
  unfolding piece_cell_at
  piece_cell_piece e = cell_number n f g i j hi hj e

module _ (n b p q i j : ℕ) (hi : i < b) (hj : j < b) (e : peer_at n b p i ≡ peer_at n b q j) where
  -- peers: one place
  pub peer_place : p ≡ q
  unfolding peer_at
  peer_place = cell_column b p q i j hi hj (omega arith)

  -- and one block
  pub peer_block : i ≡ j
  unfolding peer_at
  peer_block = cell_number b p q i j hi hj (omega arith)

module _ (n b f g p q i j : ℕ) (hp : p < places_for n) (hq : q < places_for n) (hi : i < b) (hj : j < b) (e : block_cell_at n b f p i
    ≡ block_cell_at n b g q j) where
  first : cell b p i < places_for n * b
  first = cell_below b p i (places_for n) hp hi

  second : cell b q j < places_for n * b
  second = cell_below b q j (places_for n) hq hj

  inner : cell b p i ≡ cell b q j
  unfolding block_cell_at
  inner = cell_number (places_for n * b) f g (cell b p i) (cell b q j) first second (omega arith)

  -- cells of blocks: one column
  pub block_cell_column : f ≡ g
  unfolding block_cell_at
  block_cell_column = cell_column (places_for n * b) f g (cell b p i) (cell b q j) first second (omega arith)

  -- one place
  pub block_cell_place : p ≡ q
  block_cell_place = cell_column b p q i j hi hj inner

  -- and one block
  pub block_cell_block : i ≡ j
  block_cell_block = cell_number b p q i j hi hj inner

-- ---- sizes of what the code computes
-- no product of the offsets wraps
pub record Small (s : Shape) (f p : ℕ) : Type 0 where
  pub places : s.places ≤ 512
  pub piece : f * s.pieces ≤ 16384
  pub all : s.places * s.blocks ≤ 131072
  pub block : f * (s.places * s.blocks) ≤ 524288
  pub row : p * s.blocks ≤ 131072

-- for a shape that can be
pub small : (s : Shape) (f p : ℕ) → Sizes s → f < 4 → p ≤ s.places → Small s f p
small s f p z h l =
    let a : s.places ≤ 512 = omega (arith, z.places ∙ places_min s.pieces) in
    let d : f ≤ 4 = omega arith in
    let e : s.places * s.blocks ≤ 512 * 256 = mul-le-mul a z.wide in
    let g : p ≤ 512 = omega arith in
    record {
      places = a;
      piece = mul-le-mul d z.many;
      all = e;
      block = mul-le-mul d e;
      row = mul-le-mul g z.wide;
    }

-- ---- in buffers that are long enough
module _ (s : Shape) (words : List ℕ) (r : WordsSpan s words) where
  -- the head
  pub head_in : 16 ≤ length words
  head_in = omega (arith, words_from s.pieces s.blocks, r.long)

  -- a word of a piece
  pub piece_word_in : (f i : ℕ) → f < 2 → i < s.pieces → piece_word_at s.pieces f i < length words
  piece_word_in f i h l = omega (arith, piece_word_below s.pieces f i h l, words_from s.pieces s.blocks, r.long)

  -- a peer
  pub peer_in : (p j : ℕ) → p < s.places → j < s.blocks → peer_at s.pieces s.blocks p j < length words
  peer_in p j h l = omega (arith, peer_below s.pieces s.blocks p j (rw (← r.sizes.places) h) l, r.long)

module _ (s : Shape) (cells : List ℕ) (r : CellsSpan s cells) where
  -- a cell of a piece
  pub piece_cell_in : (f i : ℕ) → f < 4 → i < s.pieces → piece_cell_at s.pieces f i < length cells
  piece_cell_in f i h l = omega (arith, piece_cell_below s.pieces f i h l, cells_from s.pieces s.blocks, r.long)

  -- a cell of a block
  pub block_cell_in : (f p j : ℕ) → f < 3 → p < s.places → j < s.blocks → block_cell_at s.pieces s.blocks f p j < length cells
  block_cell_in f p j h l m = omega (arith, block_cell_below s.pieces s.blocks f p j h (rw (← r.sizes.places) l) m, r.long)
