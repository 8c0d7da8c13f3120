-- Laws of list words: what a word holds, and that words up to the highest of a rank are those of that rank and of lower ones.
-- Assumes nothing.
use Prim.Native.Nat.{ℕ, ◌+◌, ◌-◌, ◌%◌, ◌≤◌, ◌<◌}
use mathlib.Core.Path.{◌≡◌}
use native.Mathlib.Omega.{arith}
use lib.Arith.{digits_div, digits_mod}
use Rattle.list_entries.specs.Words.{listed_piece, listed_rank, list_word, top_of}

module _ (rank i : ℕ) (h : i < 65536) where
  -- a word has the piece that was put into it
  pub piece_of_word : listed_piece (list_word rank i) ≡ i
  unfolding listed_piece list_word
  piece_of_word = digits_mod rank h

  -- and the rank
  pub rank_of_word : listed_rank (list_word rank i) ≡ rank
  unfolding listed_rank list_word
  rank_of_word = digits_div rank h

-- a word is its rank and its piece
pub word_of_both : (w : ℕ) → list_word (listed_rank w) (listed_piece w) ≡ w
unfolding listed_piece listed_rank list_word
word_of_both w = omega arith

-- a piece has 16 bits
pub piece_lt : (w : ℕ) → listed_piece w < 65536
unfolding listed_piece
piece_lt w = omega arith

-- the highest word of w's rank
pub top_is : (w : ℕ) → w - w % 65536 + 65535 ≡ top_of (listed_rank w)
unfolding top_of listed_rank
top_is w = omega arith

module _ {top rank : ℕ} (e : top ≡ top_of rank) (h : 0 < rank) where
  -- the highest word of the rank below
  pub top_below : top - 65536 ≡ top_of (rank - 1)
  unfolding top_of
  top_below = omega (arith, e)

  -- there is one
  pub top_least : 65536 ≤ top
  unfolding top_of
  top_least = omega (arith, e)

module _ (rank w : ℕ) where
  -- up to the highest word of a rank stand words of no higher rank
  pub under_top : w ≤ top_of rank → listed_rank w ≤ rank
  unfolding top_of listed_rank
  under_top h = omega arith

  -- and all of them
  pub top_over : listed_rank w ≤ rank → w ≤ top_of rank
  unfolding top_of listed_rank
  top_over h = omega arith

  -- above it stand those of a higher rank
  pub over_top : top_of rank < w → rank < listed_rank w
  unfolding top_of listed_rank
  over_top h = omega arith
