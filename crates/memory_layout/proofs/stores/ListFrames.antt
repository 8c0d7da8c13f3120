-- Stores that leave the list and the ranks beside it. Assumes nothing.
use mathlib.Core.Path.{refl, sym, ◌∙◌}
use mathlib.Core.Logic.{◌≢◌}
use mathlib.Core.List.{List}
use Prim.Native.Nat.{ℕ, ◌-◌, ◌≤◌, ◌<◌}
use native.Mathlib.Omega.{arith}
use lib.ListN.{set}
use Rattle.memory_layout.specs.declared.shape.Shape.{Shape}
use Rattle.memory_layout.specs.Offsets.{piece_word_at, peer_at}
use Rattle.memory_layout.specs.Decode.{head_word}
use Rattle.memory_layout.specs.Bounds.{RanksHeld}
use Rattle.memory_layout.specs.Stores.{ListKept}
use Rattle.memory_layout.specs.Frames.{BlockPut}
use Rattle.memory_layout.proofs.OffsetLaws.{piece_word_from, peer_from}
use Rattle.memory_layout.proofs.Same.{head_other, head_same, column_below, column_above, column_other}
use Rattle.memory_layout.proofs.ReadLaws.{ranks_same}
use Rattle.memory_layout.proofs.stores.ExtentStores.{Closing}

-- the ranks stay
pub ranks_kept : (s : Shape) (words words' : List ℕ) (g : ℕ → ℕ) → ListKept s words words' → head_word words 6 ≤ s.pieces
    → RanksHeld s.pieces words g
    → RanksHeld s.pieces words' g
ranks_kept s words words' g l room r = ranks_same s.pieces words words' g l.long (λ k h. l.word k (omega arith)) r

-- ---- frames, one after another
-- nothing stored
pub list_kept_none : (s : Shape) (words : List ℕ) → ListKept s words words
list_kept_none s words = record { long = refl; word = λ k h. refl }

-- two frames
pub list_kept_again : (s : Shape) (a b c : List ℕ) → ListKept s a b → ListKept s b c → ListKept s a c
list_kept_again s a b c x y = record { long = y.long ∙ x.long; word = λ k h. y.word k h ∙ x.word k h }

-- ---- stores
module _ (s : Shape) (words : List ℕ) (v : ℕ) where
  -- a word of the head other than the list's length
  pub head_list_kept : (k : ℕ) → k < 16 → k ≢ 6 → ListKept s words (set words k v)
  head_list_kept k h ne = record { long = head_other words k v 6 (λ e. ne (sym e)); word = column_below words k v s.pieces h 1 }

  -- the pad bytes of a piece
  pub pad_list_kept : (i : ℕ) → i < s.pieces → ListKept s words (set words (piece_word_at s.pieces 0 i) v)
  pad_list_kept i h =
      record {
        long = head_same words (piece_word_at s.pieces 0 i) v (piece_word_from s.pieces 0 i) 6 (omega arith);
        word = column_other s.pieces words 0 i v h 1 (λ e. omega arith);
      }

  -- the peer of a block
  pub peer_list_kept : (p j : ℕ) → ListKept s words (set words (peer_at s.pieces s.blocks p j) v)
  peer_list_kept p j =
      let low = peer_from s.pieces s.blocks p j in
      record {
        long = head_same words (peer_at s.pieces s.blocks p j) v (omega arith) 6 (omega arith);
        word = column_above words (peer_at s.pieces s.blocks p j) v s.pieces low 1 (omega arith);
      }

-- the four numbers of a block
pub block_list_kept : (s : Shape) (words cells words' cells' : List ℕ) (p j state num_peers has peer : ℕ)
    → BlockPut s words cells words' cells' p j state num_peers has peer → ListKept s words words'
block_list_kept s words cells words' cells' p j state num_peers has peer b = record {
  long = b.head 6 (omega arith);
  word = b.columns 1
      (omega arith);
}

-- an extent removed
pub extent_list_kept : (s : Shape) (words : List ℕ) (p n j : ℕ) (words' : List ℕ) → Closing words p n j words' → (w : ℕ)
    → ListKept s words (set words' 8 w)
extent_list_kept s words p n j words' c w =
    list_kept_again s words words' (set words' 8 w) (record {
      long = c.before 6 (omega arith);
      word = (c.behind s).columns 1 (omega arith);
    })
    (head_list_kept s words' w 8 (omega arith) (λ e. omega arith))
