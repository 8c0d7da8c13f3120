-- Pieces of a picker: after one is changed, after all are, and past the last one.
use mathlib.Core.Path.{◌≡◌, refl, ap}
use Prim.Native.Nat.{ℕ, zero, suc, ◌≤◌, ◌<◌}
use native.Mathlib.Nat.{le_of_suc-le-suc}
use native.Mathlib.Decide.{ℕ_discrete, dec_le}
use native.Mathlib.Omega.{arith}
use mathlib.Core.List.{List, [], ◌∷◌}
use lib.ListN.{get_or-eq_default}
use lib.Seq.{set_out}
use Rattle.model.specs.Lists.{nth, len, set_nth, each}
use Rattle.model.specs.State.{Piece, Picker, no_piece, with_pieces, with_piece, piece_at, pieces_in}
use Rattle.model.specs.change.Changes.{all_pieces}
use Rattle.model.proofs.list.RankLaws.{piece_at_same, piece_at_other}

-- ---- a function on each element
module _ {A B : Type 0} (f : A → B) where
  -- as many elements
  pub size_each : (l : List A) → len (each f l) ≡ len l
  unfolding len each
  size_each [] = refl
  size_each (x ∷ xs) = ap suc (size_each xs)

  -- each place has the function's value, and so has what stands past the end
  pub at_each : (d : A) (l : List A) (i : ℕ) → nth (f d) (each f l) i ≡ f (nth d l i)
  unfolding nth each
  at_each d [] i = refl
  at_each d (x ∷ xs) zero = refl
  at_each d (x ∷ xs) (suc i) = at_each d xs i

  -- within the list, whatever stands past the end
  pub at_each_in : (d : A) (e : B) (l : List A) (i : ℕ) → i < len l → nth e (each f l) i ≡ f (nth d l i)
  unfolding nth each len
  at_each_in d e [] i h = absurd (omega arith)
  at_each_in d e (x ∷ xs) zero h = refl
  at_each_in d e (x ∷ xs) (suc i) h = at_each_in d e xs i (le_of_suc-le-suc h)

-- ---- past the last piece
-- there is no piece
pub piece_at_beyond : (s : Picker) (k : ℕ) → pieces_in s ≤ k → piece_at s k ≡ no_piece
unfolding piece_at pieces_in nth len
piece_at_beyond s k h = get_or-eq_default s.pieces no_piece h

-- and a change there changes nothing
pub with_piece_beyond : (i : ℕ) (f : Piece → Piece) (s : Picker) → pieces_in s ≤ i → with_piece i f s ≡ s
unfolding with_piece with_pieces set_nth pieces_in len
with_piece_beyond i f s h = rw (set_out s.pieces i (f (piece_at s i)) h)

-- ---- all pieces replaced
-- the pieces are those of the new list
pub piece_at-with_pieces : (ps : List Piece) (s : Picker) (k : ℕ) → piece_at (with_pieces ps s) k ≡ nth no_piece ps k
unfolding piece_at with_pieces
piece_at-with_pieces ps s k = refl

-- and as many
pub pieces_in-with_pieces : (ps : List Piece) (s : Picker) → pieces_in (with_pieces ps s) ≡ len ps
unfolding pieces_in with_pieces
pieces_in-with_pieces ps s = refl

-- ---- all pieces changed
module _ (f : Piece → Piece) (s : Picker) where
  -- as many pieces
  pub pieces_in-all_pieces : pieces_in (all_pieces f s) ≡ pieces_in s
  unfolding pieces_in all_pieces with_pieces
  pieces_in-all_pieces = size_each f s.pieces

  -- each of them changed
  pub piece_at-all_pieces : (k : ℕ) → k < pieces_in s → piece_at (all_pieces f s) k ≡ f (piece_at s k)
  unfolding pieces_in piece_at all_pieces with_pieces
  piece_at-all_pieces k h = at_each_in f no_piece no_piece s.pieces k h

  -- and none past the last
  pub piece_at-all_pieces_beyond : (k : ℕ) → pieces_in s ≤ k → piece_at (all_pieces f s) k ≡ no_piece
  piece_at-all_pieces_beyond k h = piece_at_beyond (all_pieces f s) k (rw pieces_in-all_pieces h)

-- ---- what a change leaves as it is
module _ {A : Type 0} (g : Piece → A) (f : Piece → Piece) (keeps : (p : Piece) → g (f p) ≡ g p) (s : Picker) where
  -- what reads the same of a changed piece reads the same of each piece, after a change of one
  pub piece_at_kept : (i k : ℕ) → g (piece_at (with_piece i f s) k) ≡ g (piece_at s k)
  piece_at_kept i k = elim (ℕ_discrete k i) [
    | yes e ↦ elim (dec_le (pieces_in s) i) [
      | yes h ↦ rw (with_piece_beyond i f s h)
      | no h ↦ rw (e, piece_at_same i f s (omega arith)) (keeps (piece_at s i))
    ]
    | no n ↦ ap g (piece_at_other i f s k n)
  ]

  -- and after a change of all
  pub piece_at_all_kept : (k : ℕ) → g (piece_at (all_pieces f s) k) ≡ g (piece_at s k)
  piece_at_all_kept k = elim (dec_le (pieces_in s) k) [
    | yes h ↦ rw (piece_at-all_pieces_beyond f s k h, piece_at_beyond s k h)
    | no h ↦ rw (piece_at-all_pieces f s k (omega arith)) (keeps (piece_at s k))
  ]
