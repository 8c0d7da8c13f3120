-- The test on each piece after the other, and the test on every piece by its number, say the same.
use mathlib.Core.Path.{◌≡◌, refl, sym, ap, ◌∙◌}
use Prim.Native.Nat.{ℕ, zero, suc, ◌-◌, ◌≤◌, ◌<◌}
use native.Mathlib.Decide.{ℕ_discrete}
use native.Mathlib.Omega.{arith}
use mathlib.Core.Bool.{true}
use mathlib.Core.List.{List, [], ◌∷◌}
use lib.ListN.{length, get_or, drop, length-drop}
use Rattle.model.specs.Lists.{nth, len}
use Rattle.model.specs.State.{Piece, Picker, no_piece, piece_at, pieces_in}
use Rattle.model.specs.image.WellFormed.{piece_ok, pieces_ok}
use Rattle.model.proofs.base.Truths.{both_true, true_both}

-- ---- what is left of a list from a place on
module _ {A : Type 0} where
  -- its first element stands at the place
  pub drop_head : (l : List A) (i : ℕ) (x d : A) (xs : List A) → drop i l ≡ x ∷ xs → get_or l i d ≡ x
  drop_head [] zero x d xs e = cc
  drop_head [] (suc i) x d xs e = cc
  drop_head (y ∷ ys) zero x d xs e = cc
  drop_head (y ∷ ys) (suc i) x d xs e = drop_head ys i x d xs e

  -- the others are left from the next place on
  pub drop_next : (l : List A) (i : ℕ) (x : A) (xs : List A) → drop i l ≡ x ∷ xs → drop (suc i) l ≡ xs
  drop_next [] zero x xs e = cc
  drop_next [] (suc i) x xs e = cc
  drop_next (y ∷ ys) zero x xs e = cc
  drop_next (y ∷ ys) (suc i) x xs e = drop_next ys i x xs e

module _ (s : Picker) where
  -- piece i is the first from i on
  pub left_piece : (i : ℕ) (p : Piece) (ps : List Piece) → drop i s.pieces ≡ p ∷ ps → piece_at s i ≡ p
  unfolding piece_at nth
  left_piece i p ps e = drop_head s.pieces i p no_piece ps e

  -- which is one of the picker's
  pub left_lt : (i : ℕ) (p : Piece) (ps : List Piece) → drop i s.pieces ≡ p ∷ ps → i < pieces_in s
  unfolding pieces_in len
  left_lt i p ps e = let g : length s.pieces - i ≡ suc (length ps) = sym (length-drop i s.pieces) ∙ ap length e in omega arith

  -- where nothing is left the pieces are at their end
  pub left_none : (i : ℕ) → drop i s.pieces ≡ [] → pieces_in s ≤ i
  unfolding pieces_in len
  left_none i e = let g : length s.pieces - i ≡ 0 = sym (length-drop i s.pieces) ∙ ap length e in omega arith

  -- ---- both ways, from piece i on
  pieces_each : (i : ℕ) (ps : List Piece) → drop i s.pieces ≡ ps → pieces_ok s i ps ≡ true → (k : ℕ) → i ≤ k → k < pieces_in s → piece_ok s k (piece_at s k) ≡ true
  unfolding pieces_ok
  pieces_each i [] e h k l u = let g = left_none i e in absurd (omega arith)
  pieces_each i (p ∷ ps) e h k l u =
      let b = both_true (piece_ok s i p) (pieces_ok s (suc i) ps) h in
      elim (ℕ_discrete i k) [
        | yes q ↦ rw (← q, left_piece i p ps e) b.0
        | no n ↦ pieces_each (suc i) ps (drop_next s.pieces i p ps e) b.1 k (omega arith) u
      ]

  pieces_all : (i : ℕ) (ps : List Piece) → drop i s.pieces ≡ ps → ((k : ℕ) → k < pieces_in s → piece_ok s k (piece_at s k) ≡ true) → pieces_ok s i ps ≡ true
  unfolding pieces_ok
  pieces_all i [] e f = refl
  pieces_all i (p ∷ ps) e f =
      true_both (piece_ok s i p) (pieces_ok s (suc i) ps)
      (rw (left_piece i p ps e) at (f i (left_lt i p ps e)))
      (pieces_all (suc i) ps (drop_next s.pieces i p ps e) f)

  -- ---- all pieces
  -- each piece passes its test
  pub pieces_ok_each : pieces_ok s 0 s.pieces ≡ true → (k : ℕ) → k < pieces_in s → piece_ok s k (piece_at s k) ≡ true
  pieces_ok_each h k u = pieces_each 0 s.pieces refl h k (omega arith) u

  -- and where each does, the test on all passes
  pub each_pieces_ok : ((k : ℕ) → k < pieces_in s → piece_ok s k (piece_at s k) ≡ true) → pieces_ok s 0 s.pieces ≡ true
  each_pieces_ok f = pieces_all 0 s.pieces refl f
