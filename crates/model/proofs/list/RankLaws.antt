-- What a piece's rank depends on: the seeds and the piece itself.
use mathlib.Core.Path.{◌≡◌, ap, ap₂}
use mathlib.Core.Logic.{◌≢◌}
use Prim.Native.Nat.{ℕ, ◌+◌, ◌≤◌, ◌<◌}
use native.Mathlib.Omega.{arith}
use mathlib.Core.Bool.{false}
use mathlib.Core.List.{List}
use lib.ListN.{get_or, length-set, get_or-eq_default}
use lib.Seq.{get_or-set_same, get_or-set_other}
use lib.Dec.{eqb}
use borrow.Author.Tests.{ne_eqb}
use Rattle.model.specs.Lists.{nth, set_nth, len}
use Rattle.model.specs.State.{Piece, Picker, no_piece, with_seeds, with_pieces, with_piece, piece_at, pieces_in}
use Rattle.model.specs.list.Order.{unlisted, bucket, rank_of, rank}

-- pickers with the same seeds and pieces have the same ranks
pub rank_same : (s s' : Picker) → s'.seeds ≡ s.seeds → s'.pieces ≡ s.pieces → (i : ℕ) → rank s' i ≡ rank s i
unfolding rank piece_at
rank_same s s' e p i = ap₂ (λ (n : ℕ) (ps : List Piece). rank_of (bucket n (nth no_piece ps i))) e p

-- what is no piece has rank 0
pub rank_beyond : (s : Picker) (i : ℕ) → pieces_in s ≤ i → rank s i ≡ 0
unfolding rank piece_at pieces_in nth len bucket unlisted no_piece rank_of
rank_beyond s i h = rw (get_or-eq_default s.pieces no_piece h)

-- ---- a piece changed
module _ (x : ℕ) (f : Piece → Piece) (s : Picker) where
  -- as many pieces
  pub pieces_in-with_piece : pieces_in (with_piece x f s) ≡ pieces_in s
  unfolding pieces_in len with_piece with_pieces set_nth
  pieces_in-with_piece = length-set s.pieces x (f (piece_at s x))

  -- it is what f makes of it
  pub piece_at_same : x < pieces_in s → piece_at (with_piece x f s) x ≡ f (piece_at s x)
  unfolding pieces_in len piece_at nth with_piece with_pieces set_nth
  piece_at_same h = get_or-set_same s.pieces x (f (get_or s.pieces x no_piece)) no_piece h

  -- the others are as they were
  pub piece_at_other : (y : ℕ) → y ≢ x → piece_at (with_piece x f s) y ≡ piece_at s y
  unfolding piece_at nth with_piece with_pieces set_nth
  piece_at_other y n = get_or-set_other s.pieces x y (f (get_or s.pieces x no_piece)) no_piece n

  -- its rank is the changed piece's
  pub rank_changed : x < pieces_in s → rank (with_piece x f s) x ≡ rank_of (bucket s.seeds (f (piece_at s x)))
  unfolding rank with_piece with_pieces
  rank_changed h = ap (λ (p : Piece). rank_of (bucket s.seeds p)) (piece_at_same h)

  -- the others keep theirs
  pub rank_other : (y : ℕ) → y ≢ x → rank (with_piece x f s) y ≡ rank s y
  unfolding rank with_piece with_pieces
  rank_other y n = ap (λ (p : Piece). rank_of (bucket s.seeds p)) (piece_at_other y n)

-- ---- seeds
some_seed : (c n : ℕ) → 1 ≤ n → eqb (c + n) 0 ≡ false
some_seed c n h = ne_eqb (c + n) 0 (λ (e : c + n ≡ 0). absurd (omega arith))

-- how many seeds there are does not matter where there is one
pub rank-seeds : (n : ℕ) (s : Picker) (i : ℕ) → 1 ≤ n → 1 ≤ s.seeds → rank (with_seeds n s) i ≡ rank s i
unfolding rank with_seeds piece_at bucket unlisted
rank-seeds n s i h k = rw (some_seed (nth no_piece s.pieces i).peer_count n h, some_seed (nth no_piece s.pieces i).peer_count s.seeds k)
