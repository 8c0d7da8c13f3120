-- The pieces of a range beside a piece i, for the pass over an extent. Assumes nothing.
use Rattle.std.specs.Prelude.{ℕ, Bool, not, ◌&&◌, List, eqb}
use Rattle.model.specs.Lists.{every, filter, each, range}
use Rattle.model.specs.State.{Piece, Picker, piece_at}

-- piece k is another than i, and of another priority
unfoldable pub other_priority : (d : Picker) (i k : ℕ) → Bool
other_priority d i k = not (eqb k i) && not (eqb (piece_at d k).priority (piece_at d i).priority)

-- piece k is another than i, and not flushed
unfoldable pub unflushed_other : (d : Picker) (i k : ℕ) → Bool
unflushed_other d i k = not (eqb k i) && not (piece_at d k).flushed

-- the pieces from k up to and without `end`, but i
unfoldable pub others : (d : Picker) (i k end : ℕ) → List Piece
others d i k end = each (piece_at d) (filter (λ j. not (eqb j i)) (range k end))

-- they have i's priority, and not all are flushed
unfoldable pub worth_among : (d : Picker) (i k end : ℕ) → Bool
worth_among d i k end =
    every (λ p. eqb p.priority (piece_at d i).priority) (others d i k end) && not (every (λ p. p.flushed) (others d i k end))
