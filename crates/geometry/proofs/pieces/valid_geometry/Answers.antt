-- `valid_geometry` meets its contract, test by test. Assumes nothing.
use native.Mathlib.Omega.{arith}
use Rattle.geometry.proofs.ValidLaws.{no_total, no_size, large_size, by_total}
use Rattle.geometry.proofs.pieces.valid_geometry.Goals as goal

pub returns-then-total-lt1 : goal.returns-then-total-lt1
returns-then-total-lt1 c = no_total _ _ (omega arith)

pub returns-then-size-lt1 : goal.returns-then-size-lt1
returns-then-size-lt1 c = no_size _ _ (omega arith) (omega arith)

pub returns-then-size-gt-MAX_PIECE_SIZE : goal.returns-then-size-gt-MAX_PIECE_SIZE
returns-then-size-gt-MAX_PIECE_SIZE c = large_size _ _ (omega arith) (omega arith) (omega arith)

pub returns : goal.returns
returns c = by_total _ _ (omega arith) (omega arith) (omega arith)
