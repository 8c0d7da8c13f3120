-- `within_limits` meets its contract. Assumes nothing.
use mathlib.Core.Path.{ap₂}
use mathlib.Core.Bool.{◌&&◌}
use Prim.Native.Nat.{ℕ}
use lib.Dec.{leb}
use borrow.Author.Rules.{rules}
use Rattle.pick_job.proofs.asking.within_limits.Goals as goal

pub returns : goal.returns
returns c = ap₂ (λ (n b : ℕ). leb n 64 && leb b 16) c.num_pieces.ensures c.blocks_per_piece.ensures
