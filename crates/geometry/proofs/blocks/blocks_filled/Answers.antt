-- `blocks_filled` meets its contract: a block is as long as a piece, and no longer than 16384 bytes. Assumes nothing.
use mathlib.Core.Path.{ap}
use Prim.Native.Nat.{ℕ, ◌/◌}
use native.Mathlib.Omega.{arith}
use borrow.Author.Rules.{rules}
use Rattle.model.specs.Bep3.{block_length}
use Rattle.geometry.proofs.blocks.blocks_filled.Goals as goal

pub returns-then-size-gt-BLOCK_SIZE : goal.returns-then-size-gt-BLOCK_SIZE
unfolding block_length
returns-then-size-gt-BLOCK_SIZE c = ap (λ (n : ℕ). c.args.bytes / n) (omega arith)

pub returns : goal.returns
unfolding block_length
returns c = ap (λ (n : ℕ). c.args.bytes / n) (omega arith)
