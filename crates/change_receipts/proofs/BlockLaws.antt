-- A block was received or not, by the number of its state. Assumes nothing.
use mathlib.Core.Path.{◌≡◌, refl, subst}
use mathlib.Core.Bool.{true, false, ◌||◌}
use mathlib.Core.List.{List}
use Prim.Native.Nat.{ℕ, ◌≤◌, ◌<◌}
use native.Mathlib.Omega.{arith}
use Rattle.types.specs.declared.block.BlockState.{BlockState}
use Rattle.types.specs.declared.block.BlockState.TheVariants.{None, Requested, Writing, Finished}
use Rattle.types.specs.Block.{block_state_number}
use Rattle.model.specs.State.{Block, same_block_state}
use Rattle.model.specs.change.Partials.{block_at}
use Rattle.model.specs.change.Changes.{received}
use Rattle.memory_records.specs.declared.record.DownloadingPiece.{DownloadingPiece as Record}
use Rattle.memory_layout.specs.declared.shape.Shape.{Shape}
use Rattle.memory_layout.specs.Decode.{decode}
use Rattle.memory_layout.specs.Changes.{partial_in}
use Rattle.memory_blocks.specs.declared.info.BlockInfo.{BlockInfo}
use Rattle.memory_blocks.specs.Blocks.{BlockRead}
use Rattle.change_state.specs.declared.states.Tally.{Tally}
use Rattle.change_blocks.specs.Replacing.{TallyAt}
use Rattle.change_blocks.proofs.StandingLaws.{block_there}

received_high : (y : Block) (n : ℕ) → n ≡ block_state_number y.state → 2 ≤ n → received y ≡ true
unfolding received same_block_state
received_high y n e h = go y.state (subst (λ (v : ℕ). 2 ≤ v) e h)
  where
    go : (q : BlockState) → 2 ≤ block_state_number q → (same_block_state q Writing || same_block_state q Finished) ≡ true
    go None l = absurd (omega arith)
    go Requested l = absurd (omega arith)
    go Writing l = refl
    go Finished l = refl

received_low : (y : Block) (n : ℕ) → n ≡ block_state_number y.state → n < 2 → received y ≡ false
unfolding received same_block_state
received_low y n e h = go y.state (subst (λ (v : ℕ). v < 2) e h)
  where
    go : (q : BlockState) → block_state_number q < 2 → (same_block_state q Writing || same_block_state q Finished) ≡ false
    go None l = refl
    go Requested l = refl
    go Writing l = absurd (omega arith)
    go Finished l = absurd (omega arith)

-- the block that was read of a standing partial
module _ (s : Shape) (words cells : List ℕ) (i p j : ℕ) (t : Tally) (b : BlockInfo) (r : BlockRead s words cells p j b)
    (records : List Record) (k : ℕ) (a : TallyAt s records words cells i p j t k) where
  pub was_received : 2 ≤ b.state → received (block_at (partial_in (decode records words cells) k) j) ≡ true
  was_received h = received_high _ b.state (block_there s words cells i p j t b r records k a).state h

  pub not-received : b.state < 2 → received (block_at (partial_in (decode records words cells) k) j) ≡ false
  not-received h = received_low _ b.state (block_there s words cells i p j t b r records k a).state h
