-- `put_block_at` meets its contract. Assumes nothing.
use Prim.Native.Nat.{ℕ}
use Rattle.image_parts.specs.Parts.{peer_written}
use mathlib.Core.Path.{ap, ◌∙◌}
use Rattle.image_parts.proofs.RecordMeanings.{block_put}
use Rattle.image_parts.proofs.blocks.put_block_at.Goals as goal

pub returns : goal.returns
returns c = block_put _ _ _ _ _ _ _ _ _ _ _ _ _ c.requires.spans.1
    (c.u16_to_u64-state.ensures ∙ c.block_cell.ensures)
    (c.u16_to_u64-num_peers.ensures ∙ c.block_cell-2.ensures)
    (c.u16_to_u64-has.ensures ∙ c.block_cell-3.ensures)
    (c.peer_or_zero-peer.ensures ∙ ap (λ (x : ℕ). peer_written c.u16_to_u64-has.result x) c.peer_word.ensures) c.put_block.ensures
