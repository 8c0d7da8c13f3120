-- A block of a standing partial asked for once more, by the numbers of the partial's blocks. Assumes nothing.
use Rattle.std.specs.Prelude.{ℕ, ◌<◌, ◌≡◌, Bool, List}
use Rattle.std.proofs.Math.Option.{some}
use Rattle.types.specs.Peer.{named_peer}
use Rattle.model.specs.list.Order.{Draws}
use Rattle.model.specs.change.Partials.{block_at}
use Rattle.model.specs.change.Changes.{reverse_asked, mark_downloading_in}
use Rattle.memory_layout.specs.declared.shape.Shape.{Shape}
use Rattle.memory_layout.specs.Decode.{decode}
use Rattle.memory_layout.specs.Changes.{partial_in}
use Rattle.change_state.specs.declared.states.Tally.{Tally}
use Rattle.change_blocks.specs.Replacing.{TallyBeside}
use Rattle.change_receipts.specs.declared.answers.Marked.{Marked}
use Rattle.change_receipts.specs.Marking.{Marks}

-- ---- before
-- the partial of piece i stands at place p with the numbers of t, it has a block j, and one peer more of it can be counted
pub record RequestBeside (s : Shape) (words cells : List ℕ) (i p j : ℕ) (t : Tally) : Type 0 where
  pub beside : TallyBeside s words cells i p j t
  pub few : (block_at (partial_in (decode beside.records words cells) beside.k) j).num_peers < 65535

-- ---- after
-- the definition's `mark_downloading_in` of a standing partial
pub record Requested (s : Shape) (draws : Draws) (i p j : ℕ) (back has : Bool) (peer : ℕ) (t : Tally) (words cells : List ℕ) (used : ℕ)
    (words' cells' : List ℕ) (r : Marked) : Type 0 where
  pub marks : (options : ℕ) → back ≡ reverse_asked options
      → Marks s (λ d. mark_downloading_in draws i (some d) j (named_peer has peer) options) i p j t words cells used words' cells' r
