-- A block of a standing partial given back, from the first draw on. Assumes nothing.
use Rattle.std.specs.Prelude.{ℕ, List}
use Rattle.std.proofs.Math.Option.{Option}
use Rattle.model.specs.State.{DownloadingPiece}
use Rattle.model.specs.list.Order.{Drawing}
use Rattle.memory_records.specs.declared.edits.Edit.{Edit}
use Rattle.memory_layout.specs.declared.shape.Shape.{Shape}
use Rattle.change_state.specs.declared.states.Tally.{Tally}
use Rattle.change_blocks.specs.Replacing.{TallyAt}
use Rattle.change_returns.specs.Giving.{PartialChanged}

-- `change` of the partial of piece i that stands at place p with the numbers of t and has a block j
abbrev pub Gave : (s : Shape) (change : (found : Option DownloadingPiece) (w : Drawing) → Drawing) (i p j : ℕ) (t : Tally)
    (words cells words' cells' : List ℕ) (edit : Edit) (next : ℕ) → Type 0
Gave s change i p j t words cells words' cells' edit next =
    PartialChanged s change i (λ records k. TallyAt s records words cells i p j t k) words cells 0 words' cells' edit next
