-- `store_head` meets its contract: a run of stores. Assumes nothing.
use mathlib.Core.Path.{ap, ◌∙◌}
use mathlib.Core.List.{[], ◌∷◌, ◌++◌}
use Prim.Native.Nat.{ℕ}
use lib.ListN.{drop}
use lib.Seq.{sets-eq}
use Rattle.image_columns.specs.Columns.{head_words}
use native.Mathlib.Omega.{arith}
use Rattle.image_columns.proofs.head.store_head.Goals as goal

pub returns : goal.returns
unfolding head_words
returns c = sets-eq (c.args.head.total ∷ c.args.head.size ∷ c.args.head.seeds ∷ c.args.head.cursor ∷ c.args.head.reverse_cursor ∷ _ ∷ []) c.args.words.now 0 (omega (arith, c.requires))
    ∙ ap (λ (d : ℕ). (c.args.head.total ∷ c.args.head.size ∷ c.args.head.seeds ∷ c.args.head.cursor ∷ c.args.head.reverse_cursor ∷ d ∷ []) ++ drop 6 c.args.words.now)
    c.one_if-dirty.ensures
