-- The words of the head: what a store makes of the picker. Assumes nothing.
use mathlib.Core.Path.{◌≡◌}
use mathlib.Core.List.{List}
use Prim.Native.Nat.{ℕ, ◌≤◌}
use native.Mathlib.Omega.{arith}
use lib.ListN.{set}
use Rattle.memory_layout.specs.declared.shape.Shape.{Shape}
use Rattle.memory_layout.specs.Changes.{with_head}
use Rattle.memory_layout.specs.Bounds.{WordsSpan}
use Rattle.memory_layout.proofs.stores.HeadStores.{head_became}
use Rattle.memory_layout.proofs.stores.ListStores.{dirty_marked, dirty_ranks}
use Rattle.memory_layout.proofs.stores.ListFrames.{head_list_kept}
use Rattle.memory_fields.specs.Storing.{WordsStored, DirtyMarked}

-- a word from 2 to 4
pub word_set : (s : Shape) (words words' : List ℕ) → WordsSpan s words → (k v : ℕ) → 2 ≤ k → k ≤ 4 → words' ≡ set words k v
    → WordsStored s (with_head k v) words words'
word_set s words words' r k v low high e =
    rw e (record {
      became = head_became s words r k v low high;
      list = head_list_kept s words v k (omega arith) (λ o. omega arith);
    })

-- words 6 and 5
pub dirty_set : (s : Shape) (words words₁ words' : List ℕ) → WordsSpan s words → words₁ ≡ set words 6 0 → words' ≡ set words₁ 5 1
    → DirtyMarked s words words'
dirty_set s words words₁ words' r e₁ e = rw (e, e₁) (record { became = dirty_marked s words r; ranks = dirty_ranks s words r })
