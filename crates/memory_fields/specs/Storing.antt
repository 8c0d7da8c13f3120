-- What a store into the words leaves, beside what becomes of the picker. Assumes nothing.
use Rattle.std.specs.Prelude.{ℕ, List}
use Rattle.model.specs.State.{Picker, mark_dirty}
use Rattle.memory_layout.specs.declared.shape.Shape.{Shape}
use Rattle.memory_layout.specs.Bounds.{RanksHeld}
use Rattle.memory_layout.specs.Stores.{WordsBecame, BothBecame, ListKept}

-- the picker is changed so, and the list stays with the ranks in it
pub record WordsStored (s : Shape) (change : Picker → Picker) (entry exit : List ℕ) : Type 0 where
  pub became : WordsBecame s change entry exit
  pub list : ListKept s entry exit

-- the list is dirty, and has no rank to hold
pub record DirtyMarked (s : Shape) (entry exit : List ℕ) : Type 0 where
  pub became : WordsBecame s mark_dirty entry exit
  pub ranks : (rank : ℕ → ℕ) → RanksHeld s.pieces exit rank

-- a change of the words that goes by the cells beside them: the picker is changed so, and the list stays with the ranks in it
pub record StoredBeside (s : Shape) (change : Picker → Picker) (cells entry exit : List ℕ) : Type 0 where
  pub became : BothBecame s change entry exit cells cells
  pub list : ListKept s entry exit
