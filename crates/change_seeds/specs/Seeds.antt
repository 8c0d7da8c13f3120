-- Peer counts with room for one more, and a list that a test makes dirty. Assumes nothing.
use Rattle.std.specs.Prelude.{ℕ, ◌<◌, ◌≡◌, Bool, false, List}
use Rattle.model.specs.Lists.{when}
use Rattle.model.specs.State.{mark_dirty}
use Rattle.memory_layout.specs.declared.shape.Shape.{Shape}
use Rattle.memory_layout.specs.Decode.{piece_cell}
use Rattle.memory_layout.specs.Bounds.{RanksHeld}
use Rattle.memory_layout.specs.Stores.{WordsBecame}

-- one more has room in each
abbrev pub CountsFit : (s : Shape) (cells : List ℕ) → Type 0
CountsFit s cells = (i : ℕ) → i < s.pieces → piece_cell cells s.pieces 0 i < 65535

-- dirty where the test says so, and then with no rank to hold; else the list holds the ranks that it held
pub record DirtyWhere (s : Shape) (test : Bool) (entry exit : List ℕ) : Type 0 where
  pub became : WordsBecame s (when test mark_dirty) entry exit
  pub ranks : (rank : ℕ → ℕ) → (test ≡ false → RanksHeld s.pieces entry rank) → RanksHeld s.pieces exit rank
