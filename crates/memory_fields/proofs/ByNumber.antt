-- A change that goes by a number read before: it is a change of the picker alone. Assumes nothing.
use mathlib.Core.Path.{ap}
use mathlib.Core.List.{List}
use Prim.Native.Nat.{ℕ}
use Rattle.model.specs.State.{Picker}
use Rattle.memory_layout.specs.declared.shape.Shape.{Shape}
use Rattle.memory_layout.specs.Decode.{decode}
use Rattle.memory_layout.specs.Stores.{WordsBecame, CellsBecame}
use Rattle.memory_layout.proofs.BoundsLaws.{became_named}
use Rattle.memory_fields.specs.Reading.{HeadSays, WordsSay, CellsSay}

module _ {A : Type 0} (s : Shape) (field : Picker → A) (r : A) (change : A → Picker → Picker) where
  -- read from the cells and stored into them
  pub cells_by : (cells cells' : List ℕ) → CellsSay s cells field r → CellsBecame s (change r) cells cells'
      → CellsBecame s (λ d. change (field d) d) cells cells'
  cells_by cells cells' e b = record {
    kept = b.kept;
    became = λ records words q.
        became_named s (change r) (λ d. change (field d) d) records words cells words cells'
        (ap (λ (x : A). change x (decode records words cells)) (e.is records words q)) (b.became records words q);
  }

  -- of the words
  pub words_by : (words words' : List ℕ) → WordsSay s words field r → WordsBecame s (change r) words words'
      → WordsBecame s (λ d. change (field d) d) words words'
  words_by words words' e b = record {
    kept = b.kept;
    became = λ records cells q.
        became_named s (change r) (λ d. change (field d) d) records words cells words' cells
        (ap (λ (x : A). change x (decode records words cells)) (e.is records cells q)) (b.became records cells q);
  }

  -- of the head
  pub head_by : (words words' : List ℕ) → HeadSays words field r → WordsBecame s (change r) words words'
      → WordsBecame s (λ d. change (field d) d) words words'
  head_by words words' e b = words_by words words' (record { is = λ records cells q. e.is records cells }) b
