-- What a piece adds to a pick: the room it asks for, and what it has done. Counters are not looked at, nor, by a partial, marks. Assumes
-- nothing.
use Rattle.std.specs.Prelude.{ℕ, Bool, List}
use Rattle.model.specs.State.{Picker}
use Rattle.model.specs.pick.Blocks.{PickState}
use Rattle.pick_state.specs.declared.numbers.PickNumbers.{PickNumbers}
use Rattle.pick_state.specs.Room.{Underway, Worked}

-- ---- a piece
-- the pick is under way, with some counters
pub record PieceRoom (d : Picker) (t : PickNumbers) (out aside : List ℕ) (ignored : List Bool) : Type 0 where
  pub loops : List ℕ
  pub underway : Underway d t out aside ignored loops

-- the step was made, whatever the counters
abbrev pub PieceWorked : (step : PickState → PickState) (d : Picker) (t r : PickNumbers) (out aside : List ℕ) (ignored : List Bool)
    (out' aside' : List ℕ) (ignored' : List Bool) → Type 0
PieceWorked step d t r out aside ignored out' aside' ignored' =
    (loops : List ℕ) → Worked step d t r out aside ignored loops out' aside' ignored' loops

-- ---- a partial
-- the pick is under way, with some marks and counters
pub record PartialRoom (d : Picker) (t : PickNumbers) (out aside : List ℕ) : Type 0 where
  pub ignored : List Bool
  pub loops : List ℕ
  pub underway : Underway d t out aside ignored loops

-- the step was made, whatever they are
abbrev pub PartialWorked : (step : PickState → PickState) (d : Picker) (t r : PickNumbers) (out aside out' aside' : List ℕ) → Type 0
PartialWorked step d t r out aside out' aside' =
    (ignored : List Bool) (loops : List ℕ) → Worked step d t r out aside ignored loops out' aside' ignored loops

-- ---- the run
-- another run
unfoldable pub with_run : (asked given : ℕ) (t : PickNumbers) → PickNumbers
with_run asked given t =
    record {
      left = t.left;
      asked = asked;
      given = given;
      used = t.used;
      flags = t.flags;
      end = t.end;
      aside = t.aside;
    }
