-- An image in a lent buffer, and how long it is. Assumes nothing.
use Rattle.std.specs.Prelude.{ℕ, ◌<◌, ◌≡◌, List, length, take, None, Option, Some}
use Rattle.model.specs.Lists.{len}
use Rattle.model.specs.State.{Picker}
use Rattle.model.specs.image.Image.{image, accepted, read_image}
use Rattle.memory_layout.specs.declared.shape.Shape.{Shape}
use Rattle.memory_rows.specs.Lookup.{picker_in}
use Rattle.ask_picker.specs.Asked.{Asked}
use Rattle.image_bytes.specs.Put.{Put}

-- a well-formed picker stands with some cells beside these words and rows
pub record AskedBeside (s : Shape) (live : ℕ) (rows words : List ℕ) : Type 0 where
  pub cells : List ℕ
  pub asked : Asked s live rows words cells

-- the length of its image, whichever cells these are
pub record LengthSays (s : Shape) (live : ℕ) (rows words : List ℕ) (r : ℕ) : Type 0 where
  pub is : (cells : List ℕ) → Asked s live rows words cells → r ≡ len (image (picker_in live rows words cells))

-- the first r bytes are the picker's image, the definition's reader accepts them as that picker, and nothing behind them moved
pub record ImageWritten (d : Picker) (before after : List ℕ) (r : ℕ) : Type 0 where
  pub put : Put 0 (image d) before after
  pub long : r ≡ len (image d)
  pub read : read_image (take r after) ≡ accepted d

-- it is written where it has room, and else nothing is
abbrev pub ImageTaken : (d : Picker) (before after : List ℕ) (r : Option ℕ) → Type 0
ImageTaken d before after (Some n) = ImageWritten d before after n
ImageTaken d before after None = (length before < len (image d)) × (after ≡ before)
