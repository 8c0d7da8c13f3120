-- Recorded calls, led through the definition: what each answers and the image after it. Assumes nothing.
use Rattle.std.specs.Prelude.{ℕ, ◌-◌, List, [], ◌∷◌, ◌++◌, length, replicate}
use Rattle.std.proofs.Math.Option.{Option, none, some}
use Rattle.types.specs.declared.refusal.Refusal.{Refusal}
use Rattle.model.specs.State.{Picker}
use Rattle.model.specs.pick.Blocks.{PickRequest}
use Rattle.model.specs.image.Image.{image}
use Rattle.model.specs.Memory.{Memory}
use Rattle.model.specs.Calls.{Action, Answer, Step, Made, made, not_made, Taken, taken, not_taken, step, new_picker, read_picker, take_image}

-- ---- a script's line
-- `lent` is the memory, `room` the bytes lent for an image
pub data Line : Type 0 where
  new_line : (lent : Memory) → (total_size piece_size : ℕ) → Line
  read_line : (lent : Memory) → List ℕ → Line
  image_line : (lent : Memory) → (room : ℕ) → Line
  call_line : (lent : Memory) → Action → Line

-- so many words, cells and records
abbrev pub lending : ℕ → ℕ → ℕ → Memory
lending w c p = record { words = w; cells = c; partials = p }

-- more than is needed
abbrev pub plenty : Memory
plenty = lending 1000000 1000000 1000000

-- n lent words: those listed, then zeros
abbrev pub words : ℕ → List ℕ → List ℕ
words n ws = ws ++ replicate (n - length ws) 0

-- what a pick is asked, in the order of the script
abbrev pub asking : ℕ → ℕ → ℕ → ℕ → Option ℕ → ℕ → List ℕ → List ℕ → PickRequest
asking o n r p q b bs ss = record { options = o; wanted = n; contiguous = r; peers = p; peer = q; bits = b; bytes = bs; suggestions = ss }

-- ---- an outcome
-- `stands` is said of a picker made, `no_picker` of a call that finds none
pub data Given : Type 0 where
  stands : Given
  not_done : Refusal → Given
  bytes_taken : List ℕ → Given
  answered : Answer → Given
  no_picker : Given

-- what is given, and the image after it: no bytes where no picker stands
pub record Outcome : Type 0 where
  pub given : Given
  pub image : List ℕ

-- what is given, and the picker after it
pub record After : Type 0 where
  pub given : Given
  pub picker : Option Picker

-- ---- leading
unfoldable pub after : Given → Option Picker → After
after g s = record { given = g; picker = s }

-- a picker made, or the one that stood
unfoldable pub making : Option Picker → Made → After
making s (made t) = after stands (some t)
making s (not_made why) = after (not_done why) s

-- an image taken
unfoldable pub taking : Option Picker → Taken → After
taking s (taken bs) = after (bytes_taken bs) s
taking s (not_taken why) = after (not_done why) s

-- a call answered
unfoldable pub stepping : Step → After
stepping x = after (answered x.answer) (some x.after)

-- a line on a picker, or on none
unfoldable pub lead : Option Picker → Line → After
lead s (new_line lent total_size piece_size) = making s (new_picker lent total_size piece_size)
lead s (read_line lent bs) = making s (read_picker lent bs)
lead none (image_line lent room) = after no_picker none
lead (some s) (image_line lent room) = taking (some s) (take_image s lent room)
lead none (call_line lent a) = after no_picker none
lead (some s) (call_line lent a) = stepping (step s (record { lent = lent; action = a }))

-- the image of a picker, or no bytes
unfoldable pub image_after : Option Picker → List ℕ
image_after none = []
image_after (some s) = image s

-- the outcome of what was led
unfoldable pub outcome_of : After → Outcome
outcome_of x = record { given = x.given; image = image_after x.picker }

-- the outcomes of a list of lines
unfoldable pub outcomes : Option Picker → List Line → List Outcome
outcomes s [] = []
outcomes s (l ∷ ls) =
    let x = lead s l in
    outcome_of x ∷ outcomes x.picker ls

-- ---- what is recorded
-- an outcome written out
abbrev pub outcome : Given → List ℕ → Outcome
outcome g bs = record { given = g; image = bs }
