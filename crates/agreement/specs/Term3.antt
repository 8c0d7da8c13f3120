-- Term 3: a saved state is the whole state. The pickers that it speaks of, and what it says of them.
use Rattle.std.specs.Prelude.{◌≡◌, ◌↔◌, ℕ, ◌≤◌, false, List}
use Rattle.model.specs.Lists.{len}
use Rattle.model.specs.State.{Picker}
use Rattle.model.specs.image.Image.{image}
use Rattle.model.specs.Memory.{Memory, memory_needed, is_short}
use Rattle.model.specs.Calls.{Call, answers, run, made, new_picker, read_picker, taken, take_image}

-- a picker made new, or read from an image, by a call that was not refused
pub data Started : Picker → Type 0 where
  from_new : (lent : Memory) (total_size piece_size : ℕ) (s : Picker) → new_picker lent total_size piece_size ≡ made s → Started s
  from_image : (lent : Memory) (bytes : List ℕ) (s : Picker) → read_picker lent bytes ≡ made s → Started s

-- and then led through any list of calls
pub data Reached : Picker → Type 0 where
  after : {s : Picker} → Started s → (calls : List Call) → Reached (run s calls)

-- the bytes, read in such memory, give a picker that answers every later list of calls as s does
pub record SetBack (s : Picker) (lent : Memory) (bytes : List ℕ) : Type 0 where
  pub picker : Picker
  pub read : read_picker lent bytes ≡ made picker
  pub answers_as : (later : List Call) → answers picker later ≡ answers s later

-- For any pickers that are reached, whatever their torrents:
pub record Term3 : Type 0 where
  -- images are equal exactly when every later list of calls is answered alike
  pub agree :
      (s t : Picker) → Reached s → Reached t → (image s ≡ image t) ↔ ((calls : List Call) → answers s calls ≡ answers t calls)
  -- equal images stay equal after every list of calls
  pub images_stay :
      (s t : Picker) → Reached s → Reached t → image s ≡ image t → (calls : List Call) → image (run s calls) ≡ image (run t calls)
  -- a picker read from an accepted image has that image
  pub image_kept : (lent : Memory) (bytes : List ℕ) (s : Picker) → read_picker lent bytes ≡ made s → image s ≡ bytes
  -- the image of a picker is accepted, given memory enough, and gives that picker
  pub image_accepted :
      (s : Picker) → Reached s → (lent : Memory) → is_short lent (memory_needed s) ≡ false → read_picker lent (image s) ≡ made s
  -- taking the image gives it, where memory and room are enough, and never anything else
  pub image_taken :
      (s : Picker) (lent : Memory) (room : ℕ) → is_short lent (memory_needed s) ≡ false → len (image s) ≤ room
      → take_image s lent room ≡ taken (image s)
  pub taken_image : (s : Picker) (lent : Memory) (room : ℕ) (bytes : List ℕ) → take_image s lent room ≡ taken bytes → bytes ≡ image s
  -- calls lead from a picker that is reached to one that is, and the memory needed does not change on the way
  pub reached_stays : (s : Picker) → Reached s → (calls : List Call) → Reached (run s calls)
  pub memory_stays : (s : Picker) → (calls : List Call) → memory_needed (run s calls) ≡ memory_needed s
  -- a station takes the image of its picker, goes away by any calls, and reads those bytes in the memory it has, which is enough for the
  -- picker it has by then: from there on it answers as if it had never left
  pub set_back :
      (s : Picker) → Reached s → (lent : Memory) (room : ℕ) (bytes : List ℕ) → take_image s lent room ≡ taken bytes
      → (away : List Call) (lent' : Memory) → is_short lent' (memory_needed (run s away)) ≡ false → SetBack s lent' bytes
