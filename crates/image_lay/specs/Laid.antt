-- A column of numbers in a buffer, and all others as they were. Assumes nothing.
use Rattle.std.specs.Prelude.{ℕ, ◌+◌, ◌*◌, ◌≤◌, ◌<◌, ◌≡◌, List, length, get_or}
use Rattle.model.specs.image.Image.{field}

-- the number in w bytes at `first`, at `first` + `step`, and so on
unfoldable pub fields_at : (first step w : ℕ) (bytes : List ℕ) (j : ℕ) → ℕ
fields_at first step w bytes j = field (first + step * j) w bytes

-- the bytes have so many of them
abbrev pub Within : (first step many w : ℕ) (bytes : List ℕ) → Type 0
Within first step many w bytes = (j : ℕ) → j < many → first + step * j + w ≤ length bytes

-- none of the places of the column
abbrev pub Elsewhere : (start many q : ℕ) → Type 0
Elsewhere start many q = (j : ℕ) → j < many → q ≡ start + j → ⊥

-- the numbers from `start` on are f 0, f 1, .. up to `many` of them
pub record Laid (start many : ℕ) (f : ℕ → ℕ) (before after : List ℕ) : Type 0 where
  pub long : length after ≡ length before
  pub inside : (j : ℕ) → j < many → get_or after (start + j) 0 ≡ f j
  pub other : (q : ℕ) → Elsewhere start many q → get_or after q 0 ≡ get_or before q 0

-- three columns of one buffer: from x on, from y on and from z on
pub record LaidThree (x y z many : ℕ) (f g h : ℕ → ℕ) (before after : List ℕ) : Type 0 where
  pub long : length after ≡ length before
  pub first : (j : ℕ) → j < many → get_or after (x + j) 0 ≡ f j
  pub second : (j : ℕ) → j < many → get_or after (y + j) 0 ≡ g j
  pub third : (j : ℕ) → j < many → get_or after (z + j) 0 ≡ h j
  pub other : (q : ℕ) → Elsewhere x many q → Elsewhere y many q → Elsewhere z many q → get_or after q 0 ≡ get_or before q 0

-- four columns of one buffer: from x, y, z and t on
pub record LaidFour (x y z t many : ℕ) (f g h i : ℕ → ℕ) (before after : List ℕ) : Type 0 where
  pub long : length after ≡ length before
  pub first : (j : ℕ) → j < many → get_or after (x + j) 0 ≡ f j
  pub second : (j : ℕ) → j < many → get_or after (y + j) 0 ≡ g j
  pub third : (j : ℕ) → j < many → get_or after (z + j) 0 ≡ h j
  pub fourth : (j : ℕ) → j < many → get_or after (t + j) 0 ≡ i j
  pub other : (q : ℕ) → Elsewhere x many q → Elsewhere y many q → Elsewhere z many q → Elsewhere t many q → get_or after q 0 ≡ get_or before q 0
