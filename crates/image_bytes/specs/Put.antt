-- Bytes put into a lent buffer, and a number read from one. Assumes nothing.
use Rattle.std.specs.Prelude.{ℕ, ◌+◌, ◌^◌, ◌≤◌, ◌<◌, ◌≡◌, List, ◌++◌, length, take, drop}
use Rattle.model.specs.image.Image.{field}

-- the bytes stand from a place on, and every other byte is as it was
pub record Put (at : ℕ) (bs before after : List ℕ) : Type 0 where
  pub fits : at + length bs ≤ length before
  pub long : length after ≡ length before
  pub is : after ≡ take at before ++ (bs ++ drop (at + length bs) before)

-- the number in w bytes from a place on
pub record FieldRead (at w : ℕ) (bytes : List ℕ) (r : ℕ) : Type 0 where
  pub is : r ≡ field at w bytes
  pub small : r < 256 ^ w
