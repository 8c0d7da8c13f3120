-- The answers of `bitfield` and `bitfield_writes` in numbers, as an exported function gives them. Assumes nothing.
use Rattle.std.specs.Prelude.{◌≡◌, ℕ, Bool, List, Option, Result, Ok, Err, ⊤, option_map, unwrap_or}
use Rattle.bitfield_writes.specs.declared.StoreError.{StoreError}
use Rattle.bitfield_writes.specs.declared.StoreError.TheVariants.{DataShort, TooShort}
use Rattle.bitfield.specs.declared.Step.{Step}
use Rattle.bitfield_writes.specs.Writing.{on_done}

-- what a call on a buffer answers
abbrev pub code_of : Result ⊤ StoreError → ℕ
code_of (Ok _) = 0
code_of (Err DataShort) = 1
code_of (Err TooShort) = 2

-- a call answers the number of `want`, and leaves the new bytes if that is Ok, else the old ones
pub record Coded (want : Result ⊤ StoreError) (new old : List ℕ) (answer : ℕ) (exit : List ℕ) : Type 0 where
  pub answers : answer ≡ code_of want
  pub leaves : exit ≡ on_done want new old

-- the bit that an iterator gave, and the next place; what was there before where it gave none
abbrev pub bit_given : Bool → Option Step → Bool
bit_given old step = unwrap_or (option_map (λ (s : Step). s.bit) step) old

abbrev pub next_place : ℕ → Option Step → ℕ
next_place old step = unwrap_or (option_map (λ (s : Step). s.next) step) old
