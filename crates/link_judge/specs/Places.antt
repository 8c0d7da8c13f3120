-- A verdict as one number: the place of the first fault, or the largest number where there is none. Assumes nothing.
use Rattle.std.specs.Prelude.{ℕ, Err, Ok, Result, ⊤}
use Rattle.image_records.specs.declared.pick.Pick.{Pick}

abbrev pub place_of : (v : Result ⊤ ℕ) → ℕ
place_of (Ok tt) = 18446744073709551615
place_of (Err k) = k

-- of an image with a pick
abbrev pub job_place : (v : Result Pick ℕ) → ℕ
job_place (Ok p) = 18446744073709551615
job_place (Err k) = k
