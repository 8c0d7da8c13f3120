-- What a number with a sign means to the definition, a piece's number as a place in a list, and which number comes next. Assumes nothing.
use Rattle.std.specs.Prelude.{ℕ, ◌^◌, ℤ, pos, negsuc, ◌+ℤ◌, cond}
use Rattle.std.specs.Int.Signed.{lt_z}

-- the one map from the code's numbers to the definition's: a negative one is past all that there can be, so that it is no piece, no block,
-- no priority, no length and no place
unfoldable pub number_of : ℤ → ℕ
number_of (pos n) = n
number_of (negsuc n) = 2 ^ 63

-- the Rust's place of a piece: the number itself, and 0 where it is negative. No contract of the picker goes by it
unfoldable pub index_of : ℤ → ℕ
index_of (pos n) = n
index_of (negsuc n) = 0

-- the largest number of 32 bits with a sign
abbrev pub largest : ℤ
largest = pos 2147483647

-- one more, except that the largest number stays
unfoldable pub after : ℤ → ℤ
after n = cond (lt_z n largest) (n +ℤ pos 1) n
