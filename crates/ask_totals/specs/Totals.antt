-- Tests of the pieces that a total counts, and what the counts are of the picker. Assumes nothing.
use Rattle.std.specs.Prelude.{ℕ, ◌-◌, ◌≡◌, Bool, true, false, [], ◌∷◌}
use Rattle.model.specs.Lists.{bit}
use Rattle.model.specs.State.{Picker, pieces_in}
use Rattle.model.specs.ask.Questions.{Reply, plain, have_piece, filtered, count_where, pad_bytes_where}
use Rattle.ask_totals.specs.declared.count.Kinds.{Kinds}
use Rattle.ask_totals.specs.declared.count.PieceCount.{PieceCount}

-- a test of whether a piece is had and whether it is filtered
abbrev pub Test : Type 0
Test = Bool → Bool → Bool

-- what a closure answers is what the test says
abbrev pub Computes : (answers : Bool → Bool → Bool → Type 0) (t : Test) → Type 0
Computes answers t = (have out r : Bool) → answers have out r → r ≡ t have out

-- of piece i of a picker
abbrev pub tested : (t : Test) (d : Picker) (i : ℕ) → Bool
tested t d i = t (have_piece d i) (filtered d i)

-- a piece that is had or not and filtered or not is of one of the kinds
abbrev pub included : (kinds : Kinds) → Test
included kinds true true = kinds.both
included kinds true false = kinds.had
included kinds false true = kinds.filtered
included kinds false false = kinds.neither

-- the counts are those of the pieces that pass a test
pub record Counted (d : Picker) (test : ℕ → Bool) (r : PieceCount) : Type 0 where
  pub pieces : r.num_pieces ≡ count_where d test
  pub pad_bytes : r.pad_bytes ≡ pad_bytes_where d test
  pub last : r.last_piece ≡ test (pieces_in d - 1)

-- document 01's values of a `PieceCount`
unfoldable pub count_reply : (r : PieceCount) → Reply
count_reply r = plain (r.num_pieces ∷ r.pad_bytes ∷ bit r.last_piece ∷ [])
