-- What the pick program prints. Assumes nothing.
use Rattle.std.specs.Prelude.{ℕ, List, [], ◌∷◌, ◌++◌}
use Rattle.std.specs.Fmt.{decimal}
use Rattle.std.specs.List.{flat_map}
use lib.Chars.{codes}
use Rattle.types.specs.declared.refusal.Refusal.{Refusal}
use Rattle.types.specs.Refusal.{refusal_number, refusal_values}
use Rattle.model.specs.pick.Blocks.{PieceBlock}
use Rattle.model.specs.Calls.{Answer, refused, done, said, replied, picked}

-- each number behind a space, and the end of the line
abbrev pub spaced : List ℕ → List ℕ
spaced [] = 10 ∷ []
spaced (n ∷ ns) = 32 ∷ (decimal n ++ spaced ns)

-- a word and its numbers
abbrev pub named : List ℕ → List ℕ → List ℕ
named name ns = name ++ spaced ns

-- a block of the output
abbrev pub block_line : PieceBlock → List ℕ
block_line b = decimal b.piece ++ spaced (b.block ∷ [])

-- the blocks picked, a line each, then the flags, the draws used and the counters; or the refusal's number, and for 13 the place of the
-- fault. The program comes to no other answer
abbrev pub printed : Answer → List ℕ
printed (refused why) = named (codes "refused") (refusal_number why ∷ refusal_values why)
printed (picked blocks flags loops used) =
    flat_map block_line blocks ++ named (codes "flags") (flags ∷ []) ++ named (codes "draws") (used ∷ []) ++ named (codes "loops") loops
printed (done used) = []
printed (said truth used) = []
printed (replied r) = []
