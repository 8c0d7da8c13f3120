-- The number of each refusal, and the values given with it. Assumes nothing.
use Rattle.std.specs.Prelude.{ℕ, List, [], ◌∷◌}
use Rattle.types.specs.declared.refusal.Refusal.{Refusal}
use Rattle.types.specs.declared.refusal.Refusal.TheVariants.{Geometry, ShortMemory, IllFormedMemory, FewDraws, OutOfRange}
use Rattle.types.specs.declared.refusal.Refusal.TheVariants.{TooManyPeers, NoPeerToTake, HavePiece, NotWriting, TooManyPartials}
use Rattle.types.specs.declared.refusal.Refusal.TheVariants.{PickArguments, ShortOutput, IllFormedImage}

-- the number returned: the row of the table of refusals
abbrev pub refusal_number : Refusal → ℕ
refusal_number Geometry = 1
refusal_number ShortMemory = 2
refusal_number IllFormedMemory = 3
refusal_number FewDraws = 4
refusal_number OutOfRange = 5
refusal_number TooManyPeers = 6
refusal_number NoPeerToTake = 7
refusal_number HavePiece = 8
refusal_number NotWriting = 9
refusal_number TooManyPartials = 10
refusal_number PickArguments = 11
refusal_number ShortOutput = 12
refusal_number (IllFormedImage place) = 13

-- what is returned beside the number: the place of the fault with 13, and nothing with any other
abbrev pub refusal_values : Refusal → List ℕ
refusal_values Geometry = []
refusal_values ShortMemory = []
refusal_values IllFormedMemory = []
refusal_values FewDraws = []
refusal_values OutOfRange = []
refusal_values TooManyPeers = []
refusal_values NoPeerToTake = []
refusal_values HavePiece = []
refusal_values NotWriting = []
refusal_values TooManyPartials = []
refusal_values PickArguments = []
refusal_values ShortOutput = []
refusal_values (IllFormedImage place) = place ∷ []
