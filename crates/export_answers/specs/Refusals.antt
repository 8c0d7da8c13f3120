-- A refusal in two numbers, and back. Assumes nothing.
use Rattle.std.specs.Prelude.{ℕ, [], ◌∷◌, get_or}
use Rattle.std.proofs.Math.Option.{Option, none, some}
use Rattle.types.specs.declared.refusal.Refusal.{Refusal}
use Rattle.types.specs.declared.refusal.Refusal.TheVariants.{Geometry, ShortMemory, IllFormedMemory, FewDraws, OutOfRange, TooManyPeers}
use Rattle.types.specs.declared.refusal.Refusal.TheVariants.{NoPeerToTake, HavePiece, NotWriting, TooManyPartials, PickArguments}
use Rattle.types.specs.declared.refusal.Refusal.TheVariants.{ShortOutput, IllFormedImage}

-- the place that is given with it: that of the first fault, with 13; 0 with any other
abbrev pub refusal_place : (why : Refusal) → ℕ
refusal_place Geometry = 0
refusal_place ShortMemory = 0
refusal_place IllFormedMemory = 0
refusal_place FewDraws = 0
refusal_place OutOfRange = 0
refusal_place TooManyPeers = 0
refusal_place NoPeerToTake = 0
refusal_place HavePiece = 0
refusal_place NotWriting = 0
refusal_place TooManyPartials = 0
refusal_place PickArguments = 0
refusal_place ShortOutput = 0
refusal_place (IllFormedImage k) = k

-- the refusal of a number and a place: none for 0
unfoldable pub refusal_of : (number place : ℕ) → Option Refusal
refusal_of number place =
    get_or
    (none ∷ some Geometry ∷ some ShortMemory ∷ some IllFormedMemory ∷ some FewDraws ∷ some OutOfRange ∷ some TooManyPeers
    ∷ some NoPeerToTake ∷ some HavePiece ∷ some NotWriting ∷ some TooManyPartials ∷ some PickArguments ∷ some ShortOutput
    ∷ some (IllFormedImage place) ∷ []) number none

-- refused, or not
abbrev pub unless_refusal : {A : Type 0} (refuse : Refusal → A) (reply : A) (why : Option Refusal) → A
unless_refusal refuse reply none = reply
unless_refusal refuse reply (some why) = refuse why
