-- A refusal is known by its number and its values. Assumes nothing.
use mathlib.Core.Path.{◌≡◌, refl, sym, ap₂, ◌∙◌}
use mathlib.Core.List.{List, [], ◌∷◌}
use Prim.Native.Nat.{ℕ}
use lib.ListN.{get_or}
use Rattle.types.specs.Numbers.{case_with}
use Rattle.types.specs.Refusal.{refusal_number, refusal_values}
use Rattle.types.specs.declared.refusal.Refusal.{Refusal}
use Rattle.types.specs.declared.refusal.Refusal.TheVariants.{Geometry, ShortMemory, IllFormedMemory, FewDraws, OutOfRange}
use Rattle.types.specs.declared.refusal.Refusal.TheVariants.{TooManyPeers, NoPeerToTake, HavePiece, NotWriting, TooManyPartials}
use Rattle.types.specs.declared.refusal.Refusal.TheVariants.{PickArguments, ShortOutput, IllFormedImage}

-- the refusal of a number and its values
refusal_with : ℕ → List ℕ → Refusal
refusal_with n values =
    case_with refusal_number (λ (r : Refusal). r) Geometry
    (Geometry ∷ ShortMemory ∷ IllFormedMemory ∷ FewDraws ∷ OutOfRange ∷ TooManyPeers ∷ NoPeerToTake ∷ HavePiece ∷ NotWriting ∷ TooManyPartials ∷ PickArguments ∷ ShortOutput ∷ IllFormedImage (get_or values 0 0) ∷ []) n

refusal_back : (r : Refusal) → refusal_with (refusal_number r) (refusal_values r) ≡ r
unfolding refusal_with case_with
refusal_back Geometry = refl
refusal_back ShortMemory = refl
refusal_back IllFormedMemory = refl
refusal_back FewDraws = refl
refusal_back OutOfRange = refl
refusal_back TooManyPeers = refl
refusal_back NoPeerToTake = refl
refusal_back HavePiece = refl
refusal_back NotWriting = refl
refusal_back TooManyPartials = refl
refusal_back PickArguments = refl
refusal_back ShortOutput = refl
refusal_back (IllFormedImage place) = refl

-- two refusals with one number and the same values are one refusal
pub refusal_distinct : (r s : Refusal) → refusal_number r ≡ refusal_number s → refusal_values r ≡ refusal_values s → r ≡ s
refusal_distinct r s e f = sym (refusal_back r) ∙ ap₂ refusal_with e f ∙ refusal_back s
