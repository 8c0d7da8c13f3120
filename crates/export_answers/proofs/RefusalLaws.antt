-- A refusal's two numbers name it. Assumes nothing.
use mathlib.Core.Path.{◌≡◌, refl, ap, ◌∙◌}
use Prim.Native.Nat.{ℕ}
use mathlib.Core.Option.{some}
use Rattle.types.specs.declared.refusal.Refusal.{Refusal}
use Rattle.types.specs.declared.refusal.Refusal.TheVariants.{Geometry, ShortMemory, IllFormedMemory, FewDraws, OutOfRange, TooManyPeers}
use Rattle.types.specs.declared.refusal.Refusal.TheVariants.{NoPeerToTake, HavePiece, NotWriting, TooManyPartials, PickArguments}
use Rattle.types.specs.declared.refusal.Refusal.TheVariants.{ShortOutput, IllFormedImage}
use Rattle.types.specs.Refusal.{refusal_number}
use Rattle.export_answers.specs.Refusals.{refusal_place, refusal_of}

pub refusal_back : (why : Refusal) → refusal_of (refusal_number why) (refusal_place why) ≡ some why
unfolding refusal_of
refusal_back Geometry = refl
refusal_back ShortMemory = refl
refusal_back IllFormedMemory = refl
refusal_back FewDraws = refl
refusal_back OutOfRange = refl
refusal_back TooManyPeers = refl
refusal_back NoPeerToTake = refl
refusal_back HavePiece = refl
refusal_back NotWriting = refl
refusal_back TooManyPartials = refl
refusal_back PickArguments = refl
refusal_back ShortOutput = refl
refusal_back (IllFormedImage k) = refl

-- both numbers of a refusal at once
pub both : {A : Type 0} (f : ℕ → ℕ → A) {n m k l : ℕ} → n ≡ m → k ≡ l → f n k ≡ f m l
both f {n = n} {l = l} e d = ap (f n) d ∙ ap (λ (x : ℕ). f x l) e
