-- The number of a verdict is that of the definition's refusal. Assumes nothing.
use Rattle.std.specs.Prelude.{Result, Ok, Err, ⊤}
use Prim.Native.Nat.{ℕ, ◌<◌}
use mathlib.Core.Path.{◌≡◌, refl, sym, ap, ◌∙◌}
use mathlib.Core.List.{List}
use native.Mathlib.Omega.{arith}
use Rattle.types.specs.declared.refusal.Refusal.{Refusal}
use Rattle.types.specs.declared.refusal.Refusal.TheVariants.{Geometry, ShortMemory, IllFormedMemory, FewDraws, OutOfRange}
use Rattle.types.specs.declared.refusal.Refusal.TheVariants.{TooManyPeers, NoPeerToTake, HavePiece, NotWriting, TooManyPartials}
use Rattle.types.specs.declared.refusal.Refusal.TheVariants.{PickArguments, ShortOutput, IllFormedImage}
use Rattle.types.specs.Refusal.{refusal_number}
use Rattle.check_memory.specs.Verdicts.{refusal_of, Checked}
use Rattle.link_memory.specs.Answers.{refusal_as, verdict_as, Answered}

number_is : (v : Result ⊤ Refusal) → verdict_as v ≡ refusal_as (refusal_of v)
unfolding refusal_of
number_is (Ok tt) = refl
number_is (Err why) = refl

-- no refusal has the number 0
number_positive : (why : Refusal) → 0 < refusal_number why
number_positive Geometry = omega arith
number_positive ShortMemory = omega arith
number_positive IllFormedMemory = omega arith
number_positive FewDraws = omega arith
number_positive OutOfRange = omega arith
number_positive TooManyPeers = omega arith
number_positive NoPeerToTake = omega arith
number_positive HavePiece = omega arith
number_positive NotWriting = omega arith
number_positive TooManyPartials = omega arith
number_positive PickArguments = omega arith
number_positive ShortOutput = omega arith
number_positive (IllFormedImage place) = omega arith

only_good : (v : Result ⊤ Refusal) → verdict_as v ≡ 0 → v ≡ Ok tt
only_good (Ok tt) e = refl
only_good (Err why) e = absurd (omega (arith, number_positive why))

pub answered : (v : Result ⊤ Refusal) (lent : ℕ) (rows words cells counts : List ℕ) → Checked v lent rows words cells counts
    → (r : ℕ) → r ≡ verdict_as v → Answered r lent rows words cells counts
answered v lent rows words cells counts p r e = record {
  is = e ∙ number_is v ∙ ap refusal_as p.is;
  counted = λ z. p.counted (only_good v (sym e ∙ z));
}
