-- The table of refusals up to 3, with 2 of a list's places between those of the memory, by its tests alone. Assumes nothing.
use mathlib.Core.Path.{◌≡◌, refl, sym, ap}
use mathlib.Core.Bool.{Bool, true, false, not, ◌&&◌, true≢false}
use mathlib.Core.Option.{Option, none, some, none-ne-some}
use Rattle.types.specs.declared.refusal.Refusal.{Refusal}
use Rattle.types.specs.declared.refusal.Refusal.TheVariants.{ShortMemory, IllFormedMemory}
use Rattle.model.specs.Calls.{check}
use Rattle.memory_layout.specs.Good.{or_else}
use Rattle.picker_calls.specs.Calling.{of_memory}

-- ---- the tests: no head, a valid geometry, a buffer too short, places too few, a well-formed picker
-- of the memory
unfoldable pub memory_tests : (headless valid short good : Bool) → Option Refusal
memory_tests headless valid short good =
    or_else headless ShortMemory (or_else (not valid) IllFormedMemory (or_else short ShortMemory (or_else (not good) IllFormedMemory none)))

-- of a list as well
unfoldable pub list_tests : (headless valid short few good : Bool) (rest : Option Refusal) → Option Refusal
list_tests headless valid short few good rest =
    or_else headless ShortMemory
    (or_else (not valid) IllFormedMemory
    (or_else short ShortMemory
    (or_else (of_memory (check few ShortMemory rest)) ShortMemory (or_else (not good) IllFormedMemory (check few ShortMemory rest)))))

-- ---- what they say
-- the two refusals differ
ill_short : some IllFormedMemory ≡ some ShortMemory → ⊥
unfolding of_memory
ill_short e = true≢false (sym (ap of_memory e))

-- memory that is too short, whatever the places
pub short_memory : (a v c l d : Bool) (rest : Option Refusal) → memory_tests a v c d ≡ some ShortMemory
    → list_tests a v c l d rest ≡ some ShortMemory
unfolding memory_tests list_tests or_else check of_memory
short_memory true v c l d rest h = refl
short_memory false false c l d rest h = absurd (ill_short h)
short_memory false true true l d rest h = refl
short_memory false true false true d rest h = refl
short_memory false true false false true rest h = absurd (none-ne-some _ h)
short_memory false true false false false rest h = absurd (ill_short h)

-- too few places of a geometry that is valid
pub few_places : (a v c l d : Bool) (rest : Option Refusal) → (not a && (v && l)) ≡ true → list_tests a v c l d rest ≡ some ShortMemory
unfolding list_tests or_else check of_memory
few_places true v c l d rest h = absurd (true≢false (sym h))
few_places false false c l d rest h = absurd (true≢false (sym h))
few_places false true c false d rest h = absurd (true≢false (sym h))
few_places false true true true d rest h = refl
few_places false true false true d rest h = refl

-- memory that is too short or holds no picker
pub bad_memory : (a v c l d : Bool) (rest : Option Refusal) (why : Refusal) → memory_tests a v c d ≡ some why → (not a && (v && l)) ≡ false
    → of_memory rest ≡ false → list_tests a v c l d rest ≡ some why
unfolding memory_tests list_tests or_else check
bad_memory true v c l d rest why h r n = h
bad_memory false false c l d rest why h r n = h
bad_memory false true true l d rest why h r n = h
bad_memory false true false true d rest why h r n = absurd (true≢false r)
bad_memory false true false false true rest why h r n = absurd (none-ne-some _ h)
bad_memory false true false false false rest why h r n = rw n h

-- a picker, and places enough
pub places_enough : (a v c l d : Bool) → memory_tests a v c d ≡ none → (not a && (v && l)) ≡ false → l ≡ false
unfolding memory_tests or_else
places_enough true v c l d h r = absurd (none-ne-some _ (sym h))
places_enough false false c l d h r = absurd (none-ne-some _ (sym h))
places_enough false true c l d h r = r
