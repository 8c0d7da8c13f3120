-- What a draw is, and where it comes to in a group. Assumes nothing.
use mathlib.Core.Path.{◌≡◌, refl, sym}
use mathlib.Core.List.{List, [], ◌∷◌}
use Prim.Native.Nat.{ℕ, suc, ◌+◌, ◌-◌, ◌%◌, ◌≤◌, ◌<◌}
use native.Mathlib.Nat.{zero-mod}
use native.Mathlib.Numerals.{add-one}
use native.Mathlib.Omega.{arith}
use lib.ListN.{length, get_or, get_or-eq_default}
use Rattle.std.specs.List.{swap as slice_swap}
use Rattle.std.proofs.lemmas.Grind.{get_or_default_zero}
use Rattle.model.specs.Lists.{nth, set_nth}
use Rattle.model.specs.list.Order.{draw, swap}
use Rattle.model.proofs.list.GroupMoves.{draw_le}

-- the word modulo one more than the limit
pub drawn : (draws : List ℕ) (used limit x : ℕ) → x ≡ get_or draws used 0 → x % (limit + 1) ≡ draw draws used limit
unfolding draw nth
drawn draws used limit x e = rw (e, add-one)

-- beyond the last word
pub drawn_none : (draws : List ℕ) (used limit : ℕ) → length draws ≤ used → 0 ≡ draw draws used limit
unfolding draw nth
drawn_none draws used limit h = rw (get_or-eq_default draws 0 h) (sym (zero-mod (suc limit)))

-- a drawn place of a group with one more, at `low`, is within the places
pub drawn_in : (low high n : ℕ) (draws : List ℕ) (used : ℕ) → low ≤ high → high < n → low + draw draws used (high - low) < n
drawn_in low high n draws used h le = omega (arith, draw_le draws used (high - low))

-- the library exchanges the elements at two places of a list alike
pub swap_is : (l : List ℕ) (k m : ℕ) → k < length l → m < length l → slice_swap l k m ≡ swap l k m
unfolding swap nth set_nth
swap_is [] k m h g = refl
swap_is (v ∷ l) k m h g = rw (get_or_default_zero (v ∷ l) k v h, get_or_default_zero (v ∷ l) m v g)
