-- Adding, removing and a changed rank keep ranks from falling, and the pieces: one more, one less, or the same.
use mathlib.Core.Path.{◌≡◌, refl, sym, ap, ◌∙◌}
use mathlib.Core.Logic.{◌≢◌}
use Prim.Native.Nat.{ℕ, zero, suc, ◌+◌, ◌-◌, ◌≤◌, ◌<◌}
use native.Mathlib.Nat.{mod-lt, le_of_suc-le-suc}
use native.Mathlib.Omega.{arith}
use mathlib.Core.Bool.{Bool}
use mathlib.Core.List.{List, [], ◌∷◌, map}
use lib.ListN.{length, get_or, set, length-map, get_or-map}
use lib.Dec.{eqb, ltb}
use mir.Facts.{ltb_yes, ltb_no}
use Rattle.model.specs.Lists.{bit, count, nth, remove_nth, place_of}
use Rattle.model.specs.list.Order.{draw, group_start, group_size, earlier, later, swap, added, add_draws, group_last, group_drawn, changed}
use Rattle.model.specs.list.Order.{change_draws, update_draws}
use Rattle.model.specs.list.Listed.{Permuted}
use Rattle.model.proofs.base.Counts.{cond_both, ge_bit, eq_bit, bit_le, count_out, length_without, count-map}
use Rattle.model.proofs.list.GroupTurns.{Stirred, entered, count-entered, keys_placed, count-placed, keys_earlier, count-earlier}
use Rattle.model.proofs.list.GroupTurns.{keys_later, count-later, stirred_swap}
use Rattle.model.proofs.list.GroupRise.{below, equal, Rising, rising_entered, rising_without, group_at, group_in, group_before}
use Rattle.model.proofs.list.GroupRise.{group_behind}

-- a draw is at most its limit
pub draw_le : (ds : List ℕ) (t limit : ℕ) → draw ds t limit ≤ limit
unfolding draw
draw_le ds t limit = le_of_suc-le-suc (mod-lt (nth 0 ds t) (omega arith))

-- ---- a group by the list of ranks
-- its start is the number of lower ones
pub start_below : (b : ℕ → ℕ) (x : ℕ) (l : List ℕ) → group_start b x l ≡ below (b x) (map b l)
unfolding group_start below
start_below b x l = sym (count-map (λ c. ltb c (b x)) b l)

-- and its size
pub size_equal : (b : ℕ → ℕ) (x : ℕ) (l : List ℕ) → group_size b x l ≡ equal (b x) (map b l)
unfolding group_size equal
size_equal b x l = sym (count-map (λ c. eqb c (b x)) b l)

-- ---- a piece added
module _ (b : ℕ → ℕ) (l : List ℕ) (ds : List ℕ) (t x : ℕ) where
  -- ranks do not fall after it
  pub rising_added : Rising 0 (map b l) → Rising 0 (map b (added b ds t x l))
  unfolding added
  rising_added r =
      let d = draw_le ds t (group_size b x l) in
      let s = start_below b x l in
      let z = size_equal b x l in
      rw keys_placed (rising_entered (b x) 0 _ (map b l) r (omega arith) (omega arith) (omega arith))

  -- one piece more
  pub count-added : (u : ℕ → Bool) → count u (added b ds t x l) ≡ bit (u x) + count u l
  unfolding added
  count-added u = count-placed b u (group_start b x l + draw ds t (group_size b x l)) x l

-- ---- a piece's rank changed: x stands at i, and with `old` for its rank they do not fall
pub record Kept (b : ℕ → ℕ) (l m : List ℕ) : Type 0 where
  pub rises : Rising 0 (map b m)
  pub pieces : Permuted l m

-- what stands at a place does not matter once it is taken out
pub without_set : (i v : ℕ) (l : List ℕ) → remove_nth i (set l i v) ≡ remove_nth i l
unfolding remove_nth
without_set i v [] = refl
without_set zero v (x ∷ xs) = refl
without_set (suc i) v (x ∷ xs) = ap (λ (r : List ℕ). x ∷ r) (without_set i v xs)

module _ (b : ℕ → ℕ) (l : List ℕ) (x i old : ℕ) (h : i < length l) (q : get_or l i 0 ≡ x) (r : Rising 0 (set (map b l) i old)) where
  abbrev w : List ℕ
  w = remove_nth i (map b l)

  hk : i < length (map b l)
  hk = omega (arith, length-map l b)

  rising_w : Rising 0 w
  rising_w = rw (without_set i old (map b l)) at (rising_without 0 i (set (map b l) i old) r)

  here_is : get_or (map b l) i (b 0) ≡ b x
  here_is = get_or-map b l i 0 ∙ ap b q

  start_is : group_start b x l ≡ below (b x) w
  unfolding below
  start_is = omega (arith, start_below b x l, rw here_is at (count_out (λ c. ltb c (b x)) i (b 0) (map b l) hk), ge_bit (b x) (b x) (omega arith))

  size_is : group_size b x l ≡ suc (equal (b x) w)
  unfolding equal
  size_is = omega (arith, size_equal b x l, rw here_is at (count_out (λ c. eqb c (b x)) i (b 0) (map b l) hk), eq_bit (b x) (b x) refl)

  -- its new group has a place
  pub group_has : 0 < group_size b x l
  group_has = omega (arith, size_is)

  -- and ends at x's place or before it where the rank fell
  pub group_ends : b x < old → group_last b x l ≤ i
  unfolding group_last
  group_ends s = omega (arith, start_is, size_is, group_before (b x) old 0 i (map b l) hk r s)

  -- and starts at x's place or behind it where the rank rose
  pub group_starts : old < b x → i ≤ group_start b x l
  group_starts s = omega (arith, start_is, group_behind (b x) old 0 i (map b l) hk r s)

  last_is : group_last b x l ≡ below (b x) w + equal (b x) w
  unfolding group_last
  last_is = omega (arith, start_is, size_is)

  module _ (ds : List ℕ) (t : ℕ) where
    drawn_ge : below (b x) w ≤ group_drawn b ds t x l
    unfolding group_drawn
    drawn_ge = omega (arith, start_is)

    drawn_le : group_drawn b ds t x l ≤ below (b x) w + equal (b x) w
    unfolding group_drawn
    drawn_le = omega (arith, start_is, size_is, draw_le ds t (group_size b x l - 1))

  -- a list that is w with the new rank put in at a place of its group: two places of that group may change
  module _ (m : List ℕ) (p j : ℕ) (e : map b m ≡ entered p (b x) w) (pieces : Permuted l m)
      (hp : below (b x) w ≤ p) (gp : p ≤ below (b x) w + equal (b x) w) (hj : below (b x) w ≤ j) (gj : j ≤ below (b x) w + equal (b x) w) where
    rises : Rising 0 (entered p (b x) w)
    rises = rising_entered (b x) 0 p w rising_w (omega arith) hp gp

    belows : below (b x) (entered p (b x) w) ≡ below (b x) w
    unfolding below
    belows = omega (arith, count-entered (λ c. ltb c (b x)) p (b x) w, ge_bit (b x) (b x) (omega arith))

    sizes : equal (b x) (entered p (b x) w) ≡ suc (equal (b x) w)
    unfolding equal
    sizes = omega (arith, count-entered (λ c. eqb c (b x)) p (b x) w, eq_bit (b x) (b x) refl)

    inside : (g : ℕ) → g ≤ below (b x) w + equal (b x) w → g < length m
    inside g a = omega (arith, group_in (b x) (entered p (b x) w), belows, sizes, length-map m b, ap length e)

    ranked : (g : ℕ) → below (b x) w ≤ g → g ≤ below (b x) w + equal (b x) w → b (get_or m g 0) ≡ b x
    ranked g a c =
        sym (get_or-map b m g 0) ∙ ap (λ (cs : List ℕ). get_or cs g (b 0)) e
        ∙ group_at (b x) 0 g (b 0) (entered p (b x) w) rises (omega (arith, belows)) (omega (arith, belows, sizes))

    both : Stirred b m (swap m p j)
    both = stirred_swap m p j b (inside p gp) (inside j gj) (ranked p hp gp ∙ sym (ranked j hj gj))

    swapped : Kept b l (swap m p j)
    swapped = record { rises = rw (both.keys, e) rises; pieces = λ u. both.pieces u ∙ pieces u }

  kept_earlier : (ds : List ℕ) (t : ℕ) → b x < old → Kept b l (swap (earlier b (group_last b x l) i l) (group_last b x l) (group_drawn b ds t x l))
  kept_earlier ds t s =
      let a = last_is in
      let g = group_before (b x) old 0 i (map b l) hk r s in
      swapped (earlier b (group_last b x l) i l) (group_last b x l) (group_drawn b ds t x l)
      (rw q at (keys_earlier b (group_last b x l) i l (omega arith) h)) (λ u. count-earlier b u (group_last b x l) i l (omega arith) h)
      (omega arith) (omega arith) (drawn_ge ds t) (drawn_le ds t)

  kept_later : (ds : List ℕ) (t : ℕ) → old < b x → Kept b l (swap (later b i (group_start b x l) l) (group_start b x l) (group_drawn b ds t x l))
  kept_later ds t s =
      let a = start_is in
      let g = group_behind (b x) old 0 i (map b l) hk r s in
      let f : group_start b x l < length l = omega (arith, group_in (b x) w, length_without i (map b l) hk, length-map l b) in
      swapped (later b i (group_start b x l) l) (group_start b x l) (group_drawn b ds t x l)
      (rw q at (keys_later b i (group_start b x l) l (omega arith) f)) (λ u. count-later b u i (group_start b x l) l (omega arith) f)
      (omega arith) (omega arith) (drawn_ge ds t) (drawn_le ds t)

-- the ranks do not fall after the change, and the pieces are the same
pub changed_kept : (b : ℕ → ℕ) (l ds : List ℕ) (t x old : ℕ) → place_of x l < length l → get_or l (place_of x l) 0 ≡ x
    → Rising 0 (set (map b l) (place_of x l) old) → b x ≢ old → Kept b l (changed b ds t old x l)
unfolding changed
changed_kept b l ds t x old h q r n =
    cond_both (Kept b l) (ltb (b x) old) _ _
    (λ s. kept_earlier b l x (place_of x l) old h q r ds t (ltb_yes s))
    (λ s. let o : old ≤ b x = ltb_no s in kept_later b l x (place_of x l) old h q r ds t (omega arith))

-- ---- draws
-- a mended list takes one draw or none
pub relist_draws_le : (b : ℕ → ℕ) (old x : ℕ) (l : List ℕ) → update_draws b old x l ≤ 1
unfolding update_draws add_draws change_draws
relist_draws_le b old x l =
    cond_both (λ (n : ℕ). n ≤ 1) (eqb (b x) old) _ _ (λ e. omega arith)
    (λ e. cond_both (λ (n : ℕ). n ≤ 1) (eqb old 0) _ _ (λ e. bit_le (ltb 0 (group_size b x l)))
    (λ e. cond_both (λ (n : ℕ). n ≤ 1) (eqb (b x) 0) _ _ (λ e. omega arith) (λ e. bit_le (ltb 1 (group_size b x l)))))
