-- What `change` needs and makes, by `changed` on the words with the new one in the place of the old. Assumes nothing.
use mathlib.Core.Path.{◌≡◌, refl, sym, ap, ◌∙◌}
use mathlib.Core.Logic.{◌≢◌}
use mathlib.Core.List.{List, ◌++◌}
use Prim.Native.Nat.{ℕ, suc, ◌+◌, ◌-◌, ◌≤◌, ◌<◌}
use native.Mathlib.Decide.{dec_le}
use native.Mathlib.Omega.{arith}
use lib.Dec.{eqb, ltb}
use lib.ListN.{length, get_or, set, take, drop, length-set, take-append-drop}
use lib.Seq.{length-take-le, set-append_left, get_or-set_same, get_or-take}
use borrow.Author.Tests.{lt-ltb, le-ltb}
use Rattle.model.specs.Lists.{bit, count, place_of, set_nth}
use Rattle.model.specs.list.Order.{draw, earlier, later, swap, group_start, group_size, group_last, group_drawn, changed, change_draws}
use Rattle.model.proofs.base.Counts.{lt_bit, ge_bit, eq_bit, ne_bit, bit_le, count-set, place_only}
use Rattle.model.proofs.list.GroupTurns.{length-earlier, length-later}
use Rattle.model.proofs.list.GroupMoves.{draw_le}
use Rattle.list_entries.specs.Words.{listed_rank}
use Rattle.list_groups.specs.Places.{IsGroup}
use Rattle.list_places.proofs.Seeking.{place_there}
use Rattle.list_changes.specs.Replacing.{replaced}
use Rattle.list_changes.proofs.Groups.{group_start_lem, group_size_lem}
use Rattle.list_changes.proofs.Fronts.{earlier_front, later_front, swap_front}
use Rattle.list_draws.proofs.Draws.{drawn_in}

-- ---- v replaced by w, which is no word of the list
module _ (v w : ℕ) (ws : List ℕ) (h : place_of v ws < length ws) where
  -- v stands at its place
  pub old_there : get_or ws (place_of v ws) 0 ≡ v
  old_there = place_there v ws h

  -- the words stay as many
  pub length-replaced : length (replaced v w ws) ≡ length ws
  unfolding replaced set_nth
  length-replaced = length-set ws (place_of v ws) w

  -- w stands there then
  pub new_there : get_or (replaced v w ws) (place_of v ws) 0 ≡ w
  unfolding replaced set_nth
  new_there = get_or-set_same ws (place_of v ws) w 0 h

  module _ (none : count (eqb w) ws ≡ 0) where
    -- and nowhere else
    pub new_place : place_of w (replaced v w ws) ≡ place_of v ws
    unfolding replaced set_nth
    new_place =
        place_only w 0 (set ws (place_of v ws) w) (place_of v ws)
        (omega (arith, count-set (eqb w) ws (place_of v ws) w 0 h, bit_le (eqb w w), none))
        (omega (arith, length-set ws (place_of v ws) w)) (get_or-set_same ws (place_of v ws) w 0 h)

-- ---- ranks of the two words
-- a lower word of another rank is of a lower one
pub rank_fell : (v w : ℕ) → listed_rank w ≢ listed_rank v → w < v → listed_rank w < listed_rank v
unfolding listed_rank
rank_fell v w n h = omega (arith, n)

-- and a word that is not lower of a higher one
pub rank_rose : (v w : ℕ) → listed_rank w ≢ listed_rank v → v ≤ w → listed_rank v < listed_rank w
unfolding listed_rank
rank_rose v w n h = omega (arith, n)

-- the rank at v's place, for any test of it
pub old_rank : (v n m : ℕ) (l : List ℕ) (P : ℕ → Type 0) → n ≤ length l → place_of v (take n l) < n → m ≡ place_of v (take n l)
    → P (listed_rank v)
    → P (listed_rank (get_or l m 0))
old_rank v n m l P le h e p =
    let f : get_or l m 0 ≡ v =
    ap (λ (k : ℕ). get_or l k 0) e ∙ sym (get_or-take n l (place_of v (take n l)) 0 h)
    ∙ place_there v (take n l) (omega (arith, length-take-le n l le)) in
    rw f p

-- ---- `change`
module _ (v w n : ℕ) (l : List ℕ) (le : n ≤ length l) (h : place_of v (take n l) < n) (none : count (eqb w) (take n l) ≡ 0) {low high : ℕ}
    (g : IsGroup (listed_rank w) 0 n l low high) where
  abbrev ws : List ℕ
  ws = take n l

  abbrev k : ℕ
  k = place_of v (take n l)

  abbrev mended : List ℕ
  mended = replaced v w (take n l)

  long : length ws ≡ n
  long = length-take-le n l le

  inside : k < length ws
  inside = omega (arith, long)

  start_earlier : listed_rank w < listed_rank v → group_start listed_rank w mended ≡ low
  unfolding group_start replaced set_nth
  start_earlier q =
      let e = rw (old_there v w ws inside) at (count-set (λ x. ltb (listed_rank x) (listed_rank w)) ws k w 0 inside) in
      omega (
        arith,
        e,
        group_start_lem g le,
        ge_bit (listed_rank v) (listed_rank w) (omega arith),
        ge_bit (listed_rank w) (listed_rank w)
            (omega arith),
      )

  start_later : listed_rank v < listed_rank w → suc (group_start listed_rank w mended) ≡ low
  unfolding group_start replaced set_nth
  start_later q =
      let e = rw (old_there v w ws inside) at (count-set (λ x. ltb (listed_rank x) (listed_rank w)) ws k w 0 inside) in
      omega (arith, e, group_start_lem g le, lt_bit (listed_rank v) (listed_rank w) q, ge_bit (listed_rank w) (listed_rank w) (omega arith))

  size : listed_rank w ≢ listed_rank v → group_size listed_rank w mended ≡ suc (high - low)
  unfolding group_size replaced set_nth
  size q =
      let e = rw (old_there v w ws inside) at (count-set (λ x. eqb (listed_rank x) (listed_rank w)) ws k w 0 inside) in
      omega (arith, e, group_size_lem g le, ne_bit (listed_rank v) (listed_rank w) (λ f. q (sym f)), eq_bit (listed_rank w) (listed_rank w) refl)

  -- a draw is taken where the new group was not empty
  pub change_draws_lem : listed_rank w ≢ listed_rank v → bit (ltb 0 (high - low)) ≡ change_draws listed_rank w mended
  unfolding change_draws
  change_draws_lem q = rw (size q) (elim (dec_le 1 (high - low)) [
    | yes f ↦ omega (arith, lt_bit 0 (high - low) f, lt_bit 1 (suc (high - low)) (omega arith))
    | no f ↦ omega (arith, ge_bit 0 (high - low) (omega arith), ge_bit 1 (suc (high - low)) (omega arith))
  ])

  module _ (draws : List ℕ) (used : ℕ) where
    -- forward, where the rank fell
    pub goes_earlier : listed_rank w < listed_rank v → high ≤ k → (at : ℕ) → at ≡ k
        → swap (earlier listed_rank high at (set l at w)) high (low + draw draws used (high - low))
        ≡ changed listed_rank draws used (listed_rank v) w mended ++ drop n l
    unfolding changed group_last group_drawn replaced set_nth
    goes_earlier q a at ea =
        let d = low + draw draws used (high - low) in
        let hk : k < length (set ws k w) = omega (arith, inside, length-set ws k w) in
        let len = length-earlier listed_rank high k (set ws k w) a hk in
        let f : low + suc (high - low) - 1 ≡ high = omega (arith, g.rises) in
        let f' : suc (high - low) - 1 ≡ high - low = omega arith in
        rw ea (ap (λ (z : List ℕ). swap (earlier listed_rank high k (set z k w)) high d) (sym (take-append-drop n l))
        ∙ ap (λ (z : List ℕ). swap (earlier listed_rank high k z) high d) (set-append_left ws (drop n l) k w inside)
        ∙ ap (λ (z : List ℕ). swap z high d) (earlier_front (set ws k w) (drop n l) high k a hk)
        ∙ swap_front (earlier listed_rank high k (set ws k w)) (drop n l) high d (omega arith)
        (omega (arith, drawn_in low high (suc k) draws used g.rises (omega arith)))
        ∙ rw (
          new_place v w ws inside none,
          start_earlier q,
          size (λ e. absurd (omega arith)),
          f,
          f',
          lt-ltb (listed_rank w)
              (listed_rank v) q,
        ))

    -- back, where it rose
    pub goes_later : listed_rank v < listed_rank w → k < low → (at : ℕ) → at ≡ k
        → swap (later listed_rank at (low - 1) (set l at w)) (low - 1) (low - 1 + draw draws used (high - low))
        ≡ changed listed_rank draws used (listed_rank v) w mended ++ drop n l
    unfolding changed group_last group_drawn replaced set_nth
    goes_later q a at ea =
        let d = low - 1 + draw draws used (high - low) in
        let ends = g.ends in
        let rises = g.rises in
        let same = length-set ws k w in
        let lw = long in
        let f : group_start listed_rank w (set ws k w) ≡ low - 1 = omega (arith, start_later q) in
        let to : low - 1 < length (set ws k w) = omega arith in
        let len = length-later listed_rank k (low - 1) (set ws k w) (omega arith) to in
        let f' : suc (high - low) - 1 ≡ high - low = omega arith in
        let o : listed_rank v ≤ listed_rank w = omega arith in
        rw ea (ap (λ (z : List ℕ). swap (later listed_rank k (low - 1) (set z k w)) (low - 1) d) (sym (take-append-drop n l))
        ∙ ap (λ (z : List ℕ). swap (later listed_rank k (low - 1) z) (low - 1) d) (set-append_left ws (drop n l) k w inside)
        ∙ ap (λ (z : List ℕ). swap z (low - 1) d) (later_front (set ws k w) (drop n l) k (low - 1) (omega arith) to)
        ∙ swap_front (later listed_rank k (low - 1) (set ws k w)) (drop n l) (low - 1) d (omega arith)
        (omega (arith, draw_le draws used (high - low)))
        ∙ rw (new_place v w ws inside none, f, size (λ e. absurd (omega arith)), f', le-ltb (listed_rank w) (listed_rank v) o))
