-- One turn of the loops of `gallop` and `halve`, and what a search tells of ranks. Assumes nothing.
use mathlib.Core.Path.{◌≡◌}
use mathlib.Core.List.{List}
use Prim.Native.Nat.{ℕ, ◌+◌, ◌*◌, ◌-◌, ◌/◌, ◌≤◌, ◌<◌}
use native.Mathlib.Decide.{dec_le}
use native.Mathlib.Omega.{arith}
use lib.ListN.{get_or}
use Rattle.list_entries.specs.Words.{top_of}
use Rattle.list_entries.proofs.WordLaws.{top_below, under_top, top_over, over_top}
use Rattle.list_groups.specs.Places.{Rises, Splits, Parted, IsGroup}

-- ranks that never fall are split by the highest word of a rank
pub rises_splits : (top rank from end : ℕ) (l : List ℕ) → top ≡ top_of rank → Rises from end l → Splits top from end l
rises_splits top rank from end l e h k m a c d g =
    let t : get_or l m 0 ≤ top_of rank = omega (arith, e) in
    omega (arith, e, top_over rank (get_or l k 0) (omega (arith, h k m a c d, under_top rank (get_or l m 0) t)))

-- on a part of the places
pub rises_within : (from end low high : ℕ) (l : List ℕ) → from ≤ low → high ≤ end → Rises from end l → Rises low high l
rises_within from end low high l a c s k m f g d = s k m (omega arith) g (omega arith)

-- what is split is so on a part
pub splits_within : (top from end low high : ℕ) (l : List ℕ) → from ≤ low → high ≤ end → Splits top from end l → Splits top low high l
splits_within top from end low high l a c s k m f g d q = s k m (omega arith) g (omega arith) q

module _ {top from end : ℕ} {l : List ℕ} where
  -- before a search nothing is known
  pub parted_start : from ≤ end → Parted top from end l from end
  parted_start h = record {
    starts = omega arith;
    rises = h;
    ends = omega arith;
    under = λ k a c. absurd (omega arith);
    over = λ k a c. absurd (omega arith);
  }

  -- a search of the places between ends the search
  pub parted_within : {low high k : ℕ} → Parted top from end l low high → Parted top low high l k k → Parted top from end l k k
  parted_within {low} {high} {k} s t = record {
    starts = omega (arith, s.starts, t.starts);
    rises = omega arith;
    ends = omega (arith, s.ends, t.ends);
    under = λ m a c. elim (dec_le low m) [ yes q ↦ t.under m q c | no q ↦ s.under m a (omega arith) ];
    over = λ m a c. elim (dec_le high m) [ yes q ↦ s.over m q c | no q ↦ t.over m a (omega arith) ];
  }

  module _ (split : Splits top from end l) {low high : ℕ} (s : Parted top from end l low high) (k : ℕ) (a : low ≤ k) (c : k < high) where
    -- a word up to `top`: so are all before it
    pub parted_under : get_or l k 0 ≤ top → Parted top from end l (k + 1) high
    parted_under q = record {
      starts = omega (arith, s.starts);
      rises = omega arith;
      ends = s.ends;
      under = λ m f g. split m k f (omega arith) (omega (arith, s.ends)) q;
      over = s.over;
    }

    -- a word above `top`: so are all behind it
    pub parted_over : top < get_or l k 0 → Parted top from end l low k
    parted_over q = record {
      starts = s.starts;
      rises = a;
      ends = omega (arith, s.ends);
      under = s.under;
      over = λ m f g. elim (dec_le (get_or l m 0) top) [
        | yes t ↦ (let u = split k m (omega (arith, s.starts)) f g t in absurd (omega arith))
        | no t ↦ omega arith
      ];
    }

  -- more places may be searched
  pub parted_wider : {low high : ℕ} (more : ℕ) → Parted top from end l low high → high ≤ more → more ≤ end → Parted top from end l low more
  parted_wider more s a c = record {
    starts = s.starts;
    rises = omega (arith, s.rises);
    ends = c;
    under = s.under;
    over = λ k f g. s.over k (omega arith) g;
  }

-- ---- `gallop`
-- what holds at the head of the loop: up to `low` all is known
pub record Gallops (top from end : ℕ) (l : List ℕ) (low step : ℕ) : Type 0 where
  pub seen : Parted top from end l low end
  pub at : low ≤ end
  pub some : 1 ≤ step

-- at the start nothing is known
pub gallops_start : (top from end step : ℕ) (l : List ℕ) → from ≤ end → 0 < step → Gallops top from end l from step
gallops_start top from end step l h s = record { seen = parted_start h; at = h; some = s }

module _ {top from end : ℕ} {l : List ℕ} (split : Splits top from end l) {low step : ℕ} (s : Gallops top from end l low step)
    (lt : step ≤ end - low) where
  -- a step that comes to a word up to `top`
  pub gallops_next : get_or l (low + (step - 1)) 0 ≤ top → Gallops top from end l (low + (step - 1) + 1) (4 * step)
  gallops_next q = record {
    seen = parted_under split s.seen (low + (step - 1)) (omega arith) (omega (arith, s.at, s.some)) q;
    at = omega (arith, s.at, s.some);
    some = omega (arith, s.some);
  }

  -- a step that comes to a word above it
  pub gallops_stop : top < get_or l (low + (step - 1)) 0 → Parted top from end l low (low + (step - 1))
  gallops_stop q = parted_over split s.seen (low + (step - 1)) (omega arith) (omega (arith, s.at, s.some)) q

-- ---- `halve`
-- what holds at the head of the loop: `size` places are left
pub record Halves (top from end : ℕ) (l : List ℕ) (low size : ℕ) : Type 0 where
  pub seen : Parted top from end l low (low + size)
  pub at : low + size ≤ end

-- at the start all are
pub halves_start : (top from end : ℕ) (l : List ℕ) → from ≤ end → Halves top from end l from (end - from)
halves_start top from end l h =
    let e : from + (end - from) ≡ end = omega arith in
    record { seen = rw e (parted_start h); at = omega arith }

module _ {top from end : ℕ} {l : List ℕ} (split : Splits top from end l) {low size : ℕ} (s : Halves top from end l low size)
    (lt : 0 < size) where
  abbrev half : ℕ
  half = size - size / 2

  abbrev middle : ℕ
  middle = low + (half - 1)

  -- the half that the middle word tells of is done
  pub halves_next : (d : ℕ) → (get_or l middle 0 ≤ top → d ≡ half) → (top < get_or l middle 0 → d ≡ 0)
      → Halves top from end l (low + d) (size - half)
  halves_next d under over = elim (dec_le (get_or l middle 0) top) [
    | yes q ↦ (
        let e : low + d ≡ middle + 1 = omega (arith, under q) in
        let f : middle + 1 + (size - half) ≡ low + size = omega arith in
        record { seen = rw (e, f) (parted_under split s.seen middle (omega arith) (omega arith) q); at = omega (arith, s.at, under q) }
        )
    | no q ↦ (
        let e : low + d ≡ low = omega (arith, over (omega arith)) in
        record {
          seen = rw e (parted_wider (low + (size - half)) (parted_over split s.seen middle (omega arith) (omega arith) (omega arith))
              (omega arith) (omega (arith, s.at)));
          at = omega (arith, s.at, over (omega arith));
        }
        )
  ]

-- with none left the search is over
pub halves_end : {top from end low size : ℕ} {l : List ℕ} → Halves top from end l low size → size ≤ 0 → Parted top from end l low low
halves_end {top} {from} {end} {low} {size} {l} s h = let e : low + size ≡ low = omega arith in rw e at s.seen

-- the last word is up to `top`, and so are all
pub parted_all : {top from end : ℕ} {l : List ℕ} → Splits top from end l → from < end → get_or l (end - 1) 0 ≤ top
    → Parted top from end l end end
parted_all {top} {from} {end} {l} split lt q = record {
  starts = omega arith;
  rises = omega arith;
  ends = omega arith;
  under = λ k a c. split k (end - 1) a (omega arith) (omega arith) q;
  over = λ k a c. absurd (omega arith);
}

-- ---- `group_of`
-- from a rank's first place to its last
pub grouped : {rank from end : ℕ} {l : List ℕ} {top low high : ℕ} → 0 < rank → top ≡ top_of rank
    → Parted (top - 65536) from end l low low → Parted top low end l high high → IsGroup rank from end l low high
grouped {rank} {from} {end} {l} {top} {low} {high} h et s t =
    let b = top_below et h in
    record {
      starts = s.starts;
      rises = t.starts;
      ends = t.ends;
      lower = λ k a c. omega (arith, under_top (rank - 1) (get_or l k 0) (omega (arith, b, s.under k a c)));
      same = λ k a c. omega (
        arith,
        under_top rank (get_or l k 0) (omega (arith, et, t.under k a c)),
        over_top (rank - 1) (get_or l k 0) (omega (arith, b, s.over k a (omega (arith, t.ends)))),
      );
      higher = λ k a c. over_top rank (get_or l k 0) (omega (arith, et, t.over k a c));
    }
