-- One turn of the loop of `carry`: a stretch of the held rank is passed, and the held word is stored behind it. Assumes nothing.
use mathlib.Core.Path.{◌≡◌, sym, ◌∙◌}
use mathlib.Core.List.{List}
use Prim.Native.Nat.{ℕ, zero, suc, ◌+◌, ◌-◌, ◌≤◌, ◌<◌}
use native.Mathlib.Numerals.{add-one}
use native.Mathlib.Omega.{arith}
use lib.ListN.{length, get_or, set, take, length-set}
use lib.Seq.{slice-cons, slice_empty, take-suc, take-suc-set, take-set-lt, drop-set-lt, append_snoc, set_split, get_or-set_other}
use borrow.Author.Tests.{eq-eqb, ne_eqb}
use Rattle.model.specs.list.Order.{carry, turn_left}
use Rattle.list_entries.specs.Words.{listed_rank, top_of}
use Rattle.list_groups.specs.Places.{Rises, Parted}
use Rattle.list_moves.specs.Moves.{NoLower, carried, pushed}
use Rattle.list_entries.proofs.WordLaws.{under_top, over_top}
use Rattle.list_groups.proofs.Searching.{rises_splits, rises_within, parted_all}

-- ---- ranks after a store
-- a store before the places that are looked at
pub rises_set : (k w from end : ℕ) (l : List ℕ) → k < from → Rises from end l → Rises from end (set l k w)
rises_set k w from end l h s a c f g d =
    let na : a ≡ k → ⊥ = λ e. absurd (omega arith) in
    let nc : c ≡ k → ⊥ = λ e. absurd (omega arith) in
    rw (get_or-set_other l k a w 0 na, get_or-set_other l k c w 0 nc) (s a c f g d)

module _ (k w end : ℕ) (l : List ℕ) (s : Rises k end l) where
  -- what is behind place k
  pub rises_behind : Rises (k + 1) end (set l k w)
  rises_behind = rises_set k w (k + 1) end l (omega arith) (rises_within k end (k + 1) end l (omega arith) (omega arith) s)

  -- none of it is of a lower rank than what stood there
  pub lower_behind : NoLower (get_or l k 0) (k + 1) end (set l k w)
  lower_behind m a c =
      let n : m ≡ k → ⊥ = λ e. absurd (omega arith) in
      rw (get_or-set_other l k m w 0 n) (s k m (omega arith) (omega arith) c)

-- ---- `carry`
module _ (end held : ℕ) (l : List ℕ) (le : end < length l) where
  -- a place of the held word's rank is passed
  carried_same : (k : ℕ) → k < end → listed_rank (get_or l k 0) ≡ listed_rank held → carried k end held l ≡ carried (k + 1) end held l
  unfolding carried carry
  carried_same k lt q =
      let le' : end ≤ length l = omega arith in
      let lk : k < length l = omega arith in
      rw (slice-cons k end l 0, add-one, take-suc l k 0, append_snoc) (simp (eq-eqb (listed_rank (get_or l k 0)) (listed_rank held) q))

  -- and so is a stretch of it
  pub carried_stretch : (d k : ℕ) → k + d ≤ end → ((m : ℕ) → k ≤ m → m < k + d → listed_rank (get_or l m 0) ≡ listed_rank held)
      → carried k end held l ≡ carried (k + d) end held l
  carried_stretch zero k h all = let e : k + 0 ≡ k = omega arith in rw e
  carried_stretch (suc d) k h all =
      let e : k + 1 + d ≡ k + suc d = omega arith in
      carried_same k (omega arith) (all k (omega arith) (omega arith))
      ∙ carried_stretch d (k + 1) (omega arith) (λ m a c. all m (omega arith) (omega arith)) ∙ rw e

  -- at another rank the held word is stored, and what stood there is held
  pub carried_other : (k : ℕ) → k < end → (listed_rank (get_or l k 0) ≡ listed_rank held → ⊥)
      → carried k end held l ≡ carried (k + 1) end (get_or l k 0) (set l k held)
  unfolding carried carry
  carried_other k lt q =
      let le' : end ≤ length l = omega arith in
      let lk : k < length l = omega arith in
      let l1 : k < suc end = omega arith in
      let l2 : k < suc k = omega arith in
      rw (
        slice-cons k end l 0,
        add-one,
        take-suc-set l k held,
        take-set-lt end l k held,
        drop-set-lt (suc k) (take end l) k held,
        drop-set-lt (suc end) l k held,
        append_snoc,
      )
      (simp (ne_eqb (listed_rank (get_or l k 0)) (listed_rank held) q))

  -- at the end the held word is stored
  pub carried-end : set l end held ≡ carried end end held l
  unfolding carried carry
  carried-end = rw (slice_empty end l, set_split l end held)

-- what holds at the head of the loop, with `goal` to be made: at k stands a word of a higher rank than the held one
pub record Carries (end : ℕ) (goal l₀ l : List ℕ) (held k near : ℕ) : Type 0 where
  pub left : carried k end held l ≡ goal
  pub at : k ≤ end
  pub rest : Rises k end l
  pub next : k < end → listed_rank held < listed_rank (get_or l k 0)
  pub some : 0 < near
  pub long : length l ≡ length l₀

-- the words behind place `from` up to the end of the held word's group are passed
pub carries_come : (top from end held k near : ℕ) (goal l₀ l : List ℕ) → 0 < near → top ≡ top_of (listed_rank held) → end < length l
    → length l ≡ length l₀
    → carried from end held l ≡ goal → Rises from end l → NoLower held from end l → Parted top from end l k k
    → Carries end goal l₀ l held k near
carries_come top from end held k near goal l₀ l some et le long left rises low s =
    let e : from + (k - from) ≡ k = omega (arith, s.starts) in
    record {
      left = rw e at (sym (carried_stretch end held l le (k - from) from (omega (arith, s.starts, s.ends))
          (λ m a c. omega (
            arith,
            low m a (omega (arith, s.ends)),
            under_top (listed_rank held) (get_or l m 0)
                (omega (arith, et, s.under m a (omega arith))),
          )))
          ∙ left);
      at = s.ends;
      rest = rises_within from end k end l s.starts (omega arith) rises;
      next = λ h. over_top (listed_rank held) (get_or l k 0) (omega (arith, et, s.over k (omega arith) h));
      some = some;
      long = long;
    }

module _ {end : ℕ} {goal l₀ l : List ℕ} {held k near : ℕ} (m : Carries end goal l₀ l held k near) (h : end < length l₀) where
  -- a turn: the held word is stored
  pub carries_next : k < end → (top f far : ℕ) → 0 < far → top ≡ top_of (listed_rank (get_or l k 0)) → Parted top (k + 1) end (set l k held) f f
      → Carries end goal l₀ (set l k held) (get_or l k 0) f far
  carries_next lt top f far some e s =
      carries_come top (k + 1) end (get_or l k 0) f far goal l₀ (set l k held) some e (omega (arith, length-set l k held, m.long))
      (length-set l k held ∙ m.long)
      (sym (carried_other end held l (omega (arith, m.long)) k lt (λ e. absurd (omega (arith, m.next lt)))) ∙ m.left)
      (rises_behind k held end l m.rest) (lower_behind k held end l m.rest) s

  -- what the last store leaves
  pub carries_end : end ≤ k → set l end held ≡ goal
  carries_end q =
      let e : k ≡ end = omega (arith, m.at) in
      carried-end end held l (omega (arith, m.long)) ∙ (rw e at m.left)

-- ---- `push`: w stored at k, what stood there carried on
module _ (k end w : ℕ) (l : List ℕ) where
  -- what stood at k is carried on
  pub pushed-carried : k < end → end < length l → carried (k + 1) end (get_or l k 0) (set l k w) ≡ pushed k end w l
  unfolding carried pushed turn_left
  pushed-carried lt le =
      let le' : end ≤ length l = omega arith in
      let lk : k < length l = omega arith in
      let l1 : k < suc end = omega arith in
      let l2 : k < suc k = omega arith in
      rw (
        slice-cons k end l 0,
        add-one,
        take-suc-set l k w,
        take-set-lt end l k w,
        drop-set-lt (suc k) (take end l) k w,
        drop-set-lt (suc end) l k w,
        append_snoc,
      )

  -- at the end nothing is left to carry
  pub pushed-end : k ≤ end → end ≤ k → end < length l → set l k w ≡ pushed k end w l
  unfolding pushed turn_left
  pushed-end a c h = let q : end ≡ k = omega arith in let lk : k < length l = omega arith in rw (q, slice_empty k l, set_split l k w)

  -- the words from k on are one group, as its last one tells
  pub pushed_whole : {top : ℕ} → k + 1 < end → end < length l → Rises k end l → top ≡ top_of (listed_rank (get_or l k 0))
      → get_or l (end - 1) 0 ≤ top
      → set (set l k w) end (get_or l k 0) ≡ pushed k end w l
  pushed_whole {top} lt le rises et q =
      let n : end - 1 ≡ k → ⊥ = λ e. absurd (omega arith) in
      let long : length (set l k w) ≡ length l = length-set l k w in
      let behind = rises_behind k w end l rises in
      let far : get_or (set l k w) (end - 1) 0 ≤ top = rw (get_or-set_other l k (end - 1) w 0 n) q in
      let all = parted_all (rises_splits top (listed_rank (get_or l k 0)) (k + 1) end (set l k w) et behind) lt far in
      carries_end (carries_come top (k + 1) end (get_or l k 0) end 1 (pushed k end w l) l (set l k w) (omega arith) et (omega arith) long
      (pushed-carried (omega arith) le) behind (lower_behind k w end l rises) all) le (omega arith)
