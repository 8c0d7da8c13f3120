-- Walks over the free blocks of a partial, block by block round the piece. Assumes nothing.
use mathlib.Core.Path.{◌≡◌, refl, sym, ap, ap₂, ◌∙◌}
use mathlib.Core.Bool.{Bool, true, false, cond, not, ◌&&◌}
use mathlib.Core.List.{List, [], ◌∷◌}
use Prim.Native.Nat.{ℕ, zero, suc, ◌+◌, ◌-◌, ◌%◌, ◌≤◌, ◌<◌}
use native.Mathlib.Nat.{not-suc-le-zero, le_of_suc-le-suc}
use native.Mathlib.Omega.{arith}
use lib.Dec.{eqb, ltb, leb}
use lib.ListN.{length, get_or}
use borrow.Author.Tests.{ne_eqb, le-ltb, le-leb, lt-leb}
use Rattle.types.specs.declared.block.BlockState.TheVariants.{None}
use Rattle.types.specs.Block.{block_state_number}
use Rattle.model.specs.Lists.{from, range, each, nth, len, filter, unless, when, for_each, walk_until}
use Rattle.model.specs.State.{Block, DownloadingPiece, Picker, no_block, same_block_state}
use Rattle.model.specs.change.Partials.{block_at}
use Rattle.model.specs.pick.Blocks.{PickState, with_out, spent, contiguous_above, took, put_aside, free_from, enough_aside, free_halt, take_free, set_aside}
use Rattle.model.proofs.base.WalkLists.{walk_until_chosen, for_each_chosen}
use Rattle.memory_layout.proofs.Numbers.{state_number}
use Rattle.pick_state.specs.declared.numbers.PickNumbers.{PickNumbers}
use Rattle.pick_state.specs.PickStates.{contiguous_of, state_of, OutDid, AsideDid}
use Rattle.pick_state.proofs.TakeLaws.{between_length}
use Rattle.pick_state.proofs.DidLaws.{kept_none}
use Rattle.pick_state.proofs.RestLaws.{OutRest, AsideRest, out_start, out_next, out_last, out_end, aside_start, aside_next, aside_end}
use Rattle.pick_partial.specs.Free.{PlainStates, block_by, partial_by, StatesOf}
use Rattle.pick_partial.proofs.RoundLaws.{range_all, each_next, each_none, until_next, until_stop, until_none, place_low, start_place, next_place}

-- ---- the column's partial
each-length : {A B : Type 0} (f : A → B) (l : List A) → length (each f l) ≡ length l
unfolding each
each-length f [] = refl
each-length f (x ∷ xs) = ap suc (each-length f xs)

each-nth : {B : Type 0} (f : ℕ → B) (l : List ℕ) (j : ℕ) (d : B) → j < length l → get_or (each f l) j d ≡ f (get_or l j 0)
unfolding each
each-nth f [] j d h = absurd (not-suc-le-zero h)
each-nth f (x ∷ xs) zero d h = refl
each-nth f (x ∷ xs) (suc j) d h = each-nth f xs j d (le_of_suc-le-suc h)

pub states_by : (i : ℕ) (states : List ℕ) → PlainStates states → StatesOf (partial_by i states) i states
unfolding partial_by len block_at nth block_by
states_by i states p = record {
  piece = refl;
  long = each-length block_by states;
  state = λ j h.
      ap (λ (b : Block). block_state_number b.state) (each-nth block_by states j no_block h)
      ∙ state_number (get_or states j 0) (let l = p.plain j h in omega arith);
}

-- ---- two partials in the same states
filter_ext : {A : Type 0} (t u : A → Bool) (f : ℕ → A) → ((k : ℕ) → t (f k) ≡ u (f k)) → (ks : List ℕ)
    → filter t (each f ks) ≡ filter u (each f ks)
unfolding filter each
filter_ext t u f h [] = refl
filter_ext {A = A} t u f h (k ∷ ks) = λ m. cond (h k m) (f k ∷ filter_ext t u f h ks m) (filter_ext t u f h ks m)

-- the block is free, by the column
pub free_at_lem : (d : DownloadingPiece) (i : ℕ) (states : List ℕ) → StatesOf d i states → (j : ℕ) → j < length states
    → same_block_state (block_at d j).state None ≡ eqb (get_or states j 0) 0
unfolding same_block_state
free_at_lem d i states g j h = ap (λ (n : ℕ). eqb n 0) (g.state j h)

module _ (i : ℕ) (states : List ℕ) (first : ℕ) (some : 0 < length states) (d : DownloadingPiece) (g : StatesOf d i states) (e : DownloadingPiece)
    (f : StatesOf e i states) where
  free_same : free_from d first ≡ free_from e first
  unfolding free_from
  free_same =
      let n = length states in
      let at : ℕ → ℕ = λ k. (k + first) % n in
      (λ m. filter (λ j. same_block_state (block_at d j).state None) (each (λ (k : ℕ). (k + first) % g.long m) (from 0 (g.long m))))
      ∙ filter_ext (λ j. same_block_state (block_at d j).state None) (λ j. same_block_state (block_at e j).state None) at
      (λ k. free_at_lem d i states g (at k) (place_low (k + first) n some) ∙ sym (free_at_lem e i states f (at k) (place_low (k + first) n some)))
      (from 0 n)
      ∙ (λ m. filter (λ j. same_block_state (block_at e j).state None) (each (λ (k : ℕ). (k + first) % sym f.long m) (from 0 (sym f.long m))))

  pub take_same : (w : PickState) → take_free d first w ≡ take_free e first w
  unfolding take_free
  take_same w = λ m. walk_until (took ((g.piece ∙ sym f.piece) m)) (free_halt ((g.piece ∙ sym f.piece) m)) (free_same m) w

  pub aside_same : (w : PickState) → set_aside d first w ≡ set_aside e first w
  unfolding set_aside
  aside_same w = λ m. unless (enough_aside w) (for_each (put_aside ((g.piece ∙ sym f.piece) m)) (free_same m)) w

-- ---- the free blocks in turn
-- block number k round the piece
unfoldable pub round_at : (d : DownloadingPiece) (first k : ℕ) → ℕ
round_at d first k = (k + first) % len d.blocks

unfoldable pub free_at : (d : DownloadingPiece) (j : ℕ) → Bool
free_at d j = same_block_state (block_at d j).state None

-- what is left of the walk from there on
unfoldable pub take_rest : (d : DownloadingPiece) (first k : ℕ) (w : PickState) → PickState
take_rest d first k w =
    walk_until (λ n. when (free_at d (round_at d first n)) (took d.piece (round_at d first n)))
    (λ n u. free_at d (round_at d first n) && free_halt d.piece (round_at d first n) u) (range k (len d.blocks)) w

unfoldable pub aside_rest : (d : DownloadingPiece) (first k : ℕ) (w : PickState) → PickState
aside_rest d first k w = for_each (λ n. when (free_at d (round_at d first n)) (put_aside d.piece (round_at d first n))) (range k (len d.blocks)) w

module _ (d : DownloadingPiece) (first : ℕ) (w : PickState) where
  pub take_all : take_free d first w ≡ take_rest d first 0 w
  unfolding take_free free_from take_rest free_at round_at
  take_all =
      walk_until_chosen (free_at d) (round_at d first) (took d.piece) (free_halt d.piece) (from 0 (len d.blocks)) w
      ∙ ap (λ (l : List ℕ). walk_until (λ n. when (free_at d (round_at d first n)) (took d.piece (round_at d first n)))
      (λ n u. free_at d (round_at d first n) && free_halt d.piece (round_at d first n) u) l w) (range_all (len d.blocks))

  pub aside_all_rest : for_each (put_aside d.piece) (free_from d first) w ≡ aside_rest d first 0 w
  unfolding free_from aside_rest free_at round_at
  aside_all_rest =
      for_each_chosen (free_at d) (round_at d first) (put_aside d.piece) (from 0 (len d.blocks)) w
      ∙ ap (λ (l : List ℕ). for_each (λ n. when (free_at d (round_at d first n)) (put_aside d.piece (round_at d first n))) l w)
      (range_all (len d.blocks))

-- ---- one of them, by the column
module _ (i : ℕ) (states : List ℕ) (p : PlainStates states) (first k : ℕ) (w : PickState) where
  abbrev these : DownloadingPiece
  these = partial_by i states

  many_is : len these.blocks ≡ length states
  many_is = (states_by i states p).long

  pub take_none : length states ≤ k → take_rest these first k w ≡ w
  unfolding take_rest
  take_none h = until_none _ k (len these.blocks) w _ (omega (arith, many_is))

  pub aside_none : length states ≤ k → aside_rest these first k w ≡ w
  unfolding aside_rest
  aside_none h = each_none _ k (len these.blocks) w (omega (arith, many_is))

  module _ (h : k < length states) (j : ℕ) (at : j ≡ (k + first) % length states) (free : Bool) (e : free ≡ eqb (get_or states j 0) 0) where
    round_is : round_at these first k ≡ j
    unfolding round_at
    round_is = ap (λ (n : ℕ). (k + first) % n) many_is ∙ sym at

    test_is : free_at these (round_at these first k) ≡ free
    unfolding free_at
    test_is =
        ap (free_at these) round_is
        ∙ free_at_lem these i states (states_by i states p) j (let l = place_low (k + first) (length states) (omega arith) in omega arith) ∙ sym e

    -- the walk goes on
    pub take_next : (free && free_halt i j w) ≡ false → take_rest these first k w ≡ take_rest these first (k + 1) (when free (took i j) w)
    unfolding take_rest partial_by
    take_next z =
        until_next _ k (len these.blocks) w _ (omega (arith, many_is))
        (ap₂ (λ (b : Bool) (n : ℕ). b && free_halt i n w) test_is round_is ∙ z)
        ∙ ap (take_rest these first (k + 1)) (ap₂ (λ (b : Bool) (n : ℕ). when b (took i n) w) test_is round_is)

    -- or that was the last
    pub take_stop : (free && free_halt i j w) ≡ true → take_rest these first k w ≡ when free (took i j) w
    unfolding take_rest partial_by
    take_stop z =
        until_stop _ k (len these.blocks) w _ (omega (arith, many_is))
        (ap₂ (λ (b : Bool) (n : ℕ). b && free_halt i n w) test_is round_is ∙ z)
        ∙ ap₂ (λ (b : Bool) (n : ℕ). when b (took i n) w) test_is round_is

    pub aside_next_block : aside_rest these first k w ≡ aside_rest these first (k + 1) (when free (put_aside i j) w)
    unfolding aside_rest partial_by
    aside_next_block =
        each_next _ k (len these.blocks) w (omega (arith, many_is))
        ∙ ap (aside_rest these first (k + 1)) (ap₂ (λ (b : Bool) (n : ℕ). when b (put_aside i n) w) test_is round_is)

-- ---- tests on the code's numbers
-- one less is none exactly below two
pub below_two : (n : ℕ) → ltb n 2 ≡ eqb (n - 1) 0
below_two zero = refl
below_two (suc zero) = refl
below_two (suc (suc n)) = le-ltb (suc (suc n)) 2 (omega arith) ∙ sym (ne_eqb (suc (suc n) - 1) 0 (λ e. omega arith))

module _ (start : ℕ) (d : Picker) (t : PickNumbers) (out aside : List ℕ) (ignored : List Bool) (loops : List ℕ) where
  -- the walk would halt at block j
  pub halt_is : (i j : ℕ) → free_halt i j (state_of start d t out aside ignored loops)
      ≡ (not (contiguous_above 0 (contiguous_of t)) && eqb (t.left - 1) 0)
  unfolding free_halt state_of spent took with_out
  halt_is i j = refl

  -- enough are set aside
  pub enough_is : t.aside ≤ length aside → enough_aside (state_of start d t out aside ignored loops) ≡ leb t.left t.aside
  unfolding enough_aside state_of
  enough_is h =
      ap (leb t.left) (between_length 0 t.aside aside h ∙ none_less t.aside)
    where
      none_less : (n : ℕ) → n - 0 ≡ n
      none_less n = omega arith

-- ---- a block that may be free
module _ (free : Bool) where
  pub took-free : free ≡ true → (i j : ℕ) {t r : PickNumbers} {out out' : List ℕ} → OutDid (took i j) 1 t r out out'
      → OutDid (when free (took i j)) 1 t r out out'
  unfolding when
  took-free e i j {t = t} {r = r} {out = out} {out' = out'} x = rw e x

  pub took_not : free ≡ false → (i j : ℕ) (t : PickNumbers) (out : List ℕ) → OutDid (when free (took i j)) 1 t t out out
  unfolding when
  took_not e i j t out = rw e (out_end (out_start (λ w. w) t out) 1 (omega arith) (λ start d aside ignored loops. refl))

  pub put_free : free ≡ true → (i j : ℕ) {t r : PickNumbers} {aside aside' : List ℕ} → AsideDid (put_aside i j) 1 t r aside aside'
      → AsideDid (when free (put_aside i j)) 1 t r aside aside'
  unfolding when
  put_free e i j x = rw e x

  pub put_not : free ≡ false → (i j : ℕ) (t : PickNumbers) (aside : List ℕ) → AsideDid (when free (put_aside i j)) 1 t t aside aside
  unfolding when
  put_not e i j t aside = rw e (aside_end (aside_start (λ w. w) t aside) 1 (omega arith) (λ start d out ignored loops. refl))

-- ---- the loops
-- blocks before number k are walked over, and j is that block
pub record Taking (states : List ℕ) (i first : ℕ) (t cur : PickNumbers) (out out₁ : List ℕ) (j k : ℕ) : Type 0 where
  pub low : k ≤ length states
  pub there : j < length states
  pub place : j ≡ (k + first) % length states
  pub rest : OutRest (take_free (partial_by i states) first) (take_rest (partial_by i states) first k) k t cur out out₁

pub record Putting (states : List ℕ) (i first : ℕ) (t cur : PickNumbers) (aside aside₁ : List ℕ) (j k : ℕ) : Type 0 where
  pub low : k ≤ length states
  pub there : j < length states
  pub place : j ≡ (k + first) % length states
  pub rest : AsideRest (set_aside (partial_by i states) first) (aside_rest (partial_by i states) first k) k t cur aside aside₁

module _ (states : List ℕ) (i first : ℕ) (p : PlainStates states) (some : first < length states) (t : PickNumbers) where
  pub taking_start : (out : List ℕ) → Taking states i first t t out out first 0
  taking_start out = record {
    low = omega arith;
    there = some;
    place = start_place first (length states) some;
    rest = record {
      is = λ start d aside ignored loops h. sym (take_all (partial_by i states) first (state_of start d t out aside ignored loops));
      kept = kept_none t out;
      few = omega arith;
      given = omega arith;
    };
  }

  pub putting_start : (aside : List ℕ) → t.aside ≤ length aside → t.aside < t.left → Putting states i first t t aside aside first 0
  unfolding set_aside unless
  putting_start aside l h = record {
    low = omega arith;
    there = some;
    place = start_place first (length states) some;
    rest = record {
      is = λ start d out ignored loops. let w = state_of start d t out aside ignored loops in
          sym (ap (λ (b : Bool). unless b (for_each (put_aside (partial_by i states).piece) (free_from (partial_by i states) first)) w)
          (enough_is start d t out aside ignored loops l ∙ lt-leb t.left t.aside h) ∙ aside_all_rest (partial_by i states) first w);
      long = refl;
      end = refl;
      few = omega arith;
    };
  }

  -- enough are there
  pub put_none : (aside : List ℕ) → t.aside ≤ length aside → t.left ≤ t.aside → AsideDid (set_aside (partial_by i states) first) 256 t t aside aside
  unfolding set_aside unless
  put_none aside l h = record {
    is = λ start d out ignored loops. let w = state_of start d t out aside ignored loops in
        sym (ap (λ (b : Bool). unless b (for_each (put_aside (partial_by i states).piece) (free_from (partial_by i states) first)) w)
        (enough_is start d t out aside ignored loops l ∙ le-leb t.left t.aside h));
    long = refl;
    end = refl;
    few = omega arith;
  }

  module _ (cur : PickNumbers) (out out₁ : List ℕ) (j k : ℕ) (g : Taking states i first t cur out out₁ j k) where
    pub taking_end : length states ≤ k → length states ≤ 256 → OutDid (take_free (partial_by i states) first) 256 t cur out out₁
    taking_end h l = out_end g.rest 256 (let m = g.low in omega arith) (λ start d aside ignored loops.
        take_none i states p first k (state_of start d cur out₁ aside ignored loops) h)

    module _ (h : k < length states) (free : Bool) (e : free ≡ eqb (get_or states j 0) 0) (last : Bool)
        (z : last ≡ (not (contiguous_above 0 (contiguous_of cur)) && eqb (cur.left - 1) 0)) {r : PickNumbers} {out₂ : List ℕ}
        (x : OutDid (when free (took i j)) 1 cur r out₁ out₂) where
      halts : (start : ℕ) (d : Picker) (aside : List ℕ) (ignored : List Bool) (loops : List ℕ)
          → (free && free_halt i j (state_of start d cur out₁ aside ignored loops)) ≡ (free && last)
      halts start d aside ignored loops = ap (λ (b : Bool). free && b) (halt_is start d cur out₁ aside ignored loops i j ∙ sym z)

      pub taking_next : (free && last) ≡ false → (j' : ℕ) → j' ≡ (j + 1) % length states → Taking states i first t r out out₂ j' (k + 1)
      taking_next f j' v = record {
        low = omega arith;
        there = let l = place_low (j + 1) (length states) (omega arith) in omega arith;
        place = v ∙ ap (λ (n : ℕ). (n + 1) % length states) g.place ∙ next_place k first (length states) (omega arith);
        rest = out_next g.rest (take_rest (partial_by i states) first (k + 1)) x (λ start d aside ignored loops.
            take_next i states p first k (state_of start d cur out₁ aside ignored loops) h j g.place free e
            (halts start d aside ignored loops ∙ f));
      }

      pub taking_stop : (free && last) ≡ true → length states ≤ 256 → OutDid (take_free (partial_by i states) first) 256 t r out out₂
      taking_stop f l = out_last g.rest 256 x (omega arith) (λ start d aside ignored loops.
          take_stop i states p first k (state_of start d cur out₁ aside ignored loops) h j g.place free e
          (halts start d aside ignored loops ∙ f))

  module _ (cur : PickNumbers) (aside aside₁ : List ℕ) (j k : ℕ) (g : Putting states i first t cur aside aside₁ j k) where
    pub putting_end : length states ≤ k → length states ≤ 256 → AsideDid (set_aside (partial_by i states) first) 256 t cur aside aside₁
    putting_end h l = aside_end g.rest 256 (let m = g.low in omega arith) (λ start d out ignored loops.
        aside_none i states p first k (state_of start d cur out aside₁ ignored loops) h)

    pub putting_next : k < length states → (free : Bool) → free ≡ eqb (get_or states j 0) 0 → {r : PickNumbers} {aside₂ : List ℕ}
        → AsideDid (when free (put_aside i j)) 1 cur r aside₁ aside₂ → (j' : ℕ) → j' ≡ (j + 1) % length states
        → Putting states i first t r aside aside₂ j' (k + 1)
    putting_next h free e {r = r} {aside₂ = aside₂} x j' v = record {
      low = omega arith;
      there = let l = place_low (j + 1) (length states) (omega arith) in omega arith;
      place = v ∙ ap (λ (n : ℕ). (n + 1) % length states) g.place ∙ next_place k first (length states) (omega arith);
      rest = aside_next g.rest (aside_rest (partial_by i states) first (k + 1)) x (λ start d out ignored loops.
          aside_next_block i states p first k (state_of start d cur out aside₁ ignored loops) h j g.place free e);
    }
