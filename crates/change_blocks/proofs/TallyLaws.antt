-- The numbers of a partial's blocks after one of them is replaced. Assumes nothing.
use mathlib.Core.Path.{◌≡◌, refl, sym, ap, ◌∙◌}
use mathlib.Core.Bool.{Bool, true, false}
use mathlib.Core.List.{List, [], ◌∷◌}
use Prim.Native.Nat.{ℕ, zero, suc, ◌+◌, ◌-◌, ◌≤◌, ◌<◌}
use native.Mathlib.Omega.{arith}
use native.Mathlib.Nat.{le_of_suc-le-suc, not-suc-le-zero}
use lib.Dec.{eqb, ltb}
use Rattle.types.specs.declared.block.BlockState.{BlockState}
use Rattle.types.specs.declared.block.BlockState.TheVariants.{None, Requested, Writing, Finished}
use Rattle.types.specs.Block.{block_state_number}
use Rattle.model.specs.Lists.{bit, count, len, nth, set_nth}
use Rattle.model.specs.State.{Block, DownloadingPiece, no_block, same_block_state, with_blocks}
use Rattle.model.specs.change.Partials.{block_at, blocks_in_state, progress}
use Rattle.change_state.specs.declared.states.Tally.{Tally}
use Rattle.change_blocks.specs.Replacing.{with_block_at, Retallied}

-- a test passes once at most
pub bit_most : (b : Bool) → bit b ≤ 1
bit_most true = omega arith
bit_most false = omega arith

-- ---- one element replaced
module _ {A : Type 0} (test : A → Bool) (none : A) where
  -- it counts once
  counted_once : (l : List A) (j : ℕ) → j < len l → bit (test (nth none l j)) ≤ count test l
  unfolding count nth len
  counted_once [] j h = absurd (not-suc-le-zero h)
  counted_once (x ∷ xs) zero h = omega arith
  counted_once (x ∷ xs) (suc j) h = omega (arith, counted_once xs j (le_of_suc-le-suc h))

  -- the others count as before
  pub count-set : (l : List A) (j : ℕ) (y : A) → j < len l
      → count test (set_nth j y l) + bit (test (nth none l j)) ≡ count test l + bit (test y)
  unfolding count nth set_nth len
  count-set [] j y h = absurd (not-suc-le-zero h)
  count-set (x ∷ xs) zero y h = omega arith
  count-set (x ∷ xs) (suc j) y h = omega (arith, count-set xs j y (le_of_suc-le-suc h))

-- no more pass than there are
pub count_most : {A : Type 0} → (test : A → Bool) (l : List A) → count test l ≤ len l
unfolding count len
count_most test [] = omega arith
count_most test (x ∷ xs) = omega (arith, count_most test xs, bit_most (test x))

-- where one does not pass, not all do
not_all : {A : Type 0} → (test : A → Bool) (none : A) (l : List A) (j : ℕ) → j < len l
    → count test l + (1 - bit (test (nth none l j))) ≤ len l
unfolding count nth len
not_all test none [] j h = absurd (not-suc-le-zero h)
not_all test none (x ∷ xs) zero h = omega (arith, count_most test xs, bit_most (test x))
not_all test none (x ∷ xs) (suc j) h = omega (arith, not_all test none xs j (le_of_suc-le-suc h), bit_most (test x))

-- as many as before
len_set : {A : Type 0} → (l : List A) (j : ℕ) (y : A) → len (set_nth j y l) ≡ len l
unfolding set_nth len
len_set [] j y = refl
len_set (x ∷ xs) zero y = refl
len_set (x ∷ xs) (suc j) y = ap suc (len_set xs j y)

-- ---- by the numbers of states
free_number : (b : BlockState) → bit (same_block_state b None) ≡ 1 - bit (ltb 0 (block_state_number b))
unfolding same_block_state
free_number None = refl
free_number Requested = refl
free_number Writing = refl
free_number Finished = refl

requested_number : (b : BlockState) → bit (same_block_state b Requested) ≡ bit (eqb (block_state_number b) 1)
unfolding same_block_state
requested_number None = refl
requested_number Requested = refl
requested_number Writing = refl
requested_number Finished = refl

-- ---- of a partial
module _ (d : DownloadingPiece) (j : ℕ) (h : j < len d.blocks) where
  -- what taking the old block away asks
  pub busy_counts : bit (ltb 0 (block_state_number (block_at d j).state)) ≤ progress d
  unfolding progress blocks_in_state block_at
  busy_counts =
      let n = free_number (nth no_block d.blocks j).state in
      let m = not_all (λ b. same_block_state b.state None) no_block d.blocks j h in
      omega (arith, n, m, bit_most (ltb 0 (block_state_number (nth no_block d.blocks j).state)))

  pub requested_counts : bit (eqb (block_state_number (block_at d j).state) 1) ≤ blocks_in_state Requested d
  unfolding blocks_in_state block_at
  requested_counts =
      let o = counted_once (λ (b : Block). same_block_state b.state Requested) no_block d.blocks j h in
      omega (arith, o, requested_number (nth no_block d.blocks j).state)

-- ---- the numbers after it
pub retallied : (t : Tally) (old new : ℕ) (t' : Tally) → t'.blocks ≡ t.blocks
    → t'.busy ≡ t.busy - bit (ltb 0 old) + bit (ltb 0 new)
    → t'.requested ≡ t.requested - bit (eqb old 1) + bit (eqb new 1) → t'.hashing ≡ t.hashing
    → Retallied t old new t'
unfolding with_block_at with_blocks progress blocks_in_state block_at
retallied t old new t' eb ey er eh = record {
  is = λ d j b y h eo en.
      let l = d.blocks in
      let old_state = (nth no_block l j).state in
      let n = len_set l j b in
      let f = count-set (λ x. same_block_state x.state None) no_block l j b h in
      let g = count-set (λ x. same_block_state x.state Requested) no_block l j b h in
      let u = free_number old_state in
      let v = free_number b.state in
      let o = requested_number old_state in
      let q = requested_number b.state in
      let m = busy_counts d j h in
      let k = requested_counts d j h in
      let e1 = ap (λ (x : ℕ). bit (ltb 0 x)) eo in
      let e2 = ap (λ (x : ℕ). bit (ltb 0 x)) en in
      let e3 = ap (λ (x : ℕ). bit (eqb x 1)) eo in
      let e4 = ap (λ (x : ℕ). bit (eqb x 1)) en in
      let most = count_most (λ (x : Block). same_block_state x.state None) l in
      let most' = count_most (λ (x : Block). same_block_state x.state None) (set_nth j b l) in
      record {
        blocks = eb ∙ y.blocks ∙ sym n;
        busy = omega (arith, ey, y.busy, n, f, u, v, m, e1, e2, most, most', bit_most (ltb 0 old), bit_most (ltb 0 new));
        requested = omega (arith, er, y.requested, g, o, q, k, e3, e4);
        hashing = eh ∙ y.hashing;
      };
}
