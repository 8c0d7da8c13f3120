-- Numbers filled in turn by turn, and what several fills leave. Assumes nothing.
use mathlib.Core.Path.{◌≡◌, refl, ap, ◌∙◌}
use mathlib.Core.List.{List, ◌++◌}
use Prim.Native.Nat.{ℕ, ◌+◌, ◌-◌, ◌*◌, ◌≤◌, ◌<◌}
use native.Mathlib.Decide.{ℕ_discrete}
use native.Mathlib.Omega.{arith}
use lib.ListN.{length, get_or, set, drop, replicate, length-set, length-append, length-drop, length-replicate, get_or-append, get_or-replicate}
use lib.Seq.{get_or-set_same, get_or-set_other, get_or-append-add, get_or-drop}
use borrow.Rule.Slice.PartMut.{put_mid, mid_of, mid_len}
use Rattle.memory_layout.specs.Offsets.{cell, piece_word_at, piece_cell_at}
use Rattle.memory_layout.specs.Decode.{piece_word, piece_cell}
use Rattle.memory_layout.proofs.stores.ListStores.{part_below, part_within, part_above, part_put_long}
use Rattle.memory_new.specs.Fresh.{Filled, fresh_head, FreshWords, FreshCells}

-- ---- one fill
-- nothing is filled yet
pub fill_start : (start v : ℕ) (l : List ℕ) → Filled start start v l l
fill_start start v l =
    record { long = refl; inside = λ k a b. absurd (omega arith); below = λ k h. refl; behind = λ k h. refl }

-- one number more is filled in
pub fill_next : (start k v : ℕ) (a b : List ℕ) → Filled start k v a b → start ≤ k → k < length a → Filled start (k + 1) v a (set b k v)
fill_next start k v a b f s h =
    let same : get_or (set b k v) k 0 ≡ v = get_or-set_same b k v 0 (omega (arith, f.long)) in
    let other : (j : ℕ) → (j ≡ k → ⊥) → get_or (set b k v) j 0 ≡ get_or b j 0 = λ j q. get_or-set_other b k j v 0 q in
    record {
      long = length-set b k v ∙ f.long;
      inside = λ j l m. elim (ℕ_discrete j k) [
        | yes q ↦ rw (q, same)
        | no q ↦ other j q ∙ f.inside j l (omega (arith, q))
      ];
      below = λ j l. other j (λ q. omega arith) ∙ f.below j l;
      behind = λ j l. other j (λ q. omega arith) ∙ f.behind j (omega arith);
    }

-- filled up to the end
pub fill_end : (start k end v : ℕ) (a b : List ℕ) → Filled start k v a b → k ≡ end → Filled start end v a b
fill_end start k end v a b f e = rw e at f

-- a part of a buffer that holds one number everywhere is put back
pub part_filled : (start end v : ℕ) (l part : List ℕ) → start ≤ end → end ≤ length l
    → part ≡ replicate (length (mid_of start (end - start) l)) v → Filled start end v l (put_mid start (end - start) l part)
part_filled start end v l part q h e =
    let k = end - start in
    let fits : start + k ≤ length l = omega arith in
    let many : length (mid_of start k l) ≡ k = mid_len start end l h in
    let long : length part ≡ k = ap length e ∙ length-replicate (length (mid_of start k l)) v ∙ many in
    record {
      long = part_put_long start k l part fits long;
      inside = λ j a b.
          let m : j ≡ start + (j - start) = omega arith in
          ap (λ (i : ℕ). get_or (put_mid start k l part) i 0) m
          ∙ part_within start k l part fits long (j - start) (omega arith)
          ∙ ap (λ (x : List ℕ). get_or x (j - start) 0) e
          ∙ get_or-replicate (length (mid_of start k l)) (j - start) v 0 (omega (arith, many));
      below = part_below start k l part fits long;
      behind = λ j a. part_above start k l part fits long j (omega arith);
    }

-- ---- the head, and the pad bytes behind it
module _ (total_size piece_size n : ℕ) (l after : List ℕ) (h : 16 ≤ length l) (e : after ≡ fresh_head total_size piece_size n ++ drop 9 l) where
  nine : length (fresh_head total_size piece_size n) ≡ 9
  unfolding fresh_head
  nine = refl

  pub head_long : length after ≡ length l
  head_long = ap length e ∙ omega (arith, nine, length-append (fresh_head total_size piece_size n) (drop 9 l), length-drop 9 l)

  pub head_at : (k : ℕ) → k < 9 → get_or after k 0 ≡ get_or (fresh_head total_size piece_size n) k 0
  head_at k m =
      ap (λ (x : List ℕ). get_or x k 0) e
      ∙ get_or-append (fresh_head total_size piece_size n) (drop 9 l) 0 k (omega (arith, nine))

  head_behind : (k : ℕ) → 9 ≤ k → get_or after k 0 ≡ get_or l k 0
  head_behind k m =
      let a : k ≡ length (fresh_head total_size piece_size n) + (k - 9) = omega (arith, nine) in
      let b : 9 + (k - 9) ≡ k = omega arith in
      ap (λ (x : List ℕ). get_or x k 0) e
      ∙ ap (λ (j : ℕ). get_or (fresh_head total_size piece_size n ++ drop 9 l) j 0) a
      ∙ get_or-append-add (fresh_head total_size piece_size n) (drop 9 l) (k - 9) 0
      ∙ get_or-drop 9 l (k - 9) 0
      ∙ ap (λ (j : ℕ). get_or l j 0) b

  pub words_fresh : (last : List ℕ) → Filled 16 (16 + n) 0 after last → FreshWords total_size piece_size n l last
  unfolding piece_word piece_word_at cell
  words_fresh last f = record {
    long = f.long ∙ head_long;
    head = λ k m. f.below k (omega arith) ∙ head_at k m;
    pads = λ i m. f.inside (16 + (0 * n + i)) (omega arith) (omega arith);
    beyond = λ k m. f.behind k m ∙ head_behind k (omega arith);
  }

-- ---- the cells of n pieces, column by column
pub cells_fresh : (n : ℕ) (l a b c d : List ℕ) → Filled 0 n 0 l a → Filled n (2 * n) 4 a b → Filled (2 * n) (3 * n) 4 b c
    → Filled (3 * n) (4 * n) 0 c d → FreshCells n l d
unfolding piece_cell piece_cell_at cell
cells_fresh n l a b c d p q r s = record {
  long = s.long ∙ r.long ∙ q.long ∙ p.long;
  peers = λ i h.
      s.below (0 * n + i) (omega arith) ∙ r.below (0 * n + i) (omega arith) ∙ q.below (0 * n + i) (omega arith)
      ∙ p.inside (0 * n + i) (omega arith) (omega arith);
  states = λ i h.
      s.below (1 * n + i) (omega arith) ∙ r.below (1 * n + i) (omega arith) ∙ q.inside (1 * n + i) (omega arith) (omega arith);
  priorities = λ i h. s.below (2 * n + i) (omega arith) ∙ r.inside (2 * n + i) (omega arith) (omega arith);
  flushed = λ i h. s.inside (3 * n + i) (omega arith) (omega arith);
  beyond = λ k h. s.behind k h ∙ r.behind k (omega arith) ∙ q.behind k (omega arith) ∙ p.behind k (omega arith);
}
