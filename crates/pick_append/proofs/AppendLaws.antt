-- Blocks copied one after another, and the step that this is. Assumes nothing.
use mathlib.Core.Path.{◌≡◌, refl, sym, ap, ◌∙◌}
use mathlib.Core.List.{List, [], ◌∷◌, ◌++◌, append_assoc, append-nil}
use Prim.Native.Nat.{ℕ, zero, suc, ◌+◌, ◌-◌, ◌≤◌, ◌<◌}
use native.Mathlib.Numerals.{add-one}
use native.Mathlib.Omega.{arith}
use lib.Dec.{leb}
use lib.ListN.{length, get_or, set, take, length-set}
use lib.Seq.{take-suc, take-take, get_or-set_other}
use borrow.Author.Tests.{leb-true, leb-false}
use Rattle.model.specs.Lists.{each, len, least}
use Rattle.model.specs.pick.Blocks.{PieceBlock, with_out, with_backup, append_blocks}
use Rattle.model.proofs.base.Phases.{cond_arms}
use Rattle.pick_state.specs.declared.numbers.PickNumbers.{PickNumbers}
use Rattle.pick_state.specs.PickStates.{block_from, blocks_between, contiguous_of, state_of}
use Rattle.pick_state.proofs.TakeLaws.{between_more, between_length}
use Rattle.pick_append.specs.Appending.{Copied, Appended}

-- ---- the lesser of two
pub least_both : (a b n : ℕ) → n ≡ least a b → (n ≤ a) × (n ≤ b)
unfolding least
least_both a b n e =
    rw e (cond_arms (λ (m : ℕ). (m ≤ a) × (m ≤ b)) (leb a b) a b (λ f. (omega arith, leb-true a b f)) (λ f. (let l = leb-false a b f in omega arith, omega arith)))

-- ---- blocks in a row
each_append : (xs ys : List ℕ) → each block_from (xs ++ ys) ≡ each block_from xs ++ each block_from ys
unfolding each
each_append [] ys = refl
each_append (x ∷ xs) ys = ap (λ (l : List PieceBlock). block_from x ∷ l) (each_append xs ys)

each-take : (n : ℕ) (l : List ℕ) → take n (each block_from l) ≡ each block_from (take n l)
unfolding each
each-take zero l = refl
each-take (suc n) [] = refl
each-take (suc n) (x ∷ xs) = ap (λ (l : List PieceBlock). block_from x ∷ l) (each-take n xs)

-- the first n of those set aside
taken_is : (n m : ℕ) (aside : List ℕ) → n ≤ m → take n (blocks_between 0 m aside) ≡ each block_from (take n aside)
unfolding blocks_between
taken_is n m aside h =
    let e : m - 0 ≡ m = omega arith in
    rw e (each-take n (take m aside) ∙ ap (each block_from) (take-take n m aside h))

-- ---- copied
pub copy_start : (at : ℕ) (aside out : List ℕ) → Copied at 0 aside out out
unfolding each
copy_start at aside out = record {
  long = refl;
  blocks = λ start h. let e : at + 0 ≡ at = omega arith in
      ap (λ (n : ℕ). blocks_between start n out) e ∙ sym (append-nil (blocks_between start at out));
  others = λ k h. refl;
}

pub copy_next : (at k : ℕ) (aside out mid : List ℕ) → Copied at k aside out mid → at + k < length out → k < length aside
    → Copied at (k + 1) aside out (set mid (at + k) (get_or aside k 0))
unfolding each
copy_next at k aside out mid c h l = record {
  long = length-set mid (at + k) (get_or aside k 0) ∙ c.long;
  blocks = λ start g.
      let n = c.long in
      let e : at + (k + 1) ≡ at + k + 1 = omega arith in
      ap (λ (m : ℕ). blocks_between start m (set mid (at + k) (get_or aside k 0))) e
      ∙ between_more start (at + k) mid (get_or aside k 0) (omega arith) (omega arith)
      ∙ ap (λ (b : List PieceBlock). b ++ (block_from (get_or aside k 0) ∷ [])) (c.blocks start g)
      ∙ append_assoc (blocks_between start at out) (each block_from (take k aside)) (block_from (get_or aside k 0) ∷ [])
      ∙ ap (λ (b : List PieceBlock). blocks_between start at out ++ b) (sym (each_append (take k aside) (get_or aside k 0 ∷ [])))
      ∙ ap (λ (b : List ℕ). blocks_between start at out ++ each block_from b) (sym (take-suc aside k 0 l))
      ∙ ap (λ (m : ℕ). blocks_between start at out ++ each block_from (take m aside)) (sym (add-one k));
  others = λ j n.
      get_or-set_other mid (at + k) j (get_or aside k 0) 0 (λ e. n (omega arith) (omega arith)) ∙ c.others j (λ x y. n x (omega arith));
}

pub copy_end : (at k n : ℕ) (aside out mid : List ℕ) → Copied at k aside out mid → k ≡ n → Copied at n aside out mid
copy_end at k n aside out mid c e = rw (← e) c

none_there : (xs : List ℕ) → blocks_between 0 0 xs ≡ []
unfolding blocks_between each
none_there xs = refl

-- ---- appended
pub append_is : (t : PickNumbers) (n : ℕ) (out out' aside : List ℕ) → n ≡ least t.aside t.left → t.end + t.left ≤ length out
    → t.aside ≤ length aside → Copied t.end n aside out out'
    → Appended t
    (record { left = t.left - n; asked = t.asked; given = t.given; used = t.used; flags = t.flags; end = t.end + n; aside = 0 }) out out'
    aside
unfolding append_blocks with_backup with_out state_of contiguous_of
append_is t n out out' aside e room l c =
    let u = least_both t.aside t.left n e in
    let v = u.1 in
    record {
      worked = λ d ignored loops. record {
        did = record {
          is = λ start h.
              let a : len (blocks_between 0 t.aside aside) ≡ t.aside = between_length 0 t.aside aside l ∙ none_less t.aside in
              let m : n ≡ least (len (blocks_between 0 t.aside aside)) t.left = e ∙ ap (λ (x : ℕ). least x t.left) (sym a) in
              λ k. record {
                picker = d;
                used = t.used;
                left = t.left - m k;
                contiguous = contiguous_of t;
                out = (c.blocks start h ∙ ap (λ (b : List PieceBlock). blocks_between start t.end out ++ b) (sym (taken_is n t.aside aside u.0))
                    ∙ ap (λ (x : ℕ). blocks_between start t.end out ++ take x (blocks_between 0 t.aside aside)) m) k;
                backup = none_there aside k;
                ignored = ignored;
                flags = t.flags;
                loops = loops;
              };
          kept = record { rises = omega arith; long = c.long; others = c.others };
          long_aside = refl;
          long_ignored = refl;
          long_loops = refl;
        };
        within = let z = c.long in omega arith;
      };
      total = omega arith;
      used = refl;
    }
  where
    none_less : (x : ℕ) → x - 0 ≡ x
    none_less x = omega arith
