-- The pass over blocks whose cells stand in a list for each field, and the same over a place of the memory. Assumes nothing.
use mathlib.Core.Path.{◌≡◌, refl, sym, ap, ◌∙◌}
use mathlib.Core.Bool.{Bool, ◌&&◌}
use mathlib.Core.List.{List}
use Prim.Native.Nat.{ℕ, ◌+◌, ◌≤◌}
use native.Mathlib.Omega.{arith}
use lib.Dec.{eqb}
use lib.ListN.{get_or}
use Rattle.model.specs.Lists.{bit}
use Rattle.memory_layout.specs.declared.shape.Shape.{Shape}
use Rattle.memory_layout.specs.Bounds.{BlockColumn}
use Rattle.check_blocks.specs.declared.blocks.Joined.{Joined}
use Rattle.check_blocks.specs.declared.blocks.Counts.{Counts}
use Rattle.check_blocks.specs.Below.{all_below, count_below}
use Rattle.check_blocks.specs.Rows.{joined_ok, row_in, state_of, row_cells, rows_ok, in_state}
use Rattle.check_blocks.proofs.BelowLaws.{all_more, all_same, count_next, count_same, count_few}

-- ---- lists
-- as many counted as there are, of each state
pub record Numbers (ss : List ℕ) (c : Counts) (j : ℕ) : Type 0 where
  pub asked : c.requested ≡ state_of ss 1 j
  pub written : c.writing ≡ state_of ss 2 j
  pub done : c.finished ≡ state_of ss 3 j

-- after j blocks: their cells joined, and the numbers
pub record Counting (ss rs hs : List ℕ) (sum : Joined) (c : Counts) (j : ℕ) : Type 0 where
  pub good : joined_ok sum ≡ all_below (row_in ss rs hs) j
  pub numbers : Numbers ss c j

state_few : (ss : List ℕ) (q j : ℕ) → state_of ss q j ≤ j
unfolding state_of
state_few ss q j = count_few (λ i. eqb (get_or ss i 0) q) j

state_next : (ss : List ℕ) (q j : ℕ) → state_of ss q (j + 1) ≡ state_of ss q j + bit (eqb (get_or ss j 0) q)
unfolding state_of
state_next ss q j = count_next (λ i. eqb (get_or ss i 0) q) j

pub numbers_few : (ss : List ℕ) (c : Counts) (j : ℕ) → Numbers ss c j → (c.requested ≤ j) × (c.writing ≤ j) × (c.finished ≤ j)
numbers_few ss c j g =
    (omega (arith, g.asked, state_few ss 1 j), omega (arith, g.written, state_few ss 2 j), omega (arith, g.done, state_few ss 3 j))

module _ (ss rs hs : List ℕ) where
  pub counting_start : Counting ss rs hs (record { states = 0; beyond = 0; flags = 0 })
      (record { requested = 0; writing = 0; finished = 0 }) 0
  unfolding state_of all_below count_below joined_ok
  counting_start = record { good = refl; numbers = record { asked = refl; written = refl; done = refl } }

  -- one state counted once more
  module _ (c d : Counts) (j : ℕ) (g : Numbers ss c j) where
    pub numbers_next : (d.requested ≡ c.requested + bit (eqb (get_or ss j 0) 1)) × (d.writing ≡ c.writing + bit (eqb (get_or ss j 0) 2))
        × (d.finished ≡ c.finished + bit (eqb (get_or ss j 0) 3)) → Numbers ss d (j + 1)
    numbers_next e =
        record {
          asked = e.0 ∙ ap (λ (x : ℕ). x + bit (eqb (get_or ss j 0) 1)) g.asked ∙ sym (state_next ss 1 j);
          written = e.1 ∙ ap (λ (x : ℕ). x + bit (eqb (get_or ss j 0) 2)) g.written ∙ sym (state_next ss 2 j);
          done = e.2 ∙ ap (λ (x : ℕ). x + bit (eqb (get_or ss j 0) 3)) g.done ∙ sym (state_next ss 3 j);
        }

  pub counting_next : (m n : Joined) (c d : Counts) (j : ℕ) → Counting ss rs hs m c j → joined_ok n ≡ (joined_ok m && row_in ss rs hs j)
      → (d.requested ≡ c.requested + bit (eqb (get_or ss j 0) 1)) × (d.writing ≡ c.writing + bit (eqb (get_or ss j 0) 2))
      × (d.finished ≡ c.finished + bit (eqb (get_or ss j 0) 3)) → Counting ss rs hs n d (j + 1)
  counting_next m n c d j g h e =
      record {
        good = h ∙ ap (λ (x : Bool). x && row_in ss rs hs j) g.good ∙ sym (all_more (row_in ss rs hs) j);
        numbers = numbers_next c d j g.numbers e;
      }

  abbrev pub Answer : (many : ℕ) (ok : Bool) (c : Counts) → Type 0
  Answer many ok c =
      (ok ≡ all_below (row_in ss rs hs) many)
      × ((c.requested ≡ state_of ss 1 many) × ((c.writing ≡ state_of ss 2 many) × (c.finished ≡ state_of ss 3 many)))

  pub counting_end : (m : Joined) (c : Counts) (j many : ℕ) (ok : Bool) → Counting ss rs hs m c j → j ≡ many → ok ≡ joined_ok m
      → Answer many ok c
  counting_end m c j many ok g e eo =
      rw (← e) (eo ∙ g.good, (g.numbers.asked, (g.numbers.written, g.numbers.done)))

-- ---- a place of the memory
-- the tests on the lists are those on the place
module _ (s : Shape) (cells ss rs hs : List ℕ) (p many : ℕ) (e0 : BlockColumn cells s 0 p many ss) (e1 : BlockColumn cells s 1 p many rs)
    (e2 : BlockColumn cells s 2 p many hs) where
  rows_same : all_below (row_in ss rs hs) many ≡ rows_ok cells s.pieces s.blocks p many
  unfolding rows_ok row_in row_cells
  rows_same =
      all_same (row_in ss rs hs) (row_cells cells s.pieces s.blocks p) many (λ j l. rw (e0.cell j l, e1.cell j l, e2.cell j l))

  state_same : (q : ℕ) → state_of ss q many ≡ in_state cells s.pieces s.blocks p q many
  unfolding state_of in_state
  state_same q = count_same _ _ many (λ j l. ap (λ (x : ℕ). eqb x q) (e0.cell j l))

  pub place_answer : (ok : Bool) (c : Counts) → Answer ss rs hs many ok c
      → (ok ≡ rows_ok cells s.pieces s.blocks p many)
      × ((c.requested ≡ in_state cells s.pieces s.blocks p 1 many)
      × ((c.writing ≡ in_state cells s.pieces s.blocks p 2 many) × (c.finished ≡ in_state cells s.pieces s.blocks p 3 many)))
  place_answer ok c a = (a.0 ∙ rows_same, (a.1.0 ∙ state_same 1, (a.1.1.0 ∙ state_same 2, a.1.1.1 ∙ state_same 3)))
