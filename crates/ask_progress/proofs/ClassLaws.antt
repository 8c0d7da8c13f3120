-- Pieces by whether they are had and whether they are filtered: the sums that a test of both makes needless. Assumes nothing.
use mathlib.Core.Path.{◌≡◌, refl, sym, ap, ◌∙◌}
use mathlib.Core.Bool.{Bool, true, false, not, ◌&&◌, ◌||◌, beq}
use mathlib.Core.List.{List, [], ◌∷◌}
use Prim.Native.Nat.{ℕ, ◌+◌, ◌-◌, ◌*◌}
use native.Mathlib.Decide.{dec_le}
use native.Mathlib.Omega.{arith}
use lib.Dec.{eqb}
use borrow.Author.Tests.{eq-eqb, ne_eqb, le-leb, lt-leb}
use Rattle.model.specs.Lists.{bit, filter, from, len}
use Rattle.model.specs.State.{Picker, pieces_in}
use Rattle.model.specs.ask.Questions.{reply_picker, flag, one, is_finished, is_seeding, num_want_left, have_piece, filtered, pieces_where}
use Rattle.model.specs.ask.Questions.{count_where, num_have, num_filtered, num_have_filtered}
use Rattle.model.proofs.base.Counts.{length-from}
use Rattle.model.proofs.sound.PartialLaws.{size_filter_le}
use Rattle.ask_totals.specs.Totals.{Test, tested}
use Rattle.ask_totals.proofs.CountLaws.{size_more}

-- ---- one piece
-- had or filtered; had and filtered, or neither
abbrev pub settled : Test
settled h f = h || f

abbrev pub left : Test
left h f = beq h f

settled_bit : (h f : Bool) → bit (h || f) * 1 ≡ bit h * 1 + bit (f && not h) * 1
settled_bit true true = refl
settled_bit true false = refl
settled_bit false true = refl
settled_bit false false = refl

left_bit : (h f : Bool) → bit (beq h f) * 1 + bit h * 1 + bit (f && not h) * 1 ≡ 1 + bit (f && h) * 1
left_bit true true = refl
left_bit true false = refl
left_bit false true = refl
left_bit false false = refl

-- ---- all of a list
module _ (h f : ℕ → Bool) where
  settled_size : (l : List ℕ) → len (filter (λ i. h i || f i) l) ≡ len (filter h l) + len (filter (λ i. f i && not (h i)) l)
  unfolding filter len
  settled_size [] = refl
  settled_size (x ∷ xs) =
      omega (
        arith,
        size_more (λ i. h i || f i) x xs,
        size_more h x xs,
        size_more (λ i. f i && not (h i)) x xs,
        settled_bit (h x) (f x),
        settled_size xs,
      )

  left_size : (l : List ℕ)
      → len (filter (λ i. beq (h i) (f i)) l) + len (filter h l) + len (filter (λ i. f i && not (h i)) l)
      ≡ len l + len (filter (λ i. f i && h i) l)
  unfolding filter len
  left_size [] = refl
  left_size (x ∷ xs) =
      omega (
        arith,
        size_more (λ i. beq (h i) (f i)) x xs,
        size_more h x xs,
        size_more (λ i. f i && not (h i)) x xs,
        size_more (λ i. f i && h i) x xs,
        left_bit (h x) (f x),
        left_size xs,
      )

-- ---- of a picker
module _ (d : Picker) where
  -- all settled: those not filtered are no more than those had
  pub finished_is : (r n : ℕ) → r ≡ count_where d (tested settled d) → n ≡ pieces_in d → flag (eqb r n) ≡ reply_picker d is_finished
  unfolding reply_picker count_where pieces_where num_have num_filtered len
  finished_is r n e o =
      let l = from 0 (pieces_in d) in
      let a = settled_size (have_piece d) (filtered d) l in
      let m = length-from 0 (pieces_in d) in
      let t = size_filter_le (tested settled d) l in
      let nh = len (filter (have_piece d) l) in
      let nf = len (filter (λ i. filtered d i && not (have_piece d i)) l) in
      ap flag (elim (dec_le (pieces_in d - nf) nh) [
        | yes g ↦ eq-eqb r n (omega (arith, a, m, t, g)) ∙ sym (le-leb _ _ g)
        | no g ↦ ne_eqb r n (λ q. g (omega (arith, a, m, t))) ∙ sym (lt-leb (pieces_in d - nf) nh (omega (arith, g)))
      ])

  pub seeding_is : (r n : ℕ) → r ≡ num_have d → n ≡ pieces_in d → flag (eqb r n) ≡ reply_picker d is_seeding
  unfolding reply_picker
  seeding_is r n e o = rw (e, o) refl

  -- what is counted is what is left of all
  pub left_is : (r : ℕ) → r ≡ count_where d (tested left d) → one r ≡ reply_picker d num_want_left
  unfolding reply_picker count_where pieces_where num_have num_filtered num_have_filtered len
  left_is r e =
      let l = from 0 (pieces_in d) in
      let a = left_size (have_piece d) (filtered d) l in
      let b = settled_size (have_piece d) (filtered d) l in
      let m = length-from 0 (pieces_in d) in
      let t = size_filter_le (tested settled d) l in
      ap one (omega (arith, a, b, m, t, e))
