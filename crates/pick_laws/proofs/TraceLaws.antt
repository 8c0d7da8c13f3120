-- What a lap of the random walk leaves behind: blocks appended, blocks set aside and pieces ignored never grow fewer, and a number bounded
-- by 8,191 rises with each change of theirs. Assumes nothing.
use mathlib.Core.Path.{◌≡◌, refl, sym, ap, ◌∙◌}
use mathlib.Core.Logic.{◌⊎◌, inl, inr, ⊎_elim}
use Prim.Native.Nat.{ℕ, zero, suc, ◌+◌, ◌≤◌, ◌<◌, min}
use native.Mathlib.Decide.{ℕ_discrete}
use native.Mathlib.Omega.{arith}
use mathlib.Core.Bool.{Bool, true, false, ◌&&◌, true≢false}
use mathlib.Core.List.{List, [], ◌∷◌, ◌++◌}
use lib.ListN.{length, get_or, set, length-append, length-set}
use lib.Seq.{get_or-set_other}
use lib.Dec.{eqb}
use borrow.Author.Tests.{eq-eqb, ne_eqb, leb-false}
use Rattle.model.specs.Lists.{bit, count, from, each, nth, set_nth, len, any, member, branch, walk, walk_until}
use Rattle.model.specs.State.{DownloadingPiece, blocks_in_piece}
use Rattle.model.specs.Options.{random_pieces, rand_loops}
use Rattle.model.specs.pick.Blocks.{PickRequest, Contiguous, PieceBlock, PickState, spent, with_out, with_contiguous, with_backup}
use Rattle.model.specs.pick.Blocks.{ignore, flagged, steps, is_ignored, shorter, piece_block, took, contiguous_over, span_step, take_span}
use Rattle.model.specs.pick.Blocks.{free_from, set_aside, add_blocks, enough_aside}
use Rattle.model.specs.pick.Pick.{Trace, trace, same_trace, rand_step, take_all}
use Rattle.model.proofs.base.WalkLaws.{unless_keeps, walk_until_keeps, for_each_ends}
use Rattle.model.proofs.pick.FrameLaws.{Closed, run_keeps, blocks_keeps, all_keeps, any_partial, every_any}
use Rattle.model.proofs.base.Counts.{count_le}
use Rattle.pick_laws.proofs.BoundLaws.{Tight, tight_unspent}
use Rattle.model.proofs.base.Truths.{true_both}
use Rattle.model.proofs.base.Phases.{branch_arms}
use Rattle.pick_laws.proofs.AsideLaws.{aside_arms}

-- ---- the number that rises
-- blocks set aside count up to 2,048, since none is set aside beyond that
unfoldable pub weight : Trace → ℕ
weight x = x.taken + min x.aside 2048 + x.ignored

-- nothing of it changed
pub record Stays (x y : Trace) : Type 0 where
  pub taken : y.taken ≡ x.taken
  pub aside : y.aside ≡ x.aside
  pub ignored : y.ignored ≡ x.ignored

-- nothing changed, or the number rose
abbrev pub Rises : Trace → Trace → Type 0
Rises x y = Stays x y ⊎ (weight x < weight y)

stays_weight : (x y : Trace) → Stays x y → weight y ≡ weight x
unfolding weight
stays_weight x y h = rw (h.taken, h.aside, h.ignored)

-- the number never falls
pub rises_weight : (x y : Trace) → Rises x y → weight x ≤ weight y
rises_weight x y (inl h) = omega (arith, stays_weight x y h)
rises_weight x y (inr h) = omega arith

-- no change is none
pub rises_same : (x : Trace) → Rises x x
rises_same x = inl (record { taken = refl; aside = refl; ignored = refl })

-- one change after another
pub rises_then : (x y z : Trace) → Rises x y → Rises y z → Rises x z
rises_then x y z (inl h) (inl g) = inl (record { taken = g.taken ∙ h.taken; aside = g.aside ∙ h.aside; ignored = g.ignored ∙ h.ignored })
rises_then x y z (inl h) (inr g) = inr (omega (arith, stays_weight x y h))
rises_then x y z (inr h) (inl g) = inr (omega (arith, stays_weight y z g))
rises_then x y z (inr h) (inr g) = inr (omega arith)

-- where the two traces differ it rose
pub rises_differ : (x y : Trace) → same_trace y x ≡ false → Rises x y → weight x < weight y
unfolding same_trace
rises_differ x y d (inr h) = h
rises_differ x y d (inl h) =
    absurd (true≢false (sym (true_both (eqb y.taken x.taken) (eqb y.aside x.aside && eqb y.ignored x.ignored) (eq-eqb y.taken x.taken h.taken)
    (true_both (eqb y.aside x.aside) (eqb y.ignored x.ignored) (eq-eqb y.aside x.aside h.aside) (eq-eqb y.ignored x.ignored h.ignored))) ∙ d))

-- ---- marks
set-count : (l : List Bool) (i : ℕ) → (count (λ b. b) (set l i true) ≡ count (λ b. b) l) ⊎ (count (λ b. b) l < count (λ b. b) (set l i true))
unfolding count
set-count [] i = inl refl
set-count (true ∷ l) zero = inl refl
set-count (false ∷ l) zero = inr (omega arith)
set-count (b ∷ l) (suc i) = ⊎_elim (λ h. inl (ap (λ (n : ℕ). bit b + n) h)) (λ h. inr (omega arith)) (set-count l i)

set_mark : (l : List Bool) (i : ℕ) → i < length l → get_or l i false ≡ false → count (λ b. b) l < count (λ b. b) (set l i true)
unfolding count
set_mark [] i h e = absurd (omega arith)
set_mark (true ∷ l) zero h e = absurd (true≢false e)
set_mark (false ∷ l) zero h e = omega arith
set_mark (b ∷ l) (suc i) h e = omega (arith, set_mark l i (omega arith) e)

-- ---- the work grows
-- from w to v: the trace rises, the picker stays; v has 4,096 marks, and no more blocks are wanted than may be
pub record Grows (w v : PickState) : Type 0 where
  pub rises : Rises (trace w) (trace v)
  pub left : v.left ≤ 2048
  pub marks : length v.ignored ≡ 4096
  pub picker : v.picker ≡ w.picker

took_rises : (i j : ℕ) (w : PickState) → weight (trace w) < weight (trace (took i j w))
unfolding weight trace took with_out len
took_rises i j w = omega (arith, length-append w.out (piece_block i j ∷ []))

mark_rises : (i : ℕ) (w : PickState) → Rises (trace w) (trace (ignore i w))
unfolding weight trace ignore set_nth
mark_rises i w =
    ⊎_elim (λ h. inl (record { taken = refl; aside = refl; ignored = h })) (λ h. inr (omega arith)) (set-count w.ignored i)

more_rises : (bs : List PieceBlock) (w : PickState) → len w.backup < 2048 → Rises (trace w) (trace (with_backup (w.backup ++ bs) w))
unfolding weight trace with_backup len
more_rises [] w h = inl (record { taken = refl; aside = omega (arith, length-append w.backup []); ignored = refl })
more_rises (x ∷ bs) w h = inr (omega (arith, length-append w.backup (x ∷ bs)))

aside_rises : (d : DownloadingPiece) (first : ℕ) (w : PickState) → w.left ≤ 2048 → Rises (trace w) (trace (set_aside d first w))
unfolding enough_aside
aside_rises d first w l =
    aside_arms (λ v. Rises (trace w) (trace v)) d first w (rises_same (trace w))
    (λ e. more_rises (each (piece_block d.piece) (free_from d first)) w (omega (arith, leb-false w.left (len w.backup) e)))

aside_same : (d : DownloadingPiece) (first : ℕ) (w : PickState)
    → ((set_aside d first w).left ≡ w.left) × ((set_aside d first w).ignored ≡ w.ignored) × ((set_aside d first w).picker ≡ w.picker)
unfolding with_backup
aside_same d first w =
    aside_arms (λ v. (v.left ≡ w.left) × (v.ignored ≡ w.ignored) × (v.picker ≡ w.picker)) d first w (refl, refl, refl) (λ e. (refl, refl, refl))

module _ (u : PickState) where
  -- one more change
  grows_by : (w v : PickState) → Rises (trace w) (trace v) → v.left ≤ w.left → length v.ignored ≡ length w.ignored → v.picker ≡ w.picker
      → Grows u w → Grows u v
  grows_by w v r l m p h = record {
    rises = rises_then (trace u) (trace w) (trace v) h.rises r;
    left = omega (arith, h.left);
    marks = m ∙ h.marks;
    picker = p ∙ h.picker;
  }

  grows_run : (r : Contiguous) (w : PickState) → Grows u w → Grows u (with_contiguous r w)
  unfolding with_contiguous with_out trace
  grows_run r w h = record { rises = h.rises; left = h.left; marks = h.marks; picker = h.picker }

  grows_took : (i j : ℕ) (w : PickState) → Grows u w → Grows u (took i j w)
  unfolding took with_out
  grows_took i j w h = grows_by w (took i j w) (inr (took_rises i j w)) (omega arith) refl refl h

  grows_mark : (i : ℕ) (w : PickState) → Grows u w → Grows u (ignore i w)
  unfolding ignore set_nth
  grows_mark i w h = grows_by w (ignore i w) (mark_rises i w) (omega arith) (length-set w.ignored i true) refl h

  grows_aside : (d : DownloadingPiece) (first : ℕ) (w : PickState) → Grows u w → Grows u (set_aside d first w)
  grows_aside d first w h =
      let e = aside_same d first w in
      grows_by w (set_aside d first w) (aside_rises d first w h.left) (omega (arith, e.0)) (ap length e.1) e.2 h

  grows_closed : Closed any_partial (Grows u)
  grows_closed = record {
    ready = λ w h. every_any w.picker.partials;
    contiguous = grows_run;
    takes = grows_took;
    marks = grows_mark;
    aside = λ d first w o h. grows_aside d first w h;
  }

  -- a flag
  pub grows_flag : (f : ℕ) (w : PickState) → Grows u w → Grows u (flagged f w)
  unfolding flagged trace
  grows_flag f w h = record { rises = h.rises; left = h.left; marks = h.marks; picker = h.picker }

  -- steps on a counter
  pub grows_step : (n c : ℕ) (w : PickState) → Grows u w → Grows u (steps n c w)
  unfolding steps trace
  grows_step n c w h = record { rises = h.rises; left = h.left; marks = h.marks; picker = h.picker }

  -- what a piece adds
  pub blocks_grow : (a : PickRequest) (i : ℕ) (w : PickState) → Grows u w → Grows u (add_blocks a i w)
  blocks_grow a i w h = blocks_keeps any_partial (Grows u) grows_closed a i w h

  -- a whole piece in the random walk
  pub all_grow : (i : ℕ) (w : PickState) → Grows u w → Grows u (take_all i w)
  all_grow i w h = all_keeps any_partial (Grows u) grows_closed (grows_step 1 rand_loops) grows_flag i w h

  -- a run of them
  pub run_grow : (is : List ℕ) (w : PickState) → Grows u w → Grows u (take_span take_all is w)
  run_grow is w h = run_keeps any_partial (Grows u) grows_closed take_all all_grow is w h

-- ---- a run in the random walk ignores its piece and takes a block of it
-- the marks stay while blocks are taken
all_marks : (i : ℕ) (w : PickState) → (take_all i w).ignored ≡ w.ignored
unfolding take_all walk rand_step took with_out steps flagged
all_marks i w =
    walk_until_keeps (λ v. v.ignored ≡ w.ignored) (rand_step i) (λ x t. contiguous_over (rand_step i x t)) (λ j t g. g) (from 0 (blocks_in_piece w.picker i)) (flagged random_pieces w) refl

-- a work that has grown may grow on
pub grows_self : (u w : PickState) → Grows u w → Grows w w
grows_self u w h = record { rises = rises_same (trace w); left = h.left; marks = h.marks; picker = refl }

rand_grows : (u : PickState) (i j : ℕ) (w : PickState) → Grows u w → Grows u (rand_step i j w)
unfolding rand_step
rand_grows u i j w h = grows_took u i j (steps 1 rand_loops w) (grows_step u 1 rand_loops w h)

rand_rises : (i j f : ℕ) (w : PickState) → weight (trace w) < weight (trace (rand_step i j (flagged f w)))
unfolding rand_step weight trace flagged steps took with_out len
rand_rises i j f w = omega (arith, length-append w.out (piece_block i j ∷ []))

-- a piece with a block: the number rises
all_rises : (i : ℕ) (w : PickState) → 1 ≤ blocks_in_piece w.picker i → Grows w w → weight (trace w) < weight (trace (take_all i w))
unfolding take_all walk walk_until from
all_rises i w h g = go (blocks_in_piece w.picker i) h
  where
    go : (n : ℕ) → 1 ≤ n → weight (trace w) < weight (trace (walk (rand_step i) contiguous_over (from 0 n) (flagged random_pieces w)))
    go zero l = absurd (omega arith)
    go (suc n) l =
        let halt : ℕ → PickState → Bool = λ x t. contiguous_over (rand_step i x t) in
        let v = rand_step i 0 (flagged random_pieces w) in
        let s = grows_self w v (rand_grows w i 0 (flagged random_pieces w) (grows_flag w random_pieces w g)) in
        let m = unless_keeps (Grows v) (halt 0 (flagged random_pieces w)) (λ t. walk_until (rand_step i) halt (from 1 n) t) v s
        (λ e. walk_until_keeps (Grows v) (rand_step i) halt (rand_grows v i) (from 1 n) v s) in
        omega (arith, rand_rises i 0 random_pieces w, rises_weight _ _ m.rises)

mark_weight : (i : ℕ) (w : PickState) → i < length w.ignored → is_ignored i w ≡ false → weight (trace w) < weight (trace (ignore i w))
unfolding weight trace ignore set_nth is_ignored nth
mark_weight i w l e = omega (arith, set_mark w.ignored i l e)

-- piece i ignored and taken: the number rises by 2
visit_rises : (i : ℕ) (u w : PickState) → i < 4096 → is_ignored i w ≡ false → 1 ≤ blocks_in_piece w.picker i → Grows u w
    → weight (trace w) + 2 ≤ weight (trace (take_all i (ignore i w)))
unfolding ignore
visit_rises i u w l e h g =
    let m = mark_weight i w (omega (arith, g.marks)) e in
    omega (arith, all_rises i (ignore i w) h (grows_self u (ignore i w) (grows_mark u i w g)))

-- ---- a run over pieces
run_step_grows : (u : PickState) (x : ℕ) (w : PickState) → Grows u w → Grows u (span_step take_all x w)
unfolding span_step
run_step_grows u x w h =
    branch_arms (Grows u) (is_ignored x w) (λ v. with_contiguous (shorter v.contiguous) v) (λ v. take_all x (ignore x v)) w
    (λ e. grows_run u (shorter w.contiguous) w h) (λ e. all_grow u x (ignore x w) (grows_mark u x w h))

-- another piece's mark stays
run_unmarked : (i : ℕ) (r : Contiguous) (w : PickState) → is_ignored i w ≡ false → is_ignored i (with_contiguous r w) ≡ false
unfolding is_ignored with_contiguous with_out
run_unmarked i r w h = h

other_unmarked : (i x : ℕ) (w : PickState) → (i ≡ x → ⊥) → is_ignored i w ≡ false → is_ignored i (take_all x (ignore x w)) ≡ false
unfolding is_ignored ignore set_nth nth
other_unmarked i x w n h = rw (all_marks x (ignore x w)) (get_or-set_other w.ignored x i true false n ∙ h)

run_step_other : (i x : ℕ) (w : PickState) → (i ≡ x → ⊥) → is_ignored i w ≡ false → is_ignored i (span_step take_all x w) ≡ false
unfolding span_step
run_step_other i x w n h =
    branch_arms (λ v. is_ignored i v ≡ false) (is_ignored x w) (λ v. with_contiguous (shorter v.contiguous) v) (λ v. take_all x (ignore x v)) w
    (λ e. run_unmarked i (shorter w.contiguous) w h) (λ e. other_unmarked i x w n h)

module _ (i : ℕ) (u : PickState) (inside : i < 4096) (some : 1 ≤ blocks_in_piece u.picker i) where
  -- piece i is taken already, or still to come
  Coming : List ℕ → PickState → Type 0
  Coming ys w = Grows u w × ((weight (trace u) + 2 ≤ weight (trace w)) ⊎ ((is_ignored i w ≡ false) × (member i ys ≡ true)))

  coming_here : (w : PickState) → Grows u w → is_ignored i w ≡ false → weight (trace u) + 2 ≤ weight (trace (span_step take_all i w))
  unfolding span_step branch
  coming_here w g e =
      rw e (omega (arith, rises_weight (trace u) (trace w) g.rises, visit_rises i u w inside e (rw g.picker some) g))

  coming_next : (x : ℕ) (ys : List ℕ) (w : PickState) → Coming (x ∷ ys) w → Coming ys (span_step take_all x w)
  unfolding Coming member any
  coming_next x ys w h = (
    run_step_grows u x w h.0,
    ⊎_elim
        (λ l. inl (let r = rises_weight (trace w) (trace (span_step take_all x w)) (run_step_grows w x w (grows_self u w h.0)).rises in omega arith))
        (λ (c : (is_ignored i w ≡ false) × (member i (x ∷ ys) ≡ true)). elim (ℕ_discrete i x) [
          | yes e ↦ inl (rw e at (coming_here w h.0 c.0))
          | no n ↦ inr (run_step_other i x w n c.0, rw (ne_eqb i x n) at c.1)
        ]) h.1,
  )

  -- a run over pieces of which i is one: the number rises by 2
  pub run_rises : (is : List ℕ) → member i is ≡ true → is_ignored i u ≡ false → Grows u u → weight (trace u) + 2 ≤ weight (trace (take_span take_all is u))
  unfolding take_span Coming member any
  run_rises is m e g =
      let h = for_each_ends Coming (span_step take_all) coming_next is u (g, inr (e, m)) in
      ⊎_elim (λ l. l) (λ c. absurd (true≢false (sym c.1))) h.1

-- ---- the bound
-- where blocks are wanted the number is at most 8,191
pub weight_most : (b N R m : ℕ) (w : PickState) → N ≤ 2048 → spent w ≡ false → length w.ignored ≡ 4096 → Tight b N R m w → weight (trace w) ≤ 8191
unfolding Tight weight trace
weight_most b N R m w most z l h =
    let u = tight_unspent b N R m w z h in
    let f = u.1.1.few in
    let p = u.0 in
    omega (arith, count_le (λ b. b) w.ignored)
