-- The tests of the walk: whether a piece may be visited, whether a lap did anything. Assumes nothing.
use mathlib.Core.Path.{◌≡◌, sym, ap, ap₂, ◌∙◌}
use mathlib.Core.Bool.{Bool, false, not, ◌&&◌, ◌||◌}
use mathlib.Core.List.{List}
use Prim.Native.Nat.{ℕ, suc, ◌+◌, ◌-◌, ◌≤◌, ◌<◌}
use native.Mathlib.Decide.{ℕ_discrete}
use native.Mathlib.Numerals.{add-one}
use native.Mathlib.Omega.{arith}
use lib.Dec.{eqb}
use borrow.Author.Tests.{eq-eqb, ne_eqb, le-leb, lt-leb}
use Rattle.model.specs.Lists.{nth}
use Rattle.model.specs.State.{Picker, pieces_in}
use Rattle.model.specs.pick.Blocks.{PickRequest, is_piece_free, is_ignored}
use Rattle.model.specs.pick.Pick.{stands_open, onward, trace, same_trace, lap_ends}
use Rattle.memory_layout.specs.declared.shape.Shape.{Shape}
use Rattle.memory_layout.proofs.Meanings.{pieces_number}
use Rattle.memory_fields.specs.Reading.{CellsSay}
use Rattle.pick_state.specs.PickStates.{state_of}
use Rattle.pick_state.proofs.TakeLaws.{between_length}
use Rattle.pick_runs.specs.Spans.{marks}
use Rattle.pick_walk.specs.declared.walk.RandomWalk.{RandomWalk as Walk}
use Rattle.pick_walk.specs.Walks.{next_piece, InCells, trace_of, walk_of, Sees, Tells, LapTold}

-- ---- numbers
eqb_by : (a b c d : ℕ) → (a ≡ b → c ≡ d) → (c ≡ d → a ≡ b) → eqb a b ≡ eqb c d
eqb_by a b c d f g = elim (ℕ_discrete a b) [
  | yes e ↦ eq-eqb a b e ∙ sym (eq-eqb c d (f e))
  | no n ↦ ne_eqb a b n ∙ sym (ne_eqb c d (λ e. n (g e)))
]

-- ---- pieces
pub next_end : (n i : ℕ) → n ≤ i + 1 → next_piece n i ≡ 0
unfolding next_piece
next_end n i h = rw (le-leb n (suc i) (omega arith))

pub next_up : (n i : ℕ) → i + 1 < n → next_piece n i ≡ i + 1
unfolding next_piece
next_up n i h = rw (lt-leb n (suc i) (omega arith)) (sym (add-one i))

module _ {s : Shape} {cells : List ℕ} {d : Picker} (h : InCells s cells d) where
  pub cells_pieces : pieces_in d ≡ s.pieces
  cells_pieces = ap pieces_in h.is ∙ pieces_number s h.records h.words cells h.bounds

  -- the next piece is the picker's
  pub next_onward : (i : ℕ) → onward d i ≡ next_piece s.pieces i
  unfolding onward next_piece
  next_onward i = rw cells_pieces

-- ---- tests
-- free, and not ignored
pub stands_told : {s : Shape} {cells : List ℕ} (a : PickRequest) (i : ℕ) (free mark : Bool) → CellsSay s cells (λ d. is_piece_free a d i) free
    → Tells s cells (λ d. is_piece_free a d i && not mark) (free && not mark)
stands_told a i free mark x =
    record {
      is = λ d h. ap (λ (b : Bool). b && not mark) (x.is h.records h.words h.bounds ∙ ap (λ (p : Picker). is_piece_free a p i) (sym h.is));
    }

pub or_told : {s : Shape} {cells : List ℕ} (back r : Bool) (test : Picker → Bool) → Tells s cells test r → Tells s cells (λ d. back || test d) (back || r)
or_told back r test x = record { is = λ d h. ap (λ (b : Bool). back || b) (x.is d h) }

-- the trace by the code's numbers
module _ {start base : ℕ} {x : Walk} {out aside : List ℕ} {ignored : List Bool} (h : Sees start base x out aside ignored) where
  same_told : (d : Picker) (loops : List ℕ) → same_trace (trace (state_of start d x.work out aside ignored loops)) (trace_of start base x.seen)
      ≡ (eqb x.work.end x.seen.taken && (eqb x.work.aside x.seen.aside && eqb x.marks x.seen.ignored))
  unfolding same_trace trace trace_of state_of marks
  same_told d loops =
      let u = h.since in
      let v = h.seen in
      let e = between_length start x.work.end out h.within in
      let f = between_length 0 x.work.aside aside h.within_aside in
      let g = h.marked in
      ap₂ (λ (p q : Bool). p && q)
      (ap (λ (n : ℕ). eqb n (x.seen.taken - start)) e ∙ eqb_by (x.work.end - start) (x.seen.taken - start) x.work.end x.seen.taken (λ k. omega arith) (λ k. omega arith))
      (ap₂ (λ (p q : Bool). p && q)
      (ap (λ (n : ℕ). eqb n x.seen.aside) f ∙ eqb_by (x.work.aside - 0) x.seen.aside x.work.aside x.seen.aside (λ k. omega arith) (λ k. omega arith))
      (ap (λ (n : ℕ). eqb n (base + x.seen.ignored)) g
      ∙ eqb_by (base + x.marks) (base + x.seen.ignored) x.marks x.seen.ignored (λ k. omega arith) (λ k. omega arith)))

-- whether a lap ends
pub lap_told : {s : Shape} {cells : List ℕ} (a : PickRequest) (ignored : List Bool) (x : Walk) (there same : Bool)
    → Tells s cells (λ d. is_piece_free a d x.place && not (nth false ignored x.place)) there
    → same ≡ (eqb x.work.end x.seen.taken && (eqb x.work.aside x.seen.aside && eqb x.marks x.seen.ignored))
    → LapTold a s cells ignored x (not there || (x.back && same))
unfolding lap_ends stands_open is_ignored walk_of state_of
lap_told a ignored x there same y e =
    record {
      is = λ start base d out aside loops g h. ap₂ (λ (p q : Bool). not p || (x.back && q)) (y.is d g) (e ∙ sym (same_told h d loops));
    }
