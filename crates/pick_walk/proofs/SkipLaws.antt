-- Skipping, by what is left of its turns: each brings the start nearer, and they suffice. Assumes nothing.
use mathlib.Core.Path.{◌≡◌, refl, sym, ap, ◌∙◌}
use mathlib.Core.Logic.{◌⊎◌, ⊎_elim}
use mathlib.Core.Bool.{Bool, true, false, cond, not, ◌&&◌, ◌||◌}
use mathlib.Core.List.{List}
use Prim.Native.Nat.{ℕ, ◌+◌, ◌≤◌, ◌<◌}
use native.Mathlib.Omega.{arith}
use lib.Dec.{eqb}
use lib.ListN.{length, get_or, length-set}
use lib.Seq.{get_or-set_same, get_or-set_other}
use borrow.Author.Tests.{eqb-false}
use Rattle.model.specs.Lists.{nth, set_nth, repeat}
use Rattle.model.specs.Options.{rand_start_loops, rand_loops}
use Rattle.model.specs.State.{Picker, pieces_in}
use Rattle.model.specs.pick.Blocks.{PickRequest, is_piece_free, is_ignored, steps}
use Rattle.model.specs.pick.Pick.{stands_open, onward, skip_step, skip_done, skip}
use Rattle.model.proofs.base.Phases.{cond_arms}
use Rattle.model.proofs.base.Truths.{or_no_left}
use Rattle.pick_laws.proofs.RoundLaws.{far, far_some, far_next, skip_ends}
use Rattle.memory_layout.specs.declared.shape.Shape.{Shape}
use Rattle.pick_state.specs.PickStates.{state_of}
use Rattle.pick_walk.specs.declared.walk.RandomWalk.{RandomWalk as Walk}
use Rattle.pick_walk.specs.Walks.{next_piece, InCells, walk_of, moved, Tells, Skipped}
use Rattle.pick_walk.proofs.TurnLaws.{turns_none, turns_next}
use Rattle.pick_walk.proofs.TellLaws.{cells_pieces, next_onward}

-- the steps to the start, none where skipping came back to it
unfoldable pub ahead : (n first place : ℕ) (back : Bool) → ℕ
ahead n first place back = cond back 0 (far n first place)

-- a step brings it nearer
pub next_nearer : (n first place : ℕ) (d : Picker) → pieces_in d ≡ n → first < n → place < n → onward d place ≡ next_piece n place
    → (next_piece n place < n) × (ahead n first (next_piece n place) (eqb (next_piece n place) first) + 1 ≤ far n first place)
unfolding ahead
next_nearer n first place d e h l o =
    let f = rw o at (far_next n first h d e place l) in
    let i = next_piece n place in (
      f.0,
      cond_arms (λ z. z + 1 ≤ far n first place) (eqb i first) 0 (far n first i)
          (λ q. (far_some n first h place l).0)
          (λ q. ⊎_elim (λ z. absurd (eqb-false i first q z)) (λ z. omega arith) f.1),
    )

ahead_off : (n first place : ℕ) → ahead n first place false ≡ far n first place
unfolding ahead
ahead_off n first place = refl

-- ---- one more passed over
count_long : (l : List ℕ) → length (set_nth 4 (nth 0 l 4 + 1) l) ≡ length l
unfolding set_nth
count_long l = length-set l 4 (nth 0 l 4 + 1)

count_more : (l : List ℕ) → 4 < length l → nth 0 (set_nth 4 (nth 0 l 4 + 1) l) 4 ≡ nth 0 l 4 + 1
unfolding set_nth nth
count_more l h = get_or-set_same l 4 (get_or l 4 0 + 1) 0 h

count_other : (l : List ℕ) → nth 0 (set_nth 4 (nth 0 l 4 + 1) l) 5 ≡ nth 0 l 5
unfolding set_nth nth
count_other l = get_or-set_other l 4 5 (get_or l 4 0 + 1) 0 (λ e. omega arith)

-- ---- the loop
pub record SkipRest (a : PickRequest) (first : ℕ) (s : Shape) (cells : List ℕ) (x : Walk) (ignored : List Bool) (loops : List ℕ) (place : ℕ) (back : Bool)
    (loops₁ : List ℕ) : Type 0 where
  pub inside : place < s.pieces
  pub is : (start base : ℕ) (d : Picker) (out aside : List ℕ) → InCells s cells d
      → repeat s.pieces (skip_step first) (skip_done a) (walk_of start base d (moved place back x) out aside ignored loops₁)
      ≡ skip a first (walk_of start base d x out aside ignored loops)
  pub long : length loops₁ ≡ length loops
  pub starts : nth 0 loops₁ rand_start_loops + ahead s.pieces first place back ≤ nth 0 loops rand_start_loops + far s.pieces first x.place
  pub blocks : nth 0 loops₁ rand_loops ≡ nth 0 loops rand_loops

pub skips_start : (a : PickRequest) (first : ℕ) (s : Shape) (cells : List ℕ) (x : Walk) (ignored : List Bool) (loops : List ℕ) → x.place < s.pieces
    → SkipRest a first s cells x ignored loops x.place false loops
unfolding skip walk_of moved state_of ahead
skips_start a first s cells x ignored loops l =
    record {
      inside = l;
      is = λ start base d out aside h. rw (cells_pieces h);
      long = refl;
      starts = omega arith;
      blocks = refl;
    }

module _ {a : PickRequest} {first : ℕ} {s : Shape} {cells : List ℕ} {x : Walk} {ignored : List Bool} {loops : List ℕ} {place : ℕ} {back : Bool} {loops₁ : List ℕ}
    (c : SkipRest a first s cells x ignored loops place back loops₁) {r : Bool}
    (t : Tells s cells (λ d. back || (is_piece_free a d place && not (nth false ignored place))) r) where
  not_back : (d : Picker) → InCells s cells d → r ≡ false → back ≡ false
  not_back d g e = or_no_left back (is_piece_free a d place && not (nth false ignored place)) (sym (t.is d g) ∙ e)

  done_told : (start base : ℕ) (d : Picker) (out aside : List ℕ) → InCells s cells d
      → skip_done a (walk_of start base d (moved place back x) out aside ignored loops₁) ≡ r
  unfolding skip_done stands_open is_ignored walk_of moved state_of
  done_told start base d out aside h = sym (t.is d h)

  module _ (e : r ≡ false) (f : first < s.pieces) (l : x.place < s.pieces) (start base : ℕ) (d : Picker) (out aside : List ℕ) (h : InCells s cells d) where
    -- the picker's step is the code's
    step_is : skip_step first (walk_of start base d (moved place back x) out aside ignored loops₁)
        ≡ walk_of start base d (moved (next_piece s.pieces place) (eqb (next_piece s.pieces place) first) x) out aside ignored
        (set_nth 4 (nth 0 loops₁ 4 + 1) loops₁)
    unfolding skip_step walk_of moved state_of steps
    step_is = rw (next_onward h place)

    -- the turns suffice
    turns_over : skip_done a (repeat s.pieces (skip_step first) (skip_done a) (walk_of start base d (moved place back x) out aside ignored loops₁)) ≡ true
    unfolding walk_of state_of
    turns_over =
        let n = cells_pieces h in
        ap (skip_done a) (c.is start base d out aside h)
        ∙ skip_ends a first (walk_of start base d x out aside ignored loops) (omega arith) (omega arith)

    next_is : repeat s.pieces (skip_step first) (skip_done a)
        (walk_of start base d (moved (next_piece s.pieces place) (eqb (next_piece s.pieces place) first) x) out aside ignored
        (set_nth 4 (nth 0 loops₁ 4 + 1) loops₁)) ≡ skip a first (walk_of start base d x out aside ignored loops)
    next_is =
        ap (repeat s.pieces (skip_step first) (skip_done a)) (sym step_is)
        ∙ (turns_next (skip_step first) (skip_done a) s.pieces (walk_of start base d (moved place back x) out aside ignored loops₁)
        (done_told start base d out aside h ∙ e) turns_over ∙ c.is start base d out aside h)

  -- a step is made
  pub skips_next : (d : Picker) → InCells s cells d → (place' : ℕ) (loops₂ : List ℕ) → r ≡ false → first < s.pieces → x.place < s.pieces
      → 4 < length loops₁ → place' ≡ next_piece s.pieces place → loops₂ ≡ set_nth 4 (nth 0 loops₁ 4 + 1) loops₁
      → SkipRest a first s cells x ignored loops place' (eqb place' first) loops₂
  skips_next d g place' loops₂ e f l m p q =
      let n = s.pieces in
      let w = next_nearer n first place d (cells_pieces g) f c.inside (next_onward g place) in
      let k = rw (not_back d g e) at c.starts in
      rw (p, q) (record {
        inside = w.0;
        is = λ start base v out aside h. next_is e f l start base v out aside h;
        long = count_long loops₁ ∙ c.long;
        starts = omega (arith, w.1, count_more loops₁ m, ahead_off n first place);
        blocks = count_other loops₁ ∙ c.blocks;
      })

  -- and brings the start nearer
  pub skips_less : (d : Picker) → InCells s cells d → (place' : ℕ) → r ≡ false → first < s.pieces → place' ≡ next_piece s.pieces place
      → ahead s.pieces first place' (eqb place' first) < ahead s.pieces first place back
  skips_less d g place' e f p =
      let w = next_nearer s.pieces first place d (cells_pieces g) f c.inside (next_onward g place) in
      rw (p, not_back d g e) (omega (arith, w.1, ahead_off s.pieces first place))

  -- it is done
  pub skips_end : (y : Walk) → r ≡ true → y ≡ moved place back x → first < s.pieces → x.place < s.pieces → s.pieces ≤ 4096
      → Skipped a first s cells 4096 x y ignored loops loops₁
  unfolding moved
  skips_end y e o f l m =
      let z = c.starts in
      let u = far_some s.pieces first f x.place l in
      record {
        is = λ start base d out aside h.
            ap (λ (v : Walk). walk_of start base d v out aside ignored loops₁) o
            ∙ (sym (turns_none (skip_step first) (skip_done a) s.pieces (walk_of start base d (moved place back x) out aside ignored loops₁)
            (done_told start base d out aside h ∙ e)) ∙ c.is start base d out aside h);
        moved = rw o refl;
        place = rw o c.inside;
        long = c.long;
        starts = omega arith;
        blocks = c.blocks;
      }
