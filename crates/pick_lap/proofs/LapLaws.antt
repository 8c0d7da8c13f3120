-- A turn of the walk, put together from skipping, the test of a lap's end, and a visit. Assumes nothing.
use mathlib.Core.Path.{◌≡◌, refl, sym, ap, ap₂, ◌∙◌}
use mathlib.Core.Bool.{Bool, true, false, cond, not, ◌&&◌}
use mathlib.Core.List.{List}
use Prim.Native.Nat.{ℕ, ◌+◌, ◌≤◌, ◌<◌}
use native.Mathlib.Omega.{arith}
use lib.Dec.{eqb}
use borrow.Author.Tests.{ltb-true, not-true, not-false}
use Rattle.types.specs.Queue.{queue_number}
use Rattle.model.specs.Lists.{nth, branch, len}
use Rattle.model.specs.State.{Picker, is_open, same_queue, piece_at}
use Rattle.model.specs.pick.Blocks.{PickRequest, contiguous_above, is_piece_free, is_ignored}
use Rattle.model.specs.pick.Pick.{stands_open, trace, same_trace, RandomWalk, random_span, random_piece, random_visit, lap_ends, lap_from}
use Rattle.model.specs.pick.Pick.{lap_step, ended as over, marked as seen_anew}
use Rattle.model.proofs.base.Counts.{count_le}
use Rattle.model.proofs.base.Truths.{and_left, and_right, or_no_left}
use Rattle.memory_layout.specs.declared.shape.Shape.{Shape}
use Rattle.memory_fields.specs.Reading.{CellsSay}
use Rattle.memory_rows.specs.Lookup.{picker_in}
use Rattle.pick_state.specs.declared.numbers.PickNumbers.{PickNumbers}
use Rattle.pick_state.specs.declared.request.PickRequest.{PickRequest as Request}
use Rattle.pick_state.specs.PickStates.{contiguous_of, state_of, OutKept}
use Rattle.pick_state.specs.Room.{Working}
use Rattle.pick_state.proofs.DidLaws.{kept_same, kept_then}
use Rattle.pick_state.proofs.RoomLaws.{working_small, working_same, working_marks}
use Rattle.pick_state.proofs.TakeLaws.{between_length}
use Rattle.pick_free.specs.Picking.{Picks}
use Rattle.pick_blocks.proofs.AddingLaws.{new_room}
use Rattle.pick_runs.specs.Spans.{marks}
use Rattle.pick_walk.specs.declared.walk.RandomWalk.{RandomWalk as Walk}
use Rattle.pick_walk.specs.Walks.{InCells, trace_of, walk_of, moved, ended, trace_now, marked, Sees, Tells, LapTold, Skipped, WalkDid}
use Rattle.pick_lap.specs.Visits.{whole_span, Lapping, SpanVisit}

-- ---- steps by another name
module _ {n m : ℕ} {f : RandomWalk → RandomWalk} {s : Shape} {d : Picker} {x y : Walk} {out aside : List ℕ} {ignored : List Bool}
    {loops : List ℕ}
    {out' aside' : List ℕ} {ignored' : List Bool} {loops' : List ℕ}
    (w : WalkDid n m f s d x y out aside ignored loops out' aside' ignored' loops') where
  walk_as : (k : ℕ) {g : RandomWalk → RandomWalk} → m ≤ k
      → ((start base : ℕ) → f (walk_of start base d x out aside ignored loops) ≡ g (walk_of start base d x out aside ignored loops))
      → WalkDid n k g s d x y out aside ignored loops out' aside' ignored' loops'
  walk_as k l e =
      record {
        is = λ start base c. w.is start base c ∙ e start base;
        sees = w.sees;
        working = w.working;
        place = w.place;
        kept = w.kept;
        long_aside = w.long_aside;
        long_ignored = w.long_ignored;
        long_loops = w.long_loops;
        starts = w.starts;
        blocks = let b = w.blocks in omega arith;
      }

-- ---- a visit
module _ (a : PickRequest) (first : ℕ) {n : ℕ} {s : Shape} {d : Picker} {x y : Walk} {out aside : List ℕ} {ignored : List Bool}
    {loops : List ℕ}
    {out' aside' : List ℕ} {ignored' : List Bool} {loops' : List ℕ} where
  -- of a span
  pub visit_span : whole_span d x ≡ true → WalkDid n 4096 (random_span a first) s d x y out aside ignored loops out' aside' ignored' loops'
      → WalkDid n 4096 (random_visit a first) s d x y out aside ignored loops out' aside' ignored' loops'
  unfolding random_visit branch whole_span walk_of state_of
  visit_span e w = walk_as w 4096 (omega arith) (λ start base. rw e)

  -- of a piece
  pub visit_piece : whole_span d x ≡ false → WalkDid n 0 (random_piece a first) s d x y out aside ignored loops out' aside' ignored' loops'
      → WalkDid n 4096 (random_visit a first) s d x y out aside ignored loops out' aside' ignored' loops'
  unfolding random_visit branch whole_span walk_of state_of
  visit_piece e w = walk_as w 4096 (omega arith) (λ start base. rw e)

-- ---- marks
-- no more pieces were marked than there are marks
pub few_marks : {s : Shape} {d : Picker} {x : Walk} {out aside : List ℕ} {ignored : List Bool} {loops : List ℕ}
    → Lapping s d x out aside ignored loops → x.marks ≤ 4096
unfolding marks
few_marks {ignored = ignored} h =
    let l = (working_marks h.underway.working).0 in
    let e = h.sees.marked in
    omega (arith, count_le (λ b. b) ignored)

-- ---- the test of a visit
-- by the run and the number of the piece's state
pub whole_told : {s : Shape} {cells : List ℕ} (x : Walk) (above : Bool) (number : ℕ) → above ≡ contiguous_above 1 (contiguous_of x.work)
    → CellsSay s cells (λ d. queue_number (piece_at d x.place).state) number → Tells s cells (λ d. whole_span d x) (above && eqb number 4)
unfolding whole_span is_open same_queue
whole_told x above number e c =
    record {
      is = λ d h. ap₂ (λ (p q : Bool). p && q) e
          (ap (λ (n : ℕ). eqb n 4) (c.is h.records h.words h.bounds
          ∙ ap (λ (p : Picker). queue_number (piece_at p x.place).state) (sym h.is)));
    }

-- more than a block is left of the run
pub above_run : (d : Picker) (x : Walk) → whole_span d x ≡ true → x.work.given + 1 < x.work.asked
unfolding whole_span contiguous_above contiguous_of
above_run d x e =
    ltb-true (x.work.given + 1) x.work.asked
    (and_left (contiguous_above 1 (contiguous_of x.work)) (is_open (piece_at d x.place).state) e)

-- room for a span
pub span_visit : {s : Shape} {live : ℕ} {rows words cells : List ℕ} {q : Request} {x : Walk} {out aside : List ℕ} {ignored : List Bool}
    {loops : List ℕ}
    → Picks s live rows words cells q → Lapping s (picker_in live rows words cells) x out aside ignored loops
    → SpanVisit s words cells q x out ignored loops
span_visit p h =
    let w = h.underway.working in
    let z = working_small w in
    let m = working_marks w in
    record {
      room = new_room p h.underway h.wanted;
      counters = record { long = m.1; blocks = h.blocks };
      asked = omega arith;
      place = h.place;
      marks = few_marks h;
      left = h.wanted;
    }

-- ---- what was seen
module _ {start base : ℕ} {out aside : List ℕ} {ignored : List Bool} where
  sees_moved : (x y : Walk) → y ≡ moved y.place y.back x → Sees start base x out aside ignored → Sees start base y out aside ignored
  unfolding moved
  sees_moved x y e h =
      let w = ap (λ (v : Walk). v.work.end) e in
      let z = ap (λ (v : Walk). v.work.aside) e in
      let t = ap (λ (v : Walk). v.seen.taken) e in
      let m = ap (λ (v : Walk). v.marks) e in
      record {
        since = let k = h.since in omega arith;
        seen = let k = h.seen in omega arith;
        within = let k = h.within in omega arith;
        within_aside = let k = h.within_aside in omega arith;
        marked = let k = h.marked in omega arith;
      }

  sees_ended : (x : Walk) → Sees start base x out aside ignored → Sees start base (ended x) out aside ignored
  unfolding ended
  sees_ended x h = record { since = h.since; seen = h.seen; within = h.within; within_aside = h.within_aside; marked = h.marked }

  sees_marked : (x : Walk) → start ≤ x.work.end → Sees start base x out aside ignored → Sees start base (marked x) out aside ignored
  unfolding marked trace_now
  sees_marked x l h = record {
    since = (go x.back).0;
    seen = (go x.back).1;
    within = h.within;
    within_aside = h.within_aside;
    marked = h.marked;
  }
    where
      go : (b : Bool) → (start ≤ (cond b (trace_now x) x.seen).taken) × ((cond b (trace_now x) x.seen).taken ≤ x.work.end)
      go true = (l, omega arith)
      go false = (h.since, h.seen)

  -- the walk's numbers are the definition's trace
  pub trace_now_lem : (x : Walk) (d : Picker) (loops : List ℕ) → Sees start base x out aside ignored
      → trace_of start base (trace_now x) ≡ trace (state_of start d x.work out aside ignored loops)
  unfolding trace_of trace_now trace state_of marks
  trace_now_lem x d loops h =
      let e = between_length start x.work.end out h.within in
      let f : len _ ≡ x.work.aside = between_length 0 x.work.aside aside h.within_aside ∙ omega arith in
      let g = h.marked in
      λ j. record { taken = sym e j; aside = sym f j; ignored = sym g j }

  mark_is : (x : Walk) (d : Picker) (loops : List ℕ) → Sees start base x out aside ignored
      → walk_of start base d (marked x) out aside ignored loops ≡ seen_anew (walk_of start base d x out aside ignored loops)
  unfolding marked seen_anew walk_of
  mark_is x d loops h =
      λ j. record {
        work = state_of start d x.work out aside ignored loops;
        place = x.place;
        back = x.back;
        seen = go x.back j;
        over = x.over;
      }
    where
      go : (b : Bool) → trace_of start base (cond b (trace_now x) x.seen)
          ≡ cond b (trace (state_of start d x.work out aside ignored loops)) (trace_of start base x.seen)
      go true = trace_now_lem x d loops h
      go false = refl

-- ---- a turn
module _ (out aside : List ℕ) {a : PickRequest} {first : ℕ} {s : Shape} {cells : List ℕ} {d : Picker} {x y : Walk} {ignored : List Bool}
    {loops loops' : List ℕ} (k : Skipped a first s cells 4096 x y ignored loops loops') (g : InCells s cells d) where
  skip_work : y.work ≡ x.work
  unfolding moved
  skip_work = ap (λ (v : Walk). v.work) k.moved

  skip_working : (start N R : ℕ) → Working start N R d x.work out aside ignored loops
      → Working start N R d y.work out aside ignored loops'
  skip_working start N R w =
      let e = skip_work in
      working_same w y.work loops' (ap (λ (v : PickNumbers). v.left) e) (ap (λ (v : PickNumbers). v.asked) e)
      (ap (λ (v : PickNumbers). v.given) e) (ap (λ (v : PickNumbers). v.end) e) (ap (λ (v : PickNumbers). v.aside) e) k.long

  skip_kept : OutKept x.work y.work out out
  skip_kept = kept_same x.work y.work out (ap (λ (v : PickNumbers). v.end) skip_work)

  -- the walk after skipping, as the definition goes on from there
  from_skip : (start base : ℕ) → lap_from a first (walk_of start base d y out aside ignored loops')
      ≡ lap_step a first (walk_of start base d x out aside ignored loops)
  unfolding lap_step
  from_skip start base = ap (lap_from a first) (k.is start base d out aside g)

  module _ {r : Bool} (t : LapTold a s cells ignored y r) where
    ends_told : (start base : ℕ) → Sees start base x out aside ignored → lap_ends a (walk_of start base d y out aside ignored loops') ≡ r
    ends_told start base c = sym (t.is start base d out aside loops' g (sees_moved x y k.moved c))

    -- it ends
    over_is : r ≡ true → (start base : ℕ) → Sees start base x out aside ignored
        → walk_of start base d (ended y) out aside ignored loops' ≡ lap_step a first (walk_of start base d x out aside ignored loops)
    unfolding lap_from branch ended over walk_of
    over_is e start base c =
        let v = walk_of start base d y out aside ignored loops' in
        sym (ap (λ (b : Bool). branch b over (λ u. random_visit a first (seen_anew u)) v) (ends_told start base c ∙ e)) ∙ from_skip start base

    pub lap_over : r ≡ true → (z : Walk) → z ≡ ended y
        → WalkDid 4096 4096 (lap_step a first) s d x z out aside ignored loops out aside ignored loops'
    unfolding ended
    lap_over e z o = record {
      is = λ start base c. ap (λ (v : Walk). walk_of start base d v out aside ignored loops') o ∙ over_is e start base c;
      sees = λ start base c. rw o (sees_ended y (sees_moved x y k.moved c));
      working = λ start N R w. rw o (skip_working start N R w);
      place = rw o k.place;
      kept = rw o skip_kept;
      long_aside = refl;
      long_ignored = refl;
      long_loops = k.long;
      starts = k.starts;
      blocks = let b = k.blocks in omega arith;
    }

    -- a visit
    module _ (e : r ≡ false) (y' : Walk) (o : y' ≡ marked y) where
      sees_anew : (start base : ℕ) → Sees start base x out aside ignored → Sees start base y' out aside ignored
      sees_anew start base c =
          let q = sees_moved x y k.moved c in
          rw o (sees_marked y (let b = q.since in let l = q.seen in omega arith) q)

      anew_work : y'.work ≡ y.work
      unfolding marked
      anew_work = ap (λ (v : Walk). v.work) o

      anew_place : y'.place ≡ y.place
      unfolding marked
      anew_place = ap (λ (v : Walk). v.place) o

      -- the piece may be visited
      pub lap_unmarked : (start base : ℕ) → Sees start base x out aside ignored → nth false ignored y'.place ≡ false
      unfolding lap_ends stands_open is_ignored walk_of state_of
      lap_unmarked start base c =
          let v = walk_of start base d y out aside ignored loops' in
          let there = stands_open a y.place v.work in
          let q = not-false there (or_no_left (not there) (y.back && same_trace (trace v.work) v.seen)
          (ends_told start base c ∙ e)) in
          rw anew_place (not-true (nth false ignored y.place) (and_right (is_piece_free a d y.place)
          (not (nth false ignored y.place)) q))

      -- what the visit relies on
      pub lap_lapping : Lapping s d x out aside ignored loops → Lapping s d y' out aside ignored loops'
      lap_lapping h =
          let u = h.underway in
          let w = anew_work ∙ skip_work in
          record {
            underway = record {
              start = u.start;
              wanted = u.wanted;
              run = u.run;
              working = rw anew_work (skip_working u.start u.wanted u.run u.working);
            };
            wanted = let b = h.wanted in omega (arith, ap (λ (v : PickNumbers). v.left) w);
            place = omega (arith, anew_place, k.place);
            start = h.start;
            base = h.base;
            sees = sees_anew h.start h.base h.sees;
            blocks = let b = h.blocks in let l = k.blocks in omega arith;
          }

      module _ {z : Walk} {out' aside' : List ℕ} {ignored' : List Bool} {loops'' : List ℕ}
          (w : WalkDid 0 4096 (random_visit a first) s d y' z out aside ignored loops' out' aside' ignored' loops'') where
        visited_is : (start base : ℕ) → Sees start base x out aside ignored
            → walk_of start base d z out' aside' ignored' loops'' ≡ lap_step a first (walk_of start base d x out aside ignored loops)
        unfolding lap_from branch
        visited_is start base c =
            let v = walk_of start base d y out aside ignored loops' in
            let q = sees_moved x y k.moved c in
            w.is start base (sees_anew start base c)
            ∙ (ap (λ (u : Walk). random_visit a first (walk_of start base d u out aside ignored loops')) o
            ∙ (ap (random_visit a first) (mark_is y d loops' q)
            ∙ (sym (ap (λ (b : Bool). branch b over (λ u. random_visit a first (seen_anew u)) v) (ends_told start base c ∙ e))
            ∙ from_skip start base)))

        pub lap_visited : WalkDid 4096 4096 (lap_step a first) s d x z out aside ignored loops out' aside' ignored' loops''
        lap_visited = record {
          is = visited_is;
          sees = λ start base c. w.sees start base (sees_anew start base c);
          working = λ start N R c. w.working start N R (rw anew_work (skip_working start N R c));
          place = w.place;
          kept = kept_then skip_kept (kept_then (kept_same y.work y'.work out (ap (λ (v : PickNumbers). v.end) anew_work))
              w.kept);
          long_aside = w.long_aside;
          long_ignored = w.long_ignored;
          long_loops = w.long_loops ∙ k.long;
          starts = let b = k.starts in let l = w.starts in omega arith;
          blocks = let b = k.blocks in let l = w.blocks in omega arith;
        }
