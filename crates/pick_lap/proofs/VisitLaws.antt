-- A span visited is the definition's. Assumes nothing.
use mathlib.Core.Path.{◌≡◌, refl, sym, ap, ◌∙◌}
use mathlib.Core.Bool.{Bool, false}
use mathlib.Core.List.{List}
use Prim.Native.Nat.{ℕ, suc, ◌+◌, ◌-◌, ◌≤◌, ◌<◌}
use native.Mathlib.Omega.{arith}
use native.Mathlib.Decide.{dec_le}
use lib.Dec.{eqb}
use borrow.Author.Tests.{le-leb, lt-leb}
use lib.ListN.{length}
use Rattle.model.specs.Lists.{range}
use Rattle.model.specs.State.{Picker, blocks_per_piece}
use Rattle.model.specs.pick.Blocks.{PickState, Span, expand_piece, pieces_of, take_span}
use Rattle.model.specs.pick.Pick.{onward, take_all, arrive, random_span}
use Rattle.model.specs.image.Sound.{Sound}
use Rattle.model.proofs.base.Counts.{count_le}
use Rattle.pick_laws.proofs.AddLaws.{holding_kept}
use Rattle.pick_laws.proofs.OutputLaws.{bounded_kept}
use Rattle.memory_layout.specs.declared.shape.Shape.{Shape}
use Rattle.pick_state.specs.declared.numbers.PickNumbers.{PickNumbers}
use Rattle.pick_state.specs.declared.request.PickRequest.{PickRequest}
use Rattle.pick_state.specs.Requests.{request_of}
use Rattle.pick_state.specs.PickStates.{state_of}
use Rattle.pick_state.specs.Room.{Working, Worked}
use Rattle.pick_state.proofs.RoomLaws.{working_step, working_aside, working_tight, working_holding, working_unspent}
use Rattle.pick_free.specs.declared.spans.Span.{Span as Numbers}
use Rattle.pick_free.specs.Spans.{span_is, Expanded}
use Rattle.pick_new.specs.Runs.{InWords, InBuffers}
use Rattle.pick_new.proofs.InLaws.{in_words}
use Rattle.pick_blocks.proofs.AddingLaws.{run_worked}
use Rattle.pick_runs.specs.Spans.{marks, SpanDid}
use Rattle.pick_walk.specs.declared.walk.RandomWalk.{RandomWalk as Walk}
use Rattle.pick_walk.specs.Walks.{next_piece, InCells, trace_of, walk_of}
use Rattle.pick_walk.proofs.TellLaws.{next_onward}
use Rattle.pick_lap.specs.Visits.{arrived, SpanWalked}

-- in words and cells, so in the cells
pub in_cells : {s : Shape} {words cells : List ℕ} {d : Picker} → InBuffers s words cells d → InCells s cells d
in_cells {words = words} h = record { records = h.records; words = words; bounds = h.bounds; is = h.is }

-- a span marks no more pieces than there are marks
pub span_few : {Stands : Picker → Type 0} {step : PickState → PickState} {n m : ℕ} {t r : PickNumbers} {out out' : List ℕ}
    {ignored ignored' : List Bool}
    {loops loops' : List ℕ} → SpanDid Stands step n m t r out out' ignored ignored' loops loops' → length ignored ≡ 4096 → m ≤ 4096
unfolding marks
span_few {ignored' = ignored'} x l =
    let a = x.marked in
    let b = x.run.marks in
    omega (arith, count_le (λ b. b) ignored')

-- the next piece is one
pub next_inside : (n i : ℕ) → 0 < n → next_piece n i < n
unfolding next_piece
next_inside n i h = elim (dec_le n (suc i)) [
  | yes l ↦ rw (le-leb n (suc i) l) h
  | no l ↦ rw (lt-leb n (suc i) (omega arith)) (omega arith)
]

module _ (s : Shape) (words cells : List ℕ) (q : PickRequest) (bytes : List ℕ) (first : ℕ) (x y : Walk) (out : List ℕ)
    (ignored : List Bool) (loops : List ℕ)
    (r : PickNumbers) (v : Numbers) (m n place : ℕ) (out' : List ℕ) (ignored' : List Bool) (loops' : List ℕ)
    (e : Expanded s cells q bytes x.work x.place v)
    (t : SpanDid (InWords s words) (take_span take_all (range v.first v.end)) n m x.work r out out' ignored ignored' loops loops')
    (o : y ≡ arrived first place (x.marks + m) r x) (p : place ≡ next_piece s.pieces (v.end - 1)) (inside : place < s.pieces)
    (room : x.work.end + n ≤ length out) (few : n ≤ 4096) (given : r.given ≤ 65536) (left : 1 ≤ x.work.left) where
  module _ (d : Picker) (g : InBuffers s words cells d) (aside : List ℕ) where
    around : (start : ℕ) → span_is v ≡ expand_piece (request_of q bytes) x.place (state_of start d x.work out aside ignored loops)
    around start =
        e.is g.records words g.bounds start out aside ignored loops
        ∙ ap (λ (k : Picker). expand_piece (request_of q bytes) x.place (state_of start k x.work out aside ignored loops)) (sym g.is)

    worked : Worked (take_span take_all (range v.first v.end)) d x.work r out aside ignored loops out' aside ignored' loops'
    worked = run_worked t.run d aside (in_words g) room

    walked_is : (start base : ℕ) → start ≤ x.work.end
        → walk_of start base d y out' aside ignored' loops'
        ≡ random_span (request_of q bytes) first (walk_of start base d x out aside ignored loops)
    unfolding walk_of arrived random_span arrive state_of pieces_of span_is
    walked_is start base h =
        let a = request_of q bytes in
        let w = state_of start d x.work out aside ignored loops in
        let f = around start in
        let i = ap (λ (k : Span). onward d (k.end - 1)) (sym f) ∙ next_onward (in_cells g) (v.end - 1) in
        let u = t.run.is start d aside (in_words g) h ∙ ap (λ (k : Span). take_span take_all (pieces_of k) w) f in
        ap (λ (k : Walk). walk_of start base d k out' aside ignored' loops') o
        ∙ (λ j. record {
          work = u j;
          place = (p ∙ sym i) j;
          back = false;
          seen = trace_of start base x.seen;
          over = eqb ((p ∙ sym i) j) first;
        })

    walked_working : Sound d → (start N R : ℕ) → Working start N R d x.work out aside ignored loops
        → Working start N R d r out' aside ignored' loops'
    unfolding pieces_of span_is
    walked_working h start N R w =
        let a = request_of q bytes in
        let b = blocks_per_piece d in
        let z = state_of start d x.work out aside ignored loops in
        let k = (bounded_kept b N R w.roomy.wanted a).span x.place z (working_unspent w left) (working_tight w h) in
        let m = (holding_kept (length aside - 256) a).span x.place z (working_unspent w left) (working_holding w h) in
        working_step w worked b (rw (sym (around start)) at k) (rw (sym (around start)) at m) given

  pub span_walked : SpanWalked (random_span (request_of q bytes) first) s words cells x y out out' ignored ignored' loops loops'
  unfolding arrived
  span_walked d g h aside u =
      let w = walked_working d g aside h u.start u.wanted u.run u.working in
      let z = (working_aside w).0 in
      let eo = ap (λ (k : Walk). k.work) o in
      record {
        is = λ start base c. walked_is d g aside start base (let a = c.since in let b = c.seen in omega arith);
        sees = λ start base c. rw o (record {
          since = c.since;
          seen = let a = c.seen in let b = t.run.kept.rises in omega arith;
          within = (worked d g aside).within;
          within_aside = omega arith;
          marked = t.marked ∙ (let a = c.marked in omega arith);
        });
        working = λ start N R k. rw o (walked_working d g aside h start N R k);
        place = rw o inside;
        kept = rw o t.run.kept;
        long_aside = refl;
        long_ignored = t.run.marks;
        long_loops = t.run.counters;
        starts = let a = t.counts.starts in omega arith;
        blocks = let a = t.counts.blocks in omega arith;
      }
