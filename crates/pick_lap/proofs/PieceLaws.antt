-- A piece visited is the definition's, and the count of marks is kept. Assumes nothing.
use mathlib.Core.Path.{◌≡◌, refl, sym, ap, ◌∙◌}
use mathlib.Core.Bool.{Bool, false}
use mathlib.Core.List.{List}
use Prim.Native.Nat.{ℕ, ◌+◌, ◌≤◌, ◌<◌}
use native.Mathlib.Omega.{arith}
use lib.Dec.{eqb}
use lib.ListN.{length}
use Rattle.types.specs.Bits.{union}
use Rattle.model.specs.Lists.{bit, nth}
use Rattle.model.specs.Options.{random_pieces}
use Rattle.model.specs.State.{Picker, blocks_per_piece}
use Rattle.model.specs.pick.Blocks.{PickRequest, PickState, flagged, is_ignored, add_blocks}
use Rattle.model.specs.pick.Pick.{arrive, random_piece}
use Rattle.model.specs.image.Sound.{Sound}
use Rattle.memory_layout.specs.declared.shape.Shape.{Shape}
use Rattle.pick_state.specs.declared.numbers.PickNumbers.{PickNumbers}
use Rattle.pick_state.specs.PickStates.{contiguous_of, with_flags, state_of}
use Rattle.pick_state.specs.Room.{Working}
use Rattle.pick_state.proofs.DidLaws.{kept_same, kept_then}
use Rattle.pick_state.proofs.RoomLaws.{working_same, working_blocks, working_marks, working_aside}
use Rattle.pick_free.proofs.FreeLaws.{block_there, blocks_each}
use Rattle.pick_new.specs.Runs.{InBuffers}
use Rattle.pick_new.proofs.InLaws.{in_words, few_blocks}
use Rattle.pick_blocks.specs.Blocks.{PieceWorked}
use Rattle.pick_runs.specs.Spans.{marks}
use Rattle.pick_walk.specs.declared.walk.RandomWalk.{RandomWalk as Walk}
use Rattle.pick_walk.specs.Walks.{next_piece, trace_of, walk_of}
use Rattle.pick_walk.proofs.TellLaws.{next_onward}
use Rattle.pick_lap.specs.Visits.{arrived, whole_span, PieceWalked}
use Rattle.pick_lap.proofs.MarkLaws.{piece_marks}
use Rattle.pick_lap.proofs.VisitLaws.{in_cells, next_inside}

module _ (a : PickRequest) (first : ℕ) (s : Shape) (words cells : List ℕ) (d : Picker) (g : InBuffers s words cells d) (h : Sound d)
    (x y : Walk)
    (out aside : List ℕ) (ignored : List Bool) (u r : PickNumbers) (out' aside' : List ℕ) (ignored' : List Bool)
    (f : u ≡ with_flags (union x.work.flags random_pieces) x.work)
    (p : PieceWorked (add_blocks a x.place) d u r out aside ignored out' aside' ignored') (m place : ℕ)
    (o : y ≡ arrived first place m r x) (em : m ≡ x.marks + bit (nth false ignored' x.place))
    (ep : place ≡ next_piece s.pieces x.place)
    (left : 1 ≤ x.work.left) (inside : x.place < s.pieces) (off : nth false ignored x.place ≡ false)
    (short : whole_span d x ≡ false) where
  -- a piece has a block
  block_each : 1 ≤ blocks_per_piece d
  block_each =
      omega (
        arith,
        ap blocks_per_piece g.is,
        blocks_each s g.records words cells g.bounds,
        block_there s g.records words cells g.bounds,
      )

  module _ (loops : List ℕ) where
    -- the flag set
    flag_is : (start : ℕ)
        → state_of start d u out aside ignored loops ≡ flagged random_pieces (state_of start d x.work out aside ignored loops)
    unfolding flagged state_of with_flags contiguous_of
    flag_is start = ap (λ (v : PickNumbers). state_of start d v out aside ignored loops) f

    -- the same end
    flag_end : u.end ≡ x.work.end
    unfolding with_flags
    flag_end = ap (λ (v : PickNumbers). v.end) f

    added : (start : ℕ) → start ≤ x.work.end
        → state_of start d r out' aside' ignored' loops
        ≡ add_blocks a x.place (flagged random_pieces (state_of start d x.work out aside ignored loops))
    added start l =
        let e = flag_end in
        (p loops).did.is start (omega arith) ∙ ap (add_blocks a x.place) (flag_is start)

    piece_is : (start base : ℕ) → start ≤ x.work.end
        → walk_of start base d y out' aside' ignored' loops ≡ random_piece a first (walk_of start base d x out aside ignored loops)
    unfolding walk_of arrived random_piece arrive state_of
    piece_is start base l =
        let i = ep ∙ sym (next_onward (in_cells g) x.place) in
        let w = added start l in
        ap (λ (k : Walk). walk_of start base d k out' aside' ignored' loops) o
        ∙ (λ j. record { work = w j; place = i j; back = false; seen = trace_of start base x.seen; over = eqb (i j) first })

    -- marks by the law of a piece
    marks_kept : length ignored ≡ 4096 → marks ignored' ≡ marks ignored + bit (nth false ignored' x.place)
    unfolding state_of flagged is_ignored whole_span
    marks_kept l =
        let w = flagged random_pieces (state_of 0 d x.work out aside ignored loops) in
        let n = (few_blocks (in_words g)).1 in
        let e = ap (λ (v : PickState). v.ignored) (added 0 (omega arith)) in
        rw (sym e) at (piece_marks x.place w off (omega arith) a block_each short)

    piece_working : (start N R : ℕ) → Working start N R d x.work out aside ignored loops
        → Working start N R d r out' aside' ignored' loops
    unfolding with_flags
    piece_working start N R w =
        let v = working_same w u loops (ap (λ (k : PickNumbers). k.left) f) (ap (λ (k : PickNumbers). k.asked) f)
        (ap (λ (k : PickNumbers). k.given) f) (ap (λ (k : PickNumbers). k.end) f) (ap (λ (k : PickNumbers). k.aside) f) refl in
        let e = ap (λ (k : PickNumbers). k.left) f in
        working_blocks v a x.place h (omega arith) (p loops)

  pub piece_walked : PieceWalked (random_piece a first) s d x y out aside ignored out' aside' ignored'
  unfolding arrived
  piece_walked loops w =
      let v = piece_working loops w.start w.wanted w.run w.working in
      let l = working_marks w.working in
      let z = (working_aside v).0 in
      let k = marks_kept loops l.0 in
      let t = (p loops).did in
      record {
        is = λ start base c. piece_is loops start base (let e = c.since in let b = c.seen in omega arith);
        sees = λ start base c. rw o (record {
          since = c.since;
          seen = let e = c.seen in let b = t.kept.rises in omega (arith, flag_end loops);
          within = (p loops).within;
          within_aside = omega arith;
          marked = k ∙ (let e = c.marked in omega arith);
        });
        working = λ start N R c. rw o (piece_working loops start N R c);
        place = rw (o, ep) (next_inside s.pieces x.place (omega arith));
        kept = rw o (kept_then (kept_same x.work u out (flag_end loops)) t.kept);
        long_aside = t.long_aside;
        long_ignored = t.long_ignored;
        long_loops = refl;
        starts = omega arith;
        blocks = omega arith;
      }
