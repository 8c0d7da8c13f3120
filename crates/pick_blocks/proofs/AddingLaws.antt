-- What a piece adds, by its state: each way is the definition's. Assumes nothing.
use mathlib.Core.Path.{◌≡◌, refl, sym, ap, ◌∙◌}
use mathlib.Core.Bool.{Bool, true, false, ◌||◌}
use mathlib.Core.List.{List}
use mathlib.Core.Option.{none, some}
use Prim.Native.Nat.{ℕ, ◌+◌, ◌≤◌}
use native.Mathlib.Omega.{arith}
use borrow.Author.Tests.{eq-eqb, ne_eqb}
use lib.Dec.{eqb}
use lib.ListN.{length}
use Rattle.types.specs.declared.queue.DownloadQueue.{DownloadQueue}
use Rattle.types.specs.declared.queue.DownloadQueue.TheVariants.{Downloading, Full, Finished, ZeroPrio, Open, DownloadingReverse, FullReverse}
use Rattle.types.specs.Queue.{queue_number, unreverse}
use Rattle.model.specs.Lists.{nth, unless, when, branch}
use Rattle.model.specs.Options.{prioritize_partials}
use Rattle.model.specs.State.{DownloadingPiece, Picker, is_open, same_queue, piece_at}
use Rattle.model.specs.change.Partials.{partial_of}
use Rattle.model.specs.pick.Blocks.{PickRequest, PickState, option, with_out, with_contiguous, is_ignored, keeping_contiguous, add_new_piece}
use Rattle.model.specs.pick.Blocks.{add_blocks_downloading, add_partial_of, add_standing, add_blocks}
use Rattle.memory_records.specs.Rows.{records_in}
use Rattle.memory_layout.specs.declared.shape.Shape.{Shape}
use Rattle.memory_rows.specs.Lookup.{picker_in}
use Rattle.pick_state.specs.declared.numbers.PickNumbers.{PickNumbers}
use Rattle.pick_state.specs.PickStates.{contiguous_of, state_of}
use Rattle.pick_state.specs.declared.request.PickRequest.{PickRequest as Request}
use Rattle.pick_state.specs.Room.{Underway, Worked}
use Rattle.pick_state.proofs.RoomLaws.{working_small, working_marks, working_room, working_aside}
use Rattle.pick_state.proofs.DidLaws.{did_none, did_as, kept_same, kept_then}
use Rattle.pick_free.specs.Picking.{Picks}
use Rattle.pick_partial.specs.Adding.{HasRoom, BlocksDid}
use Rattle.pick_new.specs.Runs.{InBuffers, RunDid, NewRoom}
use Rattle.pick_new.proofs.InLaws.{in_words, few_blocks}
use Rattle.pick_blocks.specs.Blocks.{with_run}

-- ---- an Open piece
-- the run kept
pub kept_run : {Stands : Picker → Type 0} {f : PickState → PickState} {n : ℕ} {t r : PickNumbers} {out out' : List ℕ} {ignored ignored' : List Bool}
    {loops loops' : List ℕ} → RunDid Stands f n t r out out' ignored ignored' loops loops' → (r' : PickNumbers) → r' ≡ with_run t.asked t.given r
    → RunDid Stands (keeping_contiguous f) n t r' out out' ignored ignored' loops loops'
unfolding keeping_contiguous with_contiguous with_out with_run state_of contiguous_of
kept_run {f = f} {t = t} {r = r} {out = out} {out' = out'} {ignored = ignored} {ignored' = ignored'} {loops = loops} {loops' = loops'} y r' e =
    record {
      is = λ start d aside g h.
          ap (λ (x : PickNumbers). state_of start d x out' aside ignored' loops') e ∙ ap (with_contiguous (contiguous_of t)) (y.is start d aside g h);
      kept = kept_then y.kept (kept_same r r' out' (ap (λ (x : PickNumbers). x.end) e));
      few = let a = ap (λ (x : PickNumbers). x.end) e in let b = y.few in omega arith;
      given = let a = ap (λ (x : PickNumbers). x.given) e in omega arith;
      marks = y.marks;
      counters = y.counters;
    }

-- with room for what it appends
pub run_worked : {Stands : Picker → Type 0} {f : PickState → PickState} {n : ℕ} {t r : PickNumbers} {out out' : List ℕ} {ignored ignored' : List Bool}
    {loops loops' : List ℕ} → RunDid Stands f n t r out out' ignored ignored' loops loops' → (d : Picker) (aside : List ℕ) → Stands d
    → t.end + n ≤ length out → Worked f d t r out aside ignored loops out' aside ignored' loops'
run_worked y d aside g l =
    record {
      did = record {
        is = λ start h. y.is start d aside g h;
        kept = y.kept;
        long_aside = refl;
        long_ignored = y.marks;
        long_loops = y.counters;
      };
      within = let a = y.few in let b = y.kept.long in omega arith;
    }

-- a partial's, with room for them
pub blocks_worked : {f : PickState → PickState} {t r : PickNumbers} {out aside out' aside' : List ℕ} → BlocksDid f t r out aside out' aside'
    → t.end + 256 ≤ length out → (d : Picker) (ignored : List Bool) (loops : List ℕ) → Worked f d t r out aside ignored loops out' aside' ignored loops
blocks_worked y l d ignored loops =
    record { did = y.is d ignored loops; within = let a = y.few in let b = (y.is d ignored loops).kept.long in omega arith }

-- ---- steps by another name
module _ {f : PickState → PickState} {d : Picker} {t r : PickNumbers} {out aside : List ℕ} {ignored : List Bool} {loops : List ℕ}
    {out' aside' : List ℕ} {ignored' : List Bool} {loops' : List ℕ} (w : Worked f d t r out aside ignored loops out' aside' ignored' loops') where
  pub worked_as : {g : PickState → PickState}
      → ((start : ℕ) → start ≤ t.end → f (state_of start d t out aside ignored loops) ≡ g (state_of start d t out aside ignored loops))
      → Worked g d t r out aside ignored loops out' aside' ignored' loops'
  worked_as e = record { did = did_as w.did e; within = w.within }

pub worked_none : (d : Picker) (t : PickNumbers) (out aside : List ℕ) (ignored : List Bool) (loops : List ℕ) → t.end ≤ length out
    → Worked (λ w. w) d t t out aside ignored loops out aside ignored loops
worked_none d t out aside ignored loops l = record { did = did_none d t out aside ignored loops; within = l }

-- ---- the state of a piece
-- the number of the Downloading queue, plain or reverse
pub downloading_number : (q : DownloadQueue) → same_queue (unreverse q) Downloading ≡ (eqb (queue_number q) 0 || eqb (queue_number q) 5)
unfolding same_queue
downloading_number Downloading = refl
downloading_number Full = refl
downloading_number Finished = refl
downloading_number ZeroPrio = refl
downloading_number Open = refl
downloading_number DownloadingReverse = refl
downloading_number FullReverse = refl

module _ (q : DownloadQueue) (n : ℕ) (e : n ≡ queue_number q) where
  -- a number told of a piece's state
  pub open_yes : n ≡ 4 → is_open q ≡ true
  unfolding is_open same_queue
  open_yes h = eq-eqb (queue_number q) 4 (sym e ∙ h)

  pub open_no : (n ≡ 4 → ⊥) → is_open q ≡ false
  unfolding is_open same_queue
  open_no h = ne_eqb (queue_number q) 4 (λ k. h (e ∙ k))

  pub downloading_told : (r b : Bool) → r ≡ (eqb n 0 || eqb n 5) → r ≡ b → same_queue (unreverse q) Downloading ≡ b
  downloading_told r b f h = downloading_number q ∙ (ap (λ (m : ℕ). eqb m 0 || eqb m 5) (sym e) ∙ (sym f ∙ h))

-- ---- the room
module _ {s : Shape} {live : ℕ} {rows words cells : List ℕ} {q : Request} (p : Picks s live rows words cells q) where
  -- the picker stands in the buffers
  pub picks_in : InBuffers s words cells (picker_in live rows words cells)
  picks_in = record { records = records_in live rows; bounds = p.asked.stands.bounds; is = refl }

  -- a pick under way has room for an Open piece
  pub new_room : {t : PickNumbers} {out aside : List ℕ} {ignored : List Bool} {loops : List ℕ}
      → Underway (picker_in live rows words cells) t out aside ignored loops → 1 ≤ t.left → NewRoom s words cells q t out ignored
  new_room h l =
      let w = h.working in
      let z = working_small w in
      let b = (few_blocks (in_words picks_in)).0 in
      let m = working_room w l in
      record {
        picker = picker_in live rows words cells;
        stands = picks_in;
        bits = p.bits;
        marks = (working_marks w).0;
        room = omega arith;
        given = omega arith;
      }

-- it has room for a partial
pub partial_room : {d : Picker} {t : PickNumbers} {out aside : List ℕ} {ignored : List Bool} {loops : List ℕ}
    → Underway d t out aside ignored loops → 1 ≤ t.left → HasRoom t out aside
partial_room h l =
    let w = h.working in
    let z = working_small w in
    let m = working_room w l in
    record { room = omega arith; given = z.2; backup = (working_aside w).0; wide = (working_aside w).1 }

-- ---- a piece
module _ (a : PickRequest) (i : ℕ) (d : Picker) (t : PickNumbers) (out aside : List ℕ) (ignored : List Bool) (loops : List ℕ) where
  -- an ignored one adds nothing
  pub ignored_worked : nth false ignored i ≡ true → t.end ≤ length out
      → Worked (add_blocks a i) d t t out aside ignored loops out aside ignored loops
  unfolding add_blocks is_ignored state_of unless
  ignored_worked e l = worked_as (worked_none d t out aside ignored loops l) (λ start h. rw e)

  module _ (e : nth false ignored i ≡ false) where
    pub open_worked : {r : PickNumbers} {out' aside' : List ℕ} {ignored' : List Bool} {loops' : List ℕ} → is_open (piece_at d i).state ≡ true
        → Worked (keeping_contiguous (add_new_piece a i)) d t r out aside ignored loops out' aside' ignored' loops'
        → Worked (add_blocks a i) d t r out aside ignored loops out' aside' ignored' loops'
    unfolding add_blocks is_ignored state_of unless branch
    open_worked o w = worked_as w (λ start h. rw (e, o))

    module _ (o : is_open (piece_at d i).state ≡ false) where
      pub standing_worked : {r : PickNumbers} {out' aside' : List ℕ} {ignored' : List Bool} {loops' : List ℕ}
          → same_queue (unreverse (piece_at d i).state) Downloading ≡ true
          → Worked (add_standing a i) d t r out aside ignored loops out' aside' ignored' loops'
          → Worked (add_blocks a i) d t r out aside ignored loops out' aside' ignored' loops'
      unfolding add_blocks is_ignored state_of unless branch when
      standing_worked q w = worked_as w (λ start h. rw (e, o, q))

      pub other_worked : same_queue (unreverse (piece_at d i).state) Downloading ≡ false → t.end ≤ length out
          → Worked (add_blocks a i) d t t out aside ignored loops out aside ignored loops
      unfolding add_blocks is_ignored state_of unless branch when
      other_worked q l = worked_as (worked_none d t out aside ignored loops l) (λ start h. rw (e, o, q))

  -- ---- its partial
  -- none is looked for
  pub prioritized_worked : option prioritize_partials a ≡ true → t.end ≤ length out
      → Worked (add_standing a i) d t t out aside ignored loops out aside ignored loops
  unfolding add_standing state_of unless
  prioritized_worked p l = worked_as (worked_none d t out aside ignored loops l) (λ start h. rw p)

  module _ (p : option prioritize_partials a ≡ false) where
    -- none stands
    pub missing_worked : partial_of d i ≡ none → t.end ≤ length out → Worked (add_standing a i) d t t out aside ignored loops out aside ignored loops
    unfolding add_standing add_partial_of state_of unless
    missing_worked f l = worked_as (worked_none d t out aside ignored loops l) (λ start h. rw (p, f))

    -- it adds
    pub found_worked : {r : PickNumbers} {out' aside' : List ℕ} {ignored' : List Bool} {loops' : List ℕ} (k : DownloadingPiece) → partial_of d i ≡ some k
        → Worked (add_blocks_downloading a k) d t r out aside ignored loops out' aside' ignored' loops'
        → Worked (add_standing a i) d t r out aside ignored loops out' aside' ignored' loops'
    unfolding add_standing add_partial_of state_of unless
    found_worked k f w = worked_as w (λ start h. rw (p, f))
