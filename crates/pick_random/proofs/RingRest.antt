-- The random walk by what is left of its turns: they suffice, and each leaves one fewer. Assumes nothing.
use mathlib.Core.Path.{◌≡◌, refl, sym, ap, subst, ◌∙◌}
use mathlib.Core.Bool.{Bool, true, false}
use mathlib.Core.List.{List}
use Prim.Native.Nat.{ℕ, zero, suc, ◌+◌, ◌-◌, ◌*◌, ◌≤◌, ◌<◌}
use native.Mathlib.Omega.{arith}
use lib.Dec.{eqb}
use lib.ListN.{length}
use borrow.Author.Tests.{eqb-false}
use Rattle.model.specs.Lists.{nth, unless, repeat}
use Rattle.model.specs.Options.{rand_start_loops, rand_loops}
use Rattle.model.specs.State.{Picker, pieces_in}
use Rattle.model.specs.pick.Blocks.{PickRequest, spent}
use Rattle.model.specs.pick.Pick.{RandomWalk, trace, lap_step, walk_over, ring_fuel, ring}
use Rattle.model.specs.image.Sound.{Sound}
use Rattle.model.proofs.base.Truths.{or_no_right}
use Rattle.pick_laws.proofs.RingLaws.{Ready, ring_over}
use Rattle.memory_layout.specs.declared.shape.Shape.{Shape}
use Rattle.pick_state.specs.declared.numbers.PickNumbers.{PickNumbers}
use Rattle.pick_state.specs.PickStates.{contiguous_of, state_of, OutKept}
use Rattle.pick_state.specs.Room.{Working, Underway}
use Rattle.pick_state.proofs.DidLaws.{kept_none, kept_then}
use Rattle.pick_state.proofs.RoomLaws.{working_left, working_small, working_marks, working_tight, working_aside}
use Rattle.pick_state.proofs.TakeLaws.{between_length}
use Rattle.pick_visits.specs.Steps.{Stepped}
use Rattle.pick_runs.specs.Spans.{marks}
use Rattle.pick_walk.specs.declared.walk.RandomWalk.{RandomWalk as Walk}
use Rattle.pick_walk.specs.Walks.{walk_of, trace_now, Sees, WalkDid}
use Rattle.pick_walk.proofs.TurnLaws.{turns_none, turns_next, turns_left, turns_most, turns_fewer}
use Rattle.pick_lap.specs.Visits.{Lapping}
use Rattle.pick_lap.proofs.LapLaws.{trace_now_lem}
use Rattle.pick_random.specs.Rings.{begun, walk_done, RingCounted}

-- ---- a turn of those that are left
turn_made : {S : Type 0} (turn : S → S) (done : S → Bool) (n : ℕ) (s : S) → 1 ≤ n → done s ≡ false
    → repeat n turn done s ≡ repeat (n - 1) turn done (turn s)
unfolding repeat unless
turn_made turn done zero s l e = absurd (omega arith)
turn_made turn done (suc n) s l e = let k : suc n - 1 ≡ n = omega arith in rw (e, k) refl

-- ---- where the walk begins
module _ {start N R : ℕ} {d : Picker} {t : PickNumbers} {out aside : List ℕ} {ignored : List Bool} {loops : List ℕ}
    (h : Working start N R d t out aside ignored loops) where
  -- the same pick, its output from here on
  pub working_now : 1 ≤ t.left → Working t.end t.left R d t out aside ignored loops
  unfolding state_of contiguous_of
  working_now l =
      let g = h.roomy in
      let e = working_left h in
      let z = working_small h in
      let b = between_length t.end t.end out h.within in
      record {
        since = omega arith;
        within = h.within;
        roomy = record {
          wanted = z.0;
          run = g.run;
          rest = omega arith;
          few = omega arith;
          backup = g.backup;
          asked = g.asked;
          given = g.given;
          marks = g.marks;
          counters = g.counters;
          room = let k = g.room in let s = h.since in omega arith;
          room_aside = g.room_aside;
          within_aside = g.within_aside;
        };
      }

  begun_sees : (first start' : ℕ) → start' ≤ t.end → Sees start' (marks ignored) (begun first t) out aside ignored
  unfolding begun
  begun_sees first start' l =
      let a = (working_aside h).0 in
      record { since = l; seen = omega arith; within = h.within; within_aside = omega arith; marked = omega arith }

  -- it is the definition's
  begun_is : (first start' : ℕ) → start' ≤ t.end → walk_of start' (marks ignored) d (begun first t) out aside ignored loops
      ≡ record {
        work = state_of start' d t out aside ignored loops;
        place = first;
        back = false;
        seen = trace (state_of start' d t out aside ignored loops);
        over = false;
      }
  unfolding begun walk_of trace_now
  begun_is first start' l =
      let e = trace_now_lem (begun first t) d loops (begun_sees first start' l) in
      λ j. record { work = state_of start' d t out aside ignored loops; place = first; back = false; seen = e j; over = false }

  -- its turns suffice
  begun_over : (a : PickRequest) (first : ℕ) → Sound d → first < pieces_in d → 1 ≤ t.left
      → walk_over (repeat ring_fuel (lap_step a first) walk_over (walk_of t.end (marks ignored) d (begun first t) out aside ignored loops))
      ≡ true
  unfolding state_of
  begun_over a first s l n =
      let w = working_now n in
      let v = state_of t.end d t out aside ignored loops in
      let r : Ready d t.left R v = record { picker = refl; tight = working_tight w s; marks = (working_marks w).0 } in
      ap (λ (k : RandomWalk). walk_over (repeat ring_fuel (lap_step a first) walk_over k)) (begun_is first t.end (omega arith))
      ∙ ring_over d t.left R (working_small w).3 s a first l v r

-- ---- the loop: so many turns were made
pub record RingRest (fuel : ℕ) (a : PickRequest) (first : ℕ) (s : Shape) (d : Picker) (t : PickNumbers) (x : Walk) (out aside : List ℕ)
    (ignored : List Bool) (loops : List ℕ) (out₁ aside₁ : List ℕ) (ignored₁ : List Bool) (loops₁ : List ℕ) : Type 0 where
  pub turns : ℕ
  pub is : (start : ℕ) → start ≤ t.end
      → repeat (fuel - turns) (lap_step a first) walk_over (walk_of start (marks ignored) d x out₁ aside₁ ignored₁ loops₁)
      ≡ repeat fuel (lap_step a first) walk_over (walk_of start (marks ignored) d (begun first t) out aside ignored loops)
  pub ends : walk_over (repeat fuel (lap_step a first) walk_over (walk_of t.end (marks ignored) d x out₁ aside₁ ignored₁ loops₁)) ≡ true
  pub enough : turns + turns_left (lap_step a first) walk_over fuel (walk_of t.end (marks ignored) d x out₁ aside₁ ignored₁ loops₁) ≤ fuel
  pub sees : (start : ℕ) → start ≤ t.end → Sees start (marks ignored) x out₁ aside₁ ignored₁
  pub working : (start N R : ℕ) → Working start N R d t out aside ignored loops → Working start N R d x.work out₁ aside₁ ignored₁ loops₁
  pub place : x.place < s.pieces
  pub kept : OutKept t x.work out out₁
  pub long_aside : length aside₁ ≡ length aside
  pub long_ignored : length ignored₁ ≡ length ignored
  pub long_loops : length loops₁ ≡ length loops
  pub starts : nth 0 loops₁ rand_start_loops ≤ nth 0 loops rand_start_loops + turns * 4096
  pub blocks : nth 0 loops₁ rand_loops ≤ nth 0 loops rand_loops + turns * 4096

-- the turns that are left, from where the output ended when the walk began
unfoldable pub turns_from : (fuel : ℕ) (a : PickRequest) (first base : ℕ) (d : Picker) (t : PickNumbers) (x : Walk) (out aside : List ℕ)
    (ignored : List Bool)
    (loops : List ℕ) → ℕ
turns_from fuel a first base d t x out aside ignored loops =
    turns_left (lap_step a first) walk_over fuel (walk_of t.end base d x out aside ignored loops)

-- what the walk begins with
pub begun-work : (first : ℕ) (t : PickNumbers) (x : Walk) → x ≡ begun first t → x.work ≡ t
unfolding begun
begun-work first t x e = ap (λ (v : Walk). v.work) e

pub begun_underway : (first : ℕ) (t : PickNumbers) (x : Walk) → x ≡ begun first t → {d : Picker} {out aside : List ℕ} {ignored : List Bool}
    {loops : List ℕ}
    → Underway d t out aside ignored loops → Underway d x.work out aside ignored loops
begun_underway first t x e {d = d} {out = out} {aside = aside} {ignored = ignored} {loops = loops} u =
    subst (λ (v : PickNumbers). Underway d v out aside ignored loops) (sym (begun-work first t x e)) u

pub rings_start : (a : PickRequest) (first : ℕ) (s : Shape) {d : Picker} {t : PickNumbers} {out aside : List ℕ} {ignored : List Bool}
    {loops : List ℕ} → Underway d t out aside ignored loops → Sound d → pieces_in d ≡ s.pieces → first < s.pieces → 1 ≤ t.left
    → (x : Walk) → x ≡ begun first t → RingRest ring_fuel a first s d x.work x out aside ignored loops out aside ignored loops
unfolding begun
rings_start a first s {d = d} {t = t} {out = out} {aside = aside} {ignored = ignored} {loops = loops} u h p l n x e =
    subst (λ (v : Walk). RingRest ring_fuel a first s d v.work v out aside ignored loops out aside ignored loops) (sym e) first_turn
  where
    first_turn : RingRest ring_fuel a first s d t (begun first t) out aside ignored loops out aside ignored loops
    first_turn = record {
      turns = 0;
      is = λ start k. refl;
      ends = begun_over u.working a first h (omega arith) n;
      enough = omega (
        arith,
        turns_most (lap_step a first) walk_over ring_fuel
            (walk_of t.end (marks ignored) d (begun first t) out aside ignored loops),
      );
      sees = begun_sees u.working first;
      working = λ start N R k. k;
      place = l;
      kept = kept_none t out;
      long_aside = refl;
      long_ignored = refl;
      long_loops = refl;
      starts = omega arith;
      blocks = omega arith;
    }

module _ {fuel : ℕ} {a : PickRequest} {first : ℕ} {s : Shape} {d : Picker} {t : PickNumbers} {x : Walk} {out aside : List ℕ}
    {ignored : List Bool}
    {loops : List ℕ} {out₁ aside₁ : List ℕ} {ignored₁ : List Bool} {loops₁ : List ℕ}
    (c : RingRest fuel a first s d t x out aside ignored loops out₁ aside₁ ignored₁ loops₁) where
  over_told : (start base : ℕ) → walk_over (walk_of start base d x out₁ aside₁ ignored₁ loops₁) ≡ walk_done x
  unfolding walk_over walk_done walk_of spent state_of
  over_told start base = refl

  module _ (e : walk_done x ≡ false) where
    not_over : (start base : ℕ) → walk_over (walk_of start base d x out₁ aside₁ ignored₁ loops₁) ≡ false
    not_over start base = over_told start base ∙ e

    -- a turn is left
    fewer : turns_left (lap_step a first) walk_over fuel
        (lap_step a first (walk_of t.end (marks ignored) d x out₁ aside₁ ignored₁ loops₁)) + 1
        ≡ turns_left (lap_step a first) walk_over fuel (walk_of t.end (marks ignored) d x out₁ aside₁ ignored₁ loops₁)
    fewer =
        turns_fewer (lap_step a first) walk_over fuel (walk_of t.end (marks ignored) d x out₁ aside₁ ignored₁ loops₁)
        (not_over t.end (marks ignored)) c.ends

    pub turn_left : c.turns + 1 ≤ fuel
    turn_left = let k = c.enough in omega (arith, fewer)

    -- and blocks are wanted
    done_not : 1 ≤ x.work.left
    unfolding walk_done
    done_not = above x.work.left (eqb-false x.work.left 0 (or_no_right x.over (eqb x.work.left 0) e))
      where
        above : (m : ℕ) → (m ≡ 0 → ⊥) → 1 ≤ m
        above m k = omega arith

    -- what it relies on
    pub rings_starts : nth 0 loops rand_start_loops ≤ 4294967296 → fuel ≤ 33587200 → nth 0 loops₁ rand_start_loops + 4096 < 9223372036854775808
    rings_starts l m = let n = turn_left in let k = c.starts in omega arith

    pub rings_lapping : Underway d t out aside ignored loops → nth 0 loops rand_loops ≤ 4294967296 → fuel ≤ 33587200
        → Lapping s d x out₁ aside₁ ignored₁ loops₁
    rings_lapping u l m =
        let n = turn_left in
        record {
          underway = record {
            start = u.start;
            wanted = u.wanted;
            run = u.run;
            working = c.working u.start u.wanted u.run u.working;
          };
          wanted = done_not;
          place = c.place;
          start = t.end;
          base = marks ignored;
          sees = c.sees t.end (omega arith);
          blocks = let k = c.blocks in omega arith;
        }

    module _ {y : Walk} {out₂ aside₂ : List ℕ} {ignored₂ : List Bool} {loops₂ : List ℕ}
        (w : WalkDid 4096 4096 (lap_step a first) s d x y out₁ aside₁ ignored₁ loops₁ out₂ aside₂ ignored₂ loops₂) where
      step_is : (start : ℕ) → start ≤ t.end → walk_of start (marks ignored) d y out₂ aside₂ ignored₂ loops₂
          ≡ lap_step a first (walk_of start (marks ignored) d x out₁ aside₁ ignored₁ loops₁)
      step_is start l = w.is start (marks ignored) (c.sees start l)

      -- one fewer is left
      pub rings_less : turns_from fuel a first (marks ignored) d t y out₂ aside₂ ignored₂ loops₂
          < turns_from fuel a first (marks ignored) d t x out₁ aside₁ ignored₁ loops₁
      unfolding turns_from
      rings_less = rw (step_is t.end (omega arith)) (omega (arith, fewer))

      pub rings_next : RingRest fuel a first s d t y out aside ignored loops out₂ aside₂ ignored₂ loops₂
      rings_next =
          let n = turn_left in
          let z = step_is t.end (omega arith) in
          let v = walk_of t.end (marks ignored) d x out₁ aside₁ ignored₁ loops₁ in
          record {
            turns = c.turns + 1;
            is = λ start l.
                let u = walk_of start (marks ignored) d x out₁ aside₁ ignored₁ loops₁ in
                let m : fuel - (c.turns + 1) ≡ fuel - c.turns - 1 = omega arith in
                ap (λ (k : ℕ). repeat k (lap_step a first) walk_over (walk_of start (marks ignored) d y out₂ aside₂ ignored₂ loops₂)) m
                ∙ (ap (repeat (fuel - c.turns - 1) (lap_step a first) walk_over) (step_is start l)
                ∙ (sym (turn_made (lap_step a first) walk_over (fuel - c.turns) u (omega arith) (not_over start (marks ignored)))
                ∙ c.is start l));
            ends = ap (λ (k : RandomWalk). walk_over (repeat fuel (lap_step a first) walk_over k)) z
                ∙ (ap walk_over (turns_next (lap_step a first) walk_over fuel v (not_over t.end (marks ignored)) c.ends) ∙ c.ends);
            enough = let k = c.enough in rw z (omega (arith, fewer));
            sees = λ start l. w.sees start (marks ignored) (c.sees start l);
            working = λ start N R l. w.working start N R (c.working start N R l);
            place = w.place;
            kept = kept_then c.kept w.kept;
            long_aside = w.long_aside ∙ c.long_aside;
            long_ignored = w.long_ignored ∙ c.long_ignored;
            long_loops = w.long_loops ∙ c.long_loops;
            starts = let k = c.starts in let l = w.starts in omega arith;
            blocks = let k = c.blocks in let l = w.blocks in omega arith;
          }

-- ---- the end
module _ {a : PickRequest} {first : ℕ} {s : Shape} {d : Picker} {t : PickNumbers} {x : Walk} {out aside : List ℕ} {ignored : List Bool}
    {loops : List ℕ} {out₁ aside₁ : List ℕ} {ignored₁ : List Bool} {loops₁ : List ℕ}
    (c : RingRest ring_fuel a first s d t x out aside ignored loops out₁ aside₁ ignored₁ loops₁) where
  pub rings_counted : RingCounted loops loops₁
  rings_counted =
      let k = c.enough in
      record { starts = let l = c.starts in omega arith; blocks = let l = c.blocks in omega arith }

  module _ (u : Underway d t out aside ignored loops) (e : walk_done x ≡ true) where
    ring_is : (start : ℕ) → start ≤ t.end
        → state_of start d x.work out₁ aside₁ ignored₁ loops₁ ≡ ring a first (state_of start d t out aside ignored loops)
    unfolding ring walk_of
    ring_is start l =
        let v = walk_of start (marks ignored) d x out₁ aside₁ ignored₁ loops₁ in
        ap (λ (k : RandomWalk). k.work)
        (sym (turns_none (lap_step a first) walk_over (ring_fuel - c.turns) v (over_told c start (marks ignored) ∙ e))
        ∙ (c.is start l ∙ ap (repeat ring_fuel (lap_step a first) walk_over) (begun_is u.working first start l)))

    pub rings_end : Stepped (ring a first) d t x.work out aside ignored loops out₁ aside₁ ignored₁ loops₁
    rings_end = record {
      did = record {
        is = ring_is;
        kept = c.kept;
        long_aside = c.long_aside;
        long_ignored = c.long_ignored;
        long_loops = c.long_loops;
      };
      underway = record {
        start = u.start;
        wanted = u.wanted;
        run = u.run;
        working = c.working u.start u.wanted u.run u.working;
      };
    }

-- the numbers that the walk began with, by their name
pub rings_named : (a : PickRequest) (first : ℕ) {t₀ t : PickNumbers} → t₀ ≡ t → {d : Picker} {r : PickNumbers} {out aside : List ℕ}
    {ignored : List Bool}
    {loops : List ℕ} {out₁ aside₁ : List ℕ} {ignored₁ : List Bool} {loops₁ : List ℕ}
    → Stepped (ring a first) d t₀ r out aside ignored loops out₁ aside₁ ignored₁ loops₁
    → Stepped (ring a first) d t r out aside ignored loops out₁ aside₁ ignored₁ loops₁
rings_named a first e {d = d} {r = r} {out = out} {aside = aside} {ignored = ignored} {loops = loops} {out₁ = out₁} {aside₁ = aside₁}
    {ignored₁ = ignored₁}
    {loops₁ = loops₁} w =
    subst (λ (v : PickNumbers). Stepped (ring a first) d v r out aside ignored loops out₁ aside₁ ignored₁ loops₁) e w
