-- A piece visited, or passed over: the tests as the definition's, flags and counters, and a suggested piece. Assumes nothing.
use mathlib.Core.Path.{◌≡◌, refl, sym, ap, ◌∙◌}
use mathlib.Core.Bool.{Bool, true, false}
use mathlib.Core.List.{List, [], ◌∷◌}
use Prim.Native.Nat.{ℕ, zero, suc, ◌+◌, ◌≤◌, ◌<◌}
use native.Mathlib.Numerals.{add-one}
use native.Mathlib.Omega.{arith}
use lib.ListN.{length, get_or, set, drop, length-set}
use lib.Seq.{drop-cons, get_or-set_same, get_or-set_other}
use lib.Dec.{eqb}
use lib.IntN.{ℤ}
use lib.Signed.{mag}
use mir.Syntax.{w32}
use mir.Val.{to_z, of_z}
use mir.ValLaws.{to_z-of_z}
use Rattle.types.specs.Bits.{union}
use Rattle.types.specs.Piece.{number_of}
use Rattle.model.specs.Lists.{nth, set_nth, each, unless, when}
use Rattle.model.specs.State.{Picker, top_priority, piece_at}
use Rattle.model.specs.Options.{suggest_loops, suggested_pieces}
use Rattle.model.specs.pick.Blocks.{PickRequest, ignore, flagged, steps, is_piece_free, add_blocks}
use Rattle.model.specs.pick.Pick.{visit, suggest, visit_below_top, in_range, visit_outside}
use Rattle.model.specs.image.Sound.{Sound}
use Rattle.model.proofs.sound.SoundLaws.{well_formed_sound}
use Rattle.memory_records.specs.Rows.{records_in}
use Rattle.memory_layout.specs.declared.shape.Shape.{Shape}
use Rattle.memory_fields.specs.Reading.{CellsSay}
use Rattle.memory_rows.specs.Lookup.{picker_in}
use Rattle.pick_state.specs.declared.numbers.PickNumbers.{PickNumbers}
use Rattle.pick_state.specs.declared.request.PickRequest.{PickRequest as Request}
use Rattle.pick_state.specs.Requests.{request_of}
use Rattle.pick_state.specs.PickStates.{contiguous_of, with_flags, state_of, Did}
use Rattle.pick_state.specs.Room.{Underway}
use Rattle.pick_state.proofs.DidLaws.{kept_none, kept_same, did_then}
use Rattle.pick_state.proofs.RoomLaws.{working_marks, underway_blocks, underway_same}
use Rattle.pick_free.specs.Picking.{Picks}
use Rattle.pick_free.proofs.FreeLaws.{free_inside}
use Rattle.pick_blocks.specs.Blocks.{PieceRoom, PieceWorked}
use Rattle.pick_visits.specs.Steps.{Stepped, SteppedBeside, Counted}
use Rattle.pick_visits.specs.Visits.{add_flagged, counted_visit}
use Rattle.pick_visits.proofs.StepLaws.{stepped_none, stepped_then, stepped_as}

-- ---- what stands
module _ {s : Shape} {live : ℕ} {rows words cells : List ℕ} {q : Request} (p : Picks s live rows words cells q) where
  pub picks_sound : Sound (picker_in live rows words cells)
  picks_sound = well_formed_sound (picker_in live rows words cells) p.asked.stands.sound

  -- what the cells tell is told of the picker
  pub picks_say : {A : Type 0} (field : Picker → A) (r : A) → CellsSay s cells field r → r ≡ field (picker_in live rows words cells)
  picks_say field r x = x.is (records_in live rows) words p.asked.stands.bounds

  -- a free piece is one
  pub picks_inside : (bytes : List ℕ) (i : ℕ) → is_piece_free (request_of q bytes) (picker_in live rows words cells) i ≡ true → i < s.pieces
  picks_inside bytes i h = omega (arith, p.bits, free_inside q bytes i (picker_in live rows words cells) h)

-- ---- flags and counters
-- as many blocks are wanted
pub flag_wanted : (flag : ℕ) (t r : PickNumbers) → r ≡ with_flags (union t.flags flag) t → 1 ≤ t.left → 1 ≤ r.left
unfolding with_flags
flag_wanted flag t r e h = omega (arith, ap (λ (x : PickNumbers). x.left) e)

-- as many counters
count_long : (c : ℕ) (loops loops' : List ℕ) → loops' ≡ set_nth c (nth 0 loops c + 1) loops → length loops' ≡ length loops
unfolding set_nth
count_long c loops loops' e = ap length e ∙ length-set loops c (nth 0 loops c + 1)

module _ {d : Picker} {t : PickNumbers} {out aside : List ℕ} {ignored : List Bool} where
  -- beside the counters that there are
  pub beside : {loops : List ℕ} → Underway d t out aside ignored loops → PieceRoom d t out aside ignored
  beside {loops = loops} u = record { loops = loops; underway = u }

  -- a flag set
  module _ (flag : ℕ) (r : PickNumbers) (e : r ≡ with_flags (union t.flags flag) t) where
    pub flag_underway : {loops : List ℕ} → Underway d t out aside ignored loops → Underway d r out aside ignored loops
    unfolding with_flags
    flag_underway {loops = loops} u =
        underway_same u r loops (ap (λ (x : PickNumbers). x.left) e) (ap (λ (x : PickNumbers). x.asked) e)
        (ap (λ (x : PickNumbers). x.given) e) (ap (λ (x : PickNumbers). x.end) e) (ap (λ (x : PickNumbers). x.aside) e) refl

    pub flag_beside : PieceRoom d t out aside ignored → PieceRoom d r out aside ignored
    flag_beside u = record { loops = u.loops; underway = flag_underway u.underway }

    flag_did : (loops : List ℕ) → Did (flagged flag) d t r out aside ignored loops out aside ignored loops
    unfolding flagged state_of with_flags contiguous_of
    flag_did loops = record {
      is = λ start h. ap (λ (x : PickNumbers). state_of start d x out aside ignored loops) e;
      kept = kept_same t r out (ap (λ (x : PickNumbers). x.end) e);
      long_aside = refl;
      long_ignored = refl;
      long_loops = refl;
    }

    -- and the blocks of a piece added
    pub flag_added : (a : PickRequest) (i : ℕ) {r' : PickNumbers} {out' aside' : List ℕ} {ignored' : List Bool} → Sound d → 1 ≤ t.left
        → PieceWorked (add_blocks a i) d r r' out aside ignored out' aside' ignored'
        → SteppedBeside (add_flagged a flag i) d t r' out aside ignored out' aside' ignored'
    unfolding add_flagged
    flag_added a i s h w loops u = record {
      did = did_then (flag_did loops) (w loops).did;
      underway = underway_blocks (flag_underway u) a i s (flag_wanted flag t r e h) (w loops);
    }

  -- ---- a piece visited
  module _ (a : PickRequest) (flag i : ℕ) where
    pub visit_yes : is_piece_free a d i ≡ true → {r : PickNumbers} {out' aside' : List ℕ} {ignored' : List Bool}
        → SteppedBeside (add_flagged a flag i) d t r out aside ignored out' aside' ignored'
        → SteppedBeside (visit a flag i) d t r out aside ignored out' aside' ignored'
    unfolding add_flagged visit when state_of
    visit_yes e x loops u = stepped_as (x loops u) (λ start h. rw e)

    pub visit_no : is_piece_free a d i ≡ false → SteppedBeside (visit a flag i) d t t out aside ignored out aside ignored
    unfolding visit when state_of
    visit_no e loops u = stepped_as (stepped_none u) (λ start h. rw e)

    -- below the top priority
    pub below_yes : eqb (piece_at d i).priority top_priority ≡ false → {r : PickNumbers} {out' aside' : List ℕ} {ignored' : List Bool}
        → SteppedBeside (visit a flag i) d t r out aside ignored out' aside' ignored'
        → SteppedBeside (visit_below_top a flag i) d t r out aside ignored out' aside' ignored'
    unfolding visit_below_top unless state_of
    below_yes e x loops u = stepped_as (x loops u) (λ start h. rw e)

    pub below_no : eqb (piece_at d i).priority top_priority ≡ true → SteppedBeside (visit_below_top a flag i) d t t out aside ignored out aside ignored
    unfolding visit_below_top unless state_of
    below_no e loops u = stepped_as (stepped_none u) (λ start h. rw e)

    -- outside the range
    pub outside_yes : in_range a d i ≡ false → {r : PickNumbers} {out' aside' : List ℕ} {ignored' : List Bool}
        → SteppedBeside (visit a flag i) d t r out aside ignored out' aside' ignored'
        → SteppedBeside (visit_outside a flag i) d t r out aside ignored out' aside' ignored'
    unfolding visit_outside unless state_of
    outside_yes e x loops u = stepped_as (x loops u) (λ start h. rw e)

    pub outside_no : in_range a d i ≡ true → SteppedBeside (visit_outside a flag i) d t t out aside ignored out aside ignored
    unfolding visit_outside unless state_of
    outside_no e loops u = stepped_as (stepped_none u) (λ start h. rw e)

  -- ---- one step on a counter
  module _ (c : ℕ) (loops loops' : List ℕ) (e : loops' ≡ set_nth c (nth 0 loops c + 1) loops) where
    pub count_stepped : Underway d t out aside ignored loops → Stepped (steps 1 c) d t t out aside ignored loops out aside ignored loops'
    unfolding steps state_of
    count_stepped u = record {
      did = record {
        is = λ start h. ap (state_of start d t out aside ignored) e;
        kept = kept_none t out;
        long_aside = refl;
        long_ignored = refl;
        long_loops = count_long c loops loops' e;
      };
      underway = underway_same u t loops' refl refl refl refl refl (count_long c loops loops' e);
    }

pub counted_one : (c : ℕ) (loops loops' : List ℕ) → c < length loops → loops' ≡ set_nth c (nth 0 loops c + 1) loops → Counted c 1 loops loops'
unfolding set_nth nth
counted_one c loops loops' h e = record {
  own = omega (arith, ap (λ (l : List ℕ). get_or l c 0) e, get_or-set_same loops c (get_or loops c 0 + 1) 0 h);
  others = λ k n. ap (λ (l : List ℕ). get_or l k 0) e ∙ get_or-set_other loops c k (get_or loops c 0 + 1) 0 n;
}

pub counted_none : (c : ℕ) (loops : List ℕ) → Counted c 0 loops loops
counted_none c loops = record { own = omega arith; others = λ k n. refl }

pub counted_then : {c n m : ℕ} {loops mid loops' : List ℕ} → Counted c n loops mid → Counted c m mid loops' → Counted c (n + m) loops loops'
counted_then x y = record {
  own = let a = x.own in let b = y.own in omega arith;
  others = λ k h. y.others k h ∙ x.others k h;
}

pub counted_most : {c n m : ℕ} {loops loops' : List ℕ} → n ≤ m → Counted c n loops loops' → Counted c m loops loops'
counted_most h x = record { own = let a = x.own in omega arith; others = x.others }

-- ---- a suggested piece
module _ {d : Picker} {t : PickNumbers} {out aside : List ℕ} {ignored : List Bool} {loops : List ℕ} where
  -- ignored from here on
  pub ignored_stepped : (i : ℕ) → Underway d t out aside ignored loops → Stepped (ignore i) d t t out aside ignored loops out aside (set ignored i true) loops
  unfolding ignore state_of set_nth contiguous_of
  ignored_stepped i u =
      let w = u.working in
      let g = w.roomy in
      record {
        did = record {
          is = λ start h. refl;
          kept = kept_none t out;
          long_aside = refl;
          long_ignored = length-set ignored i true;
          long_loops = refl;
        };
        underway = record {
          start = u.start;
          wanted = u.wanted;
          run = u.run;
          working = record {
            since = w.since;
            within = w.within;
            roomy = record {
              wanted = g.wanted;
              run = g.run;
              rest = g.rest;
              few = g.few;
              backup = g.backup;
              asked = g.asked;
              given = g.given;
              marks = length-set ignored i true ∙ g.marks;
              counters = g.counters;
              room = g.room;
              room_aside = g.room_aside;
              within_aside = g.within_aside;
            };
          };
        };
      }

  -- as many marks as there can be pieces, and seven counters
  pub underway_marks : Underway d t out aside ignored loops → (length ignored ≡ 4096) × (length loops ≡ 7)
  underway_marks u = working_marks u.working

module _ {d : Picker} {t : PickNumbers} {out aside : List ℕ} {ignored : List Bool} {loops loops' : List ℕ} (a : PickRequest) (i : ℕ)
    (u : Underway d t out aside ignored loops) (e : loops' ≡ set_nth suggest_loops (nth 0 loops suggest_loops + 1) loops) where
  pub suggest_yes : is_piece_free a d i ≡ true → {r : PickNumbers} {out' aside' : List ℕ} {ignored' : List Bool}
      → SteppedBeside (add_flagged a suggested_pieces i) d t r out aside ignored out' aside' ignored'
      → Stepped (suggest a i) d t r out aside ignored loops out' aside' (set ignored' i true) loops'
  unfolding add_flagged suggest when state_of
  suggest_yes f x =
      let y = count_stepped suggest_loops loops loops' e u in
      let z = x loops' y.underway in
      stepped_as (stepped_then (stepped_then y z) (ignored_stepped i z.underway)) (λ start h. rw f)

  pub suggest_no : is_piece_free a d i ≡ false → Stepped (suggest a i) d t t out aside ignored loops out aside ignored loops'
  unfolding suggest when state_of
  suggest_no f = stepped_as (count_stepped suggest_loops loops loops' e u) (λ start h. rw f)

-- ---- suggestions, by what is left of them
module _ {A : Type 0} (f : A → ℕ) where
  pub suggestions_next : (l : List A) (k : ℕ) (z : A) (i : ℕ) → k < length l → i ≡ f (get_or l k z)
      → each f (drop k l) ≡ i ∷ each f (drop (k + 1) l)
  unfolding each
  suggestions_next l k z i h e =
      ap (each f) (drop-cons l k z h) ∙ (ap (λ (n : ℕ). f (get_or l k z) ∷ each f (drop n l)) (sym (add-one k))
      ∙ ap (λ (n : ℕ). n ∷ each f (drop (k + 1) l)) (sym e))

  pub suggestions_none : (l : List A) (k : ℕ) → length l ≤ k → each f (drop k l) ≡ []
  unfolding each
  suggestions_none [] zero h = refl
  suggestions_none [] (suc k) h = refl
  suggestions_none (x ∷ xs) zero h = absurd (omega arith)
  suggestions_none (x ∷ xs) (suc k) h = suggestions_none xs k (omega arith)

-- the machine reads a number back from its bits
pub suggested_number : (z : ℤ) (i : ℕ) → mag z < 2147483648 → i ≡ number_of (to_z w32 (of_z w32 z)) → i ≡ number_of z
suggested_number z i h e = e ∙ ap number_of (to_z-of_z w32 z (record { sfits = h }))

-- ---- a piece of the list, counted
module _ {d : Picker} {t : PickNumbers} {out aside : List ℕ} {ignored : List Bool} {loops loops' : List ℕ} (a : PickRequest) (c flag i : ℕ)
    (u : Underway d t out aside ignored loops) (e : loops' ≡ set_nth c (nth 0 loops c + 1) loops) where
  pub listed_yes : in_range a d i ≡ false → {r : PickNumbers} {out' aside' : List ℕ} {ignored' : List Bool}
      → SteppedBeside (visit a flag i) d t r out aside ignored out' aside' ignored'
      → Stepped (counted_visit a c flag i) d t r out aside ignored loops out' aside' ignored' loops'
  unfolding counted_visit visit_outside unless steps state_of
  listed_yes f x =
      let y = count_stepped c loops loops' e u in
      stepped_as (stepped_then y (x loops' y.underway)) (λ start h. rw f)

  pub listed_no : in_range a d i ≡ true → Stepped (counted_visit a c flag i) d t t out aside ignored loops out aside ignored loops'
  unfolding counted_visit visit_outside unless steps state_of
  listed_no f = stepped_as (count_stepped c loops loops' e u) (λ start h. rw f)
