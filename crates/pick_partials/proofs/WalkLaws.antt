-- Partials in turn, by what is left of the walk, and the blocks set aside after it. Assumes nothing.
use mathlib.Core.Path.{◌≡◌, refl, sym, ap, ◌∙◌}
use mathlib.Core.Bool.{Bool, true, false}
use mathlib.Core.List.{List, [], ◌∷◌}
use Prim.Native.Nat.{ℕ, zero, suc, ◌+◌, ◌-◌, ◌≤◌, ◌<◌}
use native.Mathlib.Omega.{arith}
use lib.Dec.{leb}
use lib.ListN.{length, get_or, take, drop}
use lib.Seq.{drop-cons, get_or-take, length-take-le}
use borrow.Author.Tests.{le-leb, lt-leb}
use Rattle.types.specs.Bits.{union}
use Rattle.model.specs.Lists.{each, unless, walk_until, walk}
use Rattle.model.specs.State.{DownloadingPiece, Picker, blocks_per_piece}
use Rattle.model.specs.Options.{prioritized_partials}
use Rattle.model.specs.pick.Blocks.{PickRequest, PickState, spent, flagged, with_out, with_backup, add_blocks_downloading, append_blocks}
use Rattle.model.specs.pick.Blocks.{enough_aside}
use Rattle.model.specs.pick.Pick.{partial_step, walk_partials}
use Rattle.model.specs.image.Sound.{Sound}
use Rattle.pick_laws.proofs.BoundLaws.{small}
use Rattle.pick_laws.proofs.AddLaws.{holding_kept}
use Rattle.pick_laws.proofs.OutputLaws.{bounded_kept}
use Rattle.memory_layout.specs.Changes.{partial_in}
use Rattle.pick_state.specs.declared.numbers.PickNumbers.{PickNumbers}
use Rattle.pick_state.specs.PickStates.{contiguous_of, with_flags, state_of}
use Rattle.pick_state.specs.Room.{Underway}
use Rattle.pick_state.proofs.DidLaws.{kept_same, did_then}
use Rattle.pick_state.proofs.TakeLaws.{between_length}
use Rattle.pick_state.proofs.RoomLaws.{working_left, working_aside, working_tight, working_holding, working_unspent, working_kept}
use Rattle.pick_state.proofs.RoomLaws.{working_downloading}
use Rattle.pick_state.proofs.RestLaws.{Rest, rest_start, rest_next, rest-end, rest_last}
use Rattle.pick_partial.specs.Adding.{BlocksDid}
use Rattle.pick_blocks.specs.Blocks.{PartialRoom}
use Rattle.pick_blocks.proofs.AddingLaws.{blocks_worked, partial_room}
use Rattle.pick_append.specs.Appending.{Appended}
use Rattle.pick_visits.specs.Steps.{Stepped}
use Rattle.pick_visits.proofs.StepLaws.{stepped_then, stepped_as, walk_on, walk_over_lem, walk_empty, did_spent, did_unspent}
use Rattle.pick_visits.proofs.VisitLaws.{flag_wanted, flag_underway}
use Rattle.pick_partials.specs.Phase.{SteppedAlone, walk_places}

-- ---- a flag set
pub flag_alone : (flag : ℕ) {d : Picker} {t : PickNumbers} (r : PickNumbers) (out aside : List ℕ) → r ≡ with_flags (union t.flags flag) t
    → SteppedAlone (flagged flag) d t r out aside out aside
unfolding flagged state_of with_flags contiguous_of
flag_alone flag {d = d} {t = t} r out aside e ignored loops u = record {
  did = record {
    is = λ start h. ap (λ (x : PickNumbers). state_of start d x out aside ignored loops) e;
    kept = kept_same t r out (ap (λ (x : PickNumbers). x.end) e);
    long_aside = refl;
    long_ignored = refl;
    long_loops = refl;
  };
  underway = flag_underway flag r e u;
}

-- ---- a partial
module _ {d : Picker} {t : PickNumbers} {out aside : List ℕ} (a : PickRequest) (p : DownloadingPiece) (r : PickNumbers)
    (e : r ≡ with_flags (union t.flags prioritized_partials) t) (l : 1 ≤ t.left) where
  -- its blocks added behind the flag
  pub partial_stepped : {r' : PickNumbers} {out' aside' : List ℕ} → Sound d → small p ≡ true
      → BlocksDid (add_blocks_downloading a p) r r' out aside out' aside' → SteppedAlone (partial_step a p) d t r' out aside out' aside'
  unfolding partial_step
  partial_stepped s o y ignored loops u =
      let f = flag_alone prioritized_partials r out aside e ignored loops u in
      let v = f.underway in
      let m = flag_wanted prioritized_partials t r e l in
      let w = blocks_worked y (partial_room v m).room d ignored loops in
      record {
        did = did_then f.did w.did;
        underway = record { start = v.start; wanted = v.wanted; run = v.run; working = working_downloading v.working a p s o m w };
      }

-- ---- whether enough is set aside
enough_is : {d : Picker} {t : PickNumbers} {out aside : List ℕ} {ignored : List Bool} {loops : List ℕ} (start : ℕ)
    → Underway d t out aside ignored loops → enough_aside (state_of start d t out aside ignored loops) ≡ leb t.left t.aside
unfolding enough_aside state_of
enough_is {t = t} {aside = aside} start u =
    let b = (working_aside u.working).0 in
    ap (leb t.left) (between_length 0 t.aside aside (omega arith) ∙ whole t.aside)
  where
    whole : (x : ℕ) → x - 0 ≡ x
    whole x = omega arith

module _ {f : PickState → PickState} {d : Picker} {t r : PickNumbers} {out aside : List ℕ} {ignored : List Bool} {loops : List ℕ}
    {out₁ aside₁ : List ℕ} (y : Stepped f d t r out aside ignored loops out₁ aside₁ ignored loops) (start : ℕ) (h : start ≤ t.end) where
  enough_no : r.aside < r.left → enough_aside (f (state_of start d t out aside ignored loops)) ≡ false
  enough_no n = sym (ap enough_aside (y.did.is start h)) ∙ enough_is start y.underway ∙ lt-leb r.left r.aside n

  enough_yes : r.left ≤ r.aside → enough_aside (f (state_of start d t out aside ignored loops)) ≡ true
  enough_yes n = sym (ap enough_aside (y.did.is start h)) ∙ enough_is start y.underway ∙ le-leb r.left r.aside n

-- ---- the walk
-- `rest` of it is left of a walk over `whole`
pub record Taking (step : ℕ → PickState → PickState) (whole rest : List ℕ) (d : Picker) (t cur : PickNumbers)
    (out aside out₁ aside₁ : List ℕ) : Type 0 where
  pub now : PartialRoom d cur out₁ aside₁
  pub wanted : 1 ≤ cur.left
  pub left : (ignored : List Bool) (loops : List ℕ) → Underway d t out aside ignored loops
      → Rest (walk step enough_aside whole) (walk step enough_aside rest) d t cur out aside ignored loops out₁ aside₁ ignored loops
  pub underway : (ignored : List Bool) (loops : List ℕ) → Underway d t out aside ignored loops → Underway d cur out₁ aside₁ ignored loops

pub taking_start : (step : ℕ → PickState → PickState) (whole : List ℕ) {d : Picker} {t : PickNumbers} {out aside : List ℕ}
    → PartialRoom d t out aside → 1 ≤ t.left → Taking step whole whole d t t out aside out aside
taking_start step whole {d = d} {t = t} {out = out} {aside = aside} r l = record {
  now = r;
  wanted = l;
  left = λ ignored loops u. rest_start (walk step enough_aside whole) d t out aside ignored loops;
  underway = λ ignored loops u. u;
}

module _ {step : ℕ → PickState → PickState} {whole rest : List ℕ} {d : Picker} {t cur : PickNumbers} {out aside out₁ aside₁ : List ℕ}
    (c : Taking step whole rest d t cur out aside out₁ aside₁) where
  -- a partial has added its blocks, and more are wanted than are set aside
  pub taking_next : (i : ℕ) (is : List ℕ) → rest ≡ i ∷ is → {r : PickNumbers} {out₂ aside₂ : List ℕ}
      → SteppedAlone (step i) d cur r out₁ aside₁ out₂ aside₂ → r.aside < r.left → Taking step whole is d t r out aside out₂ aside₂
  taking_next i is e y n = record {
    now = record {
      ignored = c.now.ignored;
      loops = c.now.loops;
      underway = (y c.now.ignored c.now.loops c.now.underway).underway;
    };
    wanted = omega arith;
    left = λ ignored loops u.
        let v = y ignored loops (c.underway ignored loops u) in
        let x = c.left ignored loops u in
        rest_next x (walk step enough_aside is) v.did (λ start h. let k = x.kept.rises in
        ap (λ (l : List ℕ). walk step enough_aside l (state_of start d cur out₁ aside₁ ignored loops)) e
        ∙ walk_on step enough_aside i is (state_of start d cur out₁ aside₁ ignored loops) (enough_no v start (omega arith) n));
    underway = λ ignored loops u. (y ignored loops (c.underway ignored loops u)).underway;
  }

  -- enough are set aside, or none is wanted
  pub taking_stop : (i : ℕ) (is : List ℕ) → rest ≡ i ∷ is → {r : PickNumbers} {out₂ aside₂ : List ℕ}
      → SteppedAlone (step i) d cur r out₁ aside₁ out₂ aside₂ → r.left ≤ r.aside
      → SteppedAlone (walk step enough_aside whole) d t r out aside out₂ aside₂
  taking_stop i is e y n ignored loops u =
      let v = y ignored loops (c.underway ignored loops u) in
      let x = c.left ignored loops u in
      record {
        did = rest_last x v.did (λ start h. let k = x.kept.rises in
            ap (λ (l : List ℕ). walk step enough_aside l (state_of start d cur out₁ aside₁ ignored loops)) e
            ∙ walk_over_lem step enough_aside i is (state_of start d cur out₁ aside₁ ignored loops) (enough_yes v start (omega arith) n));
        underway = v.underway;
      }

  -- no partial is left
  pub taking_end : rest ≡ [] → SteppedAlone (walk step enough_aside whole) d t cur out aside out₁ aside₁
  taking_end e ignored loops u = record {
    did = rest-end (c.left ignored loops u) (λ start h.
        ap (λ (l : List ℕ). walk step enough_aside l (state_of start d cur out₁ aside₁ ignored loops)) e
        ∙ walk_empty step enough_aside (state_of start d cur out₁ aside₁ ignored loops));
    underway = c.underway ignored loops u;
  }

-- ---- lengths
pub taking_lengths : {step : ℕ → PickState → PickState} {whole rest : List ℕ} {d : Picker} {t cur : PickNumbers}
    {out aside out₁ aside₁ : List ℕ} → Taking step whole rest d t cur out aside out₁ aside₁ → PartialRoom d t out aside
    → (length out₁ ≡ length out) × (length aside₁ ≡ length aside)
taking_lengths c u = let y = c.left u.ignored u.loops u.underway in (y.kept.long, y.long_aside)

-- ---- room for the next step
pub alone_room : {f : PickState → PickState} {d : Picker} {t r : PickNumbers} {out aside out' aside' : List ℕ}
    → SteppedAlone f d t r out aside out' aside' → PartialRoom d t out aside → PartialRoom d r out' aside'
alone_room x u = record { ignored = u.ignored; loops = u.loops; underway = (x u.ignored u.loops u.underway).underway }

-- ---- the row
-- what is left of a row of places: a place and what follows it
pub row_cons : (j : ℕ) (row : List ℕ) → j < length row → drop j row ≡ get_or row j 0 ∷ drop (j + 1) row
row_cons j row l =
    let e : j + 1 ≡ suc j = omega arith in
    drop-cons row j 0 l ∙ ap (λ (n : ℕ). get_or row j 0 ∷ drop n row) (sym e)

-- nothing is left past the end
pub drop_over : (n : ℕ) (l : List ℕ) → length l ≤ n → drop n l ≡ []
drop_over zero [] h = refl
drop_over (suc n) [] h = refl
drop_over zero (x ∷ xs) h = absurd (omega arith)
drop_over (suc n) (x ∷ xs) h = drop_over n xs (omega arith)

-- what is left of the first places of a row
pub rest_cons : (many j : ℕ) (row : List ℕ) → many ≤ length row → j < many
    → drop j (take many row) ≡ get_or row j 0 ∷ drop (j + 1) (take many row)
rest_cons many j row h l =
    row_cons j (take many row) (omega (arith, length-take-le many row h))
    ∙ ap (λ (x : ℕ). x ∷ drop (j + 1) (take many row)) (get_or-take many row j 0 l)

-- nothing is left past the last of them
pub rest_none : (many j : ℕ) (row : List ℕ) → many ≤ length row → many ≤ j → drop j (take many row) ≡ []
rest_none many j row h l = drop_over j (take many row) (omega (arith, length-take-le many row h))

-- the walk over partials is one over their places
walk-each : {A : Type 0} (f : ℕ → A) (step : A → PickState → PickState) (done : PickState → Bool) (l : List ℕ) (w : PickState)
    → walk step done (each f l) w ≡ walk (λ k. step (f k)) done l w
unfolding walk walk_until each
walk-each f step done [] w = refl
walk-each f step done (x ∷ xs) w =
    λ i. unless (done (step (f x) w)) (λ v. walk-each f step done xs v i) (step (f x) w)

-- ---- what is set aside, after it
module _ {d : Picker} {t : PickNumbers} {out aside : List ℕ} (l : 1 ≤ t.left) where
  -- there is room for it
  pub append_room : PartialRoom d t out aside → (t.end + t.left ≤ length out) × (t.aside ≤ length aside)
  append_room u =
      let w = u.underway.working in
      let e = working_left w in
      let g = w.roomy.room in
      let s = w.since in
      let b = (working_aside w).0 in
      (omega arith, omega arith)

  append_alone : {r : PickNumbers} {out' : List ℕ} (a : PickRequest) → Sound d
      → Appended t r out out' aside → SteppedAlone append_blocks d t r out aside out' aside
  unfolding append_blocks with_backup with_out
  append_alone a s y ignored loops u =
      let w = y.worked d ignored loops in
      let v = state_of u.start d t out aside ignored loops in
      record {
        did = w.did;
        underway = record {
          start = u.start;
          wanted = u.wanted;
          run = u.run;
          working = working_kept u.working w (blocks_per_piece d)
              ((bounded_kept (blocks_per_piece d) u.wanted u.run u.working.roomy.wanted a).backup v (working_unspent u.working l)
              (working_tight u.working s))
              ((holding_kept (length aside - 256) a).backup v (working_unspent u.working l) (working_holding u.working s)) refl;
        };
      }

-- the whole
module _ (a : PickRequest) (ks : List ℕ) {d : Picker} {t u : PickNumbers} {out aside out₁ aside₁ : List ℕ}
    (x : SteppedAlone (walk_places a d ks) d t u out aside out₁ aside₁) where
  walked_is : (w : PickState) (b : Bool) → spent (walk_places a d ks w) ≡ b
      → walk_partials a (each (partial_in d) ks) w ≡ unless b append_blocks (walk_places a d ks w)
  unfolding walk_partials walk_places
  walked_is w b e =
      ap (λ (v : PickState). unless (spent v) append_blocks v) (walk-each (partial_in d) (partial_step a) enough_aside ks w)
      ∙ ap (λ (c : Bool). unless c append_blocks (walk_places a d ks w)) e

  -- none is wanted after the walk
  pub walked_spent : u.left ≡ 0 → SteppedAlone (walk_partials a (each (partial_in d) ks)) d t u out aside out₁ aside₁
  unfolding unless
  walked_spent e ignored loops g =
      let y = x ignored loops g in
      stepped_as y (λ start h. sym (walked_is (state_of start d t out aside ignored loops) true (did_spent y.did start h e)))

  -- some are: those set aside come then
  pub walked_more : {r : PickNumbers} {out₂ : List ℕ} → Sound d → (u.left ≡ 0 → ⊥) → 1 ≤ u.left → Appended u r out₁ out₂ aside₁
      → SteppedAlone (walk_partials a (each (partial_in d) ks)) d t r out aside out₂ aside₁
  unfolding unless
  walked_more s n l y ignored loops g =
      let z = x ignored loops g in
      stepped_as (stepped_then z (append_alone l a s y ignored loops z.underway))
      (λ start h. sym (walked_is (state_of start d t out aside ignored loops) false (did_unspent z.did start h n)))
