-- The phase put together: steps counted, the order of the pick, the walk. Assumes nothing.
use mathlib.Core.Path.{◌≡◌, refl, sym, ap, ap₂, ◌∙◌}
use mathlib.Core.Bool.{Bool, true, false, not, ◌&&◌}
use mathlib.Core.List.{List}
use Prim.Native.Nat.{ℕ, ◌+◌, ◌≤◌, ◌<◌}
use native.Mathlib.Omega.{arith}
use native.Mathlib.Decide.{ℕ_discrete}
use lib.ListN.{length, get_or, length-set}
use lib.Seq.{get_or-set_same, get_or-set_other}
use Rattle.types.specs.declared.queue.DownloadQueue.TheVariants.{Downloading}
use Rattle.types.specs.Bits.{meets}
use Rattle.model.specs.Lists.{filter, len, nth, set_nth, when}
use Rattle.model.specs.State.{DownloadingPiece, Picker}
use Rattle.model.specs.Options.{rarest_first, on_parole, prioritize_partials, partial_loops}
use Rattle.model.specs.change.Partials.{in_queue}
use Rattle.model.specs.pick.Blocks.{PickRequest, PickState, option, steps}
use Rattle.model.specs.pick.Pick.{usable, scan_partials, by_rarity, ordered_partials, walk_partials, pick_scanned}
use Rattle.model.specs.pick.Pick.{pick_partials}
use Rattle.model.proofs.pick.ScanLaws.{scan_work, scan_partials_lem}
use Rattle.pick_state.specs.declared.numbers.PickNumbers.{PickNumbers}
use Rattle.pick_state.specs.declared.request.PickRequest.{PickRequest as Request}
use Rattle.pick_state.specs.Requests.{request_of}
use Rattle.pick_state.specs.PickStates.{state_of}
use Rattle.pick_state.specs.Room.{Underway}
use Rattle.pick_state.proofs.DidLaws.{kept_none}
use Rattle.pick_state.proofs.RoomLaws.{underway_same}
use Rattle.pick_blocks.specs.Blocks.{PartialRoom}
use Rattle.pick_busy.specs.Full.{PlacesIn}
use Rattle.pick_scan.specs.Scans.{PlacesRise}
use Rattle.pick_visits.specs.Steps.{Stepped, Risen}
use Rattle.pick_visits.proofs.StepLaws.{stepped_none, stepped_then, stepped_as}
use Rattle.pick_partials.specs.Phase.{MarksRoom, SteppedUnmarked, SteppedAlone, walk_rarest, walk_ordered}

-- beside the counters that there are
pub marks_room : {d : Picker} {t : PickNumbers} {out aside loops : List ℕ} → MarksRoom d t out aside loops → PartialRoom d t out aside
marks_room {loops = loops} m = record { ignored = m.ignored; loops = loops; underway = m.underway }

-- ---- steps on a counter
module _ (c n : ℕ) (loops loops' : List ℕ) (e : loops' ≡ set_nth c (nth 0 loops c + n) loops) where
  steps_long : length loops' ≡ length loops
  unfolding set_nth
  steps_long = ap length e ∙ length-set loops c (nth 0 loops c + n)

  pub steps_stepped : {d : Picker} {t : PickNumbers} {out aside : List ℕ} {ignored : List Bool} → Underway d t out aside ignored loops
      → Stepped (steps n c) d t t out aside ignored loops out aside ignored loops'
  unfolding steps state_of
  steps_stepped {d = d} {t = t} {out = out} {aside = aside} {ignored = ignored} u = record {
    did = record {
      is = λ start h. ap (state_of start d t out aside ignored) e;
      kept = kept_none t out;
      long_aside = refl;
      long_ignored = refl;
      long_loops = steps_long;
    };
    underway = underway_same u t loops' refl refl refl refl refl steps_long;
  }

  -- no counter rises by more
  pub steps_risen : (m : ℕ) → n ≤ m → c < length loops → Risen m loops loops'
  unfolding set_nth nth
  steps_risen m l h = record {
    rise = λ k. elim (ℕ_discrete k c) [
      | yes q ↦ rw (q, e, get_or-set_same loops c (get_or loops c 0 + n) 0 h) (omega arith)
      | no q ↦ rw (e, get_or-set_other loops c k (get_or loops c 0 + n) 0 q) (omega arith)
    ];
  }

pub risen_none : (n : ℕ) (loops : List ℕ) → Risen n loops loops
risen_none n loops = record { rise = λ k. omega arith }

-- ---- the order of the pick
rarity_is : (q : Request) (bytes : List ℕ)
    → by_rarity (request_of q bytes) ≡ (meets q.options.0 rarest_first && not (meets q.options.0 on_parole))
unfolding by_rarity option request_of
rarity_is q bytes = refl

module _ (q : Request) (bytes : List ℕ) (b : Bool)
    (e : b ≡ (meets q.options.0 rarest_first && not (meets q.options.0 on_parole))) (ds : List DownloadingPiece)
    {d : Picker} {t r : PickNumbers} {out aside out' aside' : List ℕ} where
  -- by rarity
  pub ordered_some : b ≡ true → SteppedAlone (walk_rarest (request_of q bytes) d ds) d t r out aside out' aside'
      → SteppedAlone (walk_ordered (request_of q bytes) d ds) d t r out aside out' aside'
  unfolding walk_rarest walk_ordered ordered_partials when state_of
  ordered_some h x ignored loops u = stepped_as (x ignored loops u) (λ start g. rw (rarity_is q bytes ∙ sym e ∙ h) refl)

  -- as they stand
  pub ordered_none : b ≡ false → SteppedAlone (walk_partials (request_of q bytes) ds) d t r out aside out' aside'
      → SteppedAlone (walk_ordered (request_of q bytes) d ds) d t r out aside out' aside'
  unfolding walk_ordered ordered_partials when state_of
  ordered_none h x ignored loops u = stepped_as (x ignored loops u) (λ start g. rw (rarity_is q bytes ∙ sym e ∙ h) refl)

-- places that rise are places
pub rise_places : {live many : ℕ} {row : List ℕ} → PlacesRise live many row → PlacesIn live many row
rise_places p = record { few = let f = p.few in let m = p.most in omega arith; low = p.low; long = p.long }

-- ---- whether partials come first
module _ (q : Request) (bytes : List ℕ) (r : Bool) (e : r ≡ meets q.options.0 prioritize_partials) where
  pub first_no : not r ≡ true → option prioritize_partials (request_of q bytes) ≡ false
  unfolding option request_of
  first_no h = sym e ∙ no r h
    where
      no : (c : Bool) → not c ≡ true → c ≡ false
      no true g = sym g
      no false g = refl

  pub first_yes : not r ≡ false → option prioritize_partials (request_of q bytes) ≡ true
  unfolding option request_of
  first_yes h = sym e ∙ yes r h
    where
      yes : (c : Bool) → not c ≡ false → c ≡ true
      yes true g = refl
      yes false g = sym g

-- ---- the whole
module _ (a : PickRequest) (d : Picker) where
  -- partials do not come first
  pub phase_none : option prioritize_partials a ≡ false → {t : PickNumbers} {out aside loops : List ℕ}
      → SteppedUnmarked (pick_partials a) d t t out aside loops out aside loops
  unfolding pick_partials state_of when
  phase_none e {t = t} {out = out} {aside = aside} {loops = loops} ignored u =
      stepped_as (stepped_none u)
      (λ start h. sym (ap (λ (b : Bool). when b (λ v. pick_scanned a (scan_partials a v)) (state_of start d t out aside ignored loops)) e))

  module _ (e : option prioritize_partials a ≡ true) (n : ℕ) (en : n ≡ len (in_queue Downloading d)) (found : List DownloadingPiece)
      (ef : found ≡ filter (usable a d) (in_queue Downloading d)) where
    -- the definition's steps, in the order of the code
    phase_is : (w : PickState) → w.picker ≡ d → walk_ordered a d found (steps n partial_loops w) ≡ pick_partials a w
    unfolding pick_partials pick_scanned steps when walk_ordered
    phase_is w q = sym (
        ap (λ (b : Bool). when b (λ v. pick_scanned a (scan_partials a v)) w) e
        ∙ ap₂ (λ (v : PickState) (ds : List DownloadingPiece). walk_ordered a v.picker ds v) (scan_work a w) (scan_partials_lem a w)
        ∙ ap (λ (p : Picker). walk_ordered a p (filter (usable a p) (in_queue Downloading p))
        (steps (len (in_queue Downloading p)) partial_loops w)) q
        ∙ ap₂ (λ (ds : List DownloadingPiece) (m : ℕ). walk_ordered a d ds (steps m partial_loops w)) (sym ef) (sym en))

    pub phase_some : {t r : PickNumbers} {out aside loops loops₁ out₁ aside₁ : List ℕ}
        → loops₁ ≡ set_nth partial_loops (nth 0 loops partial_loops + n) loops
        → SteppedAlone (walk_ordered a d found) d t r out aside out₁ aside₁
        → SteppedUnmarked (pick_partials a) d t r out aside loops out₁ aside₁ loops₁
    unfolding state_of
    phase_some {t = t} {out = out} {aside = aside} {loops = loops} {loops₁ = loops₁} el y ignored g =
        let s = steps_stepped partial_loops n loops loops₁ el g in
        stepped_as (stepped_then s (y ignored loops₁ s.underway))
        (λ start h. phase_is (state_of start d t out aside ignored loops) refl)
