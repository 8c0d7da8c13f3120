-- The walk that finds the partials of a pick: it counts each of the Downloading queue, and keeps those that can be picked from.
-- Assumes nothing.
use mathlib.Core.Path.{◌≡◌, refl, sym, ap, ◌∙◌}
use Prim.Native.Nat.{ℕ, zero, suc, ◌+◌}
use native.Mathlib.Omega.{arith}
use mathlib.Core.Bool.{Bool, true, false, cond}
use mathlib.Core.List.{List, [], ◌∷◌, ◌++◌, append_assoc, append-nil}
use lib.ListN.{length, get_or, set}
use Rattle.types.specs.declared.queue.DownloadQueue.TheVariants.{Downloading}
use Rattle.model.specs.Lists.{filter, nth, set_nth, len, for_each}
use Rattle.model.specs.State.{DownloadingPiece}
use Rattle.model.specs.Options.{partial_loops}
use Rattle.model.specs.change.Partials.{in_queue}
use Rattle.model.specs.pick.Blocks.{PickRequest, PickState, steps}
use Rattle.model.specs.pick.Pick.{usable, PartialScan, scan_step, scan_partials}

-- ---- steps on a counter
raised : ℕ → ℕ → List ℕ → List ℕ
raised n c l = set l c (get_or l c 0 + n)

raised_none : (c : ℕ) (l : List ℕ) → raised 0 c l ≡ l
unfolding raised
raised_none c [] = refl
raised_none zero (x ∷ l) = ap (λ (n : ℕ). n ∷ l) (omega arith)
raised_none (suc c) (x ∷ l) = ap (λ (k : List ℕ). x ∷ k) (raised_none c l)

raised_more : (n m c : ℕ) (l : List ℕ) → raised m c (raised n c l) ≡ raised (n + m) c l
unfolding raised
raised_more n m c [] = refl
raised_more n m zero (x ∷ l) = ap (λ (k : ℕ). k ∷ l) (omega arith)
raised_more n m (suc c) (x ∷ l) = ap (λ (k : List ℕ). x ∷ k) (raised_more n m c l)

-- the work with other counters
counting : PickState → List ℕ → PickState
counting w ls =
    record {
      picker = w.picker;
      used = w.used;
      left = w.left;
      contiguous = w.contiguous;
      out = w.out;
      backup = w.backup;
      ignored = w.ignored;
      flags = w.flags;
      loops = ls;
    }

-- no step changes nothing
pub steps_none : (c : ℕ) (w : PickState) → steps 0 c w ≡ w
unfolding steps nth set_nth raised counting
steps_none c w = ap (counting w) (raised_none c w.loops)

-- steps after steps
pub steps_more : (n m c : ℕ) (w : PickState) → steps m c (steps n c w) ≡ steps (n + m) c w
unfolding steps nth set_nth raised counting
steps_more n m c w = ap (counting w) (raised_more n m c w.loops)

-- ---- the walk
scan_from : (a : PickRequest) (ds : List DownloadingPiece) (x : PartialScan)
    → ((for_each (scan_step a) ds x).work ≡ steps (len ds) partial_loops x.work)
    × ((for_each (scan_step a) ds x).partials ≡ x.partials ++ filter (usable a x.work.picker) ds)
unfolding for_each filter len scan_step steps
scan_from a [] x = (sym (steps_none partial_loops x.work), sym (append-nil x.partials))
scan_from a (d ∷ ds) x =
    let r = scan_from a ds (scan_step a d x) in
    (r.0 ∙ counted, r.1 ∙ kept)
  where
    counted : steps (length ds) partial_loops (scan_step a d x).work ≡ steps (suc (length ds)) partial_loops x.work
    counted =
        let e : 1 + length ds ≡ suc (length ds) = omega arith in
        steps_more 1 (length ds) partial_loops x.work ∙ ap (λ (n : ℕ). steps n partial_loops x.work) e

    found : (b : Bool) → cond b (x.partials ++ (d ∷ [])) x.partials ++ filter (usable a x.work.picker) ds
        ≡ x.partials ++ cond b (d ∷ filter (usable a x.work.picker) ds) (filter (usable a x.work.picker) ds)
    found true = append_assoc x.partials (d ∷ []) (filter (usable a x.work.picker) ds)
    found false = refl

    kept : (scan_step a d x).partials ++ filter (usable a (scan_step a d x).work.picker) ds
        ≡ x.partials ++ cond (usable a x.work.picker d) (d ∷ filter (usable a x.work.picker) ds) (filter (usable a x.work.picker) ds)
    kept = found (usable a x.work.picker d)

module _ (a : PickRequest) (w : PickState) where
  -- each partial of the Downloading queue is a step
  pub scan_work : (scan_partials a w).work ≡ steps (len (in_queue Downloading w.picker)) partial_loops w
  unfolding scan_partials
  scan_work = (scan_from a (in_queue Downloading w.picker) (record { work = w; partials = [] })).0

  -- those found are those that can be picked from
  pub scan_partials_lem : (scan_partials a w).partials ≡ filter (usable a w.picker) (in_queue Downloading w.picker)
  unfolding scan_partials
  scan_partials_lem = (scan_from a (in_queue Downloading w.picker) (record { work = w; partials = [] })).1
