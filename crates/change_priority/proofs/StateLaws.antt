-- The numbers of the partial found, the state after the list, and the answer. Assumes nothing.
use Rattle.std.specs.Prelude.{None, Option as Optional, Some}
use mathlib.Core.Path.{◌≡◌, refl, sym, ap, ◌∙◌, subst}
use mathlib.Core.Bool.{Bool, true, false, not, true≢false}
use mathlib.Core.Logic.{◌≢◌}
use mathlib.Core.List.{List}
use mathlib.Core.Option.{Option, none, some}
use Prim.Native.Nat.{ℕ, ◌≤◌, ◌<◌}
use native.Mathlib.Omega.{arith}
use lib.Dec.{eqb}
use borrow.Author.Tests.{eq-eqb, ne_eqb}
use Rattle.types.specs.Queue.{queue_number}
use Rattle.model.specs.Lists.{bit, unless}
use Rattle.model.specs.State.{DownloadingPiece, is_open, same_queue, piece_at}
use Rattle.model.specs.list.Order.{Draws, Drawing, drawing}
use Rattle.model.specs.change.Partials.{partial_of, update_piece_state}
use Rattle.model.specs.change.Changes.{saying, filter_changes, cursors_on_filter, priority_set, set_piece_priority}
use Rattle.model.proofs.keep.KeepCursors.{Turned, cursors_on_filter_turned}
use Rattle.model.proofs.sound.SoundBody.{sound_body}
use Rattle.model.proofs.sound.SoundLaws.{well_formed_sound}
use Rattle.memory_records.specs.declared.record.DownloadingPiece.{DownloadingPiece as Record}
use Rattle.memory_records.specs.Records.{rising_from}
use Rattle.memory_records.specs.Rows.{records_in}
use Rattle.memory_layout.specs.declared.shape.Shape.{Shape}
use Rattle.memory_layout.specs.Decode.{decode}
use Rattle.memory_layout.specs.Changes.{partial_in}
use Rattle.memory_layout.specs.Standing.{Stands, StandsBeside}
use Rattle.memory_layout.proofs.Meanings.{pieces_number}
use Rattle.memory_layout.proofs.OffsetLaws.{places_min}
use Rattle.memory_fields.specs.Reading.{CellsSay}
use Rattle.memory_rows.specs.Lookup.{LiveRows, picker_in, FoundIn}
use Rattle.memory_rows.proofs.RisingLaws.{well_formed_rise}
use Rattle.change_steps.specs.Working.{Went}
use Rattle.change_steps.specs.Whole.{Begins}
use Rattle.change_steps.proofs.WorkLaws.{went_nowhere, went_named, went_then}
use Rattle.change_steps.proofs.MendLaws.{stands_works, went_done}
use Rattle.change_state.specs.declared.states.Tally.{Tally}
use Rattle.change_state.specs.Numbers.{IsTally, StateUpdated}
use Rattle.change_tally.specs.Tallied.{TalliesBeside, Tallied}
use Rattle.change_tally.specs.RowsStanding.{RowsStand}
use Rattle.change_filter.specs.Turning.{cursors_turned}
use Rattle.change_priority.specs.Steps.{priority_listed, priority_stored, TalliesAt, TalliedAt}
use Rattle.change_priority.specs.Saying.{Said}
use Rattle.change_priority.proofs.StepLaws.{listed_partial}

-- ---- the rows
module _ (s : Shape) (live : ℕ) (rows counts words cells : List ℕ) (g : RowsStand s live rows counts words cells) where
  pub rows-live : LiveRows s live rows words cells
  rows-live = record { bounds = g.stands.bounds; many = g.many }

  pub rows_few : live ≤ 512
  rows_few =
      let b = g.stands.bounds in
      omega (arith, g.many, b.partials, b.spans.in_words.sizes.places, places_min s.pieces)

  pub rows_rising : rising_from 0 (records_in live rows) ≡ true
  rows_rising = well_formed_rise s live rows words cells rows-live g.stands.sound

  pub rows_beside : StandsBeside s words cells
  rows_beside = record { records = records_in live rows; stands = g.stands }

-- ---- the partial found
module _ (s : Shape) (live : ℕ) (rows counts words : List ℕ) (i : ℕ) where
  pub found_asks : (k : ℕ) (r : Optional ℕ) → r ≡ Some k → FoundIn live rows i r → TalliesAt s live rows counts words
      → TalliesBeside s words rows counts k i
  found_asks k r e f a =
      let f' : FoundIn live rows i (Some k) = subst (FoundIn live rows i) e f in
      record {
        live = live;
        cells = a.cells;
        rows_live = rows-live s live rows counts words a.cells a.stand;
        counted = a.stand.counted;
        there = f'.row.0;
        piece = f'.row.1;
      }

  pub found_tallied : (k : ℕ) (r : Optional ℕ) → r ≡ Some k → FoundIn live rows i r → (t : Tally) → Tallied s words rows counts k t
      → TalliedAt s live rows counts words i t
  found_tallied k r e f t y = record {
    is = λ cells g o d p.
        let f' : FoundIn live rows i (Some k) = subst (FoundIn live rows i) e f in
        let q : partial_in (picker_in live rows words cells) k ≡ d = same (sym (f'.is s words cells g).1 ∙ p) in
        subst (IsTally t) q (y.is live cells g o);
  }
    where
      same : {x y : DownloadingPiece} → some x ≡ some y → x ≡ y
      same e = cc

  pub none_tallied : (r : Optional ℕ) → r ≡ None → FoundIn live rows i r → (t : Tally) → TalliedAt s live rows counts words i t
  none_tallied r e f t = record {
    is = λ cells g o d p.
        let f' : FoundIn live rows i None = subst (FoundIn live rows i) e f in
        absurd (true≢false (clash (sym (f'.is s words cells g) ∙ p)));
  }
    where
      clash : {y : DownloadingPiece} → none ≡ some y → true ≡ false
      clash e = cc

-- ---- the state after the list
module _ (s : Shape) (draws : Draws) (i : ℕ) (priority : ℕ) (turned : Bool) (words cells : List ℕ) (state : ℕ)
    (say : CellsSay s cells (λ d. queue_number (piece_at d i).state) state) where
  -- of an Open piece
  pub stored_open : state ≡ 4 → (words' cells' : List ℕ) (next : ℕ)
      → Begins s (priority_listed draws i priority turned) words cells words' cells' next → (records : List Record)
      → Stands s records words cells
      → Went s (priority_stored draws i priority turned) records words cells 0 records words' cells' next
  unfolding priority_stored is_open same_queue unless drawing
  stored_open e words' cells' next b records t =
      went_named s records words cells 0 records words' cells' next (priority_listed draws i priority turned)
      (priority_stored draws i priority turned) (rw (← say.is records words t.bounds, eq-eqb state 4 e)) (b.went records t)

  -- of another one
  module _ (h : i < s.pieces) (n : state ≢ 4) (live : ℕ) (rows counts : List ℕ) (g : RowsStand s live rows counts words cells)
      (t : Tally) (y : TalliedAt s live rows counts words i t) (words₁ cells₁ : List ℕ) (used : ℕ)
      (b : Begins s (priority_listed draws i priority turned) words cells words₁ cells₁ used) (words' cells' : List ℕ) (next : ℕ)
      (u : StateUpdated s draws i t words₁ cells₁ used words' cells' next) where
    is_shut : is_open (piece_at (picker_in live rows words cells) i).state ≡ false
    unfolding is_open same_queue
    is_shut = rw (← say.is (records_in live rows) words g.stands.bounds, ne_eqb state 4 n)

    found : (o : Option DownloadingPiece) → partial_of (picker_in live rows words cells) i ≡ o
        → Went s (λ w. update_piece_state draws i (priority_listed draws i priority turned w)) (records_in live rows) words cells 0
        (records_in live rows) words' cells' next
    unfolding drawing
    found none e =
        let p = picker_in live rows words cells in
        absurd (true≢false (sym ((well_formed_sound p g.stands.sound).standing i e) ∙ is_shut))
    found (some d) e =
        let p = picker_in live rows words cells in
        let records = records_in live rows in
        let a = b.went records g.stands in
        let v : Turned p (cursors_on_filter i priority p) = cursors_on_filter_turned p
        (sound_body p (well_formed_sound p g.stands.sound)).frame i priority
        (rw (pieces_number s records words cells g.stands.bounds) h) in
        let f : partial_of (decode records words₁ cells₁) i ≡ some d = ap (λ (w : Drawing). partial_of w.picker i) a.is
        ∙ listed_partial draws i priority turned d p v e 0 in
        went_then s records words cells 0 records words₁ cells₁ used (priority_listed draws i priority turned) (update_piece_state draws i) a
        records words' cells' next
        (u.went records a.works d f (y.is cells (rows-live s live rows counts words cells g) g.counted d e))

    pub stored_shut : Went s (priority_stored draws i priority turned) (records_in live rows) words cells 0 (records_in live rows)
        words' cells' next
    unfolding priority_stored unless drawing
    stored_shut =
        went_named s (records_in live rows) words cells 0 (records_in live rows) words' cells' next
        (λ w. update_piece_state draws i (priority_listed draws i priority turned w)) (priority_stored draws i priority turned) (rw (is_shut))
        (found (partial_of (picker_in live rows words cells) i) refl)

-- ---- the whole change
module _ (s : Shape) (draws : Draws) (i priority : ℕ) (records : List Record) (words cells : List ℕ) (t : Stands s records words cells)
    (old : ℕ) (say : CellsSay s cells (λ d. (piece_at d i).priority) old) where
  old_is : old ≡ (piece_at (decode records words cells) i).priority
  old_is = say.is records words t.bounds

  -- the piece has this priority
  pub said_same : priority ≡ old → Said s draws i priority records words cells words cells (record { turned = false; used = 0 })
  unfolding set_piece_priority saying filter_changes unless drawing
  said_same e =
      let q : priority ≡ (piece_at (decode records words cells) i).priority = e ∙ old_is in
      record {
        done = went_done s records words cells (λ w. (set_piece_priority draws i priority w).after) records words cells 0
            (went_nowhere s records words cells 0 (λ w. (set_piece_priority draws i priority w).after) (stands_works s records words cells t)
            (rw (eq-eqb priority (piece_at (decode records words cells) i).priority q)));
        answer = rw (← q) (ap (λ (x : Bool). some (not x)) (eq-eqb (bit (eqb priority 0)) (bit (eqb priority 0)) refl));
      }

  -- it gets another
  pub said_other : priority ≢ old → (turned : Bool) → turned ≡ not (eqb (bit (eqb priority 0)) (bit (eqb old 0)))
      → (words' cells' : List ℕ) (next : ℕ)
      → Went s (priority_stored draws i priority turned) records words cells 0 records words' cells' next
      → Said s draws i priority records words cells words' cells' (record { turned = turned; used = next })
  unfolding set_piece_priority priority_set saying filter_changes unless drawing priority_stored priority_listed cursors_turned
  said_other n turned e words' cells' next w =
      let q : turned ≡ filter_changes priority (piece_at (decode records words cells) i) = e
      ∙ ap (λ (x : ℕ). not (eqb (bit (eqb priority 0)) (bit (eqb x 0)))) old_is in
      record {
        done = went_done s records words cells (λ w. (set_piece_priority draws i priority w).after) records words' cells' next
            (went_named s records words cells 0 records words' cells' next (priority_stored draws i priority turned)
            (λ w. (set_piece_priority draws i priority w).after)
            (rw (ne_eqb priority (piece_at (decode records words cells) i).priority (λ z. n (z ∙ sym old_is)), q)) w);
        answer = ap some (sym q);
      }
