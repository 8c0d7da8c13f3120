-- Priority and flags of a piece whose memory is admitted: what a call that is not refused gives its change, and the call done. Assumes
-- nothing.
use mathlib.Core.Path.{◌≡◌, refl, sym, subst, ◌∙◌}
use mathlib.Core.Bool.{true}
use mathlib.Core.List.{List}
use mathlib.Core.Option.{none}
use Prim.Native.Nat.{ℕ, ◌≤◌, ◌<◌}
use native.Mathlib.Omega.{arith}
use lib.ListN.{length}
use borrow.Author.Tests.{ltb-false}
use Rattle.types.specs.declared.refusal.Refusal.TheVariants.{OutOfRange}
use Rattle.model.specs.State.{Picker, min_draws, max_priority}
use Rattle.model.specs.list.Order.{Draws}
use Rattle.model.specs.change.Changes.{set_piece_priority, lock_piece, piece_passed}
use Rattle.model.specs.Calls.{do_set_piece_priority, do_lock_piece, do_piece_passed, refusal, act, done, said}
use Rattle.model.proofs.keep.KeepCalls.{check-none}
use Rattle.memory_records.specs.declared.record.DownloadingPiece.{DownloadingPiece as Record}
use Rattle.memory_records.specs.declared.edits.Edit.{Edit}
use Rattle.memory_records.specs.declared.edits.Edit.TheVariants.{Keep, Insert}
use Rattle.memory_records.specs.Records.{rising_from}
use Rattle.memory_records.specs.Rows.{live_records, records_in}
use Rattle.memory_records.proofs.laws.LiveLaws.{live_most}
use Rattle.memory_layout.specs.declared.shape.Shape.{Shape}
use Rattle.memory_layout.specs.Decode.{head_word}
use Rattle.memory_layout.specs.Standing.{edit_records}
use Rattle.memory_rows.specs.Lookup.{picker_in}
use Rattle.change_steps.specs.Whole.{EditRoom}
use Rattle.change_tally.specs.RowsStanding.{RowsStand}
use Rattle.change_flags.specs.Flagging.{RowsChanged}
use Rattle.change_flags.proofs.RowEdits.{rows_rising}
use Rattle.change_priority.specs.declared.changes.PrioritySet.{PrioritySet}
use Rattle.change_priority.specs.Saying.{Said}
use Rattle.picker_calls.specs.Cores.{Stood, CoreCalled}
use Rattle.picker_calls.proofs.ListlessLaws.{listless}
use Rattle.picker_calls.proofs.JudgeLaws.{few_passed, do_piece_passed as bad_piece_passed}
use Rattle.picker_calls.proofs.CoreLaws.{place_left, keep_insert, acted_undrawn, acted_saying}

-- ---- not refused
module _ (s : Shape) (lent : ℕ) (rows counts words cells : List ℕ) (t : Stood s (head_word words 7) lent rows counts words cells) where
  abbrev d : Picker
  d = picker_in (head_word words 7) rows words cells

  -- a piece and a priority in range, and draws enough
  pub priority_passed : (i priority : ℕ) (draws : Draws) → refusal d (do_set_piece_priority i priority draws) ≡ none
      → ((i < s.pieces) × (priority ≤ max_priority)) × (min_draws ≤ length draws)
  unfolding refusal
  priority_passed i priority draws h =
      let a = few_passed draws _ h in
      let b = bad_piece_passed s (records_in (head_word words 7) rows) words cells t.stands i _ a.1 in
      let c = check-none _ OutOfRange none b.1 in
      ((b.0, omega (arith, ltb-false max_priority priority c.0)), a.0)

  -- a piece in range
  pub flag_passed : (i : ℕ) → refusal d (do_piece_passed i) ≡ none → i < s.pieces
  unfolding refusal
  flag_passed i h = (bad_piece_passed s (records_in (head_word words 7) rows) words cells t.stands i none h).0

  -- ---- the live rows, as many as the code finds
  module _ (live : ℕ) (many : live ≡ live_records words) where
    counted : head_word words 7 ≡ live
    counted = t.rowed ∙ sym many

    pub rows_stand : RowsStand s live rows counts words cells
    rows_stand =
        subst (λ (n : ℕ). RowsStand s n rows counts words cells) counted
        (record { stands = t.stands; many = refl; counted = t.counted; long_rows = t.long_rows; long_counts = t.long_counts })

    pub rows_asked : ((live ≤ 512) × (length rows ≡ 1536)) × (rising_from 0 (records_in live rows) ≡ true)
    rows_asked =
        let r = rows_stand in
        ((omega (arith, many, live_most words), t.long_rows), rows_rising s live rows words cells r.stands r.many)

    -- ---- done
    module _ (words' cells' : List ℕ) where
      pub priority_done : (i priority : ℕ) (draws : Draws) → refusal d (do_set_piece_priority i priority draws) ≡ none → (r : PrioritySet)
          → Said s draws i priority (records_in live rows) words cells words' cells' r
          → CoreCalled words cells rows lent (do_set_piece_priority i priority draws) words' cells' (said r.turned r.used) live Keep
      unfolding act edit_records
      priority_done i priority draws free r h =
          let a = do_set_piece_priority i priority draws in
          let x = subst (λ (n : ℕ). Said s draws i priority (records_in n rows) words cells words' cells' r) (sym counted) h in
          acted_saying s lent rows counts words cells t a (listless a refl) free live many Keep keep_insert words' cells'
          (set_piece_priority draws i priority) refl r.turned x.answer r.used x.done.draws x.done.changed

      module _ (edit : Edit) (room : EditRoom s live edit) where
        abbrev Made : (change : Picker → Picker) → Type 0
        Made change = RowsChanged s change live rows words cells edit words' cells'

        left : (x : Record) → edit ≡ Insert x → head_word words 7 < s.places
        left = place_left (head_word words 7) s.places edit (subst (λ (n : ℕ). EditRoom s n edit) (sym counted) room).fits

        pub lock_done : (i : ℕ) → refusal d (do_lock_piece i) ≡ none → Made (lock_piece i)
            → CoreCalled words cells rows lent (do_lock_piece i) words' cells' (done 0) live edit
        unfolding act
        lock_done i free h =
            acted_undrawn s lent rows counts words cells t (do_lock_piece i) (listless (do_lock_piece i) refl) free live many edit left
            words' cells'
            (lock_piece i) refl (subst (λ (n : ℕ). RowsChanged s (lock_piece i) n rows words cells edit words' cells') (sym counted) h)

        pub passed_done : (i : ℕ) → refusal d (do_piece_passed i) ≡ none → Made (piece_passed i)
            → CoreCalled words cells rows lent (do_piece_passed i) words' cells' (done 0) live edit
        unfolding act
        passed_done i free h =
            acted_undrawn s lent rows counts words cells t (do_piece_passed i) (listless (do_piece_passed i) refl) free live many edit left
            words' cells'
            (piece_passed i) refl (subst (λ (n : ℕ). RowsChanged s (piece_passed i) n rows words cells edit words' cells') (sym counted) h)
