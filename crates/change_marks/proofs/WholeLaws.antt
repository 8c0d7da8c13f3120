-- The marks as whole changes, of the partial that the rows name. Assumes nothing.
use Rattle.std.specs.Prelude.{Option as Optional, Some}
use mathlib.Core.Path.{◌≡◌, sym, ap, ◌∙◌}
use mathlib.Core.List.{List}
use mathlib.Core.Option.{Option, some}
use Prim.Native.Nat.{ℕ, ◌<◌}
use native.Mathlib.Omega.{arith}
use borrow.Author.Tests.{leb-true}
use lib.Dec.{leb}
use Rattle.model.specs.State.{Picker, DownloadingPiece, max_peers}
use Rattle.model.specs.list.Order.{Drawing, drawing}
use Rattle.model.specs.change.Partials.{partial_of, block_at}
use Rattle.model.specs.change.Changes.{Change}
use Rattle.model.specs.image.WellFormed.{peer_ok, block_ok}
use Rattle.model.proofs.base.Truths.{both_true}
use Rattle.model.proofs.keep.KeepBlocks.{block_in}
use Rattle.model.proofs.sound.SoundLaws.{well_formed_sound}
use Rattle.memory_records.specs.declared.record.DownloadingPiece.{DownloadingPiece as Record}
use Rattle.memory_records.specs.declared.edits.Edit.TheVariants.{Keep}
use Rattle.memory_records.specs.Rows.{records_in}
use Rattle.memory_layout.specs.declared.shape.Shape.{Shape}
use Rattle.memory_layout.specs.Decode.{blocks_of, decode}
use Rattle.memory_layout.specs.Changes.{partial_in}
use Rattle.memory_layout.specs.Standing.{edit_records}
use Rattle.memory_rows.specs.Lookup.{FoundIn}
use Rattle.change_steps.proofs.WorkLaws.{went_named}
use Rattle.change_steps.proofs.MendLaws.{went_done}
use Rattle.change_tally.specs.declared.standing.Standing.{Standing}
use Rattle.change_tally.specs.Tallied.{StandsIn}
use Rattle.change_tally.specs.RowsStanding.{RowsStand}
use Rattle.change_returns.proofs.WholeLaws.{partial_found, flags_here, finished_here, tally_here}
use Rattle.change_receipts.specs.declared.answers.Marked.{Marked}
use Rattle.change_receipts.specs.Marking.{Marks}
use Rattle.change_requests.specs.Requesting.{RequestBeside}
use Rattle.change_finishes.specs.Finishing.{FinishAt, FinishBeside}
use Rattle.change_vacant.specs.Marks.{MarkDone}

module _ (s : Shape) (live : ℕ) (rows counts words cells : List ℕ) (g : RowsStand s live rows counts words cells) (i : ℕ) where
  abbrev rs : List Record
  rs = records_in live rows

  abbrev d : Picker
  d = decode (records_in live rows) words cells

  module _ (k : ℕ) (found : Optional ℕ) (e : found ≡ Some k) (f : FoundIn live rows i found) (r : Standing)
      (y : StandsIn s words rows counts k r) (j : ℕ) (h : j < blocks_of words i) where
    -- its block's peers are at most 1,000
    pub request_beside : RequestBeside s words cells i r.place j r.tally
    unfolding block_ok
    request_beside =
        let v = well_formed_sound d g.stands.sound in
        let b = block_at (partial_in d k) j in
        let n = partial_found s live rows counts words cells g i k found e f in
        let o = block_in d i j (partial_in d k) (v.partial i (partial_in d k) n) in
        let m = leb-true b.num_peers max_peers (both_true (leb b.num_peers max_peers) (peer_ok b.peer) o).0 in
        let low : b.num_peers < 65535 = omega (arith, m) in
        record {
          beside = record { records = rs; k = k; there = tally_here s live rows counts words cells g i k found e f r y j h };
          few = low;
        }

    pub finish_here : FinishAt s rs words cells i r.place j r.tally r.flags r.finished k
    finish_here = record {
      there = tally_here s live rows counts words cells g i k found e f r y j h;
      sound = g.stands.sound;
      flagged = flags_here s live rows counts words cells g i k found e f r y;
      counted = finished_here s live rows counts words cells g i k found e f r y;
    }

    pub finish_beside : FinishBeside s words cells i r.place j r.tally r.flags r.finished
    finish_beside = record { records = rs; k = k; placed = finish_here }

    pub marked_found : (mark : (found : Option DownloadingPiece) (w : Drawing) → Change) (words' cells' : List ℕ) (m : Marked)
        → Marks s (λ q w. mark (some q) w) i r.place j r.tally words cells 0 words' cells' m
        → MarkDone s (λ w. mark (partial_of w.picker i) w) rs words cells (edit_records Keep rs) words' cells' m.answer m.used
    unfolding edit_records drawing
    marked_found mark words' cells' m v =
        let a = tally_here s live rows counts words cells g i k found e f r y j h in
        let p = partial_found s live rows counts words cells g i k found e f in
        let here : mark (some (partial_in d k)) (drawing 0 d) ≡ mark (partial_of d i) (drawing 0 d) =
        ap (λ (o : Option DownloadingPiece). mark o (drawing 0 d)) (sym p) in
        record {
          done = went_done s rs words cells (λ w. (mark (partial_of w.picker i) w).after) rs words' cells' m.used
              (went_named s rs words cells 0 rs words' cells' m.used (λ w. (mark (some (partial_in d k)) w).after)
              (λ w. (mark (partial_of w.picker i) w).after) (ap (λ (c : Change). c.after) here) (v.went rs k a));
          says = ap (λ (c : Change). c.answer) (sym here) ∙ v.answer rs k a;
        }
