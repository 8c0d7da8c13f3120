-- A piece opened, then its first block marked. Assumes nothing.
use mathlib.Core.Path.{refl, sym, ap, ◌∙◌}
use mathlib.Core.Bool.{Bool}
use mathlib.Core.List.{List}
use Prim.Native.Nat.{ℕ, ◌+◌, ◌≤◌, ◌<◌}
use native.Mathlib.Omega.{arith}
use Rattle.types.specs.declared.queue.DownloadQueue.{DownloadQueue}
use Rattle.model.specs.list.Order.{Draws, Drawing, drawing}
use Rattle.model.specs.change.Partials.{partial_of}
use Rattle.model.specs.change.Changes.{opened, mark_first, mark_opening}
use Rattle.memory_records.specs.declared.edits.Edit.TheVariants.{Insert}
use Rattle.memory_records.specs.Records.{edited}
use Rattle.memory_layout.specs.declared.shape.Shape.{Shape}
use Rattle.memory_layout.specs.Decode.{blocks_of, decode}
use Rattle.memory_layout.proofs.Parts.{blocks_of_same}
use Rattle.memory_blocks.specs.declared.info.BlockInfo.{BlockInfo}
use Rattle.memory_blocks.specs.Blocks.{block_of}
use Rattle.change_steps.proofs.WorkLaws.{went_then, went_named}
use Rattle.change_adding.specs.declared.adding.Opening.{Opening}
use Rattle.change_adding.specs.Adding.{VacantBeside, Added}
use Rattle.change_first_mark.specs.declared.marks.Marked.{Marked}
use Rattle.change_first_mark.specs.Marking.{HeldBeside, FirstMarked}
use Rattle.change_opening.specs.Marking.{OpeningMarked}
use Rattle.change_opening.proofs.StepLaws.{opened_draws}

module _ (s : Shape) (draws : Draws) (i : ℕ) (q : DownloadQueue) (affinity : Bool) (live : ℕ) (rows words cells : List ℕ) (used : ℕ)
    (words₁ cells₁ : List ℕ) (o : Opening) (a : Added s (opened draws i q affinity) i live rows words cells used words₁ cells₁ o) where
  -- what marking asks
  pub mark_beside : (j : ℕ) → j < blocks_of words i → VacantBeside s i live rows words cells
      → HeldBeside s i o.partial.info_idx o.tally j words₁ cells₁
  mark_beside j h v =
      let w = a.went v.records v.stands in
      let e = blocks_of_same words words₁ words words s.pieces s.blocks w.words_kept.total_size w.words_kept.piece_size i in
      record {
        records = edited live (Insert o.partial) v.records;
        works = w.works;
        held = a.held v.records v.stands;
        block = omega (arith, e, h);
      }

  pub mark_draws : VacantBeside s i live rows words cells → o.used ≤ used + 2
  unfolding drawing
  mark_draws v =
      let e = ap (λ (w : Drawing). w.used) (a.went v.records v.stands).is in
      omega (arith, e, opened_draws draws i q affinity (drawing used (decode v.records words cells)))

  pub mark_done : (j : ℕ) (x : BlockInfo) (words₂ cells₂ : List ℕ) (r : Marked)
      → FirstMarked s draws i o j x words₁ cells₁ words₂ cells₂ r
      → OpeningMarked s draws i q affinity j x live rows words cells used words₂ cells₂ r
  unfolding mark_opening drawing
  mark_done j x words₂ cells₂ r m = record {
    answer = λ records v.
        let w = a.went records v in
        ap (λ (u : Drawing). (mark_first draws i (partial_of u.picker i) j (block_of x) u).answer) (sym w.is)
        ∙ m.answer (edited live (Insert o.partial) records) w.works (a.held records v);
    went = λ records v.
        let w = a.went records v in
        let f : Drawing → Drawing = λ u. (mark_first draws i (partial_of u.picker i) j (block_of x) u).after in
        let held = edited live (Insert o.partial) records in
        rw m.partial (went_named s records words cells used held words₂ cells₂ r.used (λ u. f (opened draws i q affinity u))
        (λ u. (mark_opening draws i q affinity j (block_of x) u).after) refl
        (went_then s records words cells used held words₁ cells₁ o.used (opened draws i q affinity) f w held words₂ cells₂ r.used
        (m.went held w.works (a.held records v))));
  }
