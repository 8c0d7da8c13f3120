-- A piece opened: its state, its extent where that is asked, its partial. Assumes nothing.
use mathlib.Core.Path.{◌≡◌, refl}
use mathlib.Core.Bool.{Bool, true, false}
use mathlib.Core.List.{List}
use Prim.Native.Nat.{ℕ, ◌+◌, ◌≤◌}
use Rattle.types.specs.declared.queue.DownloadQueue.{DownloadQueue}
use Rattle.model.specs.Lists.{when}
use Rattle.model.specs.State.{Picker, with_recent_extents}
use Rattle.model.specs.list.Order.{Draws, drawing, no_draw}
use Rattle.model.specs.change.Partials.{set_state, add_download_piece}
use Rattle.model.specs.change.Changes.{record_downloading_piece, opened}
use Rattle.model.proofs.base.Bep3Laws.{blocks_per_piece_pos}
use Rattle.model.proofs.keep.KeepExtents.{record_blind}
use Rattle.geometry.proofs.ValidLaws.{bounds}
use Rattle.memory_records.specs.declared.record.DownloadingPiece.{DownloadingPiece as Record}
use Rattle.memory_records.specs.declared.edits.Edit.TheVariants.{Insert}
use Rattle.memory_records.specs.Records.{edited}
use Rattle.memory_layout.specs.declared.shape.Shape.{Shape}
use Rattle.memory_layout.specs.Decode.{head_word, blocks_on, decode}
use Rattle.memory_layout.specs.Bounds.{InBounds}
use Rattle.memory_fields.specs.Storing.{StoredBeside}
use Rattle.change_steps.specs.Working.{WorksBeside, Went, Goes}
use Rattle.change_steps.proofs.WorkLaws.{went_nowhere, went_then, went_named}
use Rattle.change_steps.proofs.BesideLaws.{SameList, beside_went}
use Rattle.change_state.proofs.KeptLaws.{state_same}
use Rattle.change_adding.specs.declared.adding.Opening.{Opening}
use Rattle.change_adding.specs.Adding.{Vacant, VacantBeside, Added}
use Rattle.change_adding.proofs.AddLaws.{step_draws, vacant_still}
use Rattle.change_opening.specs.Opening.{Undrawn}
use Rattle.change_opening.proofs.StepLaws.{record_same}

-- ---- the extent
-- a piece has a block
pub some_blocks : (s : Shape) (records : List Record) (words cells : List ℕ) → InBounds s records words cells → 1 ≤ s.blocks
unfolding blocks_on
some_blocks s records words cells b =
    rw b.blocks (blocks_per_piece_pos (head_word words 1) (bounds (head_word words 0) (head_word words 1) b.geometry).some_size)

same_list : (i : ℕ) (d : Picker) → SameList d (record_downloading_piece i d)
unfolding with_recent_extents
same_list i d =
    record_blind (SameList d) (λ es t e. record { pieces = e.pieces; seeds = e.seeds; listing = e.listing }) i d
    (record { pieces = refl; seeds = refl; listing = refl })

module _ (s : Shape) (i : ℕ) (words cells : List ℕ) where
  pub extent_asked : (affinity : Bool) → affinity ≡ true → (words' : List ℕ) → StoredBeside s (record_downloading_piece i) cells words words'
      → Undrawn s (when affinity (no_draw (record_downloading_piece i))) words cells words' cells
  unfolding when
  extent_asked affinity e words' b = record {
    goes = λ used. record {
      went = λ records w.
          let a = b.became.became records w.bounds in
          went_named s records words cells used records words' cells used (no_draw (record_downloading_piece i))
          (when affinity (no_draw (record_downloading_piece i))) (rw e refl)
          (beside_went s (record_downloading_piece i) records words cells records words' cells used w a.is
          (same_list i (decode records words cells)) a.bounds (a.plain w.plain) b.list b.became.words_kept
          b.became.cells_kept);
    };
  }

  pub extent_left : (affinity : Bool) → affinity ≡ false
      → Undrawn s (when affinity (no_draw (record_downloading_piece i))) words cells words cells
  unfolding when
  extent_left affinity e = record {
    goes = λ used. record {
      went = λ records w.
          went_nowhere s records words cells used (when affinity (no_draw (record_downloading_piece i))) w (rw e refl);
    };
  }

-- ---- the whole
module _ (s : Shape) (draws : Draws) (i : ℕ) (q : DownloadQueue) (affinity : Bool) (live : ℕ) (rows words cells : List ℕ) (used : ℕ)
    (words₁ cells₁ : List ℕ) (next : ℕ) (g : Goes s (set_state draws i q) words cells used words₁ cells₁ next) where
  module _ (records : List Record) (v : Vacant s i live rows records words cells) where
    state_vacant : Vacant s i live rows records words₁ cells₁
    state_vacant =
        vacant_still s (set_state draws i q) records words cells used words₁ cells₁ next 1 (g.went records v.works)
        (state_same draws i q (drawing used (decode records words cells))) i live rows v

  -- what recording asks
  pub state_beside : VacantBeside s i live rows words cells → WorksBeside s words₁ cells₁
  state_beside v = record { records = v.records; works = (state_vacant v.records v.stands).works }

  pub state_draws : VacantBeside s i live rows words cells → next ≤ used + 1
  state_draws v =
      step_draws s (set_state draws i q) v.records words cells used words₁ cells₁ next 1 (g.went v.records v.stands.works)
      (state_same draws i q (drawing used (decode v.records words cells)))

  module _ (words₂ : List ℕ) (e : Undrawn s (when affinity (no_draw (record_downloading_piece i))) words₁ cells₁ words₂ cells₁) where
    module _ (records : List Record) (v : Vacant s i live rows records words cells) where
      extent_went : Went s (when affinity (no_draw (record_downloading_piece i))) records words₁ cells₁ next records words₂ cells₁ next
      extent_went = (e.goes next).went records (state_vacant records v).works

      extent_vacant : Vacant s i live rows records words₂ cells₁
      extent_vacant =
          vacant_still s (when affinity (no_draw (record_downloading_piece i))) records words₁ cells₁ next words₂ cells₁ next 0 extent_went
          (record_same i affinity (drawing next (decode records words₁ cells₁))) i live rows (state_vacant records v)

    -- what adding asks
    pub extent_beside : VacantBeside s i live rows words cells → VacantBeside s i live rows words₂ cells₁
    extent_beside v = record { records = v.records; stands = extent_vacant v.records v.stands }

    pub open_done : (words₃ cells₃ : List ℕ) (r : Opening)
        → Added s (add_download_piece draws i) i live rows words₂ cells₁ next words₃ cells₃ r
        → Added s (opened draws i q affinity) i live rows words cells used words₃ cells₃ r
    unfolding opened
    open_done words₃ cells₃ r a = record {
      went = λ records v.
          let f = when affinity (no_draw (record_downloading_piece i)) in
          went_named s records words cells used (edited live (Insert r.partial) records) words₃ cells₃ r.used
          (λ w. add_download_piece draws i (f (set_state draws i q w))) (opened draws i q affinity) refl
          (went_then s records words cells used records words₂ cells₁ next (λ w. f (set_state draws i q w)) (add_download_piece draws i)
          (went_then s records words cells used records words₁ cells₁ next (set_state draws i q) f (g.went records v.works) records
          words₂ cells₁ next (extent_went records v)) (edited live (Insert r.partial) records) words₃ cells₃ r.used
          (a.went records (extent_vacant records v)));
      held = λ records v. a.held records (extent_vacant records v);
    }
