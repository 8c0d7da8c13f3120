-- Steps of a change: none, one after the other, under another name. Assumes nothing.
use mathlib.Core.Path.{◌≡◌, sym, ap, ◌∙◌}
use mathlib.Core.List.{List}
use Prim.Native.Nat.{ℕ}
use Rattle.model.specs.list.Order.{Drawing, drawing}
use Rattle.memory_records.specs.declared.record.DownloadingPiece.{DownloadingPiece as Record}
use Rattle.memory_layout.specs.declared.shape.Shape.{Shape}
use Rattle.memory_layout.specs.Decode.{decode}
use Rattle.memory_layout.proofs.BoundsLaws.{words_kept_none, words_kept_again, cells_kept_none, cells_kept_again}
use Rattle.change_steps.specs.Working.{Works, Went}

module _ (s : Shape) (records : List Record) (words cells : List ℕ) (used : ℕ) where
  -- nothing moved, and the step leaves the picker
  pub went_nowhere : (step : Drawing → Drawing) → Works s records words cells
      → step (drawing used (decode records words cells)) ≡ drawing used (decode records words cells)
      → Went s step records words cells used records words cells used
  went_nowhere step w e =
      record { is = sym e; works = w; words_kept = words_kept_none s words; cells_kept = cells_kept_none s cells }

  module _ (records' : List Record) (words' cells' : List ℕ) (next : ℕ) where
    -- the step under another name
    pub went_named : (step other : Drawing → Drawing)
        → step (drawing used (decode records words cells)) ≡ other (drawing used (decode records words cells))
        → Went s step records words cells used records' words' cells' next
        → Went s other records words cells used records' words' cells' next
    went_named step other e w =
        record { is = w.is ∙ e; works = w.works; words_kept = w.words_kept; cells_kept = w.cells_kept }

    -- one more step behind it
    pub went_then : (step other : Drawing → Drawing) → Went s step records words cells used records' words' cells' next
        → (records'' : List Record) (words'' cells'' : List ℕ) (last : ℕ)
        → Went s other records' words' cells' next records'' words'' cells'' last
        → Went s (λ w. other (step w)) records words cells used records'' words'' cells'' last
    went_then step other a records'' words'' cells'' last b =
        record {
          is = b.is ∙ ap other a.is;
          works = b.works;
          words_kept = words_kept_again s words words' words'' a.words_kept b.words_kept;
          cells_kept = cells_kept_again s cells cells' cells'' a.cells_kept b.cells_kept;
        }
