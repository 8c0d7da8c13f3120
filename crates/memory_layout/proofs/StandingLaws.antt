-- From what becomes of the picker to the relation that every change cites. Assumes nothing.
use mathlib.Core.Path.{◌≡◌, sym, ap, subst, ◌∙◌}
use mathlib.Core.Bool.{true}
use mathlib.Core.List.{List}
use Prim.Native.Nat.{ℕ}
use native.Mathlib.Omega.{arith}
use Rattle.model.specs.State.{Picker}
use Rattle.model.specs.list.Order.{rank}
use Rattle.model.specs.image.WellFormed.{well_formed}
use Rattle.memory_records.specs.declared.record.DownloadingPiece.{DownloadingPiece as Record}
use Rattle.memory_layout.specs.declared.shape.Shape.{Shape}
use Rattle.memory_layout.specs.Decode.{decode}
use Rattle.memory_layout.specs.Bounds.{ShapeOf, WordsSpan, CellsSpan, InBounds, RanksHeld}
use Rattle.memory_layout.specs.Stores.{Became, WordsKept, CellsKept, ListKept, BothBecame}
use Rattle.memory_layout.specs.Standing.{Stands, Changed, ChangeMade}
use Rattle.memory_layout.proofs.BoundsLaws.{words_kept_again, cells_kept_again}
use Rattle.memory_layout.proofs.stores.ListFrames.{ranks_kept}

-- ---- what stands
-- the shape is the head's
pub stands_shape : (s : Shape) (records : List Record) (words cells : List ℕ) → InBounds s records words cells → ShapeOf s words
stands_shape s records words cells b = record { sizes = b.spans.in_words.sizes; pieces = b.pieces; blocks = b.blocks }

-- the words are as long after a store
pub words_span_kept : (s : Shape) (words words' : List ℕ) → WordsSpan s words → WordsKept s words words' → WordsSpan s words'
words_span_kept s words words' r k = record { sizes = r.sizes; long = omega (arith, r.long, k.long) }

-- the cells are
pub cells_span_kept : (s : Shape) (cells cells' : List ℕ) → CellsSpan s cells → CellsKept s cells cells' → CellsSpan s cells'
cells_span_kept s cells cells' r k = record { sizes = r.sizes; long = omega (arith, r.long, k.long) }

-- ---- ranks
-- ranks of another name
pub ranks_named : (n : ℕ) (words : List ℕ) (r r' : ℕ → ℕ) → ((i : ℕ) → r' i ≡ r i) → RanksHeld n words r → RanksHeld n words r'
ranks_named n words r r' e h k l = h k l ∙ sym (e _)

-- a list that is kept holds the ranks of a picker in which no piece has another rank
pub ranks_again : (s : Shape) (records : List Record) (words cells words' : List ℕ) (after : Picker) → Stands s records words cells
    → ListKept s words words' → ((i : ℕ) → rank after i ≡ rank (decode records words cells) i) → RanksHeld s.pieces words' (rank after)
ranks_again s records words cells words' after t l e =
    ranks_named s.pieces words' (rank (decode records words cells)) (rank after) e
    (ranks_kept s words words' (rank (decode records words cells)) l t.bounds.list t.ranks)

-- ---- changes
-- a change that leaves a well-formed picker leaves one that stands
pub changed_stands : (s : Shape) (after : Picker) (words cells : List ℕ) (records' : List Record) (words' cells' : List ℕ)
    → well_formed after ≡ true → Changed s after words cells records' words' cells' → Stands s records' words' cells'
changed_stands s after words cells records' words' cells' v c =
    record { bounds = c.bounds; plain = c.plain; ranks = c.ranks; sound = ap well_formed c.is ∙ v }

-- a change after another: the later picker, and both frames
pub changed_again : (s : Shape) (mid after : Picker) (words cells : List ℕ) (records₁ : List Record) (words₁ cells₁ : List ℕ)
    (records₂ : List Record) (words₂ cells₂ : List ℕ) → Changed s mid words cells records₁ words₁ cells₁
    → Changed s after words₁ cells₁ records₂ words₂ cells₂ → Changed s after words cells records₂ words₂ cells₂
changed_again s mid after words cells records₁ words₁ cells₁ records₂ words₂ cells₂ a b =
    record {
      is = b.is;
      bounds = b.bounds;
      plain = b.plain;
      ranks = b.ranks;
      words_kept = words_kept_again s words words₁ words₂ a.words_kept b.words_kept;
      cells_kept = cells_kept_again s cells cells₁ cells₂ a.cells_kept b.cells_kept;
    }

module _ (s : Shape) (change : Picker → Picker) where
  -- a picker that stood and became another one, with the ranks held
  pub became_changed : (records : List Record) (words cells words' cells' : List ℕ) → Stands s records words cells
      → Became s change records words cells words' cells' → WordsKept s words words' → CellsKept s cells cells'
      → RanksHeld s.pieces words' (rank (change (decode records words cells)))
      → Changed s (change (decode records words cells)) words cells records words' cells'
  became_changed records words cells words' cells' t b w c r =
      record {
        is = b.is;
        bounds = b.bounds;
        plain = b.plain t.plain;
        ranks = subst (λ (d : Picker). RanksHeld s.pieces words' (rank d)) (sym b.is) r;
        words_kept = w;
        cells_kept = c;
      }

  module _ (words words' cells cells' : List ℕ) where
    -- whichever records stand beside the buffers
    pub both_made : BothBecame s change words words' cells cells'
        → ((records : List Record) → Stands s records words cells
        → RanksHeld s.pieces words' (rank (change (decode records words cells))))
        → ChangeMade s change words words' cells cells'
    both_made b r = record {
      made = λ records t.
          became_changed records words cells words' cells' t (b.became records t.bounds) b.words_kept b.cells_kept (r records t);
    }

    -- another name for the change
    pub made_named : (other : Picker → Picker)
        → ((records : List Record) → Stands s records words cells
        → change (decode records words cells) ≡ other (decode records words cells))
        → ChangeMade s change words words' cells cells' → ChangeMade s other words words' cells cells'
    made_named other e m = record {
      made = λ records t.
          subst (λ (d : Picker). Changed s d words cells records words' cells') (e records t) (m.made records t);
    }
