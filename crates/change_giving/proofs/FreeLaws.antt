-- A block made free: the partial closed, or the block replaced. Assumes nothing.
use mathlib.Core.Path.{◌≡◌, refl, sym, ap, ◌∙◌, subst}
use mathlib.Core.Bool.{true, false, not, ◌&&◌}
use mathlib.Core.List.{List}
use Prim.Native.Nat.{ℕ}
use native.Mathlib.Omega.{arith}
use lib.Dec.{eqb}
use Rattle.model.specs.list.Order.{Draws}
use Rattle.model.specs.change.Partials.{progress, erase_and_update}
use Rattle.model.specs.change.Changes.{set_block, free_block}
use Rattle.memory_records.specs.declared.record.DownloadingPiece.{DownloadingPiece as Record}
use Rattle.memory_records.specs.declared.edits.Edit.{Edit}
use Rattle.memory_records.specs.declared.edits.Edit.TheVariants.{Keep, Remove}
use Rattle.memory_records.specs.Records.{edited}
use Rattle.memory_layout.specs.declared.shape.Shape.{Shape}
use Rattle.memory_layout.specs.Decode.{head_word, decode}
use Rattle.memory_layout.specs.Changes.{partial_in}
use Rattle.memory_blocks.specs.declared.info.BlockInfo.{BlockInfo}
use Rattle.memory_blocks.specs.Blocks.{block_of, BlockRead}
use Rattle.memory_partials.proofs.MarkLaws.{standing_found}
use Rattle.change_steps.specs.Working.{Went}
use Rattle.change_steps.proofs.WorkLaws.{went_named}
use Rattle.change_state.specs.declared.states.Tally.{Tally}
use Rattle.change_blocks.specs.Replacing.{Retallied, TallyAt, TallyBeside, BlockSet}
use Rattle.change_blocks.proofs.StandingLaws.{set_there}
use Rattle.change_closing.specs.Closing.{HasPartial, PartialBeside, ErasedAndUpdated}
use Rattle.change_returns.specs.Giving.{closing}

-- the definition's `free_block` of block j, which becomes x, with whichever records stand beside, once their one edit is made
pub record BlockFreed (s : Shape) (draws : Draws) (i p j : ℕ) (x : BlockInfo) (t : Tally) (words cells words' cells' : List ℕ) (edit : Edit)
    (next : ℕ) : Type 0 where
  pub edits : edit ≡ closing i (eqb t.busy 1 && not t.hashing)
  pub went : (records : List Record) (k : ℕ) → TallyAt s records words cells i p j t k
      → Went s (free_block draws i (partial_in (decode records words cells) k) j (block_of x)) records words cells 0
      (edited (head_word words 7) edit records) words' cells' next

module _ (s : Shape) (words cells : List ℕ) (i p j : ℕ) (t : Tally) where
  -- the piece has a partial
  has : (records : List Record) (k : ℕ) → TallyAt s records words cells i p j t k → HasPartial s i records words cells
  has records k b =
      let a = b.stands in
      record {
        works = a.works;
        rising = a.rising;
        partial = partial_in (decode records words cells) k;
        found = standing_found s records words cells i p k (record { low = a.low; index = a.index; place = a.place })
            a.works.bounds a.rising;
      }

  -- what closing it asks
  pub close_asks : TallyBeside s words cells i p j t → PartialBeside s i words cells
  close_asks b = record { records = b.records; has = has b.records b.k b.there }

  -- the code's test is the definition's
  test_is : (records : List Record) (k : ℕ) → TallyAt s records words cells i p j t k
      → (eqb t.busy 1 && not t.hashing)
      ≡ (eqb (progress (partial_in (decode records words cells) k)) 1 && not (partial_in (decode records words cells) k).hashing)
  test_is records k b = rw (b.tally.busy, b.tally.hashing) refl

  module _ (x : BlockInfo) (draws : Draws) (words' cells' : List ℕ) (next : ℕ) where
    -- closed
    pub freed_closed : (edit : Edit) → edit ≡ Remove i → true ≡ (eqb t.busy 1 && not t.hashing)
        → ErasedAndUpdated s draws i words cells 0 words' cells' next
        → BlockFreed s draws i p j x t words cells words' cells' edit next
    unfolding free_block
    freed_closed edit e o g = record {
      edits = e ∙ ap (closing i) o;
      went = λ records k b.
          let d = decode records words cells in
          subst (λ (m : Edit). Went s (free_block draws i (partial_in d k) j (block_of x)) records words cells 0
          (edited (head_word words 7) m records) words' cells' next) (sym e)
          (went_named s records words cells 0 (edited (head_word words 7) (Remove i) records) words' cells' next (erase_and_update draws i)
          (free_block draws i (partial_in d k) j (block_of x)) (rw (← test_is records k b, ← o)) (g.went records (has records k b)));
    }

    -- replaced, where the block read was y
    pub freed_kept : (y : BlockInfo) → BlockRead s words cells p j y → (old : ℕ) → y.state ≡ old → (after : Tally)
        → Retallied t old 0 after → x.state ≡ 0 → false ≡ (eqb t.busy 1 && not t.hashing)
        → BlockSet s draws i p j x after words cells 0 words' cells' next
        → BlockFreed s draws i p j x t words cells words' cells' Keep next
    unfolding free_block
    freed_kept y r old e after c z o g = record {
      edits = ap (closing i) o;
      went = λ records k b.
          let d = decode records words cells in
          went_named s records words cells 0 records words' cells' next (set_block draws i (partial_in d k) j (block_of x))
          (free_block draws i (partial_in d k) j (block_of x)) (rw (← test_is records k b, ← o))
          (set_there s words cells i p j t y r draws 0 0 (omega arith) after (subst (λ (n : ℕ). Retallied t n 0 after) (sym e) c) x z
          words' cells' next g records k b);
    }
