-- A block stored at the place of a standing partial, then the piece's state made that of its blocks. Assumes nothing.
use mathlib.Core.Path.{◌≡◌, refl, ap, ◌∙◌}
use mathlib.Core.Option.{some}
use mathlib.Core.List.{List}
use Prim.Native.Nat.{ℕ, ◌<◌}
use native.Mathlib.Omega.{arith}
use Rattle.model.specs.Lists.{set_nth}
use Rattle.model.specs.State.{Picker, DownloadingPiece, with_blocks, with_partials}
use Rattle.model.specs.list.Order.{Draws, Drawing, drawing, no_draw}
use Rattle.model.specs.change.Partials.{partial_of, replace_partial, replace_block, update_piece_state}
use Rattle.model.specs.change.Changes.{set_block}
use Rattle.model.proofs.sound.PartialLaws.{find_dl_piece-piece, partial_of_put_same}
use Rattle.memory_records.specs.declared.record.DownloadingPiece.{DownloadingPiece as Record}
use Rattle.memory_layout.specs.declared.shape.Shape.{Shape}
use Rattle.memory_layout.specs.Decode.{decode}
use Rattle.memory_layout.specs.Changes.{partial_in}
use Rattle.memory_layout.proofs.BoundsLaws.{blocks_within}
use Rattle.memory_blocks.specs.declared.info.BlockInfo.{BlockInfo}
use Rattle.memory_blocks.specs.Blocks.{block_of, BlockStored}
use Rattle.memory_partials.proofs.MarkLaws.{Standing, standing_found, block_replaced}
use Rattle.change_steps.specs.Working.{WorksBeside, Went}
use Rattle.change_steps.proofs.WorkLaws.{went_then, went_named}
use Rattle.change_steps.proofs.BesideLaws.{SameList, beside_went}
use Rattle.change_state.specs.declared.states.Tally.{Tally}
use Rattle.change_state.specs.Numbers.{StateUpdated}
use Rattle.change_blocks.specs.Replacing.{with_block_at, PartialAt, PartialBeside, BlockSet}

-- a block replaced leaves the pieces, the seeds and the list
same_list : (p : DownloadingPiece) (j : ℕ) (x : BlockInfo) (d : Picker) → SameList d (replace_block p j (block_of x) d)
unfolding replace_block replace_partial with_partials
same_list p j x d = record { pieces = refl; seeds = refl; listing = refl }

-- the block has its place in the buffers
pub put_places : (s : Shape) (i p j : ℕ) (words cells : List ℕ) → PartialBeside s words cells i p j → (p < s.places) × (j < s.blocks)
put_places s i p j words cells b =
    let a = b.stands in
    let h = a.works.bounds.placed b.k a.low in
    (omega (arith, h, a.place), omega (arith, a.block, blocks_within s b.records words cells a.works.bounds i))

-- the picker that a step without a draw leads to
picker_of : (f : Picker → Picker) {s : Shape} {records records' : List Record} {words cells words' cells' : List ℕ} {used next : ℕ}
    → Went s (no_draw f) records words cells used records' words' cells' next
    → decode records' words' cells' ≡ f (decode records words cells)
unfolding no_draw drawing
picker_of f w = ap (λ (v : Drawing). v.picker) w.is

-- the partial is found again, with the block
found_again : (d : Picker) (q : DownloadingPiece) (j : ℕ) (x : BlockInfo) (i : ℕ) → partial_of d i ≡ some q
    → partial_of (replace_block q j (block_of x) d) i ≡ some (with_block_at j (block_of x) q)
unfolding replace_block with_block_at with_blocks
found_again d q j x i e =
    partial_of_put_same d i (with_blocks (set_nth j (block_of x) q.blocks) q) q (unfold partial_of in find_dl_piece-piece i d.partials q e) e

module _ (s : Shape) (i p j : ℕ) (x : BlockInfo) (words cells words' cells' : List ℕ)
    (b : BlockStored s words cells words' cells' p j x) where
  -- the block stored
  pub put_went : (records : List Record) (k : ℕ) → PartialAt s records words cells i p j k → (used : ℕ)
      → Went s (no_draw (λ d. replace_block (partial_in d k) j (block_of x) d)) records words cells used records words' cells' used
  put_went records k a used =
      let t : Standing records words i p k = record { low = a.low; index = a.index; place = a.place } in
      let m = block_replaced s records words cells i p k t a.works.bounds a.rising words' cells' j x b in
      beside_went s (λ d. replace_block (partial_in d k) j (block_of x) d) records words cells records words' cells' used a.works m.is
      (same_list (partial_in (decode records words cells) k) j x (decode records words cells)) m.bounds (m.plain a.works.plain)
      b.list b.put.words_kept b.put.cells_kept

  pub put_beside : PartialBeside s words cells i p j → WorksBeside s words' cells'
  put_beside a = record { records = a.records; works = (put_went a.records a.k a.stands 0).works }

  -- and the state made that of the blocks
  pub block_set : (draws : Draws) (t : Tally) (used : ℕ) (words'' cells'' : List ℕ) (next : ℕ)
      → StateUpdated s draws i t words' cells' used words'' cells'' next
      → BlockSet s draws i p j x t words cells used words'' cells'' next
  unfolding set_block no_draw drawing
  block_set draws t used words'' cells'' next u = record {
    went = λ records k a y.
        let d = decode records words cells in
        let w = put_went records k a used in
        let e : decode records words' cells' ≡ replace_block (partial_in d k) j (block_of x) d =
        picker_of (λ q. replace_block (partial_in q k) j (block_of x) q) w in
        let f = u.went records w.works (with_block_at j (block_of x) (partial_in d k))
        (ap (λ (q : Picker). partial_of q i) e ∙ found_again d (partial_in d k) j x i
        (standing_found s records words cells i p k (record { low = a.low; index = a.index; place = a.place }) a.works.bounds
        a.rising)) y in
        went_named s records words cells used records words'' cells'' next
        (λ v. update_piece_state draws i (no_draw (λ q. replace_block (partial_in q k) j (block_of x) q) v))
        (set_block draws i (partial_in d k) j (block_of x)) refl
        (went_then s records words cells used records words' cells' used (no_draw (λ q. replace_block (partial_in q k) j (block_of x) q))
        (update_piece_state draws i) w records words'' cells'' next f);
  }
