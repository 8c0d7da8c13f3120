-- A block stored at the place of a live record: the model's own change of the partial of that record's piece. Assumes nothing.
use mathlib.Core.Path.{◌≡◌, refl, sym, ap, ◌∙◌}
use mathlib.Core.Bool.{true}
use mathlib.Core.Option.{some}
use mathlib.Core.List.{List, [], ◌∷◌}
use Prim.Native.Nat.{ℕ, zero, suc, ◌≤◌, ◌<◌}
use native.Mathlib.Nat.{le_of_suc-le-suc, not-suc-le-zero}
use native.Mathlib.Omega.{arith}
use borrow.Author.Tests.{eq-eqb, ne_eqb}
use Rattle.model.specs.Lists.{nth, len, set_nth, each}
use Rattle.model.specs.State.{DownloadingPiece, Picker, with_blocks, with_partials}
use Rattle.model.specs.pick.Pick.{no_partial}
use Rattle.model.specs.change.Partials.{partial_of, replace_in, replace_partial, replace_block}
use Rattle.model.specs.image.Sound.{partials_from}
use Rattle.model.proofs.sound.PartialLaws.{from_head, from_tail}
use Rattle.memory_records.specs.declared.record.DownloadingPiece.{DownloadingPiece as Record}
use Rattle.memory_layout.specs.declared.shape.Shape.{Shape}
use Rattle.memory_layout.specs.Decode.{head_word, record_at, decode}
use Rattle.memory_layout.specs.Changes.{partial_in, with_partial, with_block}
use Rattle.memory_layout.specs.Bounds.{InBounds}
use Rattle.memory_layout.specs.Stores.{Became}
use Rattle.memory_layout.proofs.Meanings.{partials_number}
use Rattle.memory_layout.proofs.BoundsLaws.{became_named}
use Rattle.memory_blocks.specs.declared.info.BlockInfo.{BlockInfo}
use Rattle.memory_blocks.specs.Blocks.{block_of, BlockStored}
use Rattle.memory_partials.proofs.RisingLaws.{live_found}

-- ---- where the partials rise, a change by place is one by piece
-- a piece below all of them is none's
put_lower : (d : DownloadingPiece) (ds : List DownloadingPiece) (low : ℕ) → d.piece < low → partials_from low ds ≡ true
    → replace_in d ds ≡ ds
unfolding replace_in each
put_lower d [] low h r = refl
put_lower d (x ∷ xs) low h r =
    let a = from_head low x xs r in
    rw (ne_eqb x.piece d.piece (λ e. omega arith))
    (ap (λ (l : List DownloadingPiece). x ∷ l) (put_lower d xs (suc x.piece) (omega arith) (from_tail low x xs r)))

above : (low : ℕ) (ds : List DownloadingPiece) (k : ℕ) → k < len ds → partials_from low ds ≡ true → low ≤ (nth no_partial ds k).piece
unfolding nth len
above low [] k h r = absurd (not-suc-le-zero h)
above low (x ∷ xs) zero h r = from_head low x xs r
above low (x ∷ xs) (suc k) h r =
    omega (arith, from_head low x xs r, above (suc x.piece) xs k (le_of_suc-le-suc h) (from_tail low x xs r))

put_at : (low : ℕ) (ds : List DownloadingPiece) (k : ℕ) (d : DownloadingPiece) → k < len ds → d.piece ≡ (nth no_partial ds k).piece
    → partials_from low ds ≡ true → set_nth k d ds ≡ replace_in d ds
unfolding set_nth replace_in each nth len
put_at low [] k d h e r = absurd (not-suc-le-zero h)
put_at low (x ∷ xs) zero d h e r =
    rw (eq-eqb x.piece d.piece (sym e))
    (ap (λ (l : List DownloadingPiece). d ∷ l) (sym (put_lower d xs (suc x.piece) (omega arith) (from_tail low x xs r))))
put_at low (x ∷ xs) (suc k) d h e r =
    let g = from_tail low x xs r in
    rw (ne_eqb x.piece d.piece (λ q. omega (arith, above (suc x.piece) xs k (le_of_suc-le-suc h) g)))
    (ap (λ (l : List DownloadingPiece). x ∷ l) (put_at (suc x.piece) xs k d (le_of_suc-le-suc h) e g))

pub with_is_replaced : (d : Picker) (k : ℕ) → k < len d.partials → partials_from 0 d.partials ≡ true
    → (f : DownloadingPiece → DownloadingPiece) → (f (partial_in d k)).piece ≡ (partial_in d k).piece
    → with_partial k f d ≡ replace_partial (f (partial_in d k)) d
unfolding with_partial replace_partial partial_in
with_is_replaced d k h r f e =
    ap (λ (ds : List DownloadingPiece). with_partials ds d) (put_at 0 d.partials k (f (nth no_partial d.partials k)) h e r)

-- ---- a live record
-- record k is live, of piece i, and has place p
pub record Standing (records : List Record) (words : List ℕ) (i p k : ℕ) : Type 0 where
  pub low : k < head_word words 7
  pub index : (record_at records k).index ≡ i
  pub place : (record_at records k).info_idx ≡ p

module _ (s : Shape) (records : List Record) (words cells : List ℕ) (i p k : ℕ) (t : Standing records words i p k)
    (r : InBounds s records words cells) (rising : partials_from 0 (decode records words cells).partials ≡ true) where
  -- its partial is the one of the piece
  pub standing_found : partial_of (decode records words cells) i ≡ some (partial_in (decode records words cells) k)
  standing_found =
      ap (partial_of (decode records words cells)) (sym t.index) ∙ live_found s records words cells r rising k t.low

  -- a block stored at its place is a block of that partial replaced
  pub block_replaced : (words' cells' : List ℕ) (j : ℕ) (x : BlockInfo) → BlockStored s words cells words' cells' p j x
      → Became s (λ d. replace_block (partial_in d k) j (block_of x) d) records words cells words' cells'
  unfolding replace_block with_block with_blocks
  block_replaced words' cells' j x b =
      became_named s (with_partial k (with_block j (block_of x))) (λ d. replace_block (partial_in d k) j (block_of x) d) records words cells
      words' cells'
      (with_is_replaced (decode records words cells) k (omega (arith, t.low, partials_number s records words cells r)) rising
      (with_block j (block_of x)) refl)
      (b.live records k r t.low t.place)
