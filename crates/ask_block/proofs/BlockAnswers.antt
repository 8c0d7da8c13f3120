-- The block that is asked about, and what its questions answer of it. Assumes nothing.
use Rattle.std.specs.Prelude.{None, Some}
use mathlib.Core.Path.{◌≡◌, refl, sym, ap, ◌∙◌}
use mathlib.Core.Bool.{Bool, true, false, cond, ◌||◌}
use mathlib.Core.List.{List, [], ◌∷◌}
use mathlib.Core.Option.{Option, none, some}
use Prim.Native.Nat.{ℕ, ◌<◌}
use native.Mathlib.Omega.{arith}
use lib.Dec.{eqb}
use borrow.Author.Tests.{eq-eqb, ne_eqb}
use Rattle.types.specs.declared.block.BlockState.TheVariants.{Finished}
use Rattle.types.specs.Block.{block_state_number}
use Rattle.model.specs.State.{Picker, Block, DownloadingPiece, piece_at, same_block_state}
use Rattle.model.specs.change.Partials.{partial_of}
use Rattle.model.specs.change.Changes.{received}
use Rattle.model.specs.ask.Questions.{OfBlock, reply, reply_block, of_block, block_in, block_test, downloader_of, numbers, flag}
use Rattle.model.specs.ask.Questions.{is_downloaded, is_finished_block, get_downloader}
use Rattle.memory_records.specs.declared.record.DownloadingPiece.{DownloadingPiece as Record}
use Rattle.memory_records.specs.Rows.{row_at, records_in}
use Rattle.ask_picker.proofs.RecordRows.{record_row}
use Rattle.memory_layout.specs.declared.shape.Shape.{Shape}
use Rattle.memory_layout.specs.Decode.{record_at, blocks_of}
use Rattle.memory_layout.proofs.BoundsLaws.{blocks_within}
use Rattle.memory_blocks.specs.declared.info.BlockInfo.{BlockInfo}
use Rattle.memory_blocks.specs.Blocks.{block_of, BlockRead}
use Rattle.memory_rows.specs.Lookup.{picker_in, FoundIn}
use Rattle.ask_picker.specs.Asked.{Asked}
use Rattle.ask_picker.proofs.AskedLaws.{asked_rows}
use Rattle.ask_block.specs.Blocks.{BlockTold, peer_reply, peer_found}

-- ---- the block
module _ (s : Shape) (live : ℕ) (rows words cells : List ℕ) (g : Asked s live rows words cells) (i j : ℕ) where
  abbrev here : Picker
  here = picker_in live rows words cells

  -- no partial stands
  pub block_missing : FoundIn live rows i None → block_in (partial_of here i) j ≡ none
  unfolding block_in
  block_missing f =
      ap (λ (found : Option DownloadingPiece). block_in found j) (f.is s words cells (asked_rows s live rows words cells g))

  module _ (k : ℕ) (f : FoundIn live rows i (Some k)) where
    -- the block is there
    pub block_there : j < blocks_of words i → j < s.blocks
    block_there l = omega (arith, blocks_within s (records_in live rows) words cells g.stands.bounds i)

    -- what is read there
    pub block_told : j < blocks_of words i → (p : ℕ) (x : BlockInfo) → p ≡ (row_at rows k).info_idx → BlockRead s words cells p j x
        → BlockTold (block_in (partial_of here i) j) (Some x)
    unfolding block_in
    block_told l p x e b =
        let h = f.row.0 in
        let m = g.many in
        let n : (record_at (records_in live rows) k).index ≡ i =
        ap (λ (r : Record). r.index) (record_row live rows k f.row.0) ∙ f.row.1 in
        let y = b.live (records_in live rows) k g.stands.bounds (record {
          low = omega arith;
          place = ap (λ (r : Record). r.info_idx) (record_row live rows k f.row.0) ∙ sym e;
          block = rw n l;
        }) in (
          ap (λ (found : Option DownloadingPiece). block_in found j) (f.is s words cells (asked_rows s live rows words cells g)).1
              ∙ ap some (sym y.is),
          y.state ∙ ap (λ (z : Block). block_state_number z.state) (sym y.is),
        )

-- ---- the answers
module _ (d : Picker) (i j : ℕ) where
  abbrev found : Option Block
  found = block_in (partial_of d i) j

  -- what is answered of a block that is known, or known not to be there
  pub asked_of : (q : OfBlock) (x : Option Block) → found ≡ x → reply_block d i x q ≡ reply d (of_block q i j)
  unfolding reply
  asked_of q x e = ap (λ (y : Option Block). reply_block d i y q) (sym e)

  -- a flushed piece
  pub downloaded_flushed : true ≡ (piece_at d i).flushed → flag true ≡ reply d (of_block is_downloaded i j)
  unfolding reply reply_block
  downloaded_flushed e = ap (λ (t : Bool). flag (t || block_test received found)) e

  pub finished_flushed : true ≡ (piece_at d i).flushed → flag true ≡ reply d (of_block is_finished_block i j)
  unfolding reply reply_block
  finished_flushed e = ap (λ (t : Bool). flag (t || block_test (λ x. same_block_state x.state Finished) found)) e

  -- one that is not
  pub downloaded_open : false ≡ (piece_at d i).flushed → (t : Bool) → t ≡ block_test received found
      → flag t ≡ reply d (of_block is_downloaded i j)
  unfolding reply reply_block
  downloaded_open e t h = ap flag h ∙ ap (λ (u : Bool). flag (u || block_test received found)) e

  pub finished_open : false ≡ (piece_at d i).flushed → (t : Bool) → t ≡ block_test (λ x. same_block_state x.state Finished) found
      → flag t ≡ reply d (of_block is_finished_block i j)
  unfolding reply reply_block
  finished_open e t h = ap flag h ∙ ap (λ (u : Bool). flag (u || block_test (λ x. same_block_state x.state Finished) found)) e

  -- the peer of a free block is not told
  pub downloader_free : (x : BlockInfo) → found ≡ some (block_of x) → x.state ≡ block_state_number (block_of x).state → x.state ≡ 0
      → numbers (none ∷ []) ≡ reply d (of_block get_downloader i j)
  unfolding reply_block downloader_of same_block_state
  downloader_free x e t z =
      let u : eqb (block_state_number (block_of x).state) 0 ≡ true = eq-eqb _ 0 (sym t ∙ z) in
      ap (λ (v : Bool). numbers (cond v none (block_of x).peer ∷ [])) (sym u) ∙ asked_of get_downloader (some (block_of x)) e

  -- that of any other is
  pub downloader_busy : (x : BlockInfo) → found ≡ some (block_of x) → x.state ≡ block_state_number (block_of x).state → (x.state ≡ 0 → ⊥)
      → numbers ((block_of x).peer ∷ []) ≡ reply d (of_block get_downloader i j)
  unfolding reply_block downloader_of same_block_state
  downloader_busy x e t z =
      let u : eqb (block_state_number (block_of x).state) 0 ≡ false = ne_eqb _ 0 (λ w. z (t ∙ w)) in
      ap (λ (v : Bool). numbers (cond v none (block_of x).peer ∷ [])) (sym u) ∙ asked_of get_downloader (some (block_of x)) e

-- a peer as an answer
pub peer_reply_lem : (peer : Option ℕ) → peer_reply (peer_found peer) ≡ numbers (peer ∷ [])
unfolding peer_reply peer_found
peer_reply_lem none = refl
peer_reply_lem (some p) = refl
