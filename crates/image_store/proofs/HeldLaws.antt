-- The partials that rows, words and cells hold: the same where their numbers are the same, and those of a partial that was stored.
-- Assumes nothing.
use mathlib.Core.Path.{◌≡◌, sym, ap, ap₂, ◌∙◌, subst}
use mathlib.Core.List.{List, [], ◌∷◌, ◌++◌}
use Prim.Native.Nat.{ℕ, suc, ◌+◌, ◌/◌, ◌≤◌, ◌<◌}
use native.Mathlib.Omega.{arith}
use Rattle.model.specs.Bep3.{piece_blocks, bit_of}
use Rattle.model.specs.State.{Block}
use Rattle.model.specs.image.Image.{all_flags, peer_of, block_of, partial_with}
use Rattle.memory_records.specs.declared.record.DownloadingPiece.{DownloadingPiece as Record}
use Rattle.memory_records.specs.Rows.{row_at}
use Rattle.memory_layout.specs.declared.shape.Shape.{Shape}
use Rattle.memory_layout.specs.Tables.{tabulate}
use Rattle.memory_layout.specs.Decode.{head_word, peer_word, block_cell, blocks_of, state_from, yes?, peer_from, block_from, block_held, blocks_held}
use Rattle.memory_layout.specs.Decode.{partial_from, partial_held}
use Rattle.memory_layout.specs.Bounds.{PlainBlock, PlainRecord}
use Rattle.memory_layout.proofs.TableLaws.{tabulate_ext, tabulate_more}
use Rattle.image_columns.specs.Columns.{block_in, flags_at, BlocksStored}
use Rattle.image_store.specs.Storing.{rows_held}
use Rattle.image_store.proofs.FoundLaws.{BlockTold}

-- ---- the same numbers, the same partials
-- the geometry, and the blocks at place p
pub record SameAt (n b p : ℕ) (words cells words' cells' : List ℕ) : Type 0 where
  pub total_size : head_word words' 0 ≡ head_word words 0
  pub piece_size : head_word words' 1 ≡ head_word words 1
  pub cells_same : (f j : ℕ) → f < 3 → j < b → block_cell cells' n b f p j ≡ block_cell cells n b f p j
  pub peers_same : (j : ℕ) → j < b → peer_word words' n b p j ≡ peer_word words n b p j

module _ (n b p : ℕ) (words cells words' cells' : List ℕ) (h : SameAt n b p words cells words' cells') where
  pub blocks_same : (i : ℕ) → blocks_of words' i ≡ blocks_of words i
  unfolding blocks_of
  blocks_same i = ap₂ (λ (t z : ℕ). piece_blocks t z i) h.total_size h.piece_size

  block_same : (j : ℕ) → j < b → block_held words' cells' n b p j ≡ block_held words cells n b p j
  unfolding block_held
  block_same j l = λ k.
      block_from (h.cells_same 0 j (omega arith) l k) (h.cells_same 1 j (omega arith) l k) (h.cells_same 2 j (omega arith) l k)
      (h.peers_same j l k)

  module _ (r : Record) (e : r.info_idx ≡ p) (few : blocks_of words r.index ≤ b) where
    pub partial_same : partial_held words' cells' n b r ≡ partial_held words cells n b r
    unfolding partial_held blocks_held
    partial_same =
        ap (λ (bs : List Block). partial_from r.index r.flags bs)
        (ap (λ (q : ℕ). tabulate (blocks_of words' r.index) (block_held words' cells' n b q)) e
        ∙ ap (λ (m : ℕ). tabulate m (block_held words' cells' n b p)) (blocks_same r.index)
        ∙ tabulate_ext (blocks_of words r.index) (block_held words' cells' n b p) (block_held words cells n b p)
        (λ j l. block_same j (omega arith))
        ∙ ap (λ (q : ℕ). tabulate (blocks_of words r.index) (block_held words cells n b q)) (sym e))

    pub plain_same : PlainRecord n b words cells r → PlainRecord n b words' cells' r
    plain_same q = record {
      flags = q.flags;
      blocks = λ j l.
          let m : j < blocks_of words r.index = omega (arith, blocks_same r.index) in
          subst (λ (x : ℕ). PlainBlock n b cells' x j) (sym e) (record {
            state = omega (
              arith,
              h.cells_same 0 j (omega arith)
                  (omega arith),
              (subst (λ (x : ℕ). PlainBlock n b cells x j) e (q.blocks j m)).state,
            );
            has = omega (
              arith,
              h.cells_same 2 j (omega arith)
                  (omega arith),
              (subst (λ (x : ℕ). PlainBlock n b cells x j) e (q.blocks j m)).has,
            );
          });
    }

-- ---- a partial that was stored
module _ (s : Shape) (k i at many : ℕ) (bytes words cells words' cells' : List ℕ)
    (b : BlocksStored s k (at + 6) many bytes words cells words' cells') (em : blocks_of words' i ≡ many) where
  abbrev row : Record
  row = record { index = i; info_idx = k; flags = flags_at at bytes }

  stored_block : (j : ℕ) → j < many → block_held words' cells' s.pieces s.blocks k j ≡ block_in (at + 6) bytes j
  unfolding block_held block_from block_in block_of state_from peer_from peer_of yes?
  stored_block j l = λ t.
      block_from (b.states j l t) (b.num_peers j l t) (b.has j l t) (b.peers j l t)

  flags_are : (flags : ℕ) (bs : List Block) → partial_from i flags bs ≡ partial_with i flags bs
  unfolding partial_from partial_with bit_of
  flags_are flags bs =
      let e : flags / 1 ≡ flags = omega arith in
      rw e

  pub stored_partial : partial_held words' cells' s.pieces s.blocks row
      ≡ partial_with i (flags_at at bytes) (tabulate many (block_in (at + 6) bytes))
  unfolding partial_held blocks_held
  stored_partial =
      flags_are (flags_at at bytes) (tabulate (blocks_of words' i) (block_held words' cells' s.pieces s.blocks k))
      ∙ ap (partial_with i (flags_at at bytes))
      (ap (λ (m : ℕ). tabulate m (block_held words' cells' s.pieces s.blocks k)) em
      ∙ tabulate_ext many (block_held words' cells' s.pieces s.blocks k) (block_in (at + 6) bytes) stored_block)

  pub stored_plain : flags_at at bytes ≤ all_flags → ((j : ℕ) → j < many → BlockTold (at + 6) bytes j)
      → PlainRecord s.pieces s.blocks words' cells' row
  stored_plain f t = record {
    flags = f;
    blocks = λ j l.
        let m : j < many = omega (arith, em) in
        record {
          state = omega (arith, b.states j m, (t j m).state);
          has = omega (arith, b.has j m, (t j m).has);
        };
  }

-- ---- the rows
pub rows_same : (s : Shape) (k : ℕ) (rows words cells rows' words' cells' : List ℕ)
    → ((j : ℕ) → j < k → partial_held words' cells' s.pieces s.blocks (row_at rows' j)
    ≡ partial_held words cells s.pieces s.blocks (row_at rows j)) → rows_held s k rows' words' cells' ≡ rows_held s k rows words cells
unfolding rows_held
rows_same s k rows words cells rows' words' cells' h =
    tabulate_ext k (λ j. partial_held words' cells' s.pieces s.blocks (row_at rows' j))
    (λ j. partial_held words cells s.pieces s.blocks (row_at rows j)) h

pub rows_more : (s : Shape) (k : ℕ) (rows words cells : List ℕ)
    → rows_held s (k + 1) rows words cells
    ≡ rows_held s k rows words cells ++ (partial_held words cells s.pieces s.blocks (row_at rows k) ∷ [])
unfolding rows_held
rows_more s k rows words cells =
    let e : k + 1 ≡ suc k = omega arith in
    ap (λ (m : ℕ). tabulate m (λ j. partial_held words cells s.pieces s.blocks (row_at rows j))) e
    ∙ tabulate_more k (λ j. partial_held words cells s.pieces s.blocks (row_at rows j))
