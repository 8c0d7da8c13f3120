-- The picker's parts depend on the numbers of their regions alone. Assumes nothing.
use mathlib.Core.Path.{◌≡◌, refl, ap, ap₂, ◌∙◌}
use mathlib.Core.Bool.{Bool, true, false, cond}
use mathlib.Core.Option.{none, some}
use mathlib.Core.List.{List}
use Prim.Native.Nat.{ℕ, ◌+◌, ◌<◌}
use native.Mathlib.Omega.{arith}
use Rattle.model.specs.Bep3.{piece_blocks}
use Rattle.model.specs.State.{dirty, fresh}
use Rattle.list_entries.specs.Words.{listed_piece}
use Rattle.memory_records.specs.declared.record.DownloadingPiece.{DownloadingPiece as Record}
use Rattle.memory_layout.specs.Tables.{tabulate}
use Rattle.memory_layout.specs.Decode.{head_word, piece_word, peer_word, piece_cell, block_cell, record_at, blocks_of, queue_from, yes?}
use Rattle.memory_layout.specs.Decode.{peer_from}
use Rattle.memory_layout.specs.Decode.{piece_held, block_from, block_held, blocks_held, partial_from, partial_held, pieces_held}
use Rattle.memory_layout.specs.Decode.{partials_held, extents_held, list_held, listing_held, state_from}
use Rattle.memory_layout.proofs.TableLaws.{tabulate_ext}

module _ (words words' cells cells' : List ℕ) (n : ℕ) where
  -- ---- pieces
  pub piece_same : (i : ℕ) → ((f : ℕ) → f < 4 → piece_cell cells' n f i ≡ piece_cell cells n f i)
      → piece_word words' n 0 i ≡ piece_word words n 0 i
      → piece_held words' cells' n i ≡ piece_held words cells n i
  unfolding piece_held
  piece_same i h e = λ k. record {
    peer_count = h 0 (omega arith) k;
    state = queue_from (h 1 (omega arith) k);
    priority = h 2 (omega arith) k;
    flushed = yes? (h 3 (omega arith) k);
    pad_bytes = e k;
  }

  -- all of them
  pub pieces_same : ((f i : ℕ) → f < 4 → i < n → piece_cell cells' n f i ≡ piece_cell cells n f i)
      → ((i : ℕ) → i < n → piece_word words' n 0 i ≡ piece_word words n 0 i)
      → pieces_held words' cells' n ≡ pieces_held words cells n
  unfolding pieces_held
  pieces_same h e =
      tabulate_ext n (piece_held words' cells' n) (piece_held words cells n) (λ i l. piece_same i (λ f m. h f i m l) (e i l))

  module _ (b : ℕ) where
    -- ---- blocks: the peer counts where has-peer is 1
    pub block_same : (p j : ℕ) → ((f : ℕ) → f < 3 → block_cell cells' n b f p j ≡ block_cell cells n b f p j)
        → (yes? (block_cell cells n b 2 p j) ≡ true → peer_word words' n b p j ≡ peer_word words n b p j)
        → block_held words' cells' n b p j ≡ block_held words cells n b p j
    unfolding block_held block_from peer_from
    block_same p j h e =
        (λ k. block_from (h 0 (omega arith) k) (h 1 (omega arith) k) (h 2 (omega arith) k) (peer_word words' n b p j))
        ∙ (λ k. record {
          state = state_from (block_cell cells n b 0 p j);
          num_peers = block_cell cells n b 1 p j;
          peer =
              go (yes? (block_cell cells n b 2 p j)) e k;
        })
      where
        go : (t : Bool) → (t ≡ true → peer_word words' n b p j ≡ peer_word words n b p j) → cond t (some (peer_word words' n b p j)) none
            ≡ cond t (some (peer_word words n b p j)) none
        go true q = ap some (q refl)
        go false q = refl

    -- ---- partials
    module _ (t : head_word words' 0 ≡ head_word words 0) (z : head_word words' 1 ≡ head_word words 1) where
      -- as many blocks
      pub blocks_of_same : (i : ℕ) → blocks_of words' i ≡ blocks_of words i
      unfolding blocks_of
      blocks_of_same i = ap₂ (λ (a c : ℕ). piece_blocks a c i) t z

      -- blocks of one place
      pub blocks_same : (i p : ℕ) → ((j : ℕ) → j < blocks_of words i → block_held words' cells' n b p j ≡ block_held words cells n b p j)
          → blocks_held words' cells' n b i p ≡ blocks_held words cells n b i p
      unfolding blocks_held
      blocks_same i p h =
          ap (λ (k : ℕ). tabulate k (block_held words' cells' n b p)) (blocks_of_same i)
          ∙ tabulate_ext (blocks_of words i) (block_held words' cells' n b p) (block_held words cells n b p) h

      -- the partial of one record
      pub partial_same : (r : Record) → ((j : ℕ) → j < blocks_of words r.index → block_held words' cells' n b r.info_idx j
          ≡ block_held words cells n b r.info_idx j)
          → partial_held words' cells' n b r ≡ partial_held words cells n b r
      unfolding partial_held
      partial_same r h = ap (partial_from r.index r.flags) (blocks_same r.index r.info_idx h)

      -- those of all live records
      pub partials_same : (records records' : List Record) → head_word words' 7 ≡ head_word words 7
          → ((k : ℕ) → k < head_word words 7 → record_at records' k ≡ record_at records k)
          → ((k j : ℕ) → k < head_word words 7 → j < blocks_of words (record_at records k).index
          → block_held words' cells' n b (record_at records k).info_idx j ≡ block_held words cells n b (record_at records k).info_idx j)
          → partials_held records' words' cells' n b ≡ partials_held records words cells n b
      unfolding partials_held
      partials_same records records' e q h =
          ap (λ (k : ℕ). tabulate k (λ l. partial_held words' cells' n b (record_at records' l))) e
          ∙ tabulate_ext (head_word words 7) (λ k. partial_held words' cells' n b (record_at records' k))
          (λ k. partial_held words cells n b (record_at records k)) (λ k l.
          ap (partial_held words' cells' n b) (q k l) ∙ partial_same (record_at records k) (λ j m. h k j l m))

module _ (words words' : List ℕ) where
  -- ---- the list
  pub list_same : (n : ℕ) → head_word words' 6 ≡ head_word words 6
      → ((i : ℕ) → i < head_word words 6 → piece_word words' n 1 i ≡ piece_word words n 1 i)
      → list_held words' n ≡ list_held words n
  unfolding list_held
  list_same n e h =
      ap (λ (k : ℕ). tabulate k (λ i. listed_piece (piece_word words' n 1 i))) e
      ∙ tabulate_ext (head_word words 6) (λ i. listed_piece (piece_word words' n 1 i)) (λ i. listed_piece (piece_word words n 1 i))
      (λ i l. ap listed_piece (h i l))

  -- or that it is dirty
  pub listing_same : (n : ℕ) → head_word words' 5 ≡ head_word words 5 → list_held words' n ≡ list_held words n
      → listing_held words' n ≡ listing_held words n
  unfolding listing_held
  listing_same n e h = ap₂ (λ (w : ℕ) (l : List ℕ). cond (yes? w) dirty (fresh l)) e h

  -- ---- the extents
  pub extents_same : head_word words' 8 ≡ head_word words 8
      → ((k : ℕ) → k < head_word words 8 → head_word words' (9 + k) ≡ head_word words (9 + k)) → extents_held words' ≡ extents_held words
  unfolding extents_held
  extents_same e h =
      ap (λ (k : ℕ). tabulate k (λ i. head_word words' (9 + i))) e
      ∙ tabulate_ext (head_word words 8) (λ i. head_word words' (9 + i)) (λ i. head_word words (9 + i)) h
