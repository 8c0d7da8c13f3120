-- What each number is in the picker that the buffers mean. Seeds and cursors are words of the head by definition. Assumes nothing.
use mathlib.Core.Path.{◌≡◌, refl, ap, ◌∙◌}
use mathlib.Core.Bool.{Bool, true, false, cond}
use mathlib.Core.List.{List}
use Prim.Native.Nat.{ℕ, ◌+◌, ◌<◌}
use Rattle.model.specs.Lists.{nth, len}
use Rattle.model.specs.Bep3.{bit_of}
use Rattle.model.specs.State.{Piece, Block, DownloadingPiece, Picker, dirty, fresh, is_dirty, list_of, no_piece, no_block, piece_at, pieces_in}
use Rattle.model.specs.State.{blocks_in_piece}
use Rattle.model.specs.pick.Pick.{no_partial}
use Rattle.model.specs.change.Partials.{block_at}
use Rattle.list_entries.specs.Words.{listed_piece}
use Rattle.memory_records.specs.declared.record.DownloadingPiece.{DownloadingPiece as Record}
use Rattle.memory_layout.specs.declared.shape.Shape.{Shape}
use Rattle.memory_layout.specs.Tables.{tabulate}
use Rattle.memory_layout.specs.Decode.{head_word, piece_word, piece_cell, record_at, blocks_of, queue_from, yes?, piece_held}
use Rattle.memory_layout.specs.Decode.{block_held, blocks_held, partial_from, partial_held, pieces_held, partials_held, extents_held}
use Rattle.memory_layout.specs.Decode.{list_held}
use Rattle.memory_layout.specs.Decode.{listing_held, decode}
use Rattle.memory_layout.specs.Changes.{partial_in}
use Rattle.memory_layout.specs.Bounds.{InBounds}
use Rattle.memory_layout.proofs.TableLaws.{tabulate-len, tabulate-nth}
use Rattle.memory_layout.proofs.BoundsLaws.{decode_at_lem}

-- blocks of a piece, in the model's words
pub blocks_of_is : (records : List Record) (words cells : List ℕ) (i : ℕ) → blocks_of words i ≡ blocks_in_piece (decode records words cells) i
unfolding blocks_of blocks_in_piece
blocks_of_is records words cells i = refl

module _ (s : Shape) (records : List Record) (words cells : List ℕ) (r : InBounds s records words cells) where
  -- ---- pieces
  pub pieces_number : pieces_in (decode records words cells) ≡ s.pieces
  unfolding pieces_in pieces_held
  pieces_number = ap pieces_in (decode_at_lem s records words cells r) ∙ tabulate-len s.pieces (piece_held words cells s.pieces)

  module _ (i : ℕ) (h : i < s.pieces) where
    -- piece i, from its column numbers
    pub piece_is : piece_at (decode records words cells) i ≡ piece_held words cells s.pieces i
    unfolding piece_at pieces_held
    piece_is = ap (λ (d : Picker). piece_at d i) (decode_at_lem s records words cells r)
        ∙ tabulate-nth s.pieces (piece_held words cells s.pieces) i no_piece h

    -- its peer count
    pub peer_count_is : (piece_at (decode records words cells) i).peer_count ≡ piece_cell cells s.pieces 0 i
    unfolding piece_held
    peer_count_is = ap (λ (p : Piece). p.peer_count) piece_is

    -- its state
    pub state_is : (piece_at (decode records words cells) i).state ≡ queue_from (piece_cell cells s.pieces 1 i)
    unfolding piece_held
    state_is = ap (λ (p : Piece). p.state) piece_is

    -- its priority
    pub priority_is : (piece_at (decode records words cells) i).priority ≡ piece_cell cells s.pieces 2 i
    unfolding piece_held
    priority_is = ap (λ (p : Piece). p.priority) piece_is

    -- whether it is flushed
    pub flushed_is : (piece_at (decode records words cells) i).flushed ≡ yes? (piece_cell cells s.pieces 3 i)
    unfolding piece_held
    flushed_is = ap (λ (p : Piece). p.flushed) piece_is

    -- its pad bytes
    pub pad_bytes_is : (piece_at (decode records words cells) i).pad_bytes ≡ piece_word words s.pieces 0 i
    unfolding piece_held
    pad_bytes_is = ap (λ (p : Piece). p.pad_bytes) piece_is

  -- ---- partials
  pub partials_number : len (decode records words cells).partials ≡ head_word words 7
  unfolding partials_held
  partials_number =
      ap (λ (d : Picker). len d.partials) (decode_at_lem s records words cells r)
      ∙ tabulate-len (head_word words 7) (λ k. partial_held words cells s.pieces s.blocks (record_at records k))

  module _ (k : ℕ) (h : k < head_word words 7) where
    -- whatever stands past the last one
    pub partial_nth : (d : DownloadingPiece) → nth d (decode records words cells).partials k ≡ partial_held words cells s.pieces
        s.blocks (record_at records k)
    unfolding partials_held
    partial_nth d =
        ap (λ (x : Picker). nth d x.partials k) (decode_at_lem s records words cells r)
        ∙ tabulate-nth (head_word words 7) (λ l. partial_held words cells s.pieces s.blocks (record_at records l)) k d h

    -- partial k, from its record and the blocks at its place
    pub partial_is : partial_in (decode records words cells) k ≡ partial_held words cells s.pieces s.blocks (record_at records k)
    unfolding partial_in
    partial_is = partial_nth no_partial

    -- its piece
    pub partial_piece_is : (partial_in (decode records words cells) k).piece ≡ (record_at records k).index
    unfolding partial_held partial_from
    partial_piece_is = ap (λ (d : DownloadingPiece). d.piece) partial_is

    -- flag bit 1
    pub passed_is : (partial_in (decode records words cells) k).passed_hash_check ≡ bit_of (record_at records k).flags 0
    unfolding partial_held partial_from
    passed_is = ap (λ (d : DownloadingPiece). d.passed_hash_check) partial_is

    -- flag bit 2
    pub locked_is : (partial_in (decode records words cells) k).locked ≡ bit_of (record_at records k).flags 1
    unfolding partial_held partial_from
    locked_is = ap (λ (d : DownloadingPiece). d.locked) partial_is

    -- flag bit 4
    pub hashing_is : (partial_in (decode records words cells) k).hashing ≡ bit_of (record_at records k).flags 2
    unfolding partial_held partial_from
    hashing_is = ap (λ (d : DownloadingPiece). d.hashing) partial_is

    -- its blocks
    pub blocks_are : (partial_in (decode records words cells) k).blocks ≡ blocks_held words cells s.pieces s.blocks
        (record_at records k).index (record_at records k).info_idx
    unfolding partial_held partial_from
    blocks_are = ap (λ (d : DownloadingPiece). d.blocks) partial_is

    -- as many blocks as its piece has
    pub blocks_number : len (partial_in (decode records words cells) k).blocks ≡ blocks_of words (record_at records k).index
    unfolding blocks_held
    blocks_number =
        ap len blocks_are
        ∙ tabulate-len (blocks_of words (record_at records k).index) (block_held words cells s.pieces s.blocks
        (record_at records k).info_idx)

    -- block j of it
    pub block_is : (j : ℕ) → j < blocks_of words (record_at records k).index
        → block_at (partial_in (decode records words cells) k) j ≡ block_held words cells s.pieces s.blocks
        (record_at records k).info_idx j
    unfolding block_at blocks_held
    block_is j l =
        ap (λ (bs : List Block). nth no_block bs j) blocks_are
        ∙ tabulate-nth (blocks_of words (record_at records k).index) (block_held words cells s.pieces s.blocks
        (record_at records k).info_idx) j no_block l

  -- ---- the list
  pub dirty_is : is_dirty (decode records words cells).listing ≡ yes? (head_word words 5)
  unfolding listing_held is_dirty
  dirty_is = go (yes? (head_word words 5)) _
    where
      go : (t : Bool) (l : List ℕ) → is_dirty (cond t dirty (fresh l)) ≡ t
      go true l = refl
      go false l = refl

  list_cases : (t : Bool) → yes? (head_word words 5) ≡ t → list_of (cond t dirty (fresh (list_held words s.pieces)))
      ≡ list_held words s.pieces
  unfolding list_of list_held tabulate
  list_cases true e = rw (r.idle e)
  list_cases false e = refl

  -- the pieces of the list, none where it is dirty
  pub list_is : list_of (decode records words cells).listing ≡ list_held words s.pieces
  unfolding listing_held
  list_is = ap (λ (d : Picker). list_of d.listing) (decode_at_lem s records words cells r) ∙ list_cases (yes? (head_word words 5)) refl

  -- how many places it has
  pub list_length_is : len (list_of (decode records words cells).listing) ≡ head_word words 6
  unfolding list_held
  list_length_is = ap len list_is ∙ tabulate-len (head_word words 6) (λ k. listed_piece (piece_word words s.pieces 1 k))

  -- place k of it
  pub listed_is : (k : ℕ) → k < head_word words 6 → nth 0 (list_of (decode records words cells).listing) k
      ≡ listed_piece (piece_word words s.pieces 1 k)
  unfolding list_held
  listed_is k h =
      ap (λ (l : List ℕ). nth 0 l k) list_is ∙ tabulate-nth (head_word words 6) (λ i. listed_piece (piece_word words s.pieces 1 i)) k 0 h

  -- ---- extents
  pub extents_number : len (decode records words cells).recent_extents ≡ head_word words 8
  unfolding extents_held
  extents_number = tabulate-len (head_word words 8) (λ j. head_word words (9 + j))

  -- extent k
  pub extent_is : (k : ℕ) → k < head_word words 8 → nth 0 (decode records words cells).recent_extents k ≡ head_word words (9 + k)
  unfolding extents_held
  extent_is k h = tabulate-nth (head_word words 8) (λ j. head_word words (9 + j)) k 0 h
