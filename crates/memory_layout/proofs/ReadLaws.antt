-- The picker and its bounds depend only on the numbers that are read. Assumes nothing.
use mathlib.Core.Path.{◌≡◌, refl, sym, ap, ap₂, ◌∙◌}
use mathlib.Core.Bool.{true}
use mathlib.Core.List.{List}
use Prim.Native.Nat.{ℕ, ◌+◌, ◌≤◌, ◌<◌}
use native.Mathlib.Omega.{arith}
use lib.ListN.{length, get_or, take}
use lib.Seq.{get_or-take}
use Rattle.model.specs.Bep3.{num_pieces, whole_piece_blocks}
use Rattle.model.specs.State.{valid_geometry}
use Rattle.memory_records.specs.declared.record.DownloadingPiece.{DownloadingPiece as Record}
use Rattle.memory_records.specs.Records.{no_record}
use Rattle.memory_layout.specs.declared.shape.Shape.{Shape}
use Rattle.memory_layout.specs.Tables.{front}
use Rattle.memory_layout.specs.Offsets.{piece_word_at, peer_at, piece_cell_at, block_cell_at, words_for, cells_for}
use Rattle.memory_layout.specs.Decode.{head_word, piece_word, peer_word, piece_cell, block_cell, record_at, pieces_on, blocks_on, blocks_of}
use Rattle.memory_layout.specs.Decode.{yes?}
use Rattle.memory_layout.specs.Decode.{partial_held, partials_held, decode, decode_at}
use Rattle.memory_layout.specs.Bounds.{InBounds, Plain, RanksHeld}
use Rattle.memory_layout.specs.Frames.{SameColumn, SameFields}
use Rattle.memory_layout.proofs.TableLaws.{tabulate_ext}
use Rattle.memory_layout.proofs.OffsetLaws.{piece_word_below, peer_below, piece_cell_below, block_cell_below, words_from, cells_from}
use Rattle.memory_layout.proofs.Parts.{pieces_same, list_same, listing_same, extents_same, blocks_of_same, block_same, partials_same}
use Rattle.memory_layout.proofs.BoundsLaws.{decode_at_lem, blocks_within, place_room}

-- ---- records
-- of the records the live ones alone are read
pub records_same : (records records' : List Record) (words cells : List ℕ)
    → ((k : ℕ) → k < head_word words 7 → record_at records' k ≡ record_at records k)
    → decode records' words cells ≡ decode records words cells
unfolding partials_held
records_same records records' words cells h = λ i. record {
  total_size = head_word words 0;
  piece_size = head_word words 1;
  seeds = head_word words 2;
  cursor = head_word words 3;
  reverse_cursor = head_word words 4;
  pieces = (decode records words cells).pieces;
  partials = tabulate_ext (head_word words 7) (λ k. partial_held words cells (pieces_on words) (blocks_on words) (record_at records' k))
      (λ k. partial_held words cells (pieces_on words) (blocks_on words) (record_at records k)) (λ k l.
      ap (partial_held words cells (pieces_on words) (blocks_on words)) (h k l)) i;
  recent_extents = (decode records words cells).recent_extents;
  listing = (decode records words cells).listing;
}

-- as many records as there are partials are enough
pub records_front : (records : List Record) (words cells : List ℕ) (n : ℕ) → head_word words 7 ≤ n → decode (front n records) words cells
    ≡ decode records words cells
unfolding front record_at
records_front records words cells n h =
    records_same records (take n records) words cells (λ k l. get_or-take n records k no_record (omega arith))

-- ---- every number that is read
pub record SameRead (s : Shape) (records records' : List Record) (words words' cells cells' : List ℕ) : Type 0 where
  pub long_words : words_for s.pieces s.blocks ≤ length words'
  pub long_cells : cells_for s.pieces s.blocks ≤ length cells'
  pub live : head_word words 7 ≤ length records'
  pub head : (k : ℕ) → k < 9 → head_word words' k ≡ head_word words k
  pub extents : (k : ℕ) → k < head_word words 8 → head_word words' (9 + k) ≡ head_word words (9 + k)
  pub pads : SameColumn s.pieces 0 words words'
  pub list : (k : ℕ) → k < head_word words 6 → piece_word words' s.pieces 1 k ≡ piece_word words s.pieces 1 k
  pub fields : SameFields s.pieces cells cells'
  pub records_are : (k : ℕ) → k < head_word words 7 → record_at records' k ≡ record_at records k
  pub blocks : (k j f : ℕ) → k < head_word words 7 → j < blocks_of words (record_at records k).index → f < 3
      → block_cell cells' s.pieces s.blocks f (record_at records k).info_idx j ≡ block_cell cells s.pieces s.blocks f
      (record_at records k).info_idx j
  pub peers : (k j : ℕ) → k < head_word words 7 → j < blocks_of words (record_at records k).index
      → yes? (block_cell cells s.pieces s.blocks 2 (record_at records k).info_idx j) ≡ true
      → peer_word words' s.pieces s.blocks (record_at records k).info_idx j ≡ peer_word words s.pieces s.blocks
      (record_at records k).info_idx j

module _ (s : Shape) (records records' : List Record) (words words' cells cells' : List ℕ) (r : InBounds s records words cells)
    (e : SameRead s records records' words words' cells cells') where
  place : (k : ℕ) → k < head_word words 7 → (record_at records' k).info_idx ≡ (record_at records k).info_idx
  place k h = ap (λ (x : Record). x.info_idx) (e.records_are k h)

  -- the bounds
  pub read_bounds : InBounds s records' words' cells'
  unfolding pieces_on blocks_on
  read_bounds =
      let seven = e.head 7 (omega arith) in
      record {
        spans = record {
          in_words = record { sizes = r.spans.in_words.sizes; long = e.long_words };
          in_cells = record { sizes = r.spans.in_cells.sizes; long = e.long_cells };
        };
        geometry = ap₂ valid_geometry (e.head 0 (omega arith)) (e.head 1 (omega arith)) ∙ r.geometry;
        pieces = r.pieces ∙ sym (ap₂ num_pieces (e.head 0 (omega arith)) (e.head 1 (omega arith)));
        blocks = r.blocks ∙ sym (ap whole_piece_blocks (e.head 1 (omega arith)));
        list = rw (e.head 6 (omega arith)) r.list;
        idle = rw (e.head 5 (omega arith), e.head 6 (omega arith)) r.idle;
        partials = omega (arith, r.partials);
        live = omega (arith, e.live);
        recent_extents = rw (e.head 8 (omega arith)) r.recent_extents;
        placed = λ k l.
            let m : k < head_word words 7 = omega arith in
            rw (place k m) (r.placed k m);
        apart = λ k l a b q.
            let m : k < head_word words 7 = omega arith in
            let o : l < head_word words 7 = omega arith in
            r.apart k l m o (sym (place k m) ∙ q ∙ place l o);
      }

  at_shape : decode_at s.pieces s.blocks records' words' cells' ≡ decode_at s.pieces s.blocks records words cells
  at_shape = λ i. record {
    total_size = e.head 0 (omega arith) i;
    piece_size = e.head 1 (omega arith) i;
    seeds = e.head 2 (omega arith) i;
    cursor = e.head 3 (omega arith) i;
    reverse_cursor = e.head 4 (omega arith) i;
    pieces = pieces_same words words' cells cells' s.pieces e.fields e.pads i;
    partials = partials_same words words' cells cells' s.pieces s.blocks (e.head 0 (omega arith)) (e.head 1 (omega arith)) records
        records' (e.head 7 (omega arith)) e.records_are (λ k j l m.
        block_same words words' cells cells' s.pieces s.blocks (record_at records k).info_idx j (λ f h. e.blocks k j f l m h)
        (e.peers k j l m)) i;
    recent_extents = extents_same words words' (e.head 8 (omega arith)) e.extents i;
    listing = listing_same words words' s.pieces (e.head 5 (omega arith)) (list_same words words' s.pieces (e.head 6 (omega arith))
        e.list) i;
  }

  -- the picker
  pub read_decode : decode records' words' cells' ≡ decode records words cells
  read_decode = decode_at_lem s records' words' cells' read_bounds ∙ at_shape ∙ sym (decode_at_lem s records words cells r)

  -- that the numbers are plain
  pub read_plain : Plain s records words cells → Plain s records' words' cells'
  read_plain p =
      let seven = e.head 7 (omega arith) in
      record {
        dirty = rw (e.head 5 (omega arith)) p.dirty;
        pieces = record {
          states = λ i l. rw (e.fields 1 i (omega arith) l) (p.pieces.states i l);
          flushed = λ i l. rw (e.fields 3 i (omega arith) l) (p.pieces.flushed i l);
        };
        partials = λ k l.
            let m : k < head_word words 7 = omega arith in
            rw (e.records_are k m) (record {
              flags = (p.partials k m).flags;
              blocks = λ j h.
                  let o : j < blocks_of words (record_at records k).index =
                  omega (
                    arith,
                    blocks_of_same words words' cells cells' s.pieces s.blocks (e.head 0 (omega arith))
                        (e.head 1 (omega arith)) (record_at records k).index,
                  ) in
                  record {
                    state = rw (e.blocks k j 0 m o (omega arith)) ((p.partials k m).blocks j o).state;
                    has = rw (e.blocks k j 2 m o (omega arith)) ((p.partials k m).blocks j o).has;
                  };
            });
      }

-- the ranks beside the list
pub ranks_same : (n : ℕ) (words words' : List ℕ) (g : ℕ → ℕ) → head_word words' 6 ≡ head_word words 6
    → ((k : ℕ) → k < head_word words 6 → piece_word words' n 1 k ≡ piece_word words n 1 k) → RanksHeld n words g → RanksHeld n words' g
ranks_same n words words' g e h r k l =
    let m : k < head_word words 6 = omega arith in
    rw (h k m) (r k m)

-- ---- what lies beyond the needs
-- is not read
pub read_below : (s : Shape) (records : List Record) (words words' cells cells' : List ℕ) → InBounds s records words cells
    → words_for s.pieces s.blocks ≤ length words' → cells_for s.pieces s.blocks ≤ length cells'
    → ((k : ℕ) → k < words_for s.pieces s.blocks → get_or words' k 0 ≡ get_or words k 0)
    → ((k : ℕ) → k < cells_for s.pieces s.blocks → get_or cells' k 0 ≡ get_or cells k 0)
    → SameRead s records records words words' cells cells'
unfolding head_word piece_word peer_word piece_cell block_cell
read_below s records words words' cells cells' r lw lc hw hc =
    let n = s.pieces in
    let b = s.blocks in
    let w = words_from n b in
    let c = cells_from n b in
    record {
      long_words = lw;
      long_cells = lc;
      live = r.live;
      head = λ k h. hw k (omega arith);
      extents = λ k h. hw (9 + k) (omega (arith, r.recent_extents));
      pads = λ i h. hw (piece_word_at n 0 i) (omega (arith, piece_word_below n 0 i (omega arith) h));
      list = λ k h. hw (piece_word_at n 1 k) (omega (arith, piece_word_below n 1 k (omega arith) (omega (arith, r.list))));
      fields = λ f i h l. hc (piece_cell_at n f i) (omega (arith, piece_cell_below n f i h l));
      records_are = λ k h. refl;
      blocks = λ k j f h l m.
          hc (block_cell_at n b f (record_at records k).info_idx j) (block_cell_below n b f (record_at records k).info_idx j m
          (place_room s records words cells r k h) (omega (arith, blocks_within s records words cells r (record_at records k).index)));
      peers = λ k j h l q.
          hw (peer_at n b (record_at records k).info_idx j) (peer_below n b (record_at records k).info_idx j
          (place_room s records words cells r k h) (omega (arith, blocks_within s records words cells r (record_at records k).index)));
    }
