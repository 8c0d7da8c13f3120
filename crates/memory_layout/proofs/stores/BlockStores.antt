-- What stores in the numbers of a block do to the picker. Assumes nothing.
use mathlib.Core.Path.{◌≡◌, refl, sym, ap, ◌∙◌}
use mathlib.Core.Logic.{◌≢◌}
use mathlib.Core.List.{List}
use Prim.Native.Nat.{ℕ, ◌+◌, ◌≤◌, ◌<◌}
use native.Mathlib.Omega.{arith}
use native.Mathlib.Decide.{ℕ_discrete, dec_le}
use lib.ListN.{length, set, length-set}
use Rattle.model.specs.Lists.{set_nth}
use Rattle.model.specs.State.{Block, DownloadingPiece, with_blocks, with_partials}
use Rattle.model.specs.pick.Pick.{no_partial}
use Rattle.memory_records.specs.declared.record.DownloadingPiece.{DownloadingPiece as Record}
use Rattle.memory_layout.specs.declared.shape.Shape.{Shape}
use Rattle.memory_layout.specs.Tables.{tabulate, choose}
use Rattle.memory_layout.specs.Offsets.{places_for, peer_at, block_cell_at, words_for, cells_for}
use Rattle.memory_layout.specs.Decode.{head_word, peer_word, block_cell, record_at, blocks_of, block_from, block_held, blocks_held}
use Rattle.memory_layout.specs.Decode.{partial_from}
use Rattle.memory_layout.specs.Decode.{partial_held, partials_held, decode_at}
use Rattle.memory_layout.specs.Changes.{partial_in, with_partial, with_block}
use Rattle.memory_layout.specs.Bounds.{WordsSpan, CellsSpan, InBounds, PlainBlock, Plain}
use Rattle.memory_layout.specs.Stores.{Became}
use Rattle.memory_layout.specs.Frames.{BlockPut}
use Rattle.memory_layout.proofs.TableLaws.{tabulate-len, tabulate-nth, tabulate_ext, tabulate_set, set_past}
use Rattle.memory_layout.proofs.OffsetLaws.{peer_from, peer_below, peer_in, block_cell_from, block_cell_below, block_cell_in}
use Rattle.memory_layout.proofs.Same.{beyond_same, head_same, column_above, fields_above}
use Rattle.memory_layout.proofs.Same.{peer_stored}
use Rattle.memory_layout.proofs.Same.{peer_others, block_stored, block_others}
use Rattle.memory_layout.proofs.Parts.{pieces_same, list_same, listing_same, extents_same, blocks_of_same, block_same, partial_same}
use Rattle.memory_layout.proofs.Parts.{partials_same}
use Rattle.memory_layout.proofs.BoundsLaws.{blocks_within, place_room, bounds_kept, plain_kept, became_at, words_kept_none}
use Rattle.memory_layout.proofs.BoundsLaws.{cells_kept_none}

-- ---- the four numbers of one block
-- before any store
pub block_none : (s : Shape) (words cells : List ℕ) (p j : ℕ)
    → BlockPut s words cells words cells p j (block_cell cells s.pieces s.blocks 0 p j) (block_cell cells s.pieces s.blocks 1 p j)
    (block_cell cells s.pieces s.blocks 2 p j) (peer_word words s.pieces s.blocks p j)
block_none s words cells p j =
    record {
      words_kept = words_kept_none s words;
      cells_kept = cells_kept_none s cells;
      head = λ k h. refl;
      columns = λ f h i l. refl;
      fields = λ f i h l. refl;
      state_is = refl;
      num_peers_is = refl;
      has_is = refl;
      peer_is = refl;
      other_cells = λ f q i h l m. refl;
      other_peers = λ q i h l m. refl;
    }

module _ (s : Shape) (words cells words' cells' : List ℕ) (p j state num_peers has peer : ℕ) (hp : p < s.places) (hj : j < s.blocks)
    (b : BlockPut s words cells words' cells' p j state num_peers has peer) where
  -- after one store more in column f of the block
  pub block_cell_put : CellsSpan s cells → (f v : ℕ) → f < 3
      → BlockPut s words cells words' (set cells' (block_cell_at s.pieces s.blocks f p j) v) p j (choose f 0 v state)
      (choose f 1 v num_peers) (choose f 2 v has) peer
  block_cell_put r f v hf =
      let a = block_cell_at s.pieces s.blocks f p j in
      let room : p < places_for s.pieces = omega (arith, r.sizes.places) in
      let inside : block_cell_at s.pieces s.blocks f p j < length cells' = omega (
        arith,
        block_cell_in s cells r f p j hf hp hj,
        b.cells_kept.long,
      ) in
      record {
        words_kept = b.words_kept;
        cells_kept = record {
          long = length-set cells' a v ∙ b.cells_kept.long;
          beyond = λ k h.
              beyond_same (cells_for s.pieces s.blocks) cells' a v (block_cell_below s.pieces s.blocks f p j hf room hj) k h
              ∙ b.cells_kept.beyond k h;
        };
        head = b.head;
        columns = b.columns;
        fields = λ g i h l. fields_above cells' a v s.pieces (block_cell_from s.pieces s.blocks f p j) g i h l ∙ b.fields g i h l;
        state_is = block_stored s.pieces s.blocks cells' f p j v room hj inside 0 ∙ ap (choose f 0 v) b.state_is;
        num_peers_is = block_stored s.pieces s.blocks cells' f p j v room hj inside 1 ∙ ap (choose f 1 v) b.num_peers_is;
        has_is = block_stored s.pieces s.blocks cells' f p j v room hj inside 2 ∙ ap (choose f 2 v) b.has_is;
        peer_is = b.peer_is;
        other_cells = λ g q i h l m. block_others s.pieces s.blocks cells' f p j v room hj g q i h l m ∙ b.other_cells g q i h l m;
        other_peers = b.other_peers;
      }

  -- after a store of its peer
  pub block_peer_put : WordsSpan s words → (v : ℕ) → BlockPut s words cells (set words' (peer_at s.pieces s.blocks p j) v) cells' p j
      state num_peers has v
  block_peer_put r v =
      let a = peer_at s.pieces s.blocks p j in
      let room : p < places_for s.pieces = omega (arith, r.sizes.places) in
      let low = peer_from s.pieces s.blocks p j in
      record {
        words_kept = record {
          long = length-set words' a v ∙ b.words_kept.long;
          total_size = head_same words' a v (omega arith) 0 (omega arith) ∙ b.words_kept.total_size;
          piece_size = head_same words' a v (omega arith) 1 (omega arith) ∙ b.words_kept.piece_size;
          beyond = λ k h.
              beyond_same (words_for s.pieces s.blocks) words' a v (peer_below s.pieces s.blocks p j room hj) k h
              ∙ b.words_kept.beyond k h;
        };
        cells_kept = b.cells_kept;
        head = λ k h. head_same words' a v (omega arith) k h ∙ b.head k h;
        columns = λ f h i l. column_above words' a v s.pieces low f h i l ∙ b.columns f h i l;
        fields = b.fields;
        state_is = b.state_is;
        num_peers_is = b.num_peers_is;
        has_is = b.has_is;
        peer_is = peer_stored s.pieces s.blocks words' p j v hj (omega (arith, peer_in s words r p j hp hj, b.words_kept.long));
        other_cells = b.other_cells;
        other_peers = λ q i h l m. peer_others s.pieces s.blocks words' p j v hj q i l m ∙ b.other_peers q i h l m;
      }

module _ (s : Shape) (words cells : List ℕ) (in_words : WordsSpan s words) (in_cells : CellsSpan s cells) (p j state num_peers has peer : ℕ)
    (hp : p < s.places) (hj : j < s.blocks) where
  -- the four stores
  pub block_put : BlockPut s words cells (set words (peer_at s.pieces s.blocks p j) peer)
      (set (set (set cells (block_cell_at s.pieces s.blocks 0 p j) state) (block_cell_at s.pieces s.blocks 1 p j) num_peers)
      (block_cell_at s.pieces s.blocks 2 p j) has)
      p j state num_peers has peer
  unfolding choose
  block_put =
      let a = block_cell_put s words cells words cells p j _ _ _ _ hp hj (block_none s words cells p j) in_cells 0 state (omega arith) in
      let b = block_cell_put s words cells words _ p j _ _ _ _ hp hj a in_cells 1 num_peers (omega arith) in
      let c = block_cell_put s words cells words _ p j _ _ _ _ hp hj b in_cells 2 has (omega arith) in
      block_peer_put s words cells words _ p j _ _ _ _ hp hj c in_words peer

  -- has-peer and the peer alone
  pub block_peer_stored : BlockPut s words cells (set words (peer_at s.pieces s.blocks p j) peer)
      (set cells (block_cell_at s.pieces s.blocks 2 p j) has)
      p j (block_cell cells s.pieces s.blocks 0 p j) (block_cell cells s.pieces s.blocks 1 p j) has peer
  unfolding choose
  block_peer_stored =
      let a = block_cell_put s words cells words cells p j _ _ _ _ hp hj (block_none s words cells p j) in_cells 2 has (omega arith) in
      block_peer_put s words cells words _ p j _ _ _ _ hp hj a in_words peer

-- ---- what that does to the picker
module _ (s : Shape) (words cells words' cells' : List ℕ) (p j state num_peers has peer : ℕ) (b : BlockPut s words cells words' cells' p j
    state num_peers has peer) where
  -- the block itself
  pub put_is : block_held words' cells' s.pieces s.blocks p j ≡ block_from state num_peers has peer
  unfolding block_held
  put_is = λ k. block_from (b.state_is k) (b.num_peers_is k) (b.has_is k) (b.peer_is k)

  -- any other block
  pub put_others : (q i : ℕ) → q < places_for s.pieces → i < s.blocks → (q ≡ p → i ≡ j → ⊥)
      → block_held words' cells' s.pieces s.blocks q i ≡ block_held words cells s.pieces s.blocks q i
  put_others q i h l m =
      block_same words words' cells cells' s.pieces s.blocks q i (λ f o. b.other_cells f q i h l m) (λ e. b.other_peers q i h l m)

  -- the numbers stay plain where those of the block do
  pub put_plain : (PlainBlock s.pieces s.blocks cells p j → (state ≤ 3) × (has ≤ 1)) → (q i : ℕ) → q < places_for s.pieces
      → i < s.blocks
      → PlainBlock s.pieces s.blocks cells q i → PlainBlock s.pieces s.blocks cells' q i
  put_plain lim q i h l old = elim (ℕ_discrete q p) [
    | yes e ↦ elim (ℕ_discrete i j) [
      | yes o ↦ here (lim (subst₂ q p e i j o old)) q i e o
      | no o ↦ other q i h l (λ x y. o y) old
    ]
    | no e ↦ other q i h l (λ x y. e x) old
  ]
    where
      subst₂ : (q p : ℕ) → q ≡ p → (i j : ℕ) → i ≡ j → PlainBlock s.pieces s.blocks cells q i
          → PlainBlock s.pieces s.blocks cells p j
      subst₂ q p e i j o x = rw (← e, ← o) x

      here : (state ≤ 3) × (has ≤ 1) → (q i : ℕ) → q ≡ p → i ≡ j → PlainBlock s.pieces s.blocks cells' q i
      here x q i e o = rw (e, o) (record { state = rw b.state_is x.0; has = rw b.has_is x.1 })

      other : (q i : ℕ) → q < places_for s.pieces → i < s.blocks → (q ≡ p → i ≡ j → ⊥) → PlainBlock s.pieces s.blocks cells q i
          → PlainBlock s.pieces s.blocks cells' q i
      other q i h l m x = record { state = rw (b.other_cells 0 q i h l m) x.state; has = rw (b.other_cells 2 q i h l m) x.has }

  module _ (records : List Record) (r : InBounds s records words cells) where
    put_bounds : InBounds s records words' cells'
    put_bounds =
        bounds_kept s records words cells words' cells' r b.words_kept b.cells_kept.long (b.head 7 (omega arith))
        (rw (b.head 6 (omega arith)) r.list)
        (rw (b.head 5 (omega arith), b.head 6 (omega arith)) r.idle) (rw (b.head 8 (omega arith)) r.recent_extents)

    plain_after : (PlainBlock s.pieces s.blocks cells p j → (state ≤ 3) × (has ≤ 1)) → Plain s records words cells
        → Plain s records words' cells'
    plain_after lim =
        plain_kept s records words cells words' cells' b.words_kept (b.head 7 (omega arith)) (λ h. rw (b.head 5 (omega arith)) h)
        (λ x. record {
          states = λ i l. rw (b.fields 1 i (omega arith) l) (x.states i l);
          flushed = λ i l. rw (b.fields 3 i (omega arith) l) (x.flushed i l);
        })
        (λ k i l m x.
        put_plain lim (record_at records k).info_idx i (place_room s records words cells r k l)
        (omega (arith, blocks_within s records words cells r (record_at records k).index)) x)

    put_at_shape : decode_at s.pieces s.blocks records words' cells'
        ≡ with_partials (partials_held records words' cells' s.pieces s.blocks) (decode_at s.pieces s.blocks records words cells)
    unfolding with_partials
    put_at_shape = λ i. record {
      total_size = b.head 0 (omega arith) i;
      piece_size = b.head 1 (omega arith) i;
      seeds = b.head 2 (omega arith) i;
      cursor = b.head 3 (omega arith) i;
      reverse_cursor = b.head 4 (omega arith) i;
      pieces = pieces_same words words' cells cells' s.pieces b.fields (b.columns 0 (omega arith)) i;
      partials = partials_held records words' cells' s.pieces s.blocks;
      recent_extents = extents_same words words' (b.head 8 (omega arith)) (λ k l. b.head (9 + k) (omega (arith, r.recent_extents))) i;
      listing = listing_same words words' s.pieces (b.head 5 (omega arith))
          (list_same words words' s.pieces (b.head 6 (omega arith)) (λ k l. b.columns 1 (omega arith) k (omega (arith, r.list)))) i;
    }

    -- a place that no live record has: the picker is as it was
    pub block_elsewhere : ((k : ℕ) → k < head_word words 7 → (record_at records k).info_idx ≢ p)
        → Became s (λ d. d) records words cells words' cells'
    unfolding with_partials
    block_elsewhere none =
        became_at s records words cells words' cells' (λ d. d) r put_bounds
        (plain_kept s records words cells words' cells' b.words_kept (b.head 7 (omega arith)) (λ h. rw (b.head 5 (omega arith)) h)
        (λ x. record {
          states = λ i l. rw (b.fields 1 i (omega arith) l) (x.states i l);
          flushed = λ i l. rw (b.fields 3 i (omega arith) l) (x.flushed i l);
        })
        (λ k i l m x.
        let q = place_room s records words cells r k l in
        let o : i < s.blocks = omega (arith, blocks_within s records words cells r (record_at records k).index) in
        record {
          state = rw (b.other_cells 0 (record_at records k).info_idx i q o (λ e y. none k l e)) x.state;
          has = rw (b.other_cells 2 (record_at records k).info_idx i q o (λ e y. none k l e)) x.has;
        }))
        (put_at_shape
        ∙ ap (λ (ds : List DownloadingPiece). with_partials ds (decode_at s.pieces s.blocks records words cells))
        (partials_same words words' cells cells' s.pieces s.blocks (b.head 0 (omega arith)) (b.head 1 (omega arith)) records records
        (b.head 7 (omega arith)) (λ k l. refl) (λ k i l m.
        put_others (record_at records k).info_idx i (place_room s records words cells r k l)
        (omega (arith, blocks_within s records words cells r (record_at records k).index)) (λ e y. none k l e))))

    -- the place of live record k
    module _ (k : ℕ) (h : k < head_word words 7) (here : (record_at records k).info_idx ≡ p) where
      abbrev many : ℕ
      many = blocks_of words (record_at records k).index

      few : many ≤ s.blocks
      few = blocks_within s records words cells r (record_at records k).index

      room : p < places_for s.pieces
      room = rw (← here) (place_room s records words cells r k h)

      -- the others keep their blocks
      other : (l : ℕ) → l < head_word words 7 → l ≢ k
          → partial_held words' cells' s.pieces s.blocks (record_at records l) ≡ partial_held words cells s.pieces s.blocks
          (record_at records l)
      other l m ne =
          partial_same words words' cells cells' s.pieces s.blocks (b.head 0 (omega arith)) (b.head 1 (omega arith))
          (record_at records l) (λ i o.
          put_others (record_at records l).info_idx i (place_room s records words cells r l m)
          (omega (arith, blocks_within s records words cells r (record_at records l).index)) (λ e q. ne (r.apart l k m h (e ∙ sym here))))

      blocks_put : blocks_held words' cells' s.pieces s.blocks (record_at records k).index p
          ≡ set_nth j (block_from state num_peers has peer) (blocks_held words cells s.pieces s.blocks (record_at records k).index p)
      unfolding blocks_held
      blocks_put =
          ap (λ (n : ℕ). tabulate n (block_held words' cells' s.pieces s.blocks p)) (blocks_of_same words words' cells cells'
          s.pieces s.blocks (b.head 0 (omega arith)) (b.head 1 (omega arith)) (record_at records k).index)
          ∙ elim (dec_le many j) [
            | yes l ↦ (
                tabulate_ext many (block_held words' cells' s.pieces s.blocks p) (block_held words cells s.pieces s.blocks p)
                (λ i m. put_others p i room (omega (arith, few)) (λ e q. omega arith))
                ∙ sym (set_past j (block_from state num_peers has peer) (tabulate many (block_held words cells s.pieces s.blocks p))
                (rw (tabulate-len many (block_held words cells s.pieces s.blocks p)) l))
                )
            | no l ↦ (
                tabulate_set many (block_held words cells s.pieces s.blocks p) (block_held words' cells' s.pieces s.blocks p) j
                (omega arith) (λ i m ne. put_others p i room (omega (arith, few)) (λ e q. ne q))
                ∙ ap (λ (y : Block). set_nth j y (tabulate many (block_held words cells s.pieces s.blocks p))) put_is
                )
          ]

      partial_put : partial_held words' cells' s.pieces s.blocks (record_at records k) ≡ with_block j (block_from state num_peers has peer)
          (partial_held words cells s.pieces s.blocks (record_at records k))
      unfolding partial_held partial_from with_block with_blocks
      partial_put =
          ap (λ (q : ℕ). partial_from (record_at records k).index (record_at records k).flags
          (blocks_held words' cells' s.pieces s.blocks (record_at records k).index q)) here
          ∙ ap (partial_from (record_at records k).index (record_at records k).flags) blocks_put
          ∙ ap (λ (q : ℕ). partial_from (record_at records k).index (record_at records k).flags (set_nth j (block_from state num_peers has peer)
          (blocks_held words cells s.pieces s.blocks (record_at records k).index q))) (sym here)

      partials_put : partials_held records words' cells' s.pieces s.blocks
          ≡ set_nth k (with_block j (block_from state num_peers has peer) (partial_held words cells s.pieces s.blocks
          (record_at records k))) (partials_held records words cells s.pieces s.blocks)
      unfolding partials_held
      partials_put =
          ap (λ (m : ℕ). tabulate m (λ l. partial_held words' cells' s.pieces s.blocks (record_at records l))) (b.head 7 (omega arith))
          ∙ tabulate_set (head_word words 7) (λ l. partial_held words cells s.pieces s.blocks (record_at records l))
          (λ l. partial_held words' cells' s.pieces s.blocks (record_at records l)) k h other
          ∙ ap (λ (d : DownloadingPiece). set_nth k d (tabulate (head_word words 7) (λ l. partial_held words cells s.pieces s.blocks
          (record_at records l)))) partial_put

      held : partial_held words cells s.pieces s.blocks (record_at records k)
          ≡ partial_in (decode_at s.pieces s.blocks records words cells) k
      unfolding partial_in partials_held
      held = sym (tabulate-nth (head_word words 7) (λ l. partial_held words cells s.pieces s.blocks (record_at records l)) k no_partial h)

      -- block j of partial k is replaced; a state above 3 and a has-peer above 1 are required away
      pub block_became : (PlainBlock s.pieces s.blocks cells p j → (state ≤ 3) × (has ≤ 1))
          → Became s (with_partial k (with_block j (block_from state num_peers has peer))) records words cells words' cells'
      unfolding with_partial
      block_became lim =
          became_at s records words cells words' cells' (with_partial k (with_block j (block_from state num_peers has peer))) r put_bounds
          (plain_after lim)
          (put_at_shape
          ∙ ap (λ (ds : List DownloadingPiece). with_partials ds (decode_at s.pieces s.blocks records words cells))
          (partials_put
          ∙ ap (λ (d : DownloadingPiece). set_nth k (with_block j (block_from state num_peers has peer) d)
          (partials_held records words cells s.pieces s.blocks)) held))
