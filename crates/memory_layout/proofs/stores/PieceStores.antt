-- What a store in a field of a piece does to the picker. Assumes nothing.
use mathlib.Core.Path.{◌≡◌, refl, sym, ap, ◌∙◌}
use mathlib.Core.Logic.{◌≢◌}
use mathlib.Core.List.{List}
use Prim.Native.Nat.{ℕ, ◌+◌, ◌≤◌, ◌<◌}
use native.Mathlib.Omega.{arith}
use native.Mathlib.Decide.{ℕ_discrete}
use lib.ListN.{set, length-set}
use Rattle.model.specs.Lists.{set_nth}
use Rattle.model.specs.State.{Piece, no_piece, piece_at, with_piece, with_pieces, with_peer_count, with_state, with_priority, with_flushed}
use Rattle.memory_records.specs.declared.record.DownloadingPiece.{DownloadingPiece as Record}
use Rattle.memory_layout.specs.declared.shape.Shape.{Shape}
use Rattle.memory_layout.specs.Tables.{tabulate, choose}
use Rattle.memory_layout.specs.Offsets.{piece_word_at, piece_cell_at, words_for, cells_for}
use Rattle.memory_layout.specs.Decode.{head_word, piece_word, piece_cell, queue_from, yes?, piece_held, pieces_held, decode_at}
use Rattle.memory_layout.specs.Changes.{with_cell, with_pad_bytes}
use Rattle.memory_layout.specs.Bounds.{WordsSpan, CellsSpan, InBounds}
use Rattle.memory_layout.specs.Stores.{WordsBecame, CellsBecame}
use Rattle.memory_layout.specs.Frames.{SameHead, SamePeers, SameBlocks}
use Rattle.memory_layout.proofs.TableLaws.{tabulate-nth, tabulate_set, choose_same, choose_other, choose_map}
use Rattle.memory_layout.proofs.OffsetLaws.{piece_word_from, piece_word_below, piece_word_in, words_from, piece_cell_below}
use Rattle.memory_layout.proofs.OffsetLaws.{piece_cell_in}
use Rattle.memory_layout.proofs.OffsetLaws.{cells_from}
use Rattle.memory_layout.proofs.Same.{beyond_same, head_same, peers_below, column_other}
use Rattle.memory_layout.proofs.Same.{column_stored}
use Rattle.memory_layout.proofs.Same.{column_others, blocks_below, field_stored, field_others}
use Rattle.memory_layout.proofs.Parts.{piece_same, list_same, listing_same, extents_same}
use Rattle.memory_layout.proofs.BoundsLaws.{partials_stay, words_became, cells_became}

-- ---- the names of the model for a cell's column
-- 0 is the peer count
pub peer_count_cell : (v : ℕ) → with_cell 0 v ≡ with_peer_count v
unfolding with_cell with_peer_count choose
peer_count_cell v = refl

-- 1 is the state
pub state_cell : (v : ℕ) → with_cell 1 v ≡ with_state (queue_from v)
unfolding with_cell with_state choose
state_cell v = refl

-- 2 is the priority
pub priority_cell : (v : ℕ) → with_cell 2 v ≡ with_priority v
unfolding with_cell with_priority choose
priority_cell v = refl

-- 3 is flushed
pub flushed_cell : with_cell 3 1 ≡ with_flushed
unfolding with_cell with_flushed choose yes?
flushed_cell = refl

-- a piece changed in the pieces of a shape
pub pieces_with : (n b : ℕ) (records : List Record) (words cells : List ℕ) (i : ℕ) (g : Piece → Piece) (h : ℕ → Piece) → i < n
    → ((j : ℕ) → j < n → j ≢ i → h j ≡ piece_held words cells n j) → h i ≡ g (piece_held words cells n i)
    → tabulate n h ≡ set_nth i (g (piece_at (decode_at n b records words cells) i)) (pieces_held words cells n)
unfolding piece_at pieces_held
pieces_with n b records words cells i g h l other e =
    tabulate_set n (piece_held words cells n) h i l other
    ∙ ap (λ (p : Piece). set_nth i p (tabulate n (piece_held words cells n))) (e
    ∙ ap g (sym (tabulate-nth n (piece_held words cells n) i no_piece l)))

-- ---- a cell: column f of piece i
module _ (s : Shape) (cells : List ℕ) (r : CellsSpan s cells) (f i v : ℕ) (hf : f < 4) (hi : i < s.pieces) where
  -- the cells after the store
  abbrev pub after_cell : List ℕ
  after_cell = set cells (piece_cell_at s.pieces f i) v

  stored : (g : ℕ) → piece_cell after_cell s.pieces g i ≡ choose f g v (piece_cell cells s.pieces g i)
  stored g = field_stored s.pieces cells f i v hi (piece_cell_in s cells r f i hf hi) g

  others : (g j : ℕ) → j < s.pieces → j ≢ i → piece_cell after_cell s.pieces g j ≡ piece_cell cells s.pieces g j
  others g j l m = field_others s.pieces cells f i v hi g j l m

  blocks : SameBlocks s.pieces s.blocks cells after_cell
  blocks = blocks_below cells (piece_cell_at s.pieces f i) v s.pieces s.blocks (piece_cell_below s.pieces f i hf hi)

  piece_with : (words : List ℕ) → piece_held words after_cell s.pieces i ≡ with_cell f v (piece_held words cells s.pieces i)
  unfolding piece_held with_cell
  piece_with words = λ k. record {
    peer_count = stored 0 k;
    state = (ap queue_from (stored 1) ∙ choose_map queue_from f 1 v (piece_cell cells s.pieces 1 i)) k;
    priority = stored 2 k;
    flushed = (ap yes? (stored 3) ∙ choose_map yes? f 3 v (piece_cell cells s.pieces 3 i)) k;
    pad_bytes = piece_word words s.pieces 0 i;
  }

  at_shape : (records : List Record) (words : List ℕ) → InBounds s records words cells
      → decode_at s.pieces s.blocks records words after_cell ≡ with_piece i (with_cell f v) (decode_at s.pieces s.blocks records
      words cells)
  unfolding with_piece with_pieces pieces_held
  at_shape records words q = λ k. record {
    total_size = head_word words 0;
    piece_size = head_word words 1;
    seeds = head_word words 2;
    cursor = head_word words 3;
    reverse_cursor = head_word words 4;
    pieces = pieces_with s.pieces s.blocks records words cells i (with_cell f v) (piece_held words after_cell s.pieces) hi (λ j l m.
        piece_same words words cells after_cell s.pieces j (λ g o. others g j l m) refl) (piece_with words) k;
    partials = partials_stay s records words cells q words after_cell refl refl refl (λ p j l m. refl) blocks k;
    recent_extents = (decode_at s.pieces s.blocks records words cells).recent_extents;
    listing = (decode_at s.pieces s.blocks records words cells).listing;
  }

  -- the column of limit m keeps it where the stored number does
  limited : (g m : ℕ) → (f ≡ g → v ≤ m) → ((j : ℕ) → j < s.pieces → piece_cell cells s.pieces g j ≤ m) → (j : ℕ) → j < s.pieces
      → piece_cell after_cell s.pieces g j ≤ m
  limited g m h old j l = elim (ℕ_discrete j i) [
    | yes e ↦ rw (e, stored g) (here (ℕ_discrete f g))
    | no o ↦ rw (others g j l o) (old j l)
  ]
    where
      here : Dec (f ≡ g) → choose f g v (piece_cell cells s.pieces g i) ≤ m
      here (yes e) = rw (e, choose_same g v (piece_cell cells s.pieces g i)) (h e)
      here (no o) = rw (choose_other f g v (piece_cell cells s.pieces g i) o) (old i hi)

  -- a state has to be a state's number, and flushed 0 or 1
  pub piece_cell_stored : (f ≡ 1 → v ≤ 6) → (f ≡ 3 → v ≤ 1)
      → CellsBecame s (with_piece i (with_cell f v)) cells (set cells (piece_cell_at s.pieces f i) v)
  piece_cell_stored h1 h3 =
      cells_became s (with_piece i (with_cell f v)) cells after_cell
      (record {
        long = length-set cells (piece_cell_at s.pieces f i) v;
        beyond = beyond_same (cells_for s.pieces s.blocks) cells (piece_cell_at s.pieces f i) v
            (omega (arith, piece_cell_below s.pieces f i hf hi, cells_from s.pieces s.blocks));
      })
      (λ p. record { states = limited 1 6 h1 p.states; flushed = limited 3 1 h3 p.flushed })
      (λ p j l m q. record { state = rw (blocks 0 p j (omega arith) l m) q.state; has = rw (blocks 2 p j (omega arith) l m) q.has })
      at_shape

-- ---- the pad bytes of piece i
module _ (s : Shape) (words : List ℕ) (r : WordsSpan s words) (i v : ℕ) (hi : i < s.pieces) where
  -- the words after the store
  abbrev pub after_pad : List ℕ
  after_pad = set words (piece_word_at s.pieces 0 i) v

  heads : SameHead words after_pad
  heads = head_same words (piece_word_at s.pieces 0 i) v (piece_word_from s.pieces 0 i)

  peers : SamePeers s.pieces s.blocks words after_pad
  peers = peers_below words (piece_word_at s.pieces 0 i) v s.pieces s.blocks (piece_word_below s.pieces 0 i (omega arith) hi)

  pad_with : (cells : List ℕ) → piece_held after_pad cells s.pieces i ≡ with_pad_bytes v (piece_held words cells s.pieces i)
  unfolding piece_held with_pad_bytes
  pad_with cells = λ k. record {
    peer_count = piece_cell cells s.pieces 0 i;
    state = queue_from (piece_cell cells s.pieces 1 i);
    priority = piece_cell cells s.pieces 2 i;
    flushed = yes? (piece_cell cells s.pieces 3 i);
    pad_bytes = column_stored s.pieces words 0 i v hi (piece_word_in s words r 0 i (omega arith) hi) k;
  }

  pad_at_shape : (records : List Record) (cells : List ℕ) → InBounds s records words cells
      → decode_at s.pieces s.blocks records after_pad cells ≡ with_piece i (with_pad_bytes v) (decode_at s.pieces s.blocks records
      words cells)
  unfolding with_piece with_pieces pieces_held
  pad_at_shape records cells q = λ k. record {
    total_size = heads 0 (omega arith) k;
    piece_size = heads 1 (omega arith) k;
    seeds = heads 2 (omega arith) k;
    cursor = heads 3 (omega arith) k;
    reverse_cursor = heads 4 (omega arith) k;
    pieces = pieces_with s.pieces s.blocks records words cells i (with_pad_bytes v) (piece_held after_pad cells s.pieces) hi (λ j l m.
        piece_same words after_pad cells cells s.pieces j (λ g o. refl) (column_others s.pieces words 0 i v hi 0 j l m))
        (pad_with cells) k;
    partials = partials_stay s records words cells q after_pad cells (heads 0 (omega arith)) (heads 1 (omega arith)) (heads 7 (omega arith))
        peers (λ f p j h l m. refl) k;
    recent_extents = extents_same words after_pad (heads 8 (omega arith)) (λ j l. heads (9 + j) (omega (arith, q.recent_extents))) k;
    listing = listing_same words after_pad s.pieces (heads 5 (omega arith)) (list_same words after_pad s.pieces (heads 6 (omega arith))
        (λ j l.
        column_other s.pieces words 0 i v hi 1 (λ e. omega arith) j (omega (arith, q.list)))) k;
  }

  -- any number
  pub pad_bytes_stored : WordsBecame s (with_piece i (with_pad_bytes v)) words (set words (piece_word_at s.pieces 0 i) v)
  pad_bytes_stored =
      words_became s (with_piece i (with_pad_bytes v)) words after_pad
      (record {
        long = length-set words (piece_word_at s.pieces 0 i) v;
        total_size = heads 0 (omega arith);
        piece_size = heads 1 (omega arith);
        beyond = beyond_same (words_for s.pieces s.blocks) words (piece_word_at s.pieces 0 i) v
            (omega (arith, piece_word_below s.pieces 0 i (omega arith) hi, words_from s.pieces s.blocks));
      })
      (heads 7 (omega arith))
      (λ h. rw (heads 6 (omega arith)) h) (λ h. rw (heads 5 (omega arith), heads 6 (omega arith)) h) (λ h. rw (heads 8 (omega arith)) h)
      (λ h. rw (heads 5 (omega arith)) h) pad_at_shape
