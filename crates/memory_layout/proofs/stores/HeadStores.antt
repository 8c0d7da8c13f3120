-- What a store in the head does to the picker: seeds and cursors. Assumes nothing.
use mathlib.Core.Path.{◌≡◌, refl, sym, ◌∙◌}
use mathlib.Core.Logic.{◌≢◌}
use mathlib.Core.List.{List}
use Prim.Native.Nat.{ℕ, ◌+◌, ◌*◌, ◌≤◌, ◌<◌}
use native.Mathlib.Omega.{arith}
use lib.ListN.{length, get_or, set, length-set}
use Rattle.model.specs.State.{with_seeds, with_cursors}
use Rattle.memory_records.specs.declared.record.DownloadingPiece.{DownloadingPiece as Record}
use Rattle.memory_layout.specs.declared.shape.Shape.{Shape}
use Rattle.memory_layout.specs.Tables.{choose}
use Rattle.memory_layout.specs.Offsets.{cell, piece_word_at, peer_at, words_for}
use Rattle.memory_layout.specs.Decode.{head_word, piece_word, peer_word, pieces_held, partials_held, list_held, decode_at}
use Rattle.memory_layout.specs.Changes.{with_head}
use Rattle.memory_layout.specs.Bounds.{WordsSpan, InBounds}
use Rattle.memory_layout.specs.Stores.{WordsKept, WordsBecame}
use Rattle.memory_layout.specs.Frames.{SameColumn, SamePeers, SameFrom}
use Rattle.memory_layout.proofs.OffsetLaws.{words_from, head_in}
use Rattle.memory_layout.proofs.Same.{head_other, head_stored, column_below, peers_below}
use Rattle.memory_layout.proofs.Same.{beyond_same}
use Rattle.memory_layout.proofs.Parts.{pieces_same, list_same, listing_same, extents_same}
use Rattle.memory_layout.proofs.BoundsLaws.{words_became, partials_stay}

-- ---- all words but the head as they were
pub record Behind (s : Shape) (words words' : List ℕ) : Type 0 where
  pub long : length words' ≡ length words
  pub columns : (f : ℕ) → f < 2 → SameColumn s.pieces f words words'
  pub peers : SamePeers s.pieces s.blocks words words'
  pub beyond : SameFrom (words_for s.pieces s.blocks) words words'

-- where all behind the head is
pub behind_same : (s : Shape) (words words' : List ℕ) → length words' ≡ length words
    → ((k : ℕ) → 16 ≤ k → get_or words' k 0 ≡ get_or words k 0) → Behind s words words'
unfolding piece_word piece_word_at peer_word peer_at cell
behind_same s words words' long h = record {
  long = long;
  columns = λ f l i m. h (16 + (f * s.pieces + i)) (omega arith);
  peers = λ p j l m. h (16 + 2 * s.pieces + (p * s.blocks + j)) (omega arith);
  beyond = λ k l. h k (omega (arith, words_from s.pieces s.blocks));
}

-- before any store
pub behind_none : (s : Shape) (words : List ℕ) → Behind s words words
behind_none s words = record { long = refl; columns = λ f h i l. refl; peers = λ p j h l. refl; beyond = λ k h. refl }

-- after one store more in the head
pub behind_store : (s : Shape) (words words' : List ℕ) (k v : ℕ) → k < 16 → Behind s words words' → Behind s words (set words' k v)
behind_store s words words' k v h b =
    record {
      long = length-set words' k v ∙ b.long;
      columns = λ f l i m. column_below words' k v s.pieces h f i m ∙ b.columns f l i m;
      peers = λ p j l m. peers_below words' k v s.pieces s.blocks (omega arith) p j l m ∙ b.peers p j l m;
      beyond = λ i l. beyond_same (words_for s.pieces s.blocks) words' k v (omega (arith, words_from s.pieces s.blocks)) i l
          ∙ b.beyond i l;
    }

module _ (s : Shape) (words words' : List ℕ) (b : Behind s words words') (t : head_word words' 0 ≡ head_word words 0) (z : head_word words' 1
    ≡ head_word words 1) where
  -- the frame
  pub behind_kept : WordsKept s words words'
  behind_kept = record { long = b.long; total_size = t; piece_size = z; beyond = b.beyond }

  -- the pieces stay
  pub behind_pieces : (cells : List ℕ) → pieces_held words' cells s.pieces ≡ pieces_held words cells s.pieces
  behind_pieces cells = pieces_same words words' cells cells s.pieces (λ f i l m. refl) (b.columns 0 (omega arith))

  -- the partials do
  pub behind_partials : head_word words' 7 ≡ head_word words 7 → (records : List Record) (cells : List ℕ) → InBounds s records words cells
      → partials_held records words' cells s.pieces s.blocks ≡ partials_held records words cells s.pieces s.blocks
  behind_partials e records cells r = partials_stay s records words cells r words' cells t z e b.peers (λ f p j h l m. refl)

  -- the list does, where its length is the same
  pub behind_list : head_word words' 6 ≡ head_word words 6 → head_word words 6 ≤ s.pieces
      → list_held words' s.pieces ≡ list_held words s.pieces
  behind_list e room = list_same words words' s.pieces e (λ i l. b.columns 1 (omega arith) i (omega arith))

-- ---- seeds and cursors
module _ (s : Shape) (words : List ℕ) (r : WordsSpan s words) (k v : ℕ) (low : 2 ≤ k) (high : k ≤ 4) where
  same : (g : ℕ) → k ≢ g → head_word (set words k v) g ≡ head_word words g
  same g m = head_other words k v g (λ e. m (sym e))

  behind : Behind s words (set words k v)
  behind = behind_store s words words k v (omega arith) (behind_none s words)

  stored : (g : ℕ) → head_word (set words k v) g ≡ choose k g v (head_word words g)
  stored g = head_stored words k v (omega (arith, head_in s words r)) g

  total : head_word (set words k v) 0 ≡ head_word words 0
  total = same 0 (λ e. omega arith)

  size : head_word (set words k v) 1 ≡ head_word words 1
  size = same 1 (λ e. omega arith)

  at_shape : (records : List Record) (cells : List ℕ) → InBounds s records words cells
      → decode_at s.pieces s.blocks records (set words k v) cells ≡ with_head k v (decode_at s.pieces s.blocks records words cells)
  unfolding with_head
  at_shape records cells q = λ i. record {
    total_size = total i;
    piece_size = size i;
    seeds = stored 2 i;
    cursor = stored 3 i;
    reverse_cursor = stored 4 i;
    pieces = behind_pieces s words (set words k v) behind total size cells i;
    partials = behind_partials s words (set words k v) behind total size (same 7 (λ e. omega arith)) records cells q i;
    recent_extents = extents_same words (set words k v) (same 8 (λ e. omega arith)) (λ j l. same (9 + j) (λ e. omega arith)) i;
    listing = listing_same words (set words k v) s.pieces (same 5 (λ e. omega arith)) (behind_list s words (set words k v) behind total
        size (same 6 (λ e. omega arith)) q.list) i;
  }

  -- word k of the head, from 2 to 4
  pub head_became : WordsBecame s (with_head k v) words (set words k v)
  head_became =
      words_became s (with_head k v) words (set words k v) (behind_kept s words (set words k v) behind total size)
      (same 7 (λ e. omega arith))
      (λ h. rw (same 6 (λ e. omega arith)) h) (λ h. rw (same 5 (λ e. omega arith), same 6 (λ e. omega arith)) h)
      (λ h. rw (same 8 (λ e. omega arith)) h) (λ h. rw (same 5 (λ e. omega arith)) h) at_shape

module _ (s : Shape) (words : List ℕ) (r : WordsSpan s words) (v : ℕ) where
  -- the seeds
  pub seeds_stored : WordsBecame s (with_seeds v) words (set words 2 v)
  unfolding with_head with_seeds choose
  seeds_stored = head_became s words r 2 v (omega arith) (omega arith)

  -- the cursor
  pub cursor_stored : WordsBecame s (λ d. with_cursors v d.reverse_cursor d) words (set words 3 v)
  unfolding with_head with_cursors choose
  cursor_stored = head_became s words r 3 v (omega arith) (omega arith)

  -- the reverse cursor
  pub reverse_cursor_stored : WordsBecame s (λ d. with_cursors d.cursor v d) words (set words 4 v)
  unfolding with_head with_cursors choose
  reverse_cursor_stored = head_became s words r 4 v (omega arith) (omega arith)
