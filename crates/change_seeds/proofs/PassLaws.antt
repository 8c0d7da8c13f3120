-- A pass over the column of peer counts: what it makes of the picker. Assumes nothing.
use mathlib.Core.Path.{◌≡◌, refl, sym, ap, subst, ◌∙◌}
use mathlib.Core.List.{List, ◌∷◌}
use Prim.Native.Nat.{ℕ, zero, suc, ◌+◌, ◌*◌, ◌-◌, ◌≤◌, ◌<◌}
use native.Mathlib.Omega.{arith}
use native.Mathlib.Decide.{ℕ_discrete}
use native.Mathlib.Nat.{mul-le-mul}
use lib.ListN.{length, get_or, set, length-set}
use lib.Seq.{get_or-set_same, get_or-set_other}
use Rattle.model.specs.Lists.{each}
use Rattle.model.specs.State.{Piece, with_peer_count, with_pieces}
use Rattle.model.specs.change.Changes.{inc_peer_count, dec_peer_count, all_pieces}
use Rattle.memory_records.specs.declared.record.DownloadingPiece.{DownloadingPiece as Record}
use Rattle.memory_layout.specs.declared.shape.Shape.{Shape}
use Rattle.memory_layout.specs.Tables.{tabulate}
use Rattle.memory_layout.specs.Offsets.{cell, piece_cell_at, block_cell_at}
use Rattle.memory_layout.specs.Decode.{head_word, piece_cell, piece_word, block_cell, queue_from, yes?, piece_held, pieces_held, decode_at}
use Rattle.memory_layout.specs.Bounds.{CellsSpan, InBounds}
use Rattle.memory_layout.specs.Stores.{CellsBecame}
use Rattle.memory_layout.specs.Frames.{SameBlocks}
use Rattle.memory_layout.proofs.TableLaws.{tabulate_ext}
use Rattle.memory_layout.proofs.OffsetLaws.{cells_from, block_cell_from}
use Rattle.memory_layout.proofs.BoundsLaws.{partials_stay, cells_became}
use Rattle.change_seeds.specs.Seeds.{CountsFit}

-- ---- the pass
-- the first i cells are what g makes of them, and the others are as they were
pub record Passed (g : ℕ → ℕ) (i : ℕ) (cells cells' : List ℕ) : Type 0 where
  pub long : length cells' ≡ length cells
  pub done : (k : ℕ) → k < i → get_or cells' k 0 ≡ g (get_or cells k 0)
  pub rest : (k : ℕ) → i ≤ k → get_or cells' k 0 ≡ get_or cells k 0

module _ (g : ℕ → ℕ) (cells : List ℕ) where
  -- before the first
  pub pass_none : Passed g 0 cells cells
  pass_none = record { long = refl; done = λ k h. absurd (omega arith); rest = λ k h. refl }

  -- one more
  pub pass_next : (i : ℕ) (cells' : List ℕ) (v : ℕ) → Passed g i cells cells' → i < length cells' → v ≡ g (get_or cells' i 0)
      → Passed g (i + 1) cells (set cells' i v)
  pass_next i cells' v p h e =
      record {
        long = length-set cells' i v ∙ p.long;
        done = λ k l. elim (ℕ_discrete k i) [
          | yes q ↦ rw q (get_or-set_same cells' i v 0 h ∙ e ∙ ap g (p.rest i (omega arith)))
          | no q ↦ get_or-set_other cells' i k v 0 q ∙ p.done k (omega (arith, q))
        ];
        rest = λ k l. get_or-set_other cells' i k v 0 (λ q. omega arith) ∙ p.rest k (omega arith);
      }

-- all of them
pub pass_whole : (g : ℕ → ℕ) (cells cells' : List ℕ) (i n : ℕ) → i ≡ n → Passed g i cells cells' → Passed g n cells cells'
pass_whole g cells cells' i n e p = subst (λ (k : ℕ). Passed g k cells cells') e p

-- the cell of a piece that is not passed yet is there
pub cell_there : (g : ℕ → ℕ) (s : Shape) (cells cells' : List ℕ) (i : ℕ) → CellsSpan s cells → Passed g i cells cells' → i < s.pieces
    → i < length cells'
cell_there g s cells cells' i r p h = omega (arith, p.long, r.long, cells_from s.pieces s.blocks)

-- and has room for one more
pub cell_fits : (g : ℕ → ℕ) (s : Shape) (cells cells' : List ℕ) (i : ℕ) → CountsFit s cells → Passed g i cells cells' → i < s.pieces
    → get_or cells' i 0 < 65535
unfolding piece_cell piece_cell_at cell
cell_fits g s cells cells' i f p h =
    let e : 0 * s.pieces + i ≡ i = omega arith in
    rw (p.rest i (omega arith)) (rw e at (f i h))

-- ---- the picker after it
-- a function of each element of a table
each_table : {A B : Type 0} (f : A → B) (n : ℕ) (h : ℕ → A) → each f (tabulate n h) ≡ tabulate n (λ k. f (h k))
unfolding each tabulate
each_table f zero h = refl
each_table {B} f (suc n) h = ap (λ (l : List B). f (h zero) ∷ l) (each_table f n (λ k. h (suc k)))

-- another count
abbrev counted : (g : ℕ → ℕ) (p : Piece) → Piece
counted g p = with_peer_count (g p.peer_count) p

module _ (g : ℕ → ℕ) (s : Shape) (cells cells' : List ℕ) (r : CellsSpan s cells) (p : Passed g s.pieces cells cells') where
  -- the counts
  count_is : (i : ℕ) → i < s.pieces → piece_cell cells' s.pieces 0 i ≡ g (piece_cell cells s.pieces 0 i)
  unfolding piece_cell piece_cell_at cell
  count_is i h = p.done (0 * s.pieces + i) (omega arith)

  -- the other columns of the pieces
  field_is : (f i : ℕ) → 1 ≤ f → piece_cell cells' s.pieces f i ≡ piece_cell cells s.pieces f i
  unfolding piece_cell piece_cell_at cell
  field_is f i h =
      let m : 1 * s.pieces ≤ f * s.pieces = mul-le-mul h (omega arith) in
      p.rest (f * s.pieces + i) (omega arith)

  -- the blocks
  blocks_are : SameBlocks s.pieces s.blocks cells cells'
  unfolding block_cell
  blocks_are f q j h l m =
      p.rest (block_cell_at s.pieces s.blocks f q j) (omega (arith, block_cell_from s.pieces s.blocks f q j))

  piece_is : (words : List ℕ) (i : ℕ) → i < s.pieces
      → piece_held words cells' s.pieces i ≡ counted g (piece_held words cells s.pieces i)
  unfolding piece_held with_peer_count
  piece_is words i h = λ k. record {
    peer_count = count_is i h k;
    state = queue_from (field_is 1 i (omega arith) k);
    priority = field_is 2 i (omega arith) k;
    flushed = yes? (field_is 3 i (omega arith) k);
    pad_bytes = piece_word words s.pieces 0 i;
  }

  pieces_are : (words : List ℕ) → pieces_held words cells' s.pieces ≡ each (counted g) (pieces_held words cells s.pieces)
  unfolding pieces_held
  pieces_are words =
      tabulate_ext s.pieces (piece_held words cells' s.pieces) (λ i. counted g (piece_held words cells s.pieces i)) (piece_is words)
      ∙ sym (each_table (counted g) s.pieces (piece_held words cells s.pieces))

  at_shape : (records : List Record) (words : List ℕ) → InBounds s records words cells
      → decode_at s.pieces s.blocks records words cells' ≡ all_pieces (counted g) (decode_at s.pieces s.blocks records words cells)
  unfolding all_pieces with_pieces
  at_shape records words q = λ k. record {
    total_size = head_word words 0;
    piece_size = head_word words 1;
    seeds = head_word words 2;
    cursor = head_word words 3;
    reverse_cursor = head_word words 4;
    pieces = pieces_are words k;
    partials = partials_stay s records words cells q words cells' refl refl refl (λ p j l m. refl) blocks_are k;
    recent_extents = (decode_at s.pieces s.blocks records words cells).recent_extents;
    listing = (decode_at s.pieces s.blocks records words cells).listing;
  }

  -- each piece has the count that g makes of its own
  all_counted : CellsBecame s (all_pieces (counted g)) cells cells'
  all_counted =
      cells_became s (all_pieces (counted g)) cells cells'
      (record { long = p.long; beyond = λ k h. p.rest k (omega (arith, cells_from s.pieces s.blocks)) })
      (λ q. record {
        states = λ i l. rw (field_is 1 i (omega arith)) (q.states i l);
        flushed = λ i l. rw (field_is 3 i (omega arith)) (q.flushed i l);
      })
      (λ k j l m q. record {
        state = rw (blocks_are 0 k j (omega arith) l m) q.state;
        has = rw (blocks_are 2 k j (omega arith) l m) q.has;
      })
      at_shape

-- a peer more of each
pub all_raised : (s : Shape) (cells cells' : List ℕ) → CellsSpan s cells → Passed suc s.pieces cells cells'
    → CellsBecame s (all_pieces inc_peer_count) cells cells'
unfolding inc_peer_count
all_raised s cells cells' r p = all_counted suc s cells cells' r p

-- a peer less
pub all_lowered : (s : Shape) (cells cells' : List ℕ) → CellsSpan s cells → Passed (λ c. c - 1) s.pieces cells cells'
    → CellsBecame s (all_pieces dec_peer_count) cells cells'
unfolding dec_peer_count
all_lowered s cells cells' r p = all_counted (λ c. c - 1) s cells cells' r p
