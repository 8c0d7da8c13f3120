-- The ranks by the cells: of one piece, and of the pieces up to one. Assumes nothing.
use mathlib.Core.Path.{◌≡◌, refl, sym, ap, ap₂, ◌∙◌}
use mathlib.Core.Bool.{Bool}
use mathlib.Core.List.{List}
use Prim.Native.Nat.{ℕ, ◌+◌, ◌≤◌, ◌<◌}
use native.Mathlib.Decide.{ℕ_discrete}
use native.Mathlib.Omega.{arith}
use lib.Dec.{eqb}
use lib.ListN.{length, get_or, set, length-set}
use lib.Seq.{get_or-set_same, get_or-set_other}
use Rattle.types.specs.Queue.{queue_number}
use Rattle.model.specs.Lists.{nth}
use Rattle.model.specs.State.{Piece, max_peers, max_priority, no_piece, piece_at}
use Rattle.model.specs.list.Order.{rank, rank_of, bucket}
use Rattle.memory_records.specs.declared.record.DownloadingPiece.{DownloadingPiece as Record}
use Rattle.memory_layout.specs.declared.shape.Shape.{Shape}
use Rattle.memory_layout.specs.Tables.{tabulate}
use Rattle.memory_layout.specs.Decode.{head_word, piece_cell, pieces_on, queue_from, yes?, piece_held, pieces_held, decode}
use Rattle.memory_layout.proofs.TableLaws.{tabulate-nth}
use Rattle.list_rank.specs.Ranks.{Numbers, IsRank}
use Rattle.memory_ranks.specs.CellRanks.{Ranges, IsRankAt, RanksFilled}

-- ---- one piece
-- numbers in another width have the same rank
pub rank_of_cells : (seeds c t p : ℕ) (flushed : Bool) (c' t' p' v v' : ℕ) → c' ≡ c → t' ≡ t → p' ≡ p → v' ≡ v
    → IsRank seeds c' t' p' flushed v → IsRank seeds c t p flushed v'
rank_of_cells seeds c t p flushed c' t' p' v v' ec et ep ev k = rw (ev, ← ec, ← et, ← ep) k

module _ (s : Shape) (words cells : List ℕ) (i : ℕ) (h : i < s.pieces) where
  -- the piece by its cells, whatever the records are
  pub piece_held_lem : s.pieces ≡ pieces_on words → (records : List Record) → piece_at (decode records words cells) i
      ≡ piece_held words cells s.pieces i
  unfolding piece_at pieces_held
  piece_held_lem e records =
      ap (λ (n : ℕ). nth no_piece (tabulate n (piece_held words cells n)) i) (sym e)
      ∙ tabulate-nth s.pieces (piece_held words cells s.pieces) i no_piece h

  -- its cells are in range
  pub cells_most : Ranges s.pieces cells → (peer_count priority : ℕ) → peer_count ≡ piece_cell cells s.pieces 0 i
      → priority ≡ piece_cell cells s.pieces 2 i → (peer_count ≤ max_peers) × (priority ≤ max_priority)
  cells_most g peer_count priority ec ep = (rw ec (g.peer_count i h), rw ep (g.priority i h))

  -- its rank is the one that its cells give
  pub rank_is : (seeds peer_count state priority flushed v : ℕ) → seeds ≡ head_word words 2 → peer_count ≡ piece_cell cells s.pieces 0 i
      → state ≡ piece_cell cells s.pieces 1 i → priority ≡ piece_cell cells s.pieces 2 i → flushed ≡ piece_cell cells s.pieces 3 i
      → IsRank seeds peer_count (queue_number (queue_from state)) priority (eqb flushed 1) v → IsRankAt s words cells i v
  unfolding rank yes? piece_held
  rank_is seeds peer_count state priority flushed v es ec et ep ef k =
      let n : Numbers peer_count (queue_number (queue_from state)) priority (eqb flushed 1) (piece_held words cells s.pieces i) = record {
        peer_count_is = sym ec;
        state_is = ap (λ (w : ℕ). queue_number (queue_from w)) (sym et);
        priority_is = sym ep;
        flushed_is = ap (λ (w : ℕ). eqb w 1) (sym ef);
      } in
      record {
        is = λ e records.
            k.is (piece_held words cells s.pieces i) n
            ∙ ap₂ (λ (m : ℕ) (p : Piece). rank_of (bucket m p)) es (sym (piece_held_lem e records));
        low = k.low;
      }

-- a rank in another width
pub rank_wide : {s : Shape} {words cells : List ℕ} {i v w : ℕ} → w ≡ v → IsRankAt s words cells i v → IsRankAt s words cells i w
rank_wide e r = rw e r

-- ---- the pieces up to i
-- the first i numbers are ranks, the others are as they were
pub record Filling (s : Shape) (words cells : List ℕ) (i : ℕ) (before ranks : List ℕ) : Type 0 where
  pub filled : RanksFilled s words cells i before ranks
  pub at : i ≤ s.pieces

module _ (s : Shape) (words cells : List ℕ) where
  pub filling_start : (ranks : List ℕ) → Filling s words cells 0 ranks ranks
  filling_start ranks =
      record { filled = record { ranks = λ i h. absurd (omega arith); rest = λ i h. refl; long = refl }; at = omega arith }

  pub filling_next : (i : ℕ) (before ranks : List ℕ) → Filling s words cells i before ranks → s.pieces ≤ length before → i < s.pieces
      → (v : ℕ) → IsRankAt s words cells i v → Filling s words cells (i + 1) before (set ranks i v)
  filling_next i before ranks k m h v r =
      let same : get_or (set ranks i v) i 0 ≡ v = get_or-set_same ranks i v 0 (omega (arith, k.filled.long)) in
      let other : (j : ℕ) → (j ≡ i → ⊥) → get_or (set ranks i v) j 0 ≡ get_or ranks j 0 = λ j q. get_or-set_other ranks i j v 0 q in
      record {
        filled = record {
          ranks = λ j l. elim (ℕ_discrete j i) [
            | yes q ↦ rw (q, same) r
            | no q ↦ rw (other j q) (k.filled.ranks j (omega arith))
          ];
          rest = λ j l. other j (λ q. omega arith) ∙ k.filled.rest j (omega arith);
          long = length-set ranks i v ∙ k.filled.long;
        };
        at = omega arith;
      }

  pub filling_end : (i : ℕ) (before ranks : List ℕ) → Filling s words cells i before ranks → s.pieces ≤ i
      → RanksFilled s words cells s.pieces before ranks
  filling_end i before ranks k h =
      let e : i ≡ s.pieces = omega (arith, k.at) in
      rw e at k.filled
