-- Peer counts and priorities in range, and what the ranks are that the cells give. The ranks do not depend on the records: what is said
-- of a picker is said whatever records stand beside. Assumes nothing.
use Rattle.std.specs.Prelude.{ℕ, ◌≤◌, ◌<◌, ◌≡◌, List, length, get_or}
use Rattle.model.specs.State.{max_peers, max_priority}
use Rattle.model.specs.list.Order.{rank}
use Rattle.memory_records.specs.declared.record.DownloadingPiece.{DownloadingPiece as Record}
use Rattle.memory_layout.specs.declared.shape.Shape.{Shape}
use Rattle.memory_layout.specs.Decode.{piece_cell, pieces_on, decode}
use Rattle.list_rank.specs.Ranks.{max_rank}

-- peer count and priority of each piece are in range, so that its rank has a place in the table
pub record Ranges (n : ℕ) (cells : List ℕ) : Type 0 where
  pub peer_count : (i : ℕ) → i < n → piece_cell cells n 0 i ≤ max_peers
  pub priority : (i : ℕ) → i < n → piece_cell cells n 2 i ≤ max_priority

-- r is the rank of piece i
pub record IsRankAt (s : Shape) (words cells : List ℕ) (i r : ℕ) : Type 0 where
  pub is : s.pieces ≡ pieces_on words → (records : List Record) → r ≡ rank (decode records words cells) i
  pub low : r ≤ max_rank

-- the first n of `filled` are the ranks of the first n pieces, the others are as they were
pub record RanksFilled (s : Shape) (words cells : List ℕ) (n : ℕ) (before filled : List ℕ) : Type 0 where
  pub ranks : (i : ℕ) → i < n → IsRankAt s words cells i (get_or filled i 0)
  pub rest : (i : ℕ) → n ≤ i → get_or filled i 0 ≡ get_or before i 0
  pub long : length filled ≡ length before
