-- The least copies of a piece and how many pieces have more, kept together. Assumes nothing.
use Rattle.std.specs.Prelude.{ℕ, ◌+◌, ◌≤◌, ◌<◌, ◌≡◌, List, [], ◌∷◌, ltb}
use Rattle.model.specs.Lists.{bit, least, count}
use Rattle.model.specs.ask.Questions.{Reply, plain, max_peer_count}
use Rattle.memory_layout.specs.Tables.{tabulate}
use Rattle.memory_layout.specs.Decode.{piece_cell, yes?}
use Rattle.ask_columns.specs.declared.copies.Least.{Least}
use Rattle.ask_columns.specs.declared.copies.DistributedCopies.{DistributedCopies}

-- the copies of piece i, from its cells
unfoldable pub copies_held : (cells : List ℕ) (n i : ℕ) → ℕ
copies_held cells n i = piece_cell cells n 0 i + bit (yes? (piece_cell cells n 3 i))

-- those of a stretch of pieces from i on
unfoldable pub copies_from : (cells : List ℕ) (n i many : ℕ) → List ℕ
copies_from cells n i many = tabulate many (λ k. copies_held cells n (i + k))

-- they have room in 16 bits: few peers, and a piece is flushed or is not
pub record FewCopies (cells : List ℕ) (n : ℕ) : Type 0 where
  pub peers : (i : ℕ) → i < n → piece_cell cells n 0 i ≤ 1000
  pub flushed : (i : ℕ) → i < n → piece_cell cells n 3 i ≤ 1

-- the least of a number and those of a list
unfoldable pub least_of : (n : ℕ) (xs : List ℕ) → ℕ
least_of n [] = n
least_of n (x ∷ xs) = least_of (least n x) xs

-- of the first i pieces of n
pub record LeastIn (cells : List ℕ) (n i : ℕ) (r : Least) : Type 0 where
  pub copies : r.copies ≡ least_of max_peer_count (tabulate i (copies_held cells n))
  pub more : r.more ≡ count (ltb r.copies) (tabulate i (copies_held cells n))

-- document 01's values
unfoldable pub copies_reply : (r : DistributedCopies) → Reply
copies_reply r = plain (r.integer ∷ r.fraction ∷ [])
