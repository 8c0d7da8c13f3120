-- A word of the list: the rank of a piece beside the piece. Assumes nothing.
-- `w` is a word, `ws` are words, `i` is a piece, `l` a list of pieces, `r` gives the rank of each piece.
use Rattle.std.specs.Prelude.{ℕ, ◌+◌, ◌*◌, ◌/◌, ◌%◌, ◌≡◌, List}
use Rattle.model.specs.Lists.{each}
use Rattle.model.specs.list.Order.{Rank, Ranks}

-- the piece of a word
unfoldable pub listed_piece : (w : ℕ) → ℕ
listed_piece w = w % 65536

-- its rank
unfoldable pub listed_rank : (w : ℕ) → Rank
listed_rank w = w / 65536

-- the word of a piece and its rank
unfoldable pub list_word : (rank : Rank) (i : ℕ) → ℕ
list_word rank i = rank * 65536 + i

-- the highest word of a rank
unfoldable pub top_of : (rank : Rank) → ℕ
top_of rank = rank * 65536 + 65535

-- the pieces of words
unfoldable pub pieces_of : (ws : List ℕ) → List ℕ
pieces_of ws = each listed_piece ws

-- the ranks of words
unfoldable pub ranks_of : (ws : List ℕ) → List Rank
ranks_of ws = each listed_rank ws

-- the words of pieces, each with its rank
unfoldable pub words_of : (r : Ranks) (l : List ℕ) → List ℕ
words_of r l = each (λ i. list_word (r i) i) l

-- beside each piece stands its rank
abbrev pub RanksIn : (r : Ranks) (ws : List ℕ) → Type 0
RanksIn r ws = ranks_of ws ≡ each r (pieces_of ws)
