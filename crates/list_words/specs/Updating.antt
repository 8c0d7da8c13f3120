-- What a list of words must be to be mended after one piece's rank changed, and what mending leaves in the lent memory. Assumes nothing.
-- `r` gives the rank of each piece after the change, `i` is the piece, `old` and `new` are its ranks, `ws` are the words of the list;
-- `words` are all
-- that are lent, `words'` those at the end, `n` of them the list.
use Rattle.std.specs.Prelude.{ℕ, ◌+◌, ◌≡◌, true, cond, List, take, drop, eqb, ltb}
use Rattle.model.specs.Lists.{bit, count, len}
use Rattle.model.specs.list.Listed.{rising}
use Rattle.model.specs.list.Order.{Draws, Rank, Ranks, updated, update_draws}
use Rattle.list_entries.specs.Words.{listed_rank, list_word, pieces_of, RanksIn}

-- the ranks as they were: i had rank `old`
unfoldable pub former : (r : Ranks) (old : Rank) (i : ℕ) → Ranks
former r old i other = cond (eqb other i) old (r other)

-- ranks never fall; and i stands in the list once, with its old rank, if it had one, and not if it had none
pub record Ready (old : Rank) (i : ℕ) (ws : List ℕ) : Type 0 where
  pub order : rising listed_rank ws ≡ true
  pub once : count (eqb i) (pieces_of ws) ≡ bit (ltb 0 old)
  pub held : count (eqb (list_word old i)) ws ≡ bit (ltb 0 old)

-- the first n words are the mended list with its ranks, and the others are as they were; the next draw is number `next`
pub record IsUpdated (r : Ranks) (draws : Draws) (used : ℕ) (old : Rank) (i : ℕ) (ws words words' : List ℕ) (n next : ℕ) : Type 0 where
  pub pieces : pieces_of (take n words') ≡ updated r draws used old i (pieces_of ws)
  pub ranks : RanksIn r (take n words')
  pub length : n ≡ len (updated r draws used old i (pieces_of ws))
  pub behind : drop n words' ≡ drop n words
  pub next_is : next ≡ used + update_draws r old i (pieces_of ws)

-- and that for all ranks of which the words held the former ones
abbrev pub Updates : (new : Rank) (draws : Draws) (used : ℕ) (old : Rank) (i : ℕ) (ws words words' : List ℕ) (n next : ℕ) → Type 0
Updates new draws used old i ws words words' n next =
    (r : Ranks) → r i ≡ new → RanksIn (former r old i) ws → IsUpdated r draws used old i ws words words' n next
