-- What the test of blocks asks of their cells, and how many are in each state. Assumes nothing.
use Rattle.std.specs.Prelude.{ℕ, ◌+◌, ◌≡◌, Bool, ◌&&◌, List, get_or, set, eqb, ltb, leb}
use Rattle.model.specs.State.{max_peers}
use Rattle.memory_layout.specs.Decode.{block_cell}
use Rattle.check_blocks.specs.declared.blocks.Joined.{Joined}
use Rattle.check_blocks.specs.declared.blocks.Counts.{Counts}
use Rattle.check_blocks.specs.Below.{all_below, count_below}

-- the cells of a block: numbers that an image could hold, and in range
unfoldable pub row_ok : (state num_peers has : ℕ) → Bool
row_ok state num_peers has = (leb state 3 && leb num_peers max_peers) && leb has 1

-- the cells of blocks, joined by `|` field by field: no bit is in them that is in no good block's
unfoldable pub joined_ok : (j : Joined) → Bool
joined_ok j = (ltb j.states 4 && ltb j.beyond 1) && ltb j.flags 2

-- block j, where the cells of blocks stand in a list for each field
unfoldable pub row_in : (states num_peers has : List ℕ) (j : ℕ) → Bool
row_in states num_peers has j = row_ok (get_or states j 0) (get_or num_peers j 0) (get_or has j 0)

-- how many of the first blocks are in the state of a number, by the list of their states
unfoldable pub state_of : (states : List ℕ) (number many : ℕ) → ℕ
state_of states number many = count_below (λ j. eqb (get_or states j 0) number) many

-- block j of place p
unfoldable pub row_cells : (cells : List ℕ) (n b p j : ℕ) → Bool
row_cells cells n b p j = row_ok (block_cell cells n b 0 p j) (block_cell cells n b 1 p j) (block_cell cells n b 2 p j)

-- of the first blocks of place p: all are good
unfoldable pub rows_ok : (cells : List ℕ) (n b p many : ℕ) → Bool
rows_ok cells n b p many = all_below (row_cells cells n b p) many

-- how many are in the state of a number
unfoldable pub in_state : (cells : List ℕ) (n b p number many : ℕ) → ℕ
in_state cells n b p number many = count_below (λ j. eqb (block_cell cells n b 0 p j) number) many

-- how many are not free, where all are good
unfoldable pub busy_in : (cells : List ℕ) (n b p many : ℕ) → ℕ
busy_in cells n b p many = in_state cells n b p 1 many + in_state cells n b p 2 many + in_state cells n b p 3 many

-- the numbers of the first blocks of place p
pub record Tallied (cells : List ℕ) (n b p many : ℕ) (c : Counts) : Type 0 where
  pub requested : c.requested ≡ in_state cells n b p 1 many
  pub writing : c.writing ≡ in_state cells n b p 2 many
  pub finished : c.finished ≡ in_state cells n b p 3 many

-- the numbers of partial k stored: three columns of 512, requested, writing, finished
unfoldable pub counts_put : (counts : List ℕ) (k : ℕ) (c : Counts) → List ℕ
counts_put counts k c = set (set (set counts k c.requested) (512 + k) c.writing) (1024 + k) c.finished
