-- What the tests of the pieces read: the four cells of a piece as a piece, its rank and its test; the columns of all pieces.
-- Assumes nothing.
use Rattle.std.specs.Prelude.{ℕ, ◌+◌, ◌-◌, ◌≤◌, ◌<◌, ◌≡◌, Bool, true, not, ◌&&◌, ◌||◌, List, length, get_or, eqb, ltb, leb}
use Rattle.model.specs.Lists.{every, from}
use Rattle.model.specs.State.{Piece, max_peers, max_priority, is_open}
use Rattle.model.specs.list.Order.{bucket, rank_of}
use Rattle.check_pieces.specs.declared.rows.Joined.{Joined}
use Rattle.memory_layout.specs.Decode.{queue_from, yes?}

-- ---- one piece
-- pad bytes do not matter to its rank
unfoldable pub piece_from : (count state priority flushed pad : ℕ) → Piece
piece_from count state priority flushed pad =
    record { peer_count = count; state = queue_from state; priority = priority; flushed = yes? flushed; pad_bytes = pad }

-- the model's rank of it
unfoldable pub rank_from : (seeds count state priority flushed : ℕ) → ℕ
rank_from seeds count state priority flushed = rank_of (bucket seeds (piece_from count state priority flushed 0))

-- a state, flushed or not, and what a well-formed picker asks of the piece but for its pad bytes
unfoldable pub cells_ok : (seeds count state priority flushed : ℕ) → Bool
cells_ok seeds count state priority flushed =
    (leb state 6 && leb flushed 1)
    && (leb (count + seeds) max_peers && (leb priority max_priority && (not (yes? flushed) || is_open (queue_from state))))

-- what is asked of the count, of the state, and of a piece that is flushed, by the state's number
unfoldable pub wrongless : (seeds count state flushed : ℕ) → Bool
wrongless seeds count state flushed =
    (leb (count + seeds) max_peers && leb state 6) && (not (eqb flushed 1) || eqb state 4)

-- the cells of pieces joined by `|`: nothing is wrong, and no bit is in them that is in no good cell
unfoldable pub joined_ok : (j : Joined) → Bool
joined_ok j = (eqb j.wrong 0 && ltb j.priorities 8) && ltb j.flushed 2

-- cells that have a rank
pub record Ranked (count state priority : ℕ) : Type 0 where
  pub count_most : count ≤ 1000
  pub state_most : state ≤ 6
  pub priority_most : priority ≤ 7

-- ---- all pieces
-- columns of one length, as many as a picker has pieces at most
pub record Level (counts states priorities flushed : List ℕ) : Type 0 where
  pub most : length counts ≤ 4096
  pub states_long : length states ≡ length counts
  pub priorities_long : length priorities ≡ length counts
  pub flushed_long : length flushed ≡ length counts

-- row i of four columns: its test
unfoldable pub row_in : (seeds : ℕ) (counts states priorities flushed : List ℕ) (i : ℕ) → Bool
row_in seeds counts states priorities flushed i =
    cells_ok seeds (get_or counts i 0) (get_or states i 0) (get_or priorities i 0) (get_or flushed i 0)

-- and its rank
unfoldable pub rank_in : (seeds : ℕ) (counts states priorities flushed : List ℕ) (i : ℕ) → ℕ
rank_in seeds counts states priorities flushed i =
    rank_from seeds (get_or counts i 0) (get_or states i 0) (get_or priorities i 0) (get_or flushed i 0)

-- what a pass over n rows leaves: whether each passes its test, and where they do, the rank of each
pub record Passed (test : ℕ → Bool) (rank : ℕ → ℕ) (n : ℕ) (r : Bool) (ranks : List ℕ) : Type 0 where
  pub is : r ≡ every test (from 0 n)
  pub each : r ≡ true → (i : ℕ) → i < n → get_or ranks i 0 ≡ rank i
  pub long : n ≤ length ranks

-- ---- pad bytes
-- none of them is above the most
abbrev pub NoneAbove : (most : ℕ) (pads : List ℕ) → Type 0
NoneAbove most pads = (i : ℕ) → i < length pads → get_or pads i 0 ≤ most

-- of whole pieces
unfoldable pub pads_below : (size : ℕ) (pads : List ℕ) → Bool
pads_below size pads = every (λ i. leb (get_or pads i 0) size) (from 0 (length pads))

-- where the last piece has a length of its own
unfoldable pub pads_ok : (size last : ℕ) (pads : List ℕ) → Bool
pads_ok size last pads = pads_below size pads && leb (get_or pads (length pads - 1) 0) last
