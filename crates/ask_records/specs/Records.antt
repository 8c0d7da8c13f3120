-- Answers of several records in a lent list of words: each record has as many words, one record after another. Assumes nothing.
use Rattle.std.specs.Prelude.{ℕ, ◌+◌, ◌*◌, ◌≤◌, ◌<◌, ◌≡◌, Bool, false, true, cond, ◌&&◌, ◌||◌, List, [], ◌∷◌, eqb, length, get_or}
use Rattle.std.proofs.Math.Option.{Option, some}
use Rattle.model.specs.Lists.{nth, every, concat_map}
use Rattle.model.specs.ask.Questions.{Reply, numbers, stale_list}
use Rattle.memory_layout.specs.Tables.{tabulate}
use Rattle.memory_layout.specs.Decode.{yes?, peer_from}

-- the words of record j, where a record has w
unfoldable pub words_at : (w : ℕ) (out : List ℕ) (j : ℕ) → List ℕ
words_at w out j = tabulate w (λ f. get_or out (w * j + f) 0)

-- what the first n records tell
unfoldable pub told : {B : Type 0} → (w : ℕ) (read : List ℕ → List B) (n : ℕ) (out : List ℕ) → List B
told w read n out = concat_map read (tabulate n (words_at w out))

-- ---- the records
-- 1 and a peer, or 0 and 0 for none
unfoldable pub peer_pair : (has peer : ℕ) → Bool
peer_pair has peer = yes? has || (eqb has 0 && eqb peer 0)

-- a peer or none; words that are no such pair tell nothing
unfoldable pub peer_read : (words : List ℕ) → List (Option ℕ)
peer_read words = cond (peer_pair (nth 0 words 0) (nth 0 words 1)) (peer_from (nth 0 words 0) (nth 0 words 1) ∷ []) []

-- a block: state, peers, a peer or none; with words that are no such pair it tells nothing
unfoldable pub block_read : (words : List ℕ) → List (Option ℕ)
block_read words =
    cond (peer_pair (nth 0 words 2) (nth 0 words 3))
    (some (nth 0 words 0) ∷ some (nth 0 words 1) ∷ peer_from (nth 0 words 2) (nth 0 words 3) ∷ []) []

-- something is told
unfoldable pub tells? : {B : Type 0} → (part : List B) → Bool
tells? [] = false
tells? (x ∷ xs) = true

-- the answer that n records are; where one of them tells nothing, an answer that no question about a piece has
unfoldable pub told_reply : (w : ℕ) (read : List ℕ → List (Option ℕ)) (n : ℕ) (out : List ℕ) → Reply
told_reply w read n out = cond (every (λ r. tells? (read r)) (tabulate n (words_at w out))) (numbers (told w read n out)) stale_list

-- ---- what was written
-- n records of w words, and nothing behind them
pub record Written (w n : ℕ) (before after : List ℕ) : Type 0 where
  pub long : length after ≡ length before
  pub behind : (k : ℕ) → w * n ≤ k → get_or after k 0 ≡ get_or before k 0

-- the first `many` words of a row from a place on, and nothing else
pub record WordsPut (at many : ℕ) (row before after : List ℕ) : Type 0 where
  pub long : length after ≡ length before
  pub put : (f : ℕ) → f < many → get_or after (at + f) 0 ≡ get_or row f 0
  pub below : (k : ℕ) → k < at → get_or after k 0 ≡ get_or before k 0
  pub behind : (k : ℕ) → at + many ≤ k → get_or after k 0 ≡ get_or before k 0

-- n records, each telling a part
pub record Lists {B : Type 0} (w : ℕ) (read : List ℕ → List B) (parts : ℕ → List B) (n : ℕ) (before after : List ℕ) : Type 0 where
  pub tells : (j : ℕ) → j < n → read (words_at w after j) ≡ parts j
  pub written : Written w n before after
