-- What the test of the list reads: the ranks counted; places of the list passed one after another, by the ranks that are left.
-- Assumes nothing.
use Rattle.std.specs.Prelude.{ℕ, zero, suc, ◌+◌, ◌<◌, ◌≡◌, Bool, true, false, ◌&&◌, ◌≢◌, List, length, get_or, set, eqb, ltb, leb}
use Rattle.model.specs.Lists.{count, from}
use Rattle.list_entries.specs.Words.{listed_piece, listed_rank}

-- how many of the first n ranks are not 0
unfoldable pub ranked_in : (ranks : List ℕ) (n : ℕ) → ℕ
ranked_in ranks n = count (λ i. ltb 0 (get_or ranks i 0)) (from 0 n)

-- ---- one place of the list
-- its rank is no lower than the last one, and is that of its piece among the ranks that are left
unfoldable pub place_in : (n last word : ℕ) (ranks : List ℕ) → Bool
place_in n last word ranks =
    leb last (listed_rank word) && (ltb (listed_piece word) n && eqb (get_or ranks (listed_piece word) 0) (listed_rank word))

-- what a step over it leaves: 0 where it fails, else its rank, and the rank of its piece is taken
pub record Stepped (n last word : ℕ) (entry : List ℕ) (r : ℕ) (exit : List ℕ) : Type 0 where
  pub fails : r ≡ 0 → place_in n last word entry ≡ false
  pub passes : r ≢ 0 → place_in n last word entry ≡ true
  pub rank : r ≢ 0 → r ≡ listed_rank word
  pub taken : r ≢ 0 → exit ≡ set entry (listed_piece word) 0
  pub long : length exit ≡ length entry

-- ---- places of the list, one after another
-- one that passes, behind those before it
pub record Further (n word : ℕ) (Before : (last : ℕ) (ranks : List ℕ) → Type 0) (last : ℕ) (ranks : List ℕ) : Type 0 where
  pub last_before : ℕ
  pub ranks_before : List ℕ
  pub reached : Before last_before ranks_before
  pub stepped : Stepped n last_before word ranks_before last ranks
  pub passed : last ≢ 0

-- the first k pass, from the ranks `start` on; the last one has rank `last`, and `ranks` are left
unfoldable pub Reached : (n : ℕ) (list start : List ℕ) (k last : ℕ) (ranks : List ℕ) → Type 0
Reached n list start zero last ranks = (last ≡ 1) × (ranks ≡ start)
Reached n list start (suc k) last ranks = Further n (get_or list k 0) (Reached n list start k) last ranks

-- all of the first `many` pass
pub record AllPass (n : ℕ) (list start : List ℕ) (many : ℕ) : Type 0 where
  pub last : ℕ
  pub ranks : List ℕ
  pub reached : Reached n list start many last ranks

-- one of the first `many` fails
pub record OneFails (n : ℕ) (list start : List ℕ) (many : ℕ) : Type 0 where
  pub place : ℕ
  pub below : place < many
  pub last : ℕ
  pub ranks : List ℕ
  pub reached : Reached n list start place last ranks
  pub exit : List ℕ
  pub stepped : Stepped n last (get_or list place 0) ranks 0 exit

-- whether the first `many` pass
unfoldable pub Decided : (n : ℕ) (list start : List ℕ) (many : ℕ) (r : Bool) → Type 0
Decided n list start many true = AllPass n list start many
Decided n list start many false = OneFails n list start many

-- what four steps from place k on leave: 0 where one fails
pub record FourPassed (n : ℕ) (list : List ℕ) (k last : ℕ) (entry : List ℕ) (r : ℕ) (exit : List ℕ) : Type 0 where
  pub passes : r ≢ 0 → (start : List ℕ) → Reached n list start k last entry → Reached n list start (k + 4) r exit
  pub fails : r ≡ 0 → (start : List ℕ) → Reached n list start k last entry → OneFails n list start (k + 4)
  pub long : length exit ≡ length entry

-- what the steps from place k on decide
abbrev pub RestPassed : (n : ℕ) (list : List ℕ) (k many last : ℕ) (entry : List ℕ) (r : Bool) → Type 0
RestPassed n list k many last entry r = (start : List ℕ) → Reached n list start k last entry → Decided n list start many r
