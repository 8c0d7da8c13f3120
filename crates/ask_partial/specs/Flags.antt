-- The flags of a partial as an answer, and what an answer from rows and cells is of the picker. Assumes nothing.
use Rattle.std.specs.Prelude.{ℕ, ◌≡◌, ◌⊎◌, Bool, cond, List, eqb, None, Option as Optional, Some}
use Rattle.std.proofs.Math.Option.{Option, none, some}
use Rattle.model.specs.State.{Picker, DownloadingPiece}
use Rattle.model.specs.ask.Questions.{Reply, nothing, flag}
use Rattle.memory_layout.specs.declared.shape.Shape.{Shape}
use Rattle.memory_rows.specs.Lookup.{LiveRows, picker_in}

-- ---- flags by document 01's weights: 1 passed, 2 locked, 4 hashing
abbrev pub IsWeight : (weight : ℕ) → Type 0
IsWeight weight = (weight ≡ 1) ⊎ ((weight ≡ 2) ⊎ (weight ≡ 4))

unfoldable pub flag_in : (weight : ℕ) (d : DownloadingPiece) → Bool
flag_in weight d = cond (eqb weight 1) d.passed_hash_check (cond (eqb weight 2) d.locked d.hashing)

-- the flag of a partial, if one stands
unfoldable pub flag_found : (weight : ℕ) (found : Option DownloadingPiece) → Optional Bool
flag_found weight none = None
flag_found weight (some d) = Some (flag_in weight d)

-- document 01's answer of each case
unfoldable pub flag_reply : (r : Optional Bool) → Reply
flag_reply (Some truth) = flag truth
flag_reply None = nothing

-- ---- what an answer is of the picker
-- told from rows and cells, beside any words
pub record RowsCellsSay {A : Type 0} (s : Shape) (live : ℕ) (rows cells : List ℕ) (field : Picker → A) (r : A) : Type 0 where
  pub is : (words : List ℕ) → LiveRows s live rows words cells → r ≡ field (picker_in live rows words cells)
