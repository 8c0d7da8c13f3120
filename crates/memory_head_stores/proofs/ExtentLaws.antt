-- The recent extents: what a store makes of the picker. Assumes nothing.
use mathlib.Core.Path.{◌≡◌}
use mathlib.Core.List.{List, [], ◌∷◌, ◌++◌}
use Prim.Native.Nat.{ℕ, ◌+◌, ◌-◌, ◌≤◌, ◌<◌}
use native.Mathlib.Omega.{arith}
use lib.ListN.{set}
use Rattle.model.specs.Lists.{remove_nth}
use Rattle.model.specs.State.{with_recent_extents, max_extents}
use Rattle.memory_layout.specs.declared.shape.Shape.{Shape}
use Rattle.memory_layout.specs.Decode.{head_word}
use Rattle.memory_layout.specs.Bounds.{WordsSpan}
use Rattle.memory_layout.proofs.stores.ExtentStores.{Closing, extent_appended, extent_removed}
use Rattle.memory_layout.proofs.stores.ListFrames.{list_kept_again, head_list_kept, extent_list_kept}
use Rattle.memory_fields.specs.Storing.{WordsStored}

-- the new one behind the last, then the number
pub extent_pushed : (s : Shape) (words words₁ words' : List ℕ) → WordsSpan s words → head_word words 8 < max_extents → (v n w : ℕ)
    → n ≡ head_word words 8 → words₁ ≡ set words (9 + n) v → w ≡ n + 1 → words' ≡ set words₁ 8 w
    → WordsStored s (λ d. with_recent_extents (d.recent_extents ++ (v ∷ [])) d) words words'
extent_pushed s words words₁ words' r few v n w en e₁ ew e =
    rw (e, e₁, ew, en) (record {
      became = extent_appended s words r v few;
      list = list_kept_again s words (set words (9 + head_word words 8) v)
          (set (set words (9 + head_word words 8) v) 8 (head_word words 8 + 1))
          (head_list_kept s words v (9 + head_word words 8) (omega arith) (λ o. omega arith))
          (head_list_kept s (set words (9 + head_word words 8) v) (head_word words 8 + 1) 8 (omega arith) (λ o. omega arith));
    })

-- after the last move, the number
pub extent_gone : (s : Shape) (words : List ℕ) → WordsSpan s words → (p n j : ℕ) (words₁ words' : List ℕ) → Closing words p n j words₁
    → n ≡ head_word words 8 → n ≤ j + 1
    → (w : ℕ) → w ≡ n - 1 → words' ≡ set words₁ 8 w
    → WordsStored s (λ d. with_recent_extents (remove_nth p d.recent_extents) d) words words'
extent_gone s words r p n j words₁ words' c number end w ew e =
    record {
      became = extent_removed s words r p n j words₁ c number end w words' ew e;
      list = rw e (extent_list_kept s words p n j words₁ c w);
    }
