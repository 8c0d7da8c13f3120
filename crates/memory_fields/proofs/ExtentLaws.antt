-- The recent extents: what a number read is in the picker. Assumes nothing.
use mathlib.Core.Path.{◌≡◌, sym, ◌∙◌}
use mathlib.Core.List.{List}
use Prim.Native.Nat.{ℕ, ◌+◌, ◌<◌}
use Rattle.model.specs.Lists.{nth, len}
use Rattle.memory_layout.specs.Decode.{head_word, extents_held}
use Rattle.memory_layout.proofs.TableLaws.{tabulate-len, tabulate-nth}
use Rattle.memory_fields.specs.Reading.{HeadSays}

-- word 8
pub extents_read : (words : List ℕ) (r : ℕ) → r ≡ head_word words 8
    → (r ≡ head_word words 8) × (HeadSays words (λ d. len d.recent_extents) r)
unfolding extents_held
extents_read words r e = (e, record { is = λ records cells. e ∙ sym (tabulate-len (head_word words 8) (λ k. head_word words (9 + k))) })

-- words from 9 on
pub extent_read : (words : List ℕ) (k : ℕ) → k < head_word words 8 → (r : ℕ) → r ≡ head_word words (9 + k)
    → HeadSays words (λ d. nth 0 d.recent_extents k) r
unfolding extents_held
extent_read words k h r e = record {
  is = λ records cells. e ∙ sym (tabulate-nth (head_word words 8) (λ i. head_word words (9 + i)) k 0 h);
}
