-- The words of the head: what a number read is in the picker. Assumes nothing.
use mathlib.Core.Path.{◌≡◌, refl, sym, ap, ◌∙◌}
use mathlib.Core.Bool.{Bool, true, false, cond}
use mathlib.Core.List.{List}
use Prim.Native.Nat.{ℕ}
use Rattle.model.specs.Lists.{len}
use Rattle.model.specs.State.{dirty, fresh, is_dirty, list_of}
use Rattle.memory_layout.specs.declared.shape.Shape.{Shape}
use Rattle.memory_layout.specs.Decode.{head_word, record_at, pieces_on, blocks_on, yes?, partial_held, partials_held, listing_held}
use Rattle.memory_layout.proofs.TableLaws.{tabulate-len}
use Rattle.memory_layout.proofs.Meanings.{list_length_is}
use Rattle.memory_fields.specs.Reading.{HeadSays, WordsSay}

-- word 5
pub dirty_read : (words : List ℕ) (v : ℕ) → v ≡ head_word words 5 → HeadSays words (λ d. is_dirty d.listing) (yes? v)
unfolding listing_held is_dirty
dirty_read words v e = record { is = λ records cells. ap yes? e ∙ sym (flag (yes? (head_word words 5)) _) }
  where
    flag : (t : Bool) (l : List ℕ) → is_dirty (cond t dirty (fresh l)) ≡ t
    flag true l = refl
    flag false l = refl

-- word 6
pub list_length_read : (s : Shape) (words : List ℕ) (r : ℕ) → r ≡ head_word words 6
    → (r ≡ head_word words 6) × (WordsSay s words (λ d. len (list_of d.listing)) r)
list_length_read s words r e = (e, record { is = λ records cells q. e ∙ sym (list_length_is s records words cells q) })

-- word 7
pub partials_read : (words : List ℕ) (r : ℕ) → r ≡ head_word words 7
    → (r ≡ head_word words 7) × (HeadSays words (λ d. len d.partials) r)
unfolding partials_held
partials_read words r e = (
  e,
  record {
    is = λ records cells.
        e ∙ sym (tabulate-len (head_word words 7) (λ k. partial_held words cells (pieces_on words) (blocks_on words) (record_at records k)));
  },
)
