-- A change of the words beside cells that it went by: a store is one, and so is none, where the picker asks for no other. Assumes nothing.
use mathlib.Core.Path.{◌≡◌}
use mathlib.Core.List.{List}
use Prim.Native.Nat.{ℕ}
use Rattle.model.specs.State.{Picker}
use Rattle.memory_records.specs.declared.record.DownloadingPiece.{DownloadingPiece as Record}
use Rattle.memory_layout.specs.declared.shape.Shape.{Shape}
use Rattle.memory_layout.specs.Decode.{decode}
use Rattle.memory_layout.specs.Bounds.{InBounds}
use Rattle.memory_layout.proofs.BoundsLaws.{became_named, words_none, both_words}
use Rattle.memory_layout.proofs.stores.ListFrames.{list_kept_none}
use Rattle.memory_fields.specs.Storing.{WordsStored, StoredBeside}

module _ (s : Shape) (cells : List ℕ) where
  -- another name for the change, for these cells
  pub beside_named : (f g : Picker → Picker) (words words' : List ℕ)
      → ((records : List Record) → InBounds s records words cells → f (decode records words cells) ≡ g (decode records words cells))
      → StoredBeside s f cells words words' → StoredBeside s g cells words words'
  beside_named f g words words' e x =
      let b = x.became in
      record {
        became = record {
          words_kept = b.words_kept;
          cells_kept = b.cells_kept;
          became = λ records r. became_named s f g records words cells words' cells (e records r) (b.became records r);
        };
        list = x.list;
      }

  -- what is stored is what the change would be for these cells
  pub stored_beside : (f g : Picker → Picker) (words words' : List ℕ)
      → ((records : List Record) → InBounds s records words cells → f (decode records words cells) ≡ g (decode records words cells))
      → WordsStored s f words words' → StoredBeside s g cells words words'
  stored_beside f g words words' e x =
      beside_named f g words words' e (record { became = both_words s f words words' cells x.became; list = x.list })

  -- nothing is stored where nothing would change
  pub none_beside : (g : Picker → Picker) (words : List ℕ)
      → ((records : List Record) → InBounds s records words cells → decode records words cells ≡ g (decode records words cells))
      → StoredBeside s g cells words words
  none_beside g words e =
      stored_beside (λ d. d) g words words e (record { became = words_none s words; list = list_kept_none s words })
