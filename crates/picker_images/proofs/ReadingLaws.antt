-- Reading an image, arm by arm: refused, or read. Assumes nothing.
use Rattle.std.specs.Prelude.{Err, Ok, Result}
use mathlib.Core.Path.{◌≡◌, refl, sym, ap, subst, ◌∙◌}
use mathlib.Core.List.{List}
use mathlib.Core.Option.{none, some}
use Prim.Native.Nat.{ℕ}
use native.Mathlib.Omega.{arith}
use lib.ListN.{length}
use Rattle.types.specs.declared.refusal.Refusal.{Refusal}
use Rattle.model.specs.Memory.{memory_for, memory_needed}
use Rattle.model.specs.Calls.{Made, read_picker}
use Rattle.memory_records.specs.declared.record.DownloadingPiece.{DownloadingPiece as Record}
use Rattle.memory_records.specs.Rows.{packed}
use Rattle.memory_records.proofs.laws.RowLaws.{length-packed}
use Rattle.memory_layout.specs.Good.{lengths, memory_refusal}
use Rattle.image_read.specs.Reading.{Made as Told, ImageTold}
use Rattle.image_read.proofs.PackLaws.{pack_fits, packed_is, packed_good, packed_beyond}
use Rattle.picker_calls.specs.Calling.{picker_on, memory_on}
use Rattle.picker_calls.specs.Cores.{lending}
use Rattle.picker_calls.specs.Starting.{lengths_on, KeptBeyond}
use Rattle.picker_calls.proofs.StartingLaws.{making_refused, making_done}
use Rattle.picker_images.specs.Answers.{why_not_read, count_read}
use Rattle.picker_images.specs.Making.{ReadDone}

module _ (words cells rows : List ℕ) (lent : ℕ) (bytes words' cells' rows' : List ℕ) (v : Result ℕ Refusal)
    (h : ImageTold lent bytes words cells rows words' cells' rows' v) where
  -- what is to be made, with any records
  abbrev asked : (partials : List Record) → Made
  asked partials = read_picker (lengths_on (lending words cells partials)) bytes

  named : (partials : List Record) → length partials ≡ lent → asked partials ≡ read_picker (lengths lent words cells) bytes
  unfolding lengths_on
  named partials l = ap (λ (n : ℕ). read_picker (lengths n words cells) bytes) l

  pub refused_read : (why : Refusal) → v ≡ Err why → ReadDone words cells lent bytes words' cells' rows' (some why) 0
  unfolding ImageTold packed
  refused_read why e =
      let n = subst (ImageTold lent bytes words cells rows words' cells' rows') e h in
      subst (λ (w : List ℕ). ReadDone words cells lent bytes w cells' rows' (some why) 0) (sym n.words_same)
      (subst (λ (c : List ℕ). ReadDone words cells lent bytes words c rows' (some why) 0) (sym n.cells_same)
      (record {
        fits = λ partials l. (omega arith, omega arith);
        done = λ partials l. making_refused (lending words cells partials) (asked partials) why (named partials l ∙ n.is);
      }))

  module _ (count : ℕ) (e : v ≡ Ok count) where
    m : Told lent count bytes words cells words' cells' rows'
    unfolding ImageTold
    m = subst (ImageTold lent bytes words cells rows words' cells' rows') e h

    kept : (partials : List Record) → length partials ≡ lent
        → KeptBeyond (memory_needed m.picker) (lending words cells partials) (lending words' cells' (packed count rows' partials))
    unfolding memory_needed memory_for
    kept partials l = record {
      long_words = m.standing.words_long;
      long_cells = m.standing.cells_long;
      long_partials = length-packed count rows' partials;
      words = m.standing.words_beyond;
      cells = m.standing.cells_beyond;
      partials = packed_beyond lent count bytes words cells words' cells' rows' m partials l;
    }

    pub done_read : ReadDone words cells lent bytes words' cells' rows' none count
    unfolding picker_on memory_on
    done_read = record {
      fits = λ partials l. pack_fits lent count bytes words cells words' cells' rows' m partials l;
      done = λ partials l.
          making_done (lending words cells partials) (lending words' cells' (packed count rows' partials)) (asked partials) m.picker
          (named partials l ∙ m.is) (packed_is lent count bytes words cells words' cells' rows' m partials l)
          (subst (λ (n : ℕ). memory_refusal n (packed count rows' partials) words' cells' ≡ none)
          (sym (length-packed count rows' partials ∙ l)) (packed_good lent count bytes words cells words' cells' rows' m partials l))
          (kept partials l);
    }

  -- either way
  pub read_done : ReadDone words cells lent bytes words' cells' rows' (why_not_read v) (count_read v)
  read_done = either v refl
    where
      either : (r : Result ℕ Refusal) → v ≡ r → ReadDone words cells lent bytes words' cells' rows' (why_not_read r) (count_read r)
      either (Err why) e = refused_read why e
      either (Ok count) e = done_read count e
