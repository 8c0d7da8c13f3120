-- Taking the image, arm by arm: the memory refused, the bytes refused, taken. Assumes nothing.
use Rattle.std.specs.Prelude.{Err, None, Ok, Option as Optional, Result, Some}
use Rattle.std.specs.Option.{ok_or}
use mathlib.Core.Path.{◌≡◌, refl, sym, ap, subst, ◌∙◌}
use mathlib.Core.Bool.{Bool, false, cond}
use mathlib.Core.List.{List, ◌++◌}
use mathlib.Core.Option.{Option, none, some, none-ne-some}
use Prim.Native.Nat.{ℕ, ◌+◌}
use native.Mathlib.Omega.{arith}
use lib.Dec.{ltb}
use lib.ListN.{length, drop}
use borrow.Author.Tests.{lt-ltb, le-ltb}
use Rattle.types.specs.declared.refusal.Refusal.{Refusal}
use Rattle.types.specs.declared.refusal.Refusal.TheVariants.{ShortMemory}
use Rattle.model.specs.Lists.{len}
use Rattle.model.specs.Bep3.{whole_piece_blocks}
use Rattle.model.specs.State.{Picker, blocks_per_piece}
use Rattle.model.specs.Memory.{memory_for, memory_needed, is_short}
use Rattle.model.specs.ask.Questions.{partial_at}
use Rattle.model.specs.image.Image.{image}
use Rattle.model.specs.Calls.{Action, question, question_refusal, refusal, taken, not_taken, take_image}
use Rattle.memory_records.specs.declared.record.DownloadingPiece.{DownloadingPiece as Record}
use Rattle.memory_records.specs.Rows.{live_records, rows_of}
use Rattle.memory_layout.specs.declared.shape.Shape.{Shape}
use Rattle.memory_layout.specs.Decode.{head_word, blocks_on}
use Rattle.memory_layout.specs.Good.{lengths, short}
use Rattle.memory_rows.specs.Lookup.{picker_in}
use Rattle.check_pieces.proofs.ExtentTests.{pieces_in_lem}
use Rattle.check_memory.proofs.Standing.{parts_pass}
use Rattle.ask_picker.specs.Asked.{Asked}
use Rattle.image_write.specs.Written.{ImageTaken}
use Rattle.picker_calls.specs.Calling.{Lent, picker_on, memory_on, of_memory, refusal_on}
use Rattle.picker_calls.specs.Cores.{lending, Listless, Stood, Admitted}
use Rattle.picker_calls.specs.Starting.{lengths_on, unless_ill, taken_on, wrote, not_written}
use Rattle.picker_calls.proofs.AdmissionLaws.{refused_memory, admitted_memory}
use Rattle.picker_calls.proofs.CallLaws.{stood_picker, stood_memory}
use Rattle.picker_calls.proofs.CoreLaws.{stood_at}
use Rattle.picker_calls.proofs.StartingLaws.{image_refused, image_done}
use Rattle.picker_images.specs.Answers.{image_answer}
use Rattle.picker_images.specs.Making.{ImageDone}

-- ---- the memory
-- a question that nothing but the memory refuses
abbrev free : Action
free = question (partial_at 0)

free_listless : Listless free
unfolding refusal question_refusal of_memory
free_listless d = refl

-- so the memory is what refuses it
refused_for : (m : Lent) (why : Refusal) → refusal_on m free ≡ some why → memory_on m ≡ some why
unfolding refusal question_refusal
refused_for m why h = go (memory_on m) refl
  where
    go : (o : Option Refusal) → memory_on m ≡ o → memory_on m ≡ some why
    go none e = absurd (none-ne-some _ (sym (admitted_memory m free (free_listless (picker_on m)) e) ∙ h))
    go (some w) e = e ∙ (sym (refused_memory m free (free_listless (picker_on m)) w e) ∙ h)

-- good memory is long enough for the picker in it
long_memory : (m : Lent) → memory_on m ≡ none → is_short (lengths_on m) (memory_needed (picker_on m)) ≡ false
unfolding memory_on lengths_on picker_on memory_needed blocks_per_piece short blocks_on
long_memory m h =
    ap (λ (n : ℕ). is_short (lengths (length m.partials) m.words m.cells) (memory_for n (whole_piece_blocks (head_word m.words 1))))
    (pieces_in_lem m.partials m.words m.cells)
    ∙ (parts_pass (length m.partials) m.partials m.words m.cells h).long

front : (n : ℕ) → 0 + n ≡ n
front n = omega arith

module _ (words cells rows counts : List ℕ) (lent : ℕ) where
  module _ (v : Result Shape Refusal) (g : Admitted words cells rows counts lent v) where
    -- what an admitted memory gives, with its live records as the code counts them
    pub stood_live : (s : Shape) → v ≡ Ok s → (live : ℕ) → live ≡ live_records words → Stood s live lent rows counts words cells
    stood_live s e live many =
        let t = stood_at words cells rows counts lent v g s e in
        subst (λ (n : ℕ). Stood s n lent rows counts words cells) (t.rowed ∙ sym many) t

  pub asked : (s : Shape) (live : ℕ) → Stood s live lent rows counts words cells → Asked s live rows words cells
  asked s live t = record { stands = t.stands; many = t.many; wide = t.long_rows }

module _ (words cells rows : List ℕ) (lent : ℕ) (before : List ℕ) where
  module _ (counts : List ℕ) (v : Result Shape Refusal) (g : Admitted words cells rows counts lent v) where
    pub barred : (why : Refusal) → v ≡ Err why → ImageDone words cells rows lent before before (not_written why)
    unfolding Admitted taken_on unless_ill
    barred why e =
        let h = subst (Admitted words cells rows counts lent) e g in
        record {
          done = λ partials l r.
              let m : Lent = lending words cells partials in
              image_refused m before why
              (ap (λ (o : Option Refusal). unless_ill o (take_image (picker_on m) (lengths_on m) (length before)))
              (refused_for m why (h partials l r free free_listless)));
        }

  -- ---- the image
  module _ (s : Shape) (live : ℕ) (counts : List ℕ) (t : Stood s live lent rows counts words cells) where
    abbrev d : Picker
    d = picker_in live rows words cells

    module _ (partials : List Record) (l : length partials ≡ lent) (r : rows ≡ rows_of words partials) where
      abbrev m : Lent
      m = lending words cells partials

      -- room decides
      by_room : taken_on m (length before) ≡ cond (ltb (length before) (len (image d))) (not_taken ShortMemory) (taken (image d))
      unfolding taken_on unless_ill take_image
      by_room =
          let good = stood_memory s live lent rows counts words cells t partials l r in
          ap (λ (o : Option Refusal). unless_ill o (take_image (picker_on m) (lengths_on m) (length before))) good
          ∙ (ap (λ (b : Bool). cond b (not_taken ShortMemory)
          (cond (ltb (length before) (len (image (picker_on m)))) (not_taken ShortMemory) (taken (image (picker_on m))))) (long_memory m good)
          ∙ ap (λ (p : Picker). cond (ltb (length before) (len (image p))) (not_taken ShortMemory) (taken (image p)))
          (stood_picker s live lent rows counts words cells t partials l r))

    module _ (after : List ℕ) (v : Optional ℕ) (w : ImageTaken d before after v) where
      pub too_short : v ≡ None → ImageDone words cells rows lent before after (not_written ShortMemory)
      too_short e =
          let h = subst (ImageTaken d before after) e w in
          subst (λ (bs : List ℕ). ImageDone words cells rows lent before bs (not_written ShortMemory)) (sym h.1)
          (record {
            done = λ partials l r. image_refused (lending words cells partials) before ShortMemory
                (by_room partials l r
                ∙ ap (λ (b : Bool). cond b (not_taken ShortMemory) (taken (image d))) (lt-ltb (length before) (len (image d)) h.0));
          })

      pub taken_whole : (n : ℕ) → v ≡ Some n → ImageDone words cells rows lent before after (wrote n)
      unfolding len
      taken_whole n e =
          let h = subst (ImageTaken d before after) e w in
          subst (λ (k : ℕ). ImageDone words cells rows lent before after (wrote k)) (sym h.long)
          (record {
            done = λ partials l r. image_done (lending words cells partials) before after (image d)
                (by_room partials l r
                ∙ ap (λ (b : Bool). cond b (not_taken ShortMemory) (taken (image d)))
                (le-ltb (length before) (len (image d)) (omega (arith, h.put.fits))))
                (h.put.is ∙ ap (λ (k : ℕ). image d ++ drop k before) (front (length (image d))));
          })

      -- either way
      pub taken_or_short : (r : Result ℕ Refusal) → r ≡ ok_or v ShortMemory → ImageDone words cells rows lent before after (image_answer r)
      taken_or_short r e = rw e (either v refl)
        where
          either : (o : Optional ℕ) → v ≡ o → ImageDone words cells rows lent before after (image_answer (ok_or o ShortMemory))
          either None e = too_short e
          either (Some n) e = taken_whole n e
