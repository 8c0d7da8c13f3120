-- What the writer wrote the reader reads as the same picker; what the reader read the writer writes again, byte for byte.
-- Assumes the contracts of `write_image` and `read_image`.
use Rattle.std.specs.Prelude.{Err, Ok, Result}
use mathlib.Core.Path.{◌≡◌, refl, sym, ap, ◌∙◌, subst}
use mathlib.Core.Bool.{Bool, true, false, cond}
use mathlib.Core.List.{List}
use Prim.Native.Nat.{ℕ}
use native.Mathlib.Omega.{arith}
use lib.ListN.{length, take}
use Rattle.types.specs.declared.refusal.Refusal.{Refusal}
use Rattle.types.specs.declared.refusal.Refusal.TheVariants.{ShortMemory}
use Rattle.model.specs.Lists.{len}
use Rattle.model.specs.State.{Picker}
use Rattle.model.specs.Memory.{Memory, memory_needed, is_short}
use Rattle.model.specs.Calls.{made, not_made, within, read_within, read_picker}
use Rattle.model.specs.image.Image.{image, Read, accepted, fault_at, read_image}
use Rattle.model.proofs.image.ImageLaws.{accepted-image}
use Rattle.memory_layout.specs.Good.{lengths}
use Rattle.memory_rows.specs.Lookup.{picker_in}
use Rattle.ask_picker.specs.Asked.{Asked}
use Rattle.image_write.specs.Written.{ImageWritten}
use Rattle.image_store.specs.Stored.{Standing}
use Rattle.image_read.specs.Reading.{Made as Stood, ImageTold}
use Rattle.image_read.proofs.PackLaws.{own_stands, own_is, count_is}

-- ---- written, then read
-- the reader answers so many rows, and the picker stands in the buffers
pub record ReadAgain (d : Picker) (words cells words' cells' rows' : List ℕ) (r : Result ℕ Refusal) : Type 0 where
  pub count : ℕ
  pub answer : r ≡ Ok count
  pub standing : Standing d count words cells words' cells' rows'

made_one : (p q : Picker) → made p ≡ made q → p ≡ q
made_one p q e = cc

made_none : {X : Type 0} (p : Picker) (why : Refusal) → made p ≡ not_made why → X
made_none p why e = let z : ◌≡◌ {A = ℕ} 0 1 = cc in absurd (omega arith)

why_one : (a b : Refusal) → not_made a ≡ not_made b → a ≡ b
why_one a b e = cc

module _ (d : Picker) (before after : List ℕ) (n : ℕ) (w : ImageWritten d before after n) (lent : ℕ) (words cells : List ℕ) where
  read_is : read_picker (lengths lent words cells) (take n after)
      ≡ cond (is_short (lengths lent words cells) (memory_needed d)) (not_made ShortMemory) (made d)
  unfolding read_picker read_within within
  read_is = ap (read_within (lengths lent words cells)) w.read

  -- in buffers that are long enough
  pub written_is_read : is_short (lengths lent words cells) (memory_needed d) ≡ false → (rows words' cells' rows' : List ℕ) (r : Result ℕ Refusal)
      → ImageTold lent (take n after) words cells rows words' cells' rows' r → ReadAgain d words cells words' cells' rows' r
  unfolding ImageTold
  written_is_read t rows words' cells' rows' (Ok count) m =
      let e : made m.picker ≡ made d = sym m.is ∙ read_is ∙ ap (λ (b : Bool). cond b (not_made ShortMemory) (made d)) t in
      record {
        count = count;
        answer = refl;
        standing =
            subst (λ (p : Picker). Standing p count words cells words' cells' rows') (made_one m.picker d e) m.standing;
      }
  written_is_read t rows words' cells' rows' (Err why) m =
      made_none d why (sym (ap (λ (b : Bool). cond b (not_made ShortMemory) (made d)) t) ∙ sym read_is ∙ m.is)

  -- in shorter ones it is refused with 2
  pub written_is_short : is_short (lengths lent words cells) (memory_needed d) ≡ true → (rows words' cells' rows' : List ℕ) (r : Result ℕ Refusal)
      → ImageTold lent (take n after) words cells rows words' cells' rows' r → r ≡ Err ShortMemory
  unfolding ImageTold
  written_is_short t rows words' cells' rows' (Ok count) m =
      made_none m.picker ShortMemory
      (sym m.is ∙ read_is ∙ ap (λ (b : Bool). cond b (not_made ShortMemory) (made d)) t)
  written_is_short t rows words' cells' rows' (Err why) m =
      ap Err (why_one why ShortMemory
      (sym m.is ∙ read_is ∙ ap (λ (b : Bool). cond b (not_made ShortMemory) (made d)) t))

-- ---- read, then written
-- a picker is made of an image alone
made-accepted : (lent : Memory) (r : Read Picker) (p : Picker) → read_within lent r ≡ made p → r ≡ accepted p
unfolding read_within within
made-accepted lent (accepted s) p e = go (is_short lent (memory_needed s)) e
  where
    go : (t : Bool) → cond t (not_made ShortMemory) (made s) ≡ made p → accepted s ≡ accepted p
    go true f = made_none p ShortMemory (sym f)
    go false f = ap accepted (made_one s p f)
made-accepted lent (fault_at k) p e = let z : ◌≡◌ {A = ℕ} 0 1 = cc in absurd (omega arith)

module _ (lent count : ℕ) (bytes words cells words' cells' rows' : List ℕ)
    (m : Stood lent count bytes words cells words' cells' rows') where
  bytes_are : image m.picker ≡ bytes
  unfolding read_picker
  bytes_are = (accepted-image bytes m.picker (made-accepted (lengths lent words cells) (read_image bytes) m.picker m.is)).0

  picker_is : picker_in count rows' words' cells' ≡ m.picker
  picker_is = own_is lent count bytes words cells words' cells' rows' m

  -- the writer may be asked
  pub read_asks : length rows' ≡ 1536 → Asked m.standing.shape count rows' words' cells'
  read_asks wide = record {
    stands = own_stands lent count bytes words cells words' cells' rows' m;
    many = count_is lent count bytes words cells words' cells' rows' m;
    wide = wide;
  }

  -- it needs as many bytes
  pub read_long : len (image (picker_in count rows' words' cells')) ≡ len bytes
  read_long = ap (λ (p : Picker). len (image p)) picker_is ∙ ap len bytes_are

  -- and writes the same
  pub read_is_written : (before after : List ℕ) (n : ℕ) → ImageWritten (picker_in count rows' words' cells') before after n
      → (n ≡ len bytes) × (take n after ≡ bytes)
  read_is_written before after n w = (
    w.long ∙ read_long,
    sym (accepted-image (take n after) (picker_in count rows' words' cells') w.read).0 ∙ ap image picker_is ∙ bytes_are,
  )
