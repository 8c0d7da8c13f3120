-- Bytes judged, lengths compared: what the definition makes of both. Assumes nothing.
use Rattle.std.specs.Prelude.{Err, Ok}
use mathlib.Core.Path.{◌≡◌, refl, sym, ap, ap₂, ◌∙◌}
use mathlib.Core.Bool.{Bool, true, false, cond}
use mathlib.Core.List.{List}
use Prim.Native.Nat.{ℕ}
use native.Mathlib.Omega.{arith}
use Rattle.types.specs.declared.refusal.Refusal.TheVariants.{ShortMemory, IllFormedImage}
use Rattle.model.specs.Bep3.{num_pieces, whole_piece_blocks}
use Rattle.model.specs.State.{Picker}
use Rattle.model.specs.Memory.{Memory, memory_for, memory_needed, is_short}
use Rattle.model.specs.Calls.{made, not_made, within, read_within, read_picker}
use Rattle.model.specs.image.Image.{Read, accepted, fault_at, read_image}
use Rattle.model.proofs.base.MemoryLaws.{long_enough}
use Rattle.geometry_needs.specs.Needs.{no_memory, memory_of}
use Rattle.memory_layout.specs.Good.{lengths}
use Rattle.image_pieces.specs.declared.head.Head.{Head}
use Rattle.image_pieces.proofs.HeadLaws.{HeadGot, head_valid}
use Rattle.image_judge.specs.Verdicts.{verdict_of}
use Rattle.image_store.specs.Given.{Image}
use Rattle.image_store.specs.Stored.{Room, ImageStored}
use Rattle.image_store.proofs.PartLaws.{pieces_in_lem, blocks_in}
use Rattle.image_read.specs.Reading.{Made as Stood, NotMade}

-- ---- the judge's verdict
module _ (bytes : List ℕ) where
  pub judged_image : (Ok tt) ≡ verdict_of (read_image bytes) → Image bytes
  unfolding verdict_of
  judged_image e = go (read_image bytes) refl e
    where
      go : (r : Read Picker) → read_image bytes ≡ r → (Ok tt) ≡ verdict_of r → Image bytes
      go (accepted p) q f = record { picker = p; is = q }
      go (fault_at k) q f = let z : ◌≡◌ {A = ℕ} 0 1 = cc in absurd (omega arith)

  fault_is : (k : ℕ) → Err k ≡ verdict_of (read_image bytes) → read_image bytes ≡ fault_at k
  unfolding verdict_of
  fault_is k e = go (read_image bytes) e
    where
      go : (r : Read Picker) → Err k ≡ verdict_of r → r ≡ fault_at k
      go (accepted p) f = let z : ◌≡◌ {A = ℕ} 0 1 = cc in absurd (omega arith)
      go (fault_at m) f = let z : m ≡ k = cc in ap fault_at z

  -- a fault is refused with its place, whatever memory is lent
  pub fault_told : (lent k : ℕ) (words cells rows : List ℕ) → Err k ≡ verdict_of (read_image bytes)
      → NotMade lent bytes words cells rows words cells rows (IllFormedImage k)
  unfolding read_picker read_within
  fault_told lent k words cells rows e = record {
    is = ap (read_within (lengths lent words cells)) (fault_is k e);
    words_same = refl;
    cells_same = refl;
    rows_same = refl;
  }

-- ---- the lengths
-- the memory that the picker of an image needs is that of its head's geometry
memory_is : (bytes : List ℕ) (p : Picker) → read_image bytes ≡ accepted p → (head : Head) → HeadGot bytes head
    → memory_needed p ≡ memory_of head.total head.size
unfolding memory_needed memory_of
memory_is bytes p e head g =
    ap₂ memory_for (pieces_in_lem bytes p e head g) (blocks_in bytes p e head g)
    ∙ ap (λ (t : Bool). cond t (memory_for (num_pieces head.total head.size) (whole_piece_blocks head.size)) no_memory)
    (sym (head_valid head g.headed.ok))

module _ (lent : ℕ) (bytes words cells : List ℕ) (head : Head) (g : HeadGot bytes head) where
  module _ (p : Picker) (e : read_image bytes ≡ accepted p) where
    read_is : read_picker (lengths lent words cells) bytes
        ≡ cond (is_short (lengths lent words cells) (memory_of head.total head.size)) (not_made ShortMemory) (made p)
    unfolding read_picker read_within within
    read_is =
        ap (read_within (lengths lent words cells)) e
        ∙ ap (λ (m : Memory). cond (is_short (lengths lent words cells) m) (not_made ShortMemory) (made p)) (memory_is bytes p e head g)

    pub short_read : is_short (lengths lent words cells) (memory_of head.total head.size) ≡ true
        → read_picker (lengths lent words cells) bytes ≡ not_made ShortMemory
    short_read t = read_is ∙ ap (λ (b : Bool). cond b (not_made ShortMemory) (made p)) t

    pub long_read : is_short (lengths lent words cells) (memory_of head.total head.size) ≡ false
        → read_picker (lengths lent words cells) bytes ≡ made p
    long_read t = read_is ∙ ap (λ (b : Bool). cond b (not_made ShortMemory) (made p)) t

    not_short : is_short (lengths lent words cells) (memory_of head.total head.size) ≡ false
        → is_short (lengths lent words cells) (memory_needed p) ≡ false
    not_short t = ap (is_short (lengths lent words cells)) (memory_is bytes p e head g) ∙ t

  -- short: nothing is read
  pub short_told : (image : Image bytes) (rows : List ℕ) → is_short (lengths lent words cells) (memory_of head.total head.size) ≡ true
      → NotMade lent bytes words cells rows words cells rows ShortMemory
  short_told image rows t = record {
    is = short_read image.picker image.is t;
    words_same = refl;
    cells_same = refl;
    rows_same = refl;
  }

  -- long enough: each buffer has room
  pub room_told : is_short (lengths lent words cells) (memory_of head.total head.size) ≡ false → Room bytes words cells
  unfolding lengths memory_needed memory_for
  room_told t p e =
      let l = long_enough (lengths lent words cells) (memory_needed p) (not_short p e t) in
      (l.words, l.cells)

  pub read_told : (image : Image bytes) (count : ℕ) (words' cells' rows' : List ℕ)
      → is_short (lengths lent words cells) (memory_of head.total head.size) ≡ false
      → ImageStored bytes count words cells words' cells' rows' → Stood lent count bytes words cells words' cells' rows'
  unfolding lengths memory_needed memory_for
  read_told image count words' cells' rows' t st =
      let p = image.picker in
      let l = long_enough (lengths lent words cells) (memory_needed p) (not_short p image.is t) in
      record {
        picker = p;
        is = long_read p image.is t;
        standing = st p image.is;
        room = l.partials;
      }
