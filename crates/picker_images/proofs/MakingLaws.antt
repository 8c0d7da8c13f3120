-- Making a picker, arm by arm: the geometry refused, the memory refused, made. Assumes nothing.
use mathlib.Core.Path.{◌≡◌, refl, sym, ap, subst, ◌∙◌}
use mathlib.Core.Bool.{Bool, true, false, cond}
use mathlib.Core.List.{List, []}
use mathlib.Core.Option.{none, some}
use Prim.Native.Nat.{ℕ, ◌≤◌}
use native.Mathlib.Omega.{arith}
use lib.IntN.{ℤ}
use lib.ListN.{length}
use Rattle.types.specs.declared.refusal.Refusal.TheVariants.{Geometry, ShortMemory}
use Rattle.types.specs.Piece.{number_of}
use Rattle.model.specs.Bep3.{num_pieces, whole_piece_blocks}
use Rattle.model.specs.State.{Picker, pieces_in, blocks_per_piece, valid_geometry, new}
use Rattle.model.specs.Memory.{Memory, memory_for, memory_needed, is_short}
use Rattle.model.specs.Calls.{Made, made, not_made, within, new_picker}
use Rattle.model.proofs.base.MemoryLaws.{long_enough}
use Rattle.model.proofs.sound.NewSound.{new_sound}
use Rattle.geometry_needs.specs.Needs.{no_memory, memory_of}
use Rattle.memory_records.specs.declared.record.DownloadingPiece.{DownloadingPiece as Record}
use Rattle.memory_layout.specs.declared.shape.Shape.{Shape}
use Rattle.memory_layout.specs.Decode.{head_word, blocks_on, decode}
use Rattle.memory_layout.specs.Standing.{Stands}
use Rattle.memory_layout.specs.Good.{lengths}
use Rattle.check_pieces.proofs.ExtentTests.{pieces_in_lem}
use Rattle.check_memory.proofs.Passing.{stands_passes}
use Rattle.memory_new.specs.Fresh.{Room, MadeNew}
use Rattle.picker_calls.specs.Calling.{picker_on, memory_on}
use Rattle.picker_calls.specs.Cores.{lending}
use Rattle.picker_calls.specs.Starting.{lengths_on, KeptBeyond, MakingCalled}
use Rattle.picker_calls.proofs.StartingLaws.{making_refused, making_done}
use Rattle.picker_images.specs.Making.{NewDone}

-- ---- needs
-- of a picker with all the pieces of a valid geometry: those of the geometry
pub needs_of : (p : Picker) → valid_geometry p.total_size p.piece_size ≡ true → pieces_in p ≡ num_pieces p.total_size p.piece_size
    → memory_needed p ≡ memory_of p.total_size p.piece_size
unfolding memory_needed memory_of blocks_per_piece
needs_of p valid many =
    ap (λ (n : ℕ). memory_for n (whole_piece_blocks p.piece_size)) many
    ∙ sym (ap (λ (b : Bool). cond b (memory_for (num_pieces p.total_size p.piece_size) (whole_piece_blocks p.piece_size)) no_memory) valid)

-- of one that stands: those of its shape
pub needs_stood : (s : Shape) (records : List Record) (words cells : List ℕ) → Stands s records words cells
    → memory_needed (decode records words cells) ≡ memory_for s.pieces s.blocks
unfolding memory_needed blocks_per_piece blocks_on
needs_stood s records words cells t =
    ap (λ (n : ℕ). memory_for n (whole_piece_blocks (head_word words 1))) (pieces_in_lem records words cells ∙ sym t.bounds.pieces)
    ∙ ap (memory_for s.pieces) (sym t.bounds.blocks)

-- ---- the picker, given memory enough
pub within_short : (lent : Memory) (p : Picker) → is_short lent (memory_needed p) ≡ true → within lent p ≡ not_made ShortMemory
unfolding within
within_short lent p h = ap (λ (b : Bool). cond b (not_made ShortMemory) (made p)) h

pub within-made : (lent : Memory) (p : Picker) → is_short lent (memory_needed p) ≡ false → within lent p ≡ made p
unfolding within
within-made lent p h = ap (λ (b : Bool). cond b (not_made ShortMemory) (made p)) h

-- a picker that stands in buffers as long as before, with nothing beyond its needs moved, was made
module _ (m : Made) (s : Shape) (words cells : List ℕ) (partials : List Record) (words' cells' : List ℕ) (partials' : List Record) where
  pub stood_made : m ≡ made (decode partials' words' cells') → Stands s partials' words' cells' → s.places ≤ length partials'
      → KeptBeyond (memory_for s.pieces s.blocks) (lending words cells partials) (lending words' cells' partials')
      → MakingCalled (lending words cells partials) m (lending words' cells' partials') none
  unfolding picker_on memory_on
  stood_made e t room kept =
      making_done (lending words cells partials) (lending words' cells' partials') m (decode partials' words' cells') e refl
      (stands_passes s partials' words' cells' t (length partials') room)
      (subst (λ (need : Memory). KeptBeyond need (lending words cells partials) (lending words' cells' partials'))
      (sym (needs_stood s partials' words' cells' t)) kept)

-- ---- `new`
-- what its buffers have room for
pub room : (words cells : List ℕ) (lent t z : ℕ) → valid_geometry t z ≡ true → is_short (lengths lent words cells) (memory_of t z) ≡ false
    → Room t z words cells
unfolding memory_of lengths memory_for
room words cells lent t z valid enough =
    let e = long_enough (lengths lent words cells) (memory_for (num_pieces t z) (whole_piece_blocks z))
    (subst (λ (b : Bool). is_short (lengths lent words cells) (cond b (memory_for (num_pieces t z) (whole_piece_blocks z)) no_memory) ≡ false)
    valid enough) in
    record { in_words = e.words; in_cells = e.cells }

module _ (words cells : List ℕ) (lent : ℕ) (total_size piece_size : ℤ) (t z : ℕ) (et : t ≡ number_of total_size) (ez : z ≡ number_of piece_size)
  where
    -- what is to be made, with any records
    abbrev asked : (partials : List Record) → Made
    asked partials = new_picker (lengths_on (lending words cells partials)) (number_of total_size) (number_of piece_size)

    named : (partials : List Record) → length partials ≡ lent → asked partials ≡ new_picker (lengths lent words cells) t z
    unfolding lengths_on
    named partials l = λ i. new_picker (lengths (l i) words cells) (sym et i) (sym ez i)

    pub bad_geometry : valid_geometry t z ≡ false → NewDone words cells lent total_size piece_size words cells (some Geometry)
    unfolding new_picker
    bad_geometry h = record {
      done = λ partials l. making_refused (lending words cells partials) (asked partials) Geometry
          (named partials l
          ∙ ap (λ (b : Bool). cond b (within (lengths lent words cells) (new t z)) (not_made Geometry)) h);
    }

    module _ (valid : valid_geometry t z ≡ true) where
      needs : memory_needed (new t z) ≡ memory_of t z
      unfolding new
      needs = needs_of (new t z) valid (new_sound t z valid).many

      lies : (partials : List Record) → length partials ≡ lent → asked partials ≡ within (lengths lent words cells) (new t z)
      unfolding new_picker
      lies partials l = named partials l
          ∙ ap (λ (b : Bool). cond b (within (lengths lent words cells) (new t z)) (not_made Geometry)) valid

      pub short_memory : is_short (lengths lent words cells) (memory_of t z) ≡ true
          → NewDone words cells lent total_size piece_size words cells (some ShortMemory)
      short_memory h = record {
        done = λ partials l. making_refused (lending words cells partials) (asked partials) ShortMemory
            (lies partials l ∙ within_short (lengths lent words cells) (new t z)
            (ap (is_short (lengths lent words cells)) needs ∙ h));
      }

      module _ (enough : is_short (lengths lent words cells) (memory_of t z) ≡ false) where
        enough' : is_short (lengths lent words cells) (memory_needed (new t z)) ≡ false
        enough' = ap (is_short (lengths lent words cells)) needs ∙ enough

        module _ (s : Shape) (words' cells' : List ℕ) (m : MadeNew s t z words cells words' cells') where
          many : s.places ≤ lent
          unfolding memory_for lengths
          many =
              let stands = m.stands [] in
              let e = (long_enough (lengths lent words cells) (memory_for s.pieces s.blocks)
              (subst (λ (need : Memory). is_short (lengths lent words cells) need ≡ false)
              (ap memory_needed (sym (m.is [])) ∙ needs_stood s [] words' cells' stands) enough')).partials in
              omega (arith, e, stands.bounds.spans.in_words.sizes.places)

          kept : (partials : List Record)
              → KeptBeyond (memory_for s.pieces s.blocks) (lending words cells partials) (lending words' cells' partials)
          unfolding memory_for
          kept partials = record {
            long_words = m.words_long;
            long_cells = m.cells_long;
            long_partials = refl;
            words = m.words_beyond;
            cells = m.cells_beyond;
            partials = λ k h. refl;
          }

          pub made-new : NewDone words cells lent total_size piece_size words' cells' none
          made-new = record {
            done = λ partials l. stood_made (asked partials) s words cells partials words' cells' partials
                (lies partials l ∙ within-made (lengths lent words cells) (new t z) enough' ∙ ap made (sym (m.is partials)))
                (m.stands partials) (omega (arith, many, l)) (kept partials);
          }
