-- A record replaced by one with other flags: the model's own change of the partial. Assumes nothing.
use mathlib.Core.Path.{◌≡◌, refl, sym, ap, ap₂, subst, ◌∙◌}
use mathlib.Core.Logic.{◌⊎◌, inl, inr, ⊎_elim}
use mathlib.Core.Bool.{Bool, true, false}
use mathlib.Core.List.{List}
use Prim.Native.Nat.{ℕ, ◌+◌, ◌*◌, ◌/◌, ◌%◌, ◌^◌, ◌≤◌, ◌<◌}
use native.Mathlib.Omega.{arith}
use lib.Dec.{eqb}
use lib.ListN.{length, get_or, take}
use lib.Seq.{length-take-le}
use Rattle.model.specs.Lists.{bit, each}
use Rattle.model.specs.Bep3.{bit_of}
use Rattle.model.specs.State.{DownloadingPiece, Picker, with_partials, with_flags}
use Rattle.model.specs.change.Partials.{replace_in, replace_partial}
use Rattle.model.specs.image.Sound.{partials_from}
use Rattle.memory_records.specs.declared.record.DownloadingPiece.{DownloadingPiece as Record}
use Rattle.memory_records.specs.declared.edits.Edit.TheVariants.{Replace}
use Rattle.memory_records.specs.Records.{no_record, replaced, replace_record}
use Rattle.memory_records.proofs.laws.EditLaws.{length-replaced, replaced_live}
use Rattle.memory_layout.specs.declared.shape.Shape.{Shape}
use Rattle.memory_layout.specs.Decode.{head_word, record_at, blocks_held, partial_from, partial_held, partials_held, decode, decode_at}
use Rattle.memory_layout.specs.Changes.{partial_in}
use Rattle.memory_layout.specs.Bounds.{InBounds, PlainRecord, Plain}
use Rattle.memory_layout.proofs.Meanings.{partial_is}
use Rattle.memory_layout.proofs.BoundsLaws.{decode_at_lem}
use Rattle.memory_partials.specs.Partials.{Edited, flagged, Flagged}
use Rattle.memory_partials.proofs.RecordLaws.{at_live, replace_each, replaced_at}
use Rattle.memory_partials.proofs.CountLaws.{counted_none, counted_bounds, counted_plain, counted_is}
use Rattle.memory_partials.proofs.RisingLaws.{held_piece, held_each, live_rising, live_one}

-- ---- the flags' number
module _ (passed locked : Bool) (flags : ℕ) where
  bit_low : (t : Bool) → bit t ≤ 1
  bit_low true = omega arith
  bit_low false = omega arith

  flagged_low : flagged passed locked flags ≤ 7
  unfolding flagged
  flagged_low = omega (arith, bit_low passed, bit_low locked)

  bit_one : (t : Bool) → eqb (bit t) 1 ≡ t
  bit_one true = refl
  bit_one false = refl

  flagged-passed : bit_of (flagged passed locked flags) 0 ≡ passed
  unfolding bit_of flagged
  flagged-passed = ap (λ (n : ℕ). eqb n 1) low ∙ bit_one passed
    where
      low : (bit passed + 2 * bit locked + 4 * (flags / 4 % 2)) / 2 ^ 0 % 2 ≡ bit passed
      low = omega (arith, bit_low passed)

  flagged-locked : bit_of (flagged passed locked flags) 1 ≡ locked
  unfolding bit_of flagged
  flagged-locked = ap (λ (n : ℕ). eqb n 1) low ∙ bit_one locked
    where
      low : (bit passed + 2 * bit locked + 4 * (flags / 4 % 2)) / 2 ^ 1 % 2 ≡ bit locked
      low = omega (arith, bit_low passed, bit_low locked)

  flagged_hashing : bit_of (flagged passed locked flags) 2 ≡ bit_of flags 2
  unfolding bit_of flagged
  flagged_hashing = ap (λ (n : ℕ). eqb n 1) high
    where
      high : (bit passed + 2 * bit locked + 4 * (flags / 4 % 2)) / 2 ^ 2 % 2 ≡ flags / 2 ^ 2 % 2
      high = omega (arith, bit_low passed, bit_low locked)

-- ---- the record replaced
module _ (passed locked : Bool) (x x' : Record) (index : x'.index ≡ x.index) (place : x'.info_idx ≡ x.info_idx) (flags : x'.flags
    ≡ flagged passed locked x.flags) where
  held_flagged : (words cells : List ℕ) (n b : ℕ) → partial_held words cells n b x' ≡ with_flags passed locked (partial_held words cells n b x)
  unfolding partial_held partial_from with_flags
  held_flagged words cells n b = λ k. record {
    piece = index k;
    passed_hash_check = (ap (λ (f : ℕ). bit_of f 0) flags ∙ flagged-passed passed locked x.flags) k;
    locked = (ap (λ (f : ℕ). bit_of f 1) flags ∙ flagged-locked passed locked x.flags) k;
    hashing = (ap (λ (f : ℕ). bit_of f 2) flags ∙ flagged_hashing passed locked x.flags) k;
    blocks = ap₂ (blocks_held words cells n b) index place k;
  }

  module _ (s : Shape) (records : List Record) (words cells : List ℕ) (r : InBounds s records words cells)
      (rising : partials_from 0 (decode records words cells).partials ≡ true) (k₀ : ℕ) (low : k₀ < head_word words 7)
      (here : record_at records k₀ ≡ x) where
    abbrev live : List Record
    live = take (head_word words 7) records

    abbrev after : List Record
    after = replaced (head_word words 7) x' records

    after-live : take (head_word words 7) after ≡ replace_record x' live
    after-live = replaced_live (head_word words 7) x' records r.live (live_rising s records words cells r rising)

    after_long : head_word words 7 ≤ length after
    after_long = omega (arith, length-replaced (head_word words 7) x' records, r.live)

    at_after : (k : ℕ) → k < head_word words 7 → record_at after k ≡ get_or (replace_record x' live) k no_record
    at_after k h = at_live after (head_word words 7) k h ∙ ap (λ (l : List Record). get_or l k no_record) after-live

    -- the only record of the piece
    only : (k : ℕ) → k < head_word words 7 → (get_or live k no_record).index ≡ x'.index → k ≡ k₀
    only k h e =
        live_one s records words cells r rising k k₀ h low
        (ap (λ (y : Record). y.index) (at_live records (head_word words 7) k h) ∙ e ∙ index ∙ ap (λ (y : Record). y.index) (sym here))

    origin : (k : ℕ) → k < head_word words 7 → ((k ≡ k₀) × (record_at after k ≡ x')) ⊎ (record_at after k ≡ record_at records k)
    origin k h = ⊎_elim
        (λ e. inl (only k h e.0, at_after k h ∙ e.1))
        (λ e. inr (at_after k h ∙ e ∙ sym (at_live records (head_word words 7) k h)))
        (replaced_at x' live k (omega (arith, length-take-le (head_word words 7) records r.live)))

    same_place : (k : ℕ) → k < head_word words 7 → (record_at after k).info_idx ≡ (record_at records k).info_idx
    same_place k h = ⊎_elim
        (λ e. ap (λ (y : Record). y.info_idx) e.1 ∙ place
        ∙ ap (λ (y : Record). y.info_idx) (sym here ∙ ap (record_at records) (sym e.0)))
        (λ e. ap (λ (y : Record). y.info_idx) e)
        (origin k h)

    flagged_bounds : InBounds s after words cells
    flagged_bounds =
        counted_bounds s records after words cells words cells (head_word words 7) r (counted_none s words) refl (λ f j h l. refl)
        r.partials after_long
        (λ k h. omega (arith, same_place k h, r.placed k h))
        (λ k l h m e. r.apart k l h m (sym (same_place k h) ∙ e ∙ same_place l m))

    partials_are : partials_held after words cells s.pieces s.blocks
        ≡ replace_in (with_flags passed locked (partial_in (decode records words cells) k₀)) (partials_held records words cells s.pieces
        s.blocks)
    partials_are =
        held_each after words cells s.pieces s.blocks after_long
        ∙ ap (each (partial_held words cells s.pieces s.blocks)) after-live
        ∙ replace_each (partial_held words cells s.pieces s.blocks) (held_piece words cells s.pieces s.blocks) x' live
        ∙ ap₂ replace_in
        (held_flagged words cells s.pieces s.blocks
        ∙ ap (λ (y : Record). with_flags passed locked (partial_held words cells s.pieces s.blocks y)) (sym here)
        ∙ ap (with_flags passed locked) (sym (partial_is s records words cells r k₀ low)))
        (sym (held_each records words cells s.pieces s.blocks r.live))

    plain_new : PlainRecord s.pieces s.blocks words cells x → PlainRecord s.pieces s.blocks words cells x'
    plain_new p = record {
      flags = omega (arith, flags, flagged_low passed locked x.flags);
      blocks = λ j h. rw place (p.blocks j (rw index at h));
    }

    plain_each : Plain s records words cells → (k : ℕ) → k < head_word words 7
        → PlainRecord s.pieces s.blocks words cells (record_at after k)
    plain_each p k h = ⊎_elim
        (λ e. subst (PlainRecord s.pieces s.blocks words cells) (sym e.1)
        (plain_new (subst (PlainRecord s.pieces s.blocks words cells) here (p.partials k₀ low))))
        (λ e. subst (PlainRecord s.pieces s.blocks words cells) (sym e) (p.partials k h))
        (origin k h)

    reflagged : Edited s (λ d. replace_partial (with_flags passed locked (partial_in d k₀)) d) (Replace x') records words cells words cells
    unfolding replace_partial
    reflagged = record {
      is =
          decode_at_lem s after words cells flagged_bounds
          ∙ counted_is s records after words cells words cells (head_word words 7) r (counted_none s words) refl (λ f j h l. refl)
          ∙ ap (λ (ds : List DownloadingPiece). with_partials ds (decode_at s.pieces s.blocks records words cells)) partials_are
          ∙ ap (λ (d : Picker). with_partials (replace_in (with_flags passed locked (partial_in (decode records words cells) k₀)) d.partials)
          d) (sym (decode_at_lem s records words cells r));
      bounds = flagged_bounds;
      plain = λ p. counted_plain s records after words cells words cells (head_word words 7) r (counted_none s words) refl
          (λ f j h l. refl) (plain_each p) p;
    }

  -- the record with other flags
  pub with_flags_lem : Flagged passed locked x x'
  with_flags_lem = record {
    index = index;
    place = place;
    flags = flags;
    became = λ s records words cells r rising k low here. reflagged s records words cells r rising k low here;
  }
