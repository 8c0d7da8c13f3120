-- The whole image as its parts one behind another: their lengths, and that what was written is read back. Assumes nothing.
use mathlib.Core.Path.{◌≡◌, refl, sym, ap, ap₂, ◌∙◌}
use mathlib.Core.Bool.{true}
use mathlib.Core.List.{List, ◌++◌}
use Prim.Native.Nat.{ℕ, ◌+◌, ◌*◌}
use native.Mathlib.Omega.{arith}
use lib.ListN.{length, take, drop, length-append}
use lib.Seq.{take_at}
use Rattle.model.specs.Lists.{bit, len, concat_map}
use Rattle.model.specs.State.{Picker, is_dirty}
use Rattle.model.specs.image.WellFormed.{well_formed}
use Rattle.model.specs.image.Image.{head_record, piece_record, partial_records, number_record, extent_kind, place_kind, bytes_of, image}
use Rattle.model.specs.image.Image.{read_image}
use Rattle.model.proofs.image.ImageLaws.{image-accepted}
use Rattle.list_entries.specs.Words.{listed_piece}
use Rattle.memory_records.specs.Rows.{records_in}
use Rattle.memory_layout.specs.declared.shape.Shape.{Shape}
use Rattle.memory_layout.specs.Decode.{head_word, piece_word, piece_held, pieces_held, partials_held, extents_held, list_held}
use Rattle.memory_layout.proofs.BoundsLaws.{decode_at_lem}
use Rattle.memory_layout.proofs.Meanings.{dirty_is, list_is}
use Rattle.memory_rows.specs.Lookup.{picker_in}
use Rattle.ask_picker.specs.Asked.{Asked}
use Rattle.image_bytes.specs.Put.{Put}
use Rattle.image_put.specs.Fields.{head_fields}
use Rattle.image_parts.specs.Parts.{Appended, head_in}
use Rattle.image_parts.proofs.RunLaws.{appended_then, appended_as, run_long}
use Rattle.image_parts.proofs.RecordMeanings.{bit_yes, piece_long, number_long}
use Rattle.image_write.specs.Written.{ImageWritten}

-- what stands in front is read back
pub written_read : (d : Picker) (before after : List ℕ) (r : ℕ) → well_formed d ≡ true → Put 0 (image d) before after → r ≡ len (image d)
    → ImageWritten d before after r
unfolding len
written_read d before after r w p e = record {
  put = p;
  long = e;
  read = ap read_image (ap (take r) p.is ∙ take_at (image d) (drop (0 + length (image d)) before) r (sym e)) ∙ image-accepted d w;
}

head_long : (words : List ℕ) → length (head_in words) ≡ 24
unfolding head_in head_fields bytes_of
head_long words = refl

module _ (s : Shape) (live : ℕ) (rows words cells : List ℕ) (g : Asked s live rows words cells) where
  -- the parts behind the head
  abbrev pub pieces_part : List ℕ
  pieces_part = concat_map piece_record (pieces_held words cells s.pieces)

  abbrev pub partials_part : List ℕ
  partials_part = concat_map partial_records (partials_held (records_in live rows) words cells s.pieces s.blocks)

  abbrev pub extents_part : List ℕ
  extents_part = concat_map (number_record extent_kind) (extents_held words)

  abbrev pub places_part : List ℕ
  places_part = concat_map (number_record place_kind) (list_held words s.pieces)

  head_is : head_record (picker_in live rows words cells) ≡ head_in words
  unfolding head_record head_in head_fields
  head_is =
      let d : bit (is_dirty (picker_in live rows words cells).listing) ≡ head_word words 5 =
      ap bit (dirty_is s (records_in live rows) words cells g.stands.bounds) ∙ bit_yes (head_word words 5) g.stands.plain.dirty in
      rw d

  image_parts : head_in words ++ (pieces_part ++ (partials_part ++ (extents_part ++ places_part))) ≡ image (picker_in live rows words cells)
  unfolding image
  image_parts =
      let b = g.stands.bounds in
      let e = decode_at_lem s (records_in live rows) words cells b in
      sym (ap₂ ◌++◌ head_is
      (ap₂ ◌++◌ (ap (λ (d : Picker). concat_map piece_record d.pieces) e)
      (ap₂ ◌++◌ (ap (λ (d : Picker). concat_map partial_records d.partials) e)
      (ap (λ (l : List ℕ). extents_part ++ concat_map (number_record place_kind) l) (list_is s (records_in live rows) words cells b)))))

  -- how long each is
  pub record Lengths : Type 0 where
    pub pieces : length pieces_part ≡ 10 * s.pieces
    pub extents : length extents_part ≡ 5 * head_word words 8
    pub places : length places_part ≡ 5 * head_word words 6
    pub whole : len (image (picker_in live rows words cells))
        ≡ 24 + (10 * s.pieces + (length partials_part + (5 * head_word words 8 + 5 * head_word words 6)))

  pub lengths : Lengths
  unfolding len pieces_held extents_held list_held
  lengths =
      let p = run_long piece_record (piece_held words cells s.pieces) 10 s.pieces (λ i. piece_long _) in
      let e = run_long (number_record extent_kind) (λ k. head_word words (9 + k)) 5 (head_word words 8) (λ k. number_long extent_kind _) in
      let l = run_long (number_record place_kind) (λ k. listed_piece (piece_word words s.pieces 1 k)) 5 (head_word words 6) (λ k. number_long place_kind _) in
      record {
        pieces = p;
        extents = e;
        places = l;
        whole =
            ap length (sym image_parts)
            ∙ omega (
              arith,
              head_long words,
              length-append (head_in words) (pieces_part ++ (partials_part ++ (extents_part ++ places_part))),
              length-append pieces_part (partials_part ++ (extents_part ++ places_part)),
              length-append partials_part (extents_part ++ places_part),
              length-append extents_part places_part,
            );
      }

  -- the parts put one behind another are the image
  pub parts_written : (at p q e r : ℕ) (z a b c d f : List ℕ) → at ≡ 24 → Put 0 (head_in words) z a → Appended at pieces_part a b p
      → Appended p partials_part b c q → Appended q extents_part c d e → Appended e places_part d f r
      → ImageWritten (picker_in live rows words cells) z f r
  unfolding len
  parts_written at p q e r z a b c d f h o u v w x =
      let all = appended_as 0 r _ _ z f
      (appended_then 0 at r (head_in words) (pieces_part ++ (partials_part ++ (extents_part ++ places_part))) z a f
      (record { put = o; place = omega (arith, head_long words) })
      (appended_then at p r pieces_part (partials_part ++ (extents_part ++ places_part)) a b f u
      (appended_then p q r partials_part (extents_part ++ places_part) b c f v (appended_then q e r extents_part places_part c d f w x)))) image_parts in
      written_read (picker_in live rows words cells) z f r g.stands.sound all.put (omega (arith, all.place))
