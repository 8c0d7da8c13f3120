-- A piece's record taken out and one partial less counted: the model's closing of a partial. Assumes nothing.
use mathlib.Core.Path.{◌≡◌, refl, sym, ap, subst, ◌∙◌}
use mathlib.Core.Bool.{true, not}
use mathlib.Core.Option.{some}
use mathlib.Core.List.{List}
use Prim.Native.Nat.{ℕ, suc, ◌-◌, ◌≤◌, ◌<◌}
use native.Mathlib.Decide.{ℕ_discrete, dec_le}
use native.Mathlib.Omega.{arith}
use lib.Dec.{eqb}
use lib.ListN.{length, get_or, set, take}
use lib.Seq.{length-take-le}
use Rattle.model.specs.Lists.{each, filter}
use Rattle.model.specs.State.{DownloadingPiece, with_partials}
use Rattle.model.specs.change.Partials.{partial_of, drop_partial}
use Rattle.model.specs.image.Sound.{partials_from}
use Rattle.memory_records.specs.declared.record.DownloadingPiece.{DownloadingPiece as Record}
use Rattle.memory_records.specs.declared.edits.Edit.TheVariants.{Remove}
use Rattle.memory_records.specs.Records.{no_record, removed, without_record}
use Rattle.memory_records.proofs.laws.EditLaws.{length-removed, removed_live}
use Rattle.memory_layout.specs.declared.shape.Shape.{Shape}
use Rattle.memory_layout.specs.Decode.{head_word, record_at, partial_held, partials_held, decode, decode_at}
use Rattle.memory_layout.specs.Bounds.{WordsSpan, InBounds, PlainRecord}
use Rattle.memory_layout.proofs.BoundsLaws.{decode_at_lem}
use Rattle.memory_partials.specs.Partials.{Edited, Closed}
use Rattle.memory_partials.proofs.RecordLaws.{at_live, without_each, without_among}
use Rattle.memory_partials.proofs.CountLaws.{Counted, counted_store, counted_kept, counted_list, counted_bounds, counted_plain}
use Rattle.memory_partials.proofs.CountLaws.{counted_is, counted_record, counted_held}
use Rattle.memory_partials.proofs.RisingLaws.{held_piece, held_each, live_rising, live_has, live_some}

-- a rising map takes no two places to one
rising_apart : (to : ℕ → ℕ) → ((k l : ℕ) → k < l → to k < to l) → (k l : ℕ) → to k ≡ to l → k ≡ l
rising_apart to h k l e = elim (ℕ_discrete k l) [
  | yes q ↦ q
  | no n ↦ elim (dec_le (suc k) l) [
    | yes m ↦ absurd (omega (arith, h k l m))
    | no m ↦ absurd (omega (arith, h l k (omega arith)))
  ]
]

module _ (s : Shape) (records : List Record) (words cells words' : List ℕ) (r : InBounds s records words cells)
    (c : Counted s words words' (head_word words 7 - 1)) (rising : partials_from 0 (decode records words cells).partials ≡ true)
    (i : ℕ) (d : DownloadingPiece) (found : partial_of (decode records words cells) i ≡ some d) where
  abbrev live : List Record
  live = take (head_word words 7) records

  abbrev after : List Record
  after = removed (head_word words 7) i records

  some_live : 0 < head_word words 7
  some_live = live_some s records words cells r rising i d found

  after-live : take (head_word words 7 - 1) after ≡ without_record i live
  after-live =
      removed_live (head_word words 7) i records r.live (live_rising s records words cells r rising)
      (live_has s records words cells r rising i d found)

  after_long : head_word words 7 - 1 ≤ length after
  after_long = omega (arith, length-removed (head_word words 7) i records, r.live)

  few : length (without_record i live) ≡ head_word words 7 - 1
  few = ap length (sym after-live) ∙ length-take-le (head_word words 7 - 1) after after_long

  -- where record k stood
  abbrev to : (k : ℕ) → ℕ
  to k = (without_among i live).to k

  to_low : (k : ℕ) → k < head_word words 7 - 1 → to k < head_word words 7
  to_low k h = omega (arith, (without_among i live).within k (omega (arith, few)), length-take-le (head_word words 7) records r.live)

  at_after : (k : ℕ) → k < head_word words 7 - 1 → record_at after k ≡ record_at records (to k)
  at_after k h =
      at_live after (head_word words 7 - 1) k h
      ∙ ap (λ (l : List Record). get_or l k no_record) after-live
      ∙ (without_among i live).same k (omega (arith, few))
      ∙ sym (at_live records (head_word words 7) (to k) (to_low k h))

  place : (k : ℕ) → k < head_word words 7 - 1 → (record_at after k).info_idx ≡ (record_at records (to k)).info_idx
  place k h = ap (λ (x : Record). x.info_idx) (at_after k h)

  closed_bounds : InBounds s after words' cells
  closed_bounds =
      counted_bounds s records after words cells words' cells (head_word words 7 - 1) r c refl (λ f j h l. refl)
      (omega (arith, r.partials)) after_long
      (λ k h. omega (arith, place k h, r.placed (to k) (to_low k h)))
      (λ k l h m e. rising_apart to (without_among i live).rises k l
      (r.apart (to k) (to l) (to_low k h) (to_low l m) (sym (place k h) ∙ e ∙ place l m)))

  partials_are : partials_held after words' cells s.pieces s.blocks
      ≡ filter (λ e. not (eqb e.piece i)) (partials_held records words cells s.pieces s.blocks)
  partials_are =
      held_each after words' cells s.pieces s.blocks (omega (arith, c.count, after_long))
      ∙ ap (λ (n : ℕ). each (partial_held words' cells s.pieces s.blocks) (take n after)) c.count
      ∙ ap (each (partial_held words' cells s.pieces s.blocks)) after-live
      ∙ without_each (partial_held words' cells s.pieces s.blocks) (held_piece words' cells s.pieces s.blocks) i live
      ∙ ap (filter (λ e. not (eqb e.piece i)))
      (counted_held s records after words cells words' cells (head_word words 7 - 1) r c refl (λ f j h l. refl) (λ k f j h l. refl))

  pub closed : Edited s (drop_partial i) (Remove i) records words cells words' cells
  unfolding drop_partial
  closed = record {
    is =
        decode_at_lem s after words' cells closed_bounds
        ∙ counted_is s records after words cells words' cells (head_word words 7 - 1) r c refl (λ f j h l. refl)
        ∙ ap (λ (ds : List DownloadingPiece). with_partials ds (decode_at s.pieces s.blocks records words cells)) partials_are
        ∙ ap (drop_partial i) (sym (decode_at_lem s records words cells r));
    bounds = closed_bounds;
    plain = λ p. counted_plain s records after words cells words' cells (head_word words 7 - 1) r c refl (λ f j h l. refl)
        (λ k h. subst (PlainRecord s.pieces s.blocks words' cells) (sym (at_after k h))
        (counted_record s records after words cells words' cells (head_word words 7 - 1) r c refl (λ f j m l. refl) (record_at records (to k))
        (λ f j m. refl) (p.partials (to k) (to_low k h)))) p;
  }

-- one less stored
pub closed_set : (s : Shape) (words : List ℕ) → WordsSpan s words → (n : ℕ) (words' : List ℕ) → n ≡ head_word words 7
    → words' ≡ set words 7 (n - 1) → Closed s words words'
closed_set s words q n words' en ew = record {
  count = c.count;
  kept = counted_kept s words words' (head_word words 7 - 1) c;
  list = counted_list s words words' (head_word words 7 - 1) c;
  became = λ records cells r rising i d found. closed s records words cells words' r c rising i d found;
}
  where
    c : Counted s words words' (head_word words 7 - 1)
    c = rw (ew, en) (counted_store s words q (head_word words 7 - 1))
