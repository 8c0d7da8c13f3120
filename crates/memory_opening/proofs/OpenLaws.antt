-- A record put in at a free place whose blocks are fresh: the model's opening of a partial. Assumes nothing.
use mathlib.Core.Path.{◌≡◌, refl, sym, ap, ap₂, subst, ◌∙◌}
use mathlib.Core.Logic.{◌≢◌, ◌⊎◌, inl, inr, ⊎_elim}
use mathlib.Core.List.{List, ◌∷◌}
use Prim.Native.Nat.{ℕ, zero, suc, ◌+◌, ◌<◌}
use native.Mathlib.Decide.{ℕ_discrete, dec_le}
use native.Mathlib.Omega.{arith}
use lib.Dec.{leb}
use lib.ListN.{length, get_or, take}
use lib.Seq.{length-take-le}
use borrow.Author.Tests.{le-leb, lt-leb}
use Rattle.model.specs.Lists.{bit, each, from}
use Rattle.model.specs.Bep3.{bit_of}
use Rattle.model.specs.State.{Block, DownloadingPiece, Picker, with_partials, blocks_in_piece, payload_blocks_in_piece}
use Rattle.model.specs.change.Partials.{fresh_block, fresh_partial, insert_in, add_partial}
use Rattle.memory_records.specs.declared.record.DownloadingPiece.{DownloadingPiece as Record}
use Rattle.memory_records.specs.declared.edits.Edit.TheVariants.{Insert}
use Rattle.memory_records.specs.Records.{no_record, inserted, insert_record}
use Rattle.memory_records.proofs.laws.EditLaws.{length-inserted, inserted_live}
use Rattle.memory_layout.specs.declared.shape.Shape.{Shape}
use Rattle.memory_layout.specs.Tables.{tabulate}
use Rattle.memory_layout.specs.Decode.{head_word, block_cell, record_at, blocks_of, block_held, blocks_held, partial_from, partial_held}
use Rattle.memory_layout.specs.Decode.{partials_held, decode, decode_at}
use Rattle.memory_layout.specs.Bounds.{InBounds, PlainRecord, Plain}
use Rattle.memory_layout.proofs.TableLaws.{tabulate_ext}
use Rattle.memory_layout.proofs.BoundsLaws.{decode_at_lem, blocks_within, place_room}
use Rattle.memory_partials.specs.Partials.{Edited}
use Rattle.memory_opening.specs.Opening.{Fresh}
use Rattle.memory_partials.proofs.RecordLaws.{at_live, insert_each, slot}
use Rattle.memory_partials.proofs.CountLaws.{Counted, counted_blocks, counted_bounds, counted_plain, counted_is}
use Rattle.memory_partials.proofs.CountLaws.{counted_record, counted_held}
use Rattle.memory_partials.proofs.RisingLaws.{held_piece, held_each}

-- ---- the blocks one after another
tabulate-from : {A : Type 0} (g : ℕ → A) (k n : ℕ) → tabulate n (λ j. g (k + j)) ≡ each g (from k n)
unfolding tabulate each from
tabulate-from g k zero = refl
tabulate-from g k (suc n) =
    λ i. g (start i) ∷ (tabulate_ext n (λ j. g (k + suc j)) (λ j. g (suc k + j)) (λ j h. ap g (omega arith)) ∙ tabulate-from g (suc k) n) i
  where
    start : k + 0 ≡ k
    start = omega arith

tabulate_all : {A : Type 0} (g : ℕ → A) (n : ℕ) → tabulate n g ≡ each g (from 0 n)
tabulate_all g n = tabulate_ext n g (λ j. g (0 + j)) (λ j h. ap g (omega arith)) ∙ tabulate-from g 0 n

-- where a record that stood at place m stands, with one put in at place q
abbrev shifted : (q m : ℕ) → ℕ
shifted q m = m + bit (leb q m)

module _ (s : Shape) (records : List Record) (words cells words' cells' : List ℕ) (x : Record) (r : InBounds s records words cells)
    (fits : head_word words 7 < length records) where
  abbrev live : List Record
  live = take (head_word words 7) records

  abbrev q : ℕ
  q = (slot x live).0

  live_long : length live ≡ head_word words 7
  live_long = length-take-le (head_word words 7) records (omega arith)

  at_after : (k : ℕ) → k < suc (head_word words 7) → record_at (inserted (head_word words 7) x records) k
      ≡ get_or (insert_record x live) k no_record
  at_after k h =
      at_live (inserted (head_word words 7) x records) (suc (head_word words 7)) k h
      ∙ ap (λ (l : List Record). get_or l k no_record) (inserted_live (head_word words 7) x records fits)

  -- x stands among the live records
  pub opened_low : q < suc (head_word words 7)
  opened_low = omega (arith, (slot x live).1.within, live_long)

  pub opened_here : record_at (inserted (head_word words 7) x records) q ≡ x
  opened_here = at_after q opened_low ∙ (slot x live).1.here

  -- a record that stood before
  record Old (k : ℕ) : Type 0 where
    was : ℕ
    low : was < head_word words 7
    same : record_at (inserted (head_word words 7) x records) k ≡ record_at records was
    at : k ≡ shifted q was

  origin : (k : ℕ) → k < suc (head_word words 7) → (k ≡ q) ⊎ Old k
  origin k h = elim (ℕ_discrete k q) [
    | yes e ↦ inl e
    | no n ↦ inr (elim (dec_le (suc k) q) [
      | yes l ↦ record {
        was = k;
        low = omega (arith, opened_low);
        same = at_after k h ∙ (slot x live).1.below k l ∙ sym (at_live records (head_word words 7) k (omega (arith, opened_low)));
        at = rw (lt-leb q k l) (omega arith);
      }
      | no l ↦ higher k h (omega arith)
    ])
  ]
    where
      higher : (k : ℕ) → k < suc (head_word words 7) → q < k → Old k
      higher zero h l = absurd (omega arith)
      higher (suc m) h l = record {
        was = m;
        low = omega arith;
        same = at_after (suc m) h ∙ (slot x live).1.above m (omega arith) ∙ sym (at_live records (head_word words 7) m (omega arith));
        at = rw (le-leb q m (omega arith)) (omega arith);
      }

  module _ (c : Counted s words words' (suc (head_word words 7))) (room : head_word words 7 < s.places) (flags : x.flags ≡ 0)
      (hp : x.info_idx < s.places) (free : (k : ℕ) → k < head_word words 7 → (record_at records k).info_idx ≢ x.info_idx)
      (b : Fresh s cells cells' x.info_idx (blocks_of words x.index) (payload_blocks_in_piece (decode records words cells) x.index))
    where
      abbrev after : List Record
      after = inserted (head_word words 7) x records

      -- ---- bounds
      placed : (k : ℕ) → k < suc (head_word words 7) → (record_at after k).info_idx < s.places
      placed k h = ⊎_elim
          (λ e. subst (λ (y : Record). y.info_idx < s.places) (sym (ap (record_at after) e ∙ opened_here)) hp)
          (λ o. subst (λ (y : Record). y.info_idx < s.places) (sym o.same) (r.placed o.was o.low))
          (origin k h)

      -- the place of x is no other's
      alone : (k : ℕ) → Old k → (record_at after k).info_idx ≢ x.info_idx
      alone k o e = free o.was o.low (ap (λ (y : Record). y.info_idx) (sym o.same) ∙ e)

      here : (k : ℕ) → k ≡ q → (record_at after k).info_idx ≡ x.info_idx
      here k e = ap (λ (y : Record). y.info_idx) (ap (record_at after) e ∙ opened_here)

      both_old : (k l : ℕ) → Old k → Old l → (record_at after k).info_idx ≡ (record_at after l).info_idx → k ≡ l
      both_old k l a o e =
          a.at
          ∙ ap (shifted q) (r.apart a.was o.was a.low o.low
          (ap (λ (y : Record). y.info_idx) (sym a.same) ∙ e ∙ ap (λ (y : Record). y.info_idx) o.same))
          ∙ sym o.at

      apart : (k l : ℕ) → k < suc (head_word words 7) → l < suc (head_word words 7)
          → (record_at after k).info_idx ≡ (record_at after l).info_idx → k ≡ l
      apart k l h m e = ⊎_elim
          (λ a. ⊎_elim (λ o. a ∙ sym o) (λ o. absurd (alone l o (sym e ∙ here k a))) (origin l m))
          (λ a. ⊎_elim (λ o. absurd (alone k a (e ∙ here l o))) (λ o. both_old k l a o e) (origin l m))
          (origin k h)

      opened_bounds : InBounds s after words' cells'
      opened_bounds =
          counted_bounds s records after words cells words' cells' (suc (head_word words 7)) r c b.kept.long b.fields room
          (omega (arith, length-inserted (head_word words 7) x records)) placed apart

      -- ---- the blocks of the others stay
      other : (k f j : ℕ) → k < head_word words 7 → j < blocks_of words (record_at records k).index
          → block_cell cells' s.pieces s.blocks f (record_at records k).info_idx j
          ≡ block_cell cells s.pieces s.blocks f (record_at records k).info_idx j
      other k f j h l = b.others f (record_at records k).info_idx j (place_room s records words cells r k h)
          (omega (arith, blocks_within s records words cells r (record_at records k).index)) (free k h)

      -- ---- its own blocks are fresh
      fresh_blocks : blocks_held words' cells' s.pieces s.blocks x.index x.info_idx
          ≡ each (fresh_block (payload_blocks_in_piece (decode records words cells) x.index))
          (from 0 (blocks_in_piece (decode records words cells) x.index))
      unfolding blocks_held blocks_in_piece blocks_of
      fresh_blocks =
          ap (λ (n : ℕ). tabulate n (block_held words' cells' s.pieces s.blocks x.info_idx))
          (counted_blocks s words words' (suc (head_word words 7)) c x.index)
          ∙ tabulate_ext (blocks_of words x.index) (block_held words' cells' s.pieces s.blocks x.info_idx)
          (fresh_block (payload_blocks_in_piece (decode records words cells) x.index)) (λ j h. b.held words' j h)
          ∙ tabulate_all (fresh_block (payload_blocks_in_piece (decode records words cells) x.index)) (blocks_of words x.index)

      fresh_held : partial_held words' cells' s.pieces s.blocks x ≡ fresh_partial (decode records words cells) x.index
      unfolding partial_held partial_from fresh_partial bit_of
      fresh_held =
          ap₂ (λ (f : ℕ) (l : List Block). partial_from x.index f l) flags fresh_blocks

      -- ---- all of them
      partials_are : partials_held after words' cells' s.pieces s.blocks
          ≡ insert_in (fresh_partial (decode records words cells) x.index) (partials_held records words cells s.pieces s.blocks)
      partials_are =
          held_each after words' cells' s.pieces s.blocks
          (omega (arith, c.count, length-inserted (head_word words 7) x records))
          ∙ ap (λ (n : ℕ). each (partial_held words' cells' s.pieces s.blocks) (take n after)) c.count
          ∙ ap (each (partial_held words' cells' s.pieces s.blocks)) (inserted_live (head_word words 7) x records fits)
          ∙ insert_each (partial_held words' cells' s.pieces s.blocks)
          (held_piece words' cells' s.pieces s.blocks) x live
          ∙ ap₂ insert_in fresh_held
          (counted_held s records after words cells words' cells' (suc (head_word words 7)) r c b.kept.long b.fields other)

      opened_is : decode after words' cells' ≡ add_partial x.index (decode records words cells)
      unfolding add_partial
      opened_is =
          decode_at_lem s after words' cells' opened_bounds
          ∙ counted_is s records after words cells words' cells' (suc (head_word words 7)) r c b.kept.long b.fields
          ∙ ap (λ (ds : List DownloadingPiece). with_partials ds (decode_at s.pieces s.blocks records words cells)) partials_are
          ∙ ap (λ (d : Picker). with_partials (insert_in (fresh_partial (decode records words cells) x.index) d.partials) d)
          (sym (decode_at_lem s records words cells r))

      -- ---- plain
      plain_old : (k : ℕ) → Old k → Plain s records words cells → PlainRecord s.pieces s.blocks words' cells' (record_at after k)
      plain_old k o p =
          subst (PlainRecord s.pieces s.blocks words' cells') (sym o.same)
          (counted_record s records after words cells words' cells' (suc (head_word words 7)) r c b.kept.long b.fields
          (record_at records o.was) (λ f j h. other o.was f j o.low h) (p.partials o.was o.low))

      plain_new : PlainRecord s.pieces s.blocks words' cells' x
      plain_new = record {
        flags = omega arith;
        blocks = λ j h. b.plain j (omega (arith, counted_blocks s words words' (suc (head_word words 7)) c x.index));
      }

      pub opened : Edited s (add_partial x.index) (Insert x) records words cells words' cells'
      opened = record {
        is = opened_is;
        bounds = opened_bounds;
        plain = λ p. counted_plain s records after words cells words' cells' (suc (head_word words 7)) r c b.kept.long b.fields
            (λ k h. ⊎_elim
            (λ e. subst (PlainRecord s.pieces s.blocks words' cells') (sym (ap (record_at after) e ∙ opened_here)) plain_new)
            (λ o. plain_old k o p) (origin k h)) p;
      }
