-- The number of partials stored, and the records changed with it: what stays in bounds, plain, and of the picker. Assumes nothing.
use mathlib.Core.Path.{◌≡◌, refl, sym, ap, ap₂, subst, ◌∙◌}
use mathlib.Core.Logic.{◌≢◌}
use mathlib.Core.Bool.{true, not}
use mathlib.Core.Option.{none}
use mathlib.Core.List.{List}
use Prim.Native.Nat.{ℕ, ◌+◌, ◌≤◌, ◌<◌}
use native.Mathlib.Omega.{arith}
use lib.Dec.{eqb}
use lib.ListN.{length, set, take}
use lib.Seq.{get_or-set_same}
use Rattle.model.specs.Lists.{each}
use Rattle.model.specs.Bep3.{num_pieces, whole_piece_blocks}
use Rattle.model.specs.State.{DownloadingPiece, Picker, valid_geometry, with_partials}
use Rattle.model.specs.change.Partials.{partial_of, fresh_partial, add_partial, drop_partial, replace_partial}
use Rattle.model.specs.image.Sound.{partials_from}
use Rattle.model.proofs.sound.PartialLaws.{from_put, from_insert, from_filter}
use Rattle.memory_records.specs.declared.record.DownloadingPiece.{DownloadingPiece as Record}
use Rattle.memory_records.specs.declared.edits.Edit.{Edit}
use Rattle.memory_records.specs.declared.edits.Edit.TheVariants.{Keep, Replace, Insert, Remove}
use Rattle.memory_records.specs.Records.{edited}
use Rattle.memory_layout.specs.declared.shape.Shape.{Shape}
use Rattle.memory_layout.specs.Decode.{head_word, block_cell, record_at, pieces_on, blocks_on, blocks_of, partial_held, partials_held, decode}
use Rattle.memory_layout.specs.Decode.{decode_at}
use Rattle.memory_layout.specs.Bounds.{WordsSpan, InBounds, PlainRecord, Plain}
use Rattle.memory_layout.specs.Stores.{WordsKept, ListKept, Became}
use Rattle.memory_layout.specs.Frames.{SameFields}
use Rattle.memory_layout.proofs.TableLaws.{tabulate_ext}
use Rattle.memory_layout.proofs.OffsetLaws.{head_in}
use Rattle.memory_layout.proofs.Same.{head_other}
use Rattle.memory_layout.proofs.Parts.{block_same, blocks_of_same, partial_same, pieces_same, list_same, listing_same, extents_same}
use Rattle.memory_layout.proofs.BoundsLaws.{blocks_within, place_room}
use Rattle.memory_layout.proofs.stores.HeadStores.{Behind, behind_none, behind_store, behind_kept}
use Rattle.memory_partials.specs.Partials.{Edited}
use Rattle.memory_partials.proofs.RecordLaws.{tabulate_live}

-- ---- the words
-- v partials are counted, and all else is as it was
pub record Counted (s : Shape) (words words' : List ℕ) (v : ℕ) : Type 0 where
  pub behind : Behind s words words'
  pub head : (k : ℕ) → k ≢ 7 → head_word words' k ≡ head_word words k
  pub count : head_word words' 7 ≡ v

-- nothing stored
pub counted_none : (s : Shape) (words : List ℕ) → Counted s words words (head_word words 7)
counted_none s words = record { behind = behind_none s words; head = λ k h. refl; count = refl }

-- word 7 stored
pub counted_store : (s : Shape) (words : List ℕ) → WordsSpan s words → (v : ℕ) → Counted s words (set words 7 v) v
unfolding head_word
counted_store s words r v = record {
  behind = behind_store s words words 7 v (omega arith) (behind_none s words);
  head = λ k h. head_other words 7 v k h;
  count = get_or-set_same words 7 v 0 (omega (arith, head_in s words r));
}

module _ (s : Shape) (words words' : List ℕ) (v : ℕ) (c : Counted s words words' v) where
  total : head_word words' 0 ≡ head_word words 0
  total = c.head 0 (λ e. omega arith)

  size : head_word words' 1 ≡ head_word words 1
  size = c.head 1 (λ e. omega arith)

  -- the frame
  pub counted_kept : WordsKept s words words'
  counted_kept = behind_kept s words words' c.behind total size

  -- the list stays
  pub counted_list : ListKept s words words'
  counted_list = record { long = c.head 6 (λ e. omega arith); word = c.behind.columns 1 (omega arith) }

  -- as many blocks
  pub counted_blocks : (i : ℕ) → blocks_of words' i ≡ blocks_of words i
  counted_blocks i = blocks_of_same words words' words words s.pieces s.blocks total size i

-- ---- all three buffers
module _ (s : Shape) (records records' : List Record) (words cells words' cells' : List ℕ) (v : ℕ) (r : InBounds s records words cells)
    (c : Counted s words words' v) (long : length cells' ≡ length cells) (fields : SameFields s.pieces cells cells') where
  -- in bounds, where the places of the records are
  pub counted_bounds : v ≤ s.places → v ≤ length records' → ((k : ℕ) → k < v → (record_at records' k).info_idx < s.places)
      → ((k l : ℕ) → k < v → l < v → (record_at records' k).info_idx ≡ (record_at records' l).info_idx → k ≡ l)
      → InBounds s records' words' cells'
  unfolding pieces_on blocks_on
  counted_bounds few live placed apart =
      let t = c.head 0 (λ e. omega arith) in
      let z = c.head 1 (λ e. omega arith) in
      let six = c.head 6 (λ e. omega arith) in
      record {
        spans = record {
          in_words = record { sizes = r.spans.in_words.sizes; long = omega (arith, c.behind.long, r.spans.in_words.long) };
          in_cells = record { sizes = r.spans.in_cells.sizes; long = omega (arith, long, r.spans.in_cells.long) };
        };
        geometry = ap₂ valid_geometry t z ∙ r.geometry;
        pieces = r.pieces ∙ sym (ap₂ num_pieces t z);
        blocks = r.blocks ∙ sym (ap whole_piece_blocks z);
        list = omega (arith, six, r.list);
        idle = λ e. six ∙ r.idle (rw (c.head 5 (λ q. omega arith)) at e);
        partials = omega (arith, c.count);
        live = omega (arith, c.count);
        recent_extents = omega (arith, c.head 8 (λ e. omega arith), r.recent_extents);
        placed = λ k h. placed k (omega (arith, c.count));
        apart = λ k l h m e. apart k l (omega (arith, c.count)) (omega (arith, c.count)) e;
      }

  -- plain, where the records are
  pub counted_plain : ((k : ℕ) → k < v → PlainRecord s.pieces s.blocks words' cells' (record_at records' k))
      → Plain s records words cells → Plain s records' words' cells'
  counted_plain h p = record {
    dirty = omega (arith, c.head 5 (λ e. omega arith), p.dirty);
    pieces = record {
      states = λ i l. rw (fields 1 i (omega arith) l) (p.pieces.states i l);
      flushed = λ i l. rw (fields 3 i (omega arith) l) (p.pieces.flushed i l);
    };
    partials = λ k l. h k (omega (arith, c.count));
  }

  -- only the partials are others
  pub counted_is : decode_at s.pieces s.blocks records' words' cells'
      ≡ with_partials (partials_held records' words' cells' s.pieces s.blocks) (decode_at s.pieces s.blocks records words cells)
  unfolding with_partials
  counted_is = λ i. record {
    total_size = c.head 0 (λ e. omega arith) i;
    piece_size = c.head 1 (λ e. omega arith) i;
    seeds = c.head 2 (λ e. omega arith) i;
    cursor = c.head 3 (λ e. omega arith) i;
    reverse_cursor = c.head 4 (λ e. omega arith) i;
    pieces = pieces_same words words' cells cells' s.pieces fields (c.behind.columns 0 (omega arith)) i;
    partials = partials_held records' words' cells' s.pieces s.blocks;
    recent_extents = extents_same words words' (c.head 8 (λ e. omega arith)) (λ k l. c.head (9 + k) (λ e. omega arith)) i;
    listing = listing_same words words' s.pieces (c.head 5 (λ e. omega arith))
        (list_same words words' s.pieces (c.head 6 (λ e. omega arith)) (λ k l. c.behind.columns 1 (omega arith) k
        (omega (arith, r.list)))) i;
  }

  -- a record stays plain where the cells of its blocks stay
  pub counted_record : (x : Record)
      → ((f j : ℕ) → j < blocks_of words x.index → block_cell cells' s.pieces s.blocks f x.info_idx j
      ≡ block_cell cells s.pieces s.blocks f x.info_idx j)
      → PlainRecord s.pieces s.blocks words cells x → PlainRecord s.pieces s.blocks words' cells' x
  counted_record x h p = record {
    flags = p.flags;
    blocks = λ j l.
        let m : j < blocks_of words x.index = omega (arith, counted_blocks s words words' v c x.index) in
        record {
          state = rw (h 0 j m) (p.blocks j m).state;
          has = rw (h 2 j m) (p.blocks j m).has;
        };
  }

  -- the partials of the records that stood, where the cells of their blocks stay
  module _ (same : (k f j : ℕ) → k < head_word words 7 → j < blocks_of words (record_at records k).index
      → block_cell cells' s.pieces s.blocks f (record_at records k).info_idx j
      ≡ block_cell cells s.pieces s.blocks f (record_at records k).info_idx j) where
    held_same : (k : ℕ) → k < head_word words 7
        → partial_held words' cells' s.pieces s.blocks (record_at records k) ≡ partial_held words cells s.pieces s.blocks
        (record_at records k)
    held_same k h =
        partial_same words words' cells cells' s.pieces s.blocks (c.head 0 (λ e. omega arith)) (c.head 1 (λ e. omega arith))
        (record_at records k) (λ j l.
        block_same words words' cells cells' s.pieces s.blocks (record_at records k).info_idx j (λ f m. same k f j h l)
        (λ y. c.behind.peers (record_at records k).info_idx j (place_room s records words cells r k h)
        (omega (arith, blocks_within s records words cells r (record_at records k).index))))

    pub counted_held : each (partial_held words' cells' s.pieces s.blocks) (take (head_word words 7) records)
        ≡ partials_held records words cells s.pieces s.blocks
    unfolding partials_held
    counted_held =
        sym (tabulate_live (partial_held words' cells' s.pieces s.blocks) (head_word words 7) records r.live)
        ∙ tabulate_ext (head_word words 7) (λ k. partial_held words' cells' s.pieces s.blocks (record_at records k))
        (λ k. partial_held words cells s.pieces s.blocks (record_at records k)) held_same

-- ---- the edit and stores after one another
module _ (s : Shape) (f g : Picker → Picker) (edit : Edit) (records : List Record) (words cells words' cells' words'' cells'' : List ℕ) where
  -- an edit, and a store into the buffers with the records as they will be
  pub edited_then : Edited s f edit records words cells words' cells'
      → Became s g (edited (head_word words 7) edit records) words' cells' words'' cells''
      → Edited s (λ d. g (f d)) edit records words cells words'' cells''
  edited_then a b = record { is = b.is ∙ ap g a.is; bounds = b.bounds; plain = λ p. b.plain (a.plain p) }

  -- a store that leaves the number of partials, and an edit
  pub then_edited : head_word words' 7 ≡ head_word words 7 → Became s f records words cells words' cells'
      → Edited s g edit records words' cells' words'' cells'' → Edited s (λ d. g (f d)) edit records words cells words'' cells''
  then_edited e a b = record {
    is = ap (λ (n : ℕ). decode (edited n edit records) words'' cells'') (sym e) ∙ b.is ∙ ap g a.is;
    bounds = subst (λ (n : ℕ). InBounds s (edited n edit records) words'' cells'') e b.bounds;
    plain = λ p. subst (λ (n : ℕ). Plain s (edited n edit records) words'' cells'') e (b.plain (a.plain p));
  }

-- a store alone, with no edit
pub kept_edited : (s : Shape) (f : Picker → Picker) (records : List Record) (words cells words' cells' : List ℕ)
    → Became s f records words cells words' cells' → Edited s f Keep records words cells words' cells'
kept_edited s f records words cells words' cells' a = record { is = a.is; bounds = a.bounds; plain = a.plain }

-- ---- the partials rise after an edit where they did before
module _ (s : Shape) (i : ℕ) (records : List Record) (words cells words' cells' : List ℕ)
    (rising : partials_from 0 (decode records words cells).partials ≡ true) where
  -- one opened, where the piece had none
  pub opened_rising : (x : Record) → Edited s (add_partial i) (Insert x) records words cells words' cells'
      → partial_of (decode records words cells) i ≡ none
      → partials_from 0 (decode (edited (head_word words 7) (Insert x) records) words' cells').partials ≡ true
  unfolding add_partial partial_of with_partials fresh_partial
  opened_rising x a n =
      ap (λ (d : Picker). partials_from 0 d.partials) a.is
      ∙ from_insert 0 (fresh_partial (decode records words cells) i) (decode records words cells).partials (omega arith) n rising

  -- one closed
  pub closed_rising : Edited s (drop_partial i) (Remove i) records words cells words' cells'
      → partials_from 0 (decode (edited (head_word words 7) (Remove i) records) words' cells').partials ≡ true
  unfolding drop_partial with_partials
  closed_rising a =
      ap (λ (d : Picker). partials_from 0 d.partials) a.is
      ∙ from_filter (λ d. not (eqb d.piece i)) 0 (decode records words cells).partials rising

  -- one replaced
  pub replaced_rising : (x : Record) (f : Picker → DownloadingPiece)
      → Edited s (λ d. replace_partial (f d) d) (Replace x) records words cells words' cells'
      → partials_from 0 (decode (edited (head_word words 7) (Replace x) records) words' cells').partials ≡ true
  unfolding replace_partial with_partials
  replaced_rising x f a =
      ap (λ (d : Picker). partials_from 0 d.partials) a.is
      ∙ from_put 0 (f (decode records words cells)) (decode records words cells).partials rising
