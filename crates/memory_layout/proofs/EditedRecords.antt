-- One edit of all lent records is that edit of the live ones, and the picker reads no others. Assumes nothing.
use mathlib.Core.Path.{◌≡◌, refl, sym, ap, subst, ◌∙◌}
use mathlib.Core.Bool.{Bool, true, false, cond, not, ◌&&◌, ◌||◌}
use mathlib.Core.List.{List, [], ◌∷◌}
use Prim.Native.Nat.{ℕ, zero, suc, ◌-◌, ◌≤◌, ◌<◌}
use native.Mathlib.Nat.{le_of_suc-le-suc}
use native.Mathlib.Omega.{arith}
use lib.Dec.{T, eqb, ltb}
use lib.ListN.{length, get_or, take}
use lib.Seq.{length-take-le}
use Rattle.model.specs.State.{Picker}
use Rattle.model.specs.list.Order.{rank}
use Rattle.model.specs.image.WellFormed.{well_formed}
use Rattle.model.specs.image.Sound.{partials_from}
use Rattle.model.proofs.sound.SoundLaws.{well_formed_sound}
use Rattle.memory_records.specs.declared.record.DownloadingPiece.{DownloadingPiece as Record}
use Rattle.memory_records.specs.declared.edits.Edit.{Edit}
use Rattle.memory_records.specs.declared.edits.Edit.TheVariants.{Keep, Replace, Insert, Remove}
use Rattle.memory_records.specs.Records.{no_record, HasRoom, inserted, removed, replaced, edited, rising_from, has_record, without_record}
use Rattle.memory_records.proofs.laws.EditLaws.{length-inserted, length-removed, length-replaced, inserted_live, removed_live, removed_absent}
use Rattle.memory_records.proofs.laws.EditLaws.{replaced_live}
use Rattle.memory_layout.specs.declared.shape.Shape.{Shape}
use Rattle.memory_layout.specs.Tables.{tabulate}
use Rattle.memory_layout.specs.Decode.{head_word, record_at, pieces_on, blocks_on, partial_from, partial_held, partials_held, decode}
use Rattle.memory_layout.specs.Bounds.{InBounds, PlainRecord, Plain, RanksHeld}
use Rattle.memory_layout.specs.Standing.{Stands, Changed, edit_records}
use Rattle.memory_layout.proofs.TableLaws.{tabulate_ext}

-- ---- records that are the same as far as they are live
module _ (s : Shape) (records records' : List Record) (words cells : List ℕ)
    (same : (k : ℕ) → k < head_word words 7 → record_at records' k ≡ record_at records k) where
  -- the same picker
  pub decode_live : decode records' words cells ≡ decode records words cells
  unfolding partials_held
  decode_live = λ i. record {
    total_size = head_word words 0;
    piece_size = head_word words 1;
    seeds = head_word words 2;
    cursor = head_word words 3;
    reverse_cursor = head_word words 4;
    pieces = (decode records words cells).pieces;
    partials =
        tabulate_ext (head_word words 7) (λ k. partial_held words cells (pieces_on words) (blocks_on words) (record_at records' k))
        (λ k. partial_held words cells (pieces_on words) (blocks_on words) (record_at records k))
        (λ k l. ap (partial_held words cells (pieces_on words) (blocks_on words)) (same k l)) i;
    recent_extents = (decode records words cells).recent_extents;
    listing = (decode records words cells).listing;
  }

  -- in bounds, where as many are lent
  pub bounds_live : head_word words 7 ≤ length records' → InBounds s records words cells → InBounds s records' words cells
  bounds_live long b =
      record {
        spans = b.spans;
        geometry = b.geometry;
        pieces = b.pieces;
        blocks = b.blocks;
        list = b.list;
        idle = b.idle;
        partials = b.partials;
        live = long;
        recent_extents = b.recent_extents;
        placed = λ k h. rw (same k h) (b.placed k h);
        apart = λ k l h m e. b.apart k l h m (ap (λ (r : Record). r.info_idx) (sym (same k h)) ∙ e
            ∙ ap (λ (r : Record). r.info_idx) (same l m));
      }

  -- plain
  pub plain_live : Plain s records words cells → Plain s records' words cells
  plain_live p =
      record {
        dirty = p.dirty;
        pieces = p.pieces;
        partials = λ k h. subst (PlainRecord s.pieces s.blocks words cells) (sym (same k h)) (p.partials k h);
      }

  -- the list has the ranks of the same picker
  pub ranks_live : RanksHeld s.pieces words (rank (decode records words cells))
      → RanksHeld s.pieces words (rank (decode records' words cells))
  ranks_live r = subst (λ (d : Picker). RanksHeld s.pieces words (rank d)) (sym decode_live) r

  -- a picker that stands
  pub stands_live : head_word words 7 ≤ length records' → Stands s records words cells → Stands s records' words cells
  stands_live long t =
      record {
        bounds = bounds_live long t.bounds;
        plain = plain_live t.plain;
        ranks = ranks_live t.ranks;
        sound = ap well_formed decode_live ∙ t.sound;
      }

  -- a picker that was changed
  pub changed_live : (after : Picker) (entry entry' : List ℕ) → head_word words 7 ≤ length records'
      → Changed s after entry entry' records words cells
      → Changed s after entry entry' records' words cells
  changed_live after entry entry' long c =
      record {
        is = decode_live ∙ c.is;
        bounds = bounds_live long c.bounds;
        plain = plain_live c.plain;
        ranks = ranks_live c.ranks;
        words_kept = c.words_kept;
        cells_kept = c.cells_kept;
      }

-- ---- the front of lent records
-- what is taken in front stands there
pub front_at : (m : ℕ) (ds live : List Record) → take m ds ≡ live → (k : ℕ) → k < length live → record_at ds k ≡ record_at live k
unfolding record_at
front_at zero ds live e k h = absurd (subst (λ (l : List Record). k < length l → ⊥) e (λ l. omega arith) h)
front_at (suc m) [] live e k h = absurd (subst (λ (l : List Record). k < length l → ⊥) e (λ l. omega arith) h)
front_at (suc m) (d ∷ ds) [] e k h = absurd (omega arith)
front_at (suc m) (d ∷ ds) (x ∷ xs) e zero h = ap (λ (l : List Record). get_or l 0 no_record) e
front_at (suc m) (d ∷ ds) (x ∷ xs) e (suc k) h =
    front_at m ds (take m ds) refl k (le_of_suc-le-suc (subst (λ (l : List Record). suc k < length l) (sym e) h))
    ∙ ap (λ (l : List Record). get_or l (suc k) no_record) e

-- and there are at least as many
pub front_long : (m : ℕ) (ds live : List Record) → take m ds ≡ live → length live ≤ length ds
front_long zero ds live e = subst (λ (l : List Record). length l ≤ length ds) e (omega arith)
front_long (suc m) [] live e = subst (λ (l : List Record). length l ≤ 0) e (omega arith)
front_long (suc m) (d ∷ ds) live e =
    subst (λ (l : List Record). length l ≤ suc (length ds)) e (omega (arith, front_long m ds (take m ds) refl))

-- ---- an edit
-- a piece that has no record
without_absent : (piece : ℕ) (ds : List Record) → has_record piece ds ≡ false → without_record piece ds ≡ ds
unfolding has_record without_record
without_absent piece [] e = refl
without_absent piece (d ∷ ds) e = go (eqb d.index piece) e (without_absent piece ds)
  where
    go : (t : Bool) → t || has_record piece ds ≡ false → (has_record piece ds ≡ false → without_record piece ds ≡ ds)
        → cond {A = List Record} (not t) (d ∷ without_record piece ds) (without_record piece ds) ≡ d ∷ ds
    go true m again = absurd (subst T m tt)
    go false m again = ap (λ (l : List Record). d ∷ l) (again m)

module _ (n : ℕ) (ds : List Record) (rises : rising_from 0 (take n ds) ≡ true) where
  -- a removal, whether the piece has a record or not
  removed_front : (piece : ℕ) → n ≤ length ds
      → (m : ℕ) × (take m (edited n (Remove piece) ds) ≡ edit_records (Remove piece) (take n ds))
  unfolding edit_records
  removed_front piece h = go (has_record piece (take n ds)) refl
    where
      go : (t : Bool) → has_record piece (take n ds) ≡ t → (m : ℕ) × (take m (edited n (Remove piece) ds) ≡ without_record piece (take n ds))
      go true e = (n - 1, removed_live n piece ds h rises e)
      go false e = (n, ap (take n) (removed_absent n piece ds h e) ∙ sym (without_absent piece (take n ds) e))

  -- the live records after an edit are the edited live records
  pub edited_front : (edit : Edit) → HasRoom n edit ds → (m : ℕ) × (take m (edited n edit ds) ≡ edit_records edit (take n ds))
  unfolding edit_records
  edited_front Keep h = (n, refl)
  edited_front (Replace d) h = (n, replaced_live n d ds h rises)
  edited_front (Insert d) h = (suc n, inserted_live n d ds h)
  edited_front (Remove piece) h = removed_front piece h

  -- how many are live after an insert
  pub insert_number : (d : Record) → n < length ds → length (edit_records (Insert d) (take n ds)) ≡ suc n
  unfolding edit_records
  insert_number d h =
      ap length (sym (inserted_live n d ds h)) ∙ length-take-le (suc n) (inserted n d ds) (omega (arith, length-inserted n d ds))

  -- after a replacement
  pub replace_number : (d : Record) → n ≤ length ds → length (edit_records (Replace d) (take n ds)) ≡ n
  unfolding edit_records
  replace_number d h =
      ap length (sym (replaced_live n d ds h rises)) ∙ length-take-le n (replaced n d ds) (omega (arith, length-replaced n d ds))

  -- after a removal
  pub remove_number : (piece : ℕ) → n ≤ length ds → has_record piece (take n ds) ≡ true
      → length (edit_records (Remove piece) (take n ds)) ≡ n - 1
  unfolding edit_records
  remove_number piece h e =
      ap length (sym (removed_live n piece ds h rises e))
      ∙ length-take-le (n - 1) (removed n piece ds) (omega (arith, length-removed n piece ds))

  module _ (s : Shape) (edit : Edit) (fits : HasRoom n edit ds) (words cells : List ℕ)
      (few : head_word words 7 ≤ length (edit_records edit (take n ds))) where
    -- record by record, as far as they are live
    pub edited_at : (k : ℕ) → k < head_word words 7 → record_at (edited n edit ds) k ≡ record_at (edit_records edit (take n ds)) k
    edited_at k h =
        let f = edited_front edit fits in
        front_at f.0 (edited n edit ds) (edit_records edit (take n ds)) f.1 k (omega arith)

    -- as many are lent
    pub edited_long : head_word words 7 ≤ length (edited n edit ds)
    edited_long =
        let f = edited_front edit fits in
        omega (arith, few, front_long f.0 (edited n edit ds) (edit_records edit (take n ds)) f.1)

    -- the same picker
    pub decode-edited : decode (edited n edit ds) words cells ≡ decode (edit_records edit (take n ds)) words cells
    decode-edited = decode_live s (edit_records edit (take n ds)) (edited n edit ds) words cells edited_at

  -- a change with an edit of the live records is one with that edit of all lent ones
  pub changed_edited : (s : Shape) (edit : Edit) → HasRoom n edit ds → (after : Picker) (words cells words' cells' : List ℕ)
      → Changed s after words cells (edit_records edit (take n ds)) words' cells'
      → Changed s after words cells (edited n edit ds) words' cells'
  changed_edited s edit h after words cells words' cells' c =
      changed_live s (edit_records edit (take n ds)) (edited n edit ds) words' cells'
      (edited_at s edit h words' cells' c.bounds.live) after words cells (edited_long s edit h words' cells' c.bounds.live) c

-- ---- the live ones alone
-- the partials rise as the records do
rising_records : (words cells : List ℕ) (n b low : ℕ) (ds : List Record) (m : ℕ) → m ≤ length ds
    → partials_from low (tabulate m (λ k. partial_held words cells n b (record_at ds k))) ≡ rising_from low (take m ds)
unfolding partials_from rising_from tabulate record_at partial_held partial_from
rising_records words cells n b low ds zero h = refl
rising_records words cells n b low [] (suc m) h = absurd (omega arith)
rising_records words cells n b low (d ∷ ds) (suc m) h =
    ap (λ (t : Bool). ltb low (suc d.index) && t) (rising_records words cells n b (suc d.index) ds m (omega arith))

-- the live records of a picker that stands rise
pub live_rise : (s : Shape) (records : List Record) (words cells : List ℕ) → Stands s records words cells
    → rising_from 0 (take (head_word words 7) records) ≡ true
unfolding partials_held
live_rise s records words cells t =
    sym (rising_records words cells (pieces_on words) (blocks_on words) 0 records (head_word words 7) t.bounds.live)
    ∙ (well_formed_sound (decode records words cells) t.sound).rising

-- the live ones of lent records
pub live_at : (n : ℕ) (ds : List Record) → n ≤ length ds → (k : ℕ) → k < n → record_at (take n ds) k ≡ record_at ds k
live_at n ds h k l = sym (front_at n ds (take n ds) refl k (omega (arith, length-take-le n ds h)))

-- a picker stands beside the live records as beside all lent ones
pub stands_taken : (s : Shape) (ds : List Record) (words cells : List ℕ) → Stands s ds words cells
    → Stands s (take (head_word words 7) ds) words cells
stands_taken s ds words cells t =
    stands_live s ds (take (head_word words 7) ds) words cells (live_at (head_word words 7) ds t.bounds.live)
    (omega (arith, length-take-le (head_word words 7) ds t.bounds.live)) t
