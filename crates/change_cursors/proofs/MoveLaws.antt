-- The cursors' changes in the words, by how the numbers that were read compare. Assumes nothing.
use mathlib.Core.Path.{◌≡◌, sym, ap, ap₂, ◌∙◌}
use mathlib.Core.Logic.{◌≢◌}
use mathlib.Core.Bool.{true, false, ◌&&◌}
use mathlib.Core.List.{List}
use Prim.Native.Nat.{ℕ, suc, ◌+◌}
use native.Mathlib.Omega.{arith}
use lib.Dec.{eqb}
use Rattle.model.specs.State.{Picker, with_cursors}
use Rattle.model.specs.change.Changes.{cursor_from, reverse_from, empty_range, advance_cursors, cursors_on_filter}
use Rattle.memory_records.specs.declared.record.DownloadingPiece.{DownloadingPiece as Record}
use Rattle.memory_layout.specs.declared.shape.Shape.{Shape}
use Rattle.memory_layout.specs.Decode.{decode}
use Rattle.memory_layout.proofs.Meanings.{pieces_number}
use Rattle.memory_layout.proofs.BoundsLaws.{words_again, became_named}
use Rattle.memory_layout.proofs.stores.ListFrames.{list_kept_again}
use Rattle.memory_fields.specs.Reading.{CellsSay, HeadSays}
use Rattle.memory_fields.specs.Storing.{WordsStored, StoredBeside}
use Rattle.memory_fields.proofs.Beside.{beside_named, stored_beside, none_beside}
use Rattle.change_cursors.proofs.CursorLaws.{empty_range_is, advance_both, advance_front, advance_back, advance_neither}
use Rattle.change_cursors.proofs.CursorLaws.{filter_on, filter_off_met, filter_off}

-- both cursors set
pub range_emptied : (s : Shape) (words words₁ words' : List ℕ) (n : ℕ) → n ≡ s.pieces
    → WordsStored s (λ d. with_cursors n d.reverse_cursor d) words words₁ → WordsStored s (λ d. with_cursors d.cursor 0 d) words₁ words'
    → WordsStored s empty_range words words'
unfolding with_cursors
range_emptied s words words₁ words' n e x y =
    let f : Picker → Picker = λ d. with_cursors n d.reverse_cursor d in
    let g : Picker → Picker = λ d. with_cursors d.cursor 0 d in
    let b = words_again s f g words words₁ words' x.became y.became in
    record {
      became = record {
        kept = b.kept;
        became = λ records cells q.
            let d = decode records words cells in
            became_named s (λ a. g (f a)) empty_range records words cells words' cells
            (empty_range_is d n (e ∙ sym (pieces_number s records words cells q))) (b.became records cells q);
      };
      list = list_kept_again s words words₁ words' x.list y.list;
    }

-- ---- a cursor that stands at piece i moves on
module _ (s : Shape) (words cells : List ℕ) (i at cursor next reverse : ℕ) (here : at ≡ i) (there : next ≡ i + 1)
    (front : HeadSays words (λ d. d.cursor) cursor) (back : HeadSays words (λ d. d.reverse_cursor) reverse) where
  front_is : (records : List Record) → eqb cursor at ≡ eqb (decode records words cells).cursor i
  front_is records = ap₂ eqb (front.is records cells) here

  back_is : (records : List Record) → eqb reverse next ≡ eqb (decode records words cells).reverse_cursor (suc i)
  back_is records =
      let e : next ≡ suc i = omega arith in
      ap₂ eqb (back.is records cells) e

  -- both
  pub moved_both : (words' : List ℕ) → (eqb cursor at && eqb reverse next) ≡ true → WordsStored s empty_range words words'
      → StoredBeside s (advance_cursors i) cells words words'
  moved_both words' e x =
      stored_beside s cells empty_range (advance_cursors i) words words'
      (λ records q. advance_both (decode records words cells) i _ _ (front_is records) (back_is records) e) x

  module _ (not_both : (eqb cursor at && eqb reverse next) ≡ false) (words' : List ℕ) (v w : ℕ) (same : w ≡ v) where
    -- the first
    pub moved_front : eqb cursor at ≡ true → CellsSay s cells (λ d. cursor_from d (i + 1)) v
        → WordsStored s (λ d. with_cursors w d.reverse_cursor d) words words'
        → StoredBeside s (advance_cursors i) cells words words'
    moved_front e r x =
        stored_beside s cells (λ d. with_cursors w d.reverse_cursor d) (advance_cursors i) words words'
        (λ records q.
        let d = decode records words cells in
        let o : i + 1 ≡ suc i = omega arith in
        ap (λ (n : ℕ). with_cursors n d.reverse_cursor d) (same ∙ r.is records words q ∙ ap (cursor_from d) o)
        ∙ advance_front d i _ _ (front_is records) (back_is records) not_both e) x

    -- the other
    pub moved_back : eqb cursor at ≡ false → eqb reverse next ≡ true → CellsSay s cells (λ d. reverse_from d i) v
        → WordsStored s (λ d. with_cursors d.cursor w d) words words'
        → StoredBeside s (advance_cursors i) cells words words'
    moved_back e o r x =
        stored_beside s cells (λ d. with_cursors d.cursor w d) (advance_cursors i) words words'
        (λ records q.
        let d = decode records words cells in
        ap (λ (n : ℕ). with_cursors d.cursor n d) (same ∙ r.is records words q)
        ∙ advance_back d i _ _ (front_is records) (back_is records) not_both e o) x

  -- neither
  pub moved_neither : (eqb cursor at && eqb reverse next) ≡ false → eqb cursor at ≡ false → eqb reverse next ≡ false
      → StoredBeside s (advance_cursors i) cells words words
  moved_neither e o t =
      none_beside s cells (advance_cursors i) words
      (λ records q. advance_neither (decode records words cells) i _ _ (front_is records) (back_is records) e o t)

-- ---- the priority turns from or to 0
module _ (s : Shape) (words cells : List ℕ) (i priority : ℕ) where
  -- to 0
  pub filtered : (words' : List ℕ) → priority ≡ 0 → StoredBeside s (advance_cursors i) cells words words'
      → StoredBeside s (cursors_on_filter i priority) cells words words'
  filtered words' e x =
      beside_named s cells (advance_cursors i) (cursors_on_filter i priority) words words'
      (λ records q. filter_on (decode records words cells) i priority e) x

  module _ (some : priority ≢ 0) (cursor reverse : ℕ) (front : HeadSays words (λ d. d.cursor) cursor)
      (back : HeadSays words (λ d. d.reverse_cursor) reverse) where
    -- from 0, with no piece between the cursors
    pub unfiltered_met : (words' : List ℕ) → cursor ≡ reverse → WordsStored s empty_range words words'
        → StoredBeside s (cursors_on_filter i priority) cells words words'
    unfiltered_met words' e x =
        stored_beside s cells empty_range (cursors_on_filter i priority) words words'
        (λ records q.
        filter_off_met (decode records words cells) i priority some (sym (front.is records cells) ∙ e ∙ back.is records cells)) x

    -- with some
    pub unfiltered : cursor ≢ reverse → StoredBeside s (cursors_on_filter i priority) cells words words
    unfiltered e =
        none_beside s cells (cursors_on_filter i priority) words
        (λ records q.
        filter_off (decode records words cells) i priority some (λ o. e (front.is records cells ∙ o ∙ sym (back.is records cells))))
