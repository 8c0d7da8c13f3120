-- A partial added, then the piece's state made that of its blocks. Assumes nothing.
use mathlib.Core.Path.{◌≡◌, refl, sym, ap, subst, ◌∙◌}
use mathlib.Core.Option.{some, some-injective}
use mathlib.Core.List.{List}
use Prim.Native.Nat.{ℕ, ◌+◌, ◌≤◌}
use native.Mathlib.Omega.{arith}
use Rattle.model.specs.Lists.{len, nth}
use Rattle.model.specs.pick.Pick.{no_partial}
use Rattle.model.specs.State.{DownloadingPiece, Picker, payload_blocks_in_piece, with_partials}
use Rattle.model.specs.list.Order.{Draws, Drawing, drawing, no_draw}
use Rattle.model.specs.change.Partials.{find_dl_piece, partial_of, fresh_partial, add_partial, update_piece_state, add_download_piece}
use Rattle.model.specs.image.Sound.{partials_from}
use Rattle.model.proofs.sound.PartialLaws.{partial_of_add_same}
use Rattle.memory_records.specs.declared.record.DownloadingPiece.{DownloadingPiece as Record}
use Rattle.memory_records.specs.declared.edits.Edit.TheVariants.{Insert}
use Rattle.memory_records.specs.Records.{edited}
use Rattle.memory_records.specs.Rows.{records_in}
use Rattle.memory_layout.specs.declared.shape.Shape.{Shape}
use Rattle.memory_layout.specs.Decode.{head_word, blocks_of, decode}
use Rattle.memory_layout.specs.Changes.{partial_in}
use Rattle.memory_layout.specs.Bounds.{InBounds}
use Rattle.memory_layout.proofs.Meanings.{blocks_of_is, partials_number}
use Rattle.memory_layout.proofs.BoundsLaws.{blocks_within}
use Rattle.memory_layout.proofs.ReadLaws.{read_bounds}
use Rattle.memory_fields.specs.Reading.{WordsSay}
use Rattle.memory_partials.specs.Partials.{Edited}
use Rattle.memory_partials.proofs.CountLaws.{opened_rising}
use Rattle.memory_partials.proofs.MarkLaws.{standing_found}
use Rattle.memory_opening.specs.Opening.{Opened}
use Rattle.memory_opening.proofs.AddLaws.{rows_read, opened_standing}
use Rattle.change_steps.specs.Working.{Works, WorksBeside, Went}
use Rattle.change_steps.proofs.WorkLaws.{went_then, went_named}
use Rattle.change_steps.proofs.BesideLaws.{SameList, beside_went}
use Rattle.change_state.specs.declared.states.Tally.{Tally}
use Rattle.change_state.specs.Numbers.{IsTally, StateUpdated}
use Rattle.change_adding.specs.declared.adding.Opening.{Opening}
use Rattle.change_adding.specs.Adding.{FreshTallied, Vacant, VacantBeside, Held, Added}
use Rattle.change_state.proofs.KeptLaws.{SamePartials, update_same}

-- ---- what is asked
-- the rows are in bounds
pub rows_bounds : (s : Shape) (i live : ℕ) (rows words cells : List ℕ) → VacantBeside s i live rows words cells
    → InBounds s (records_in live rows) words cells
rows_bounds s i live rows words cells v =
    let b = v.stands.works.bounds in
    read_bounds s v.records (records_in live rows) words words cells cells b
    (rows_read s v.records live rows words cells b v.stands.count v.stands.rows_are)

-- the numbers of a fresh partial fit
pub fresh_fits : (s : Shape) (i live : ℕ) (rows words cells : List ℕ) → VacantBeside s i live rows words cells → (many payload : ℕ)
    → many ≡ blocks_of words i → WordsSay s words (λ d. payload_blocks_in_piece d i) payload → (payload ≤ many) × (many ≤ 256)
unfolding payload_blocks_in_piece
fresh_fits s i live rows words cells v many payload em says =
    let b = v.stands.works.bounds in (
      omega (arith, em, says.is v.records cells b, blocks_of_is v.records words cells i),
      omega (arith, em, blocks_within s v.records words cells b i, b.spans.in_words.sizes.wide),
    )

-- ---- steps that leave the partials
module _ (s : Shape) (step : Drawing → Drawing) (records : List Record) (words cells : List ℕ) (used : ℕ) (words' cells' : List ℕ)
    (next n : ℕ) (w : Went s step records words cells used records words' cells' next)
    (same : SamePartials n (drawing used (decode records words cells)) (step (drawing used (decode records words cells)))) where
  partials_are : (decode records words' cells').partials ≡ (decode records words cells).partials
  unfolding drawing
  partials_are = ap (λ (v : Drawing). v.picker.partials) w.is ∙ same.partials

  pub step_draws : next ≤ used + n
  unfolding drawing
  step_draws = omega (arith, ap (λ (v : Drawing). v.used) w.is, same.draws)

  number_is : Works s records words cells → head_word words 7 ≡ head_word words' 7
  number_is k =
      sym (partials_number s records words cells k.bounds) ∙ sym (ap len partials_are)
      ∙ partials_number s records words' cells' w.works.bounds

  -- the piece has still no partial
  pub vacant_still : (i live : ℕ) (rows : List ℕ) → Vacant s i live rows records words cells → Vacant s i live rows records words' cells'
  unfolding partial_of
  vacant_still i live rows v = record {
    works = w.works;
    rising = ap (partials_from 0) partials_are ∙ v.rising;
    vacant = ap (find_dl_piece i) partials_are ∙ v.vacant;
    count = v.count ∙ number_is v.works;
    rows_are = v.rows_are;
    fits = v.fits;
  }

  -- the piece has still its partial
  pub held_still : (i p : ℕ) (t : Tally) → Works s records words cells → Held i p t records words cells
      → Held i p t records words' cells'
  unfolding partial_in
  held_still i p t k h = record {
    k = h.k;
    rising = ap (partials_from 0) partials_are ∙ h.rising;
    low = omega (arith, h.low, number_is k);
    index = h.index;
    place = h.place;
    tally = subst (λ (ds : List DownloadingPiece). IsTally t (nth no_partial ds h.k)) (sym partials_are) h.tally;
  }

-- ---- the partial added
same_list : (i : ℕ) (d : Picker) → SameList d (add_partial i d)
unfolding add_partial with_partials
same_list i d = record { pieces = refl; seeds = refl; listing = refl }

module _ (s : Shape) (i live : ℕ) (rows words cells words' cells' : List ℕ) (x : Record)
    (o : Opened s i live rows words cells words' cells' x) (many payload : ℕ) (em : many ≡ blocks_of words i)
    (says : WordsSay s words (λ d. payload_blocks_in_piece d i) payload) (t : Tally) (f : FreshTallied many payload t) where
  module _ (records : List Record) (v : Vacant s i live rows records words cells) where
    became : Edited s (add_partial i) (Insert x) records words cells words' cells'
    became = o.became records v.works.bounds v.rows_are v.fits

    put_went : (used : ℕ)
        → Went s (no_draw (add_partial i)) records words cells used (edited (head_word words 7) (Insert x) records) words' cells' used
    put_went used =
        beside_went s (add_partial i) records words cells (edited (head_word words 7) (Insert x) records) words' cells' used v.works
        became.is (same_list i (decode records words cells)) became.bounds (became.plain v.works.plain) o.list o.words_kept
        o.cells_kept

    found : partial_of (decode (edited (head_word words 7) (Insert x) records) words' cells') i
        ≡ some (fresh_partial (decode records words cells) i)
    found = ap (λ (z : Picker). partial_of z i) became.is ∙ partial_of_add_same (decode records words cells) i v.vacant

    fresh : IsTally t (fresh_partial (decode records words cells) i)
    fresh = f.is (decode records words cells) i (em ∙ blocks_of_is records words cells i) (says.is records cells v.works.bounds)

    put_held : Held i x.info_idx t (edited (head_word words 7) (Insert x) records) words' cells'
    put_held =
        let d' : Picker = decode (edited (head_word words 7) (Insert x) records) words' cells' in
        let up = opened_rising s i records words cells words' cells' v.rising x became v.vacant in
        let st = opened_standing s i live rows words cells words' cells' x o records v.works.bounds v.count v.fits in
        let here = standing_found s (edited (head_word words 7) (Insert x) records) words' cells' i _ st.0 st.1 became.bounds up in
        record {
          k = st.0;
          rising = up;
          low = st.1.low;
          index = st.1.index;
          place = st.1.place ∙ sym o.place;
          tally = subst (IsTally t)
              (some-injective (fresh_partial (decode records words cells) i) (partial_in d' st.0) (sym found ∙ here)) fresh;
        }

  pub add_beside : VacantBeside s i live rows words cells → WorksBeside s words' cells'
  add_beside v = record {
    records = edited (head_word words 7) (Insert x) v.records;
    works = (put_went v.records v.stands 0).works;
  }

  module _ (draws : Draws) (used : ℕ) (words'' cells'' : List ℕ) (next : ℕ)
      (u : StateUpdated s draws i t words' cells' used words'' cells'' next) (r : Opening) (er : r.partial ≡ x) (et : r.tally ≡ t)
      (en : r.used ≡ next) where
    module _ (records : List Record) (v : Vacant s i live rows records words cells) where
      updated : Went s (update_piece_state draws i) (edited (head_word words 7) (Insert x) records) words' cells' used
          (edited (head_word words 7) (Insert x) records) words'' cells'' next
      updated =
          u.went (edited (head_word words 7) (Insert x) records) (put_went records v used).works
          (fresh_partial (decode records words cells) i) (found records v) (fresh records v)

      all_went : Went s (add_download_piece draws i) records words cells used (edited (head_word words 7) (Insert x) records) words''
          cells'' next
      unfolding add_download_piece
      all_went =
          went_named s records words cells used (edited (head_word words 7) (Insert x) records) words'' cells'' next
          (λ w. update_piece_state draws i (no_draw (add_partial i) w)) (add_download_piece draws i) refl
          (went_then s records words cells used (edited (head_word words 7) (Insert x) records) words' cells' used (no_draw (add_partial i))
          (update_piece_state draws i) (put_went records v used) (edited (head_word words 7) (Insert x) records) words'' cells'' next updated)

      all_held : Held i x.info_idx t (edited (head_word words 7) (Insert x) records) words'' cells''
      all_held =
          held_still s (update_piece_state draws i) (edited (head_word words 7) (Insert x) records) words' cells' used words'' cells'' next 1
          updated (update_same draws i (drawing used (decode (edited (head_word words 7) (Insert x) records) words' cells'))) i
          x.info_idx t (put_went records v used).works (put_held records v)

    pub add_done : Added s (add_download_piece draws i) i live rows words cells used words'' cells'' r
    add_done = record {
      went = λ records v. rw (er, en, v.count) (all_went records v);
      held = λ records v. rw (er, et, v.count) (all_held records v);
    }
