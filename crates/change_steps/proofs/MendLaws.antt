-- A piece changed in the buffers, then the list mended after it: what the mending asks, and that both together are the model's change and
-- update. Before all steps a well-formed picker, behind all of them what a call has to leave. Assumes nothing.
use mathlib.Core.Path.{◌≡◌, refl, sym, ap, ap₂, ◌∙◌, subst}
use mathlib.Core.List.{List}
use Prim.Native.Nat.{ℕ}
use Rattle.model.specs.State.{Picker, with_listing, mark_dirty}
use Rattle.model.specs.list.Listed.{ListingOk}
use Rattle.model.specs.list.Order.{Drawing, drawing, no_draw, rank, update, change_and_update}
use Rattle.model.proofs.list.ListingLaws.{ok_dirty}
use Rattle.model.proofs.sound.SoundFields.{Alone, moved_listed}
use Rattle.model.proofs.sound.SoundLaws.{well_formed_sound}
use Rattle.memory_records.specs.declared.record.DownloadingPiece.{DownloadingPiece as Record}
use Rattle.memory_layout.specs.declared.shape.Shape.{Shape}
use Rattle.memory_layout.specs.Decode.{decode}
use Rattle.memory_layout.specs.Standing.{Stands, StandsBeside, Changed}
use Rattle.memory_layout.proofs.BoundsLaws.{words_kept_again}
use Rattle.memory_fields.specs.Storing.{DirtyMarked}
use Rattle.memory_list.specs.Listings.{ListBounds, ListBefore, ListBecame}
use Rattle.memory_list.proofs.Moving.{well_formed_range, ranges_held, ranks_right, list_before}
use Rattle.change_steps.specs.Working.{Works, WorksBeside, Went, Goes, Stored}
use Rattle.change_steps.specs.Whole.{Done, ChangedBy, Begins}
use Rattle.change_steps.proofs.WorkLaws.{went_then}

-- ---- a picker before all steps, and behind them
module _ (s : Shape) (records : List Record) (words cells : List ℕ) where
  pub stands_works : Stands s records words cells → Works s records words cells
  stands_works t = record {
    bounds = t.bounds;
    plain = t.plain;
    ranges = ranges_held s records words cells t.bounds (well_formed_range (decode records words cells) t.sound);
    ranks = ranks_right s records words cells t.ranks;
    listed = (well_formed_sound (decode records words cells) t.sound).list;
  }

  pub went_changed : (step : Drawing → Drawing) (used : ℕ) (records' : List Record) (words' cells' : List ℕ) (next : ℕ)
      → Went s step records words cells used records' words' cells' next
      → Changed s (step (drawing used (decode records words cells))).picker words cells records' words' cells'
      × (next ≡ (step (drawing used (decode records words cells))).used)
  unfolding drawing
  went_changed step used records' words' cells' next w = (
    record {
      is = ap (λ (v : Drawing). v.picker) w.is;
      bounds = w.works.bounds;
      plain = w.works.plain;
      ranks = w.works.ranks records';
      words_kept = w.words_kept;
      cells_kept = w.cells_kept;
    },
    ap (λ (v : Drawing). v.used) w.is,
  )

  pub went_done : (step : Drawing → Drawing) (records' : List Record) (words' cells' : List ℕ) (next : ℕ)
      → Went s step records words cells 0 records' words' cells' next
      → Done s step records words cells records' words' cells' next
  went_done step records' words' cells' next w =
      let c = went_changed step 0 records' words' cells' next w in
      record { changed = c.0; draws = c.1 }

pub beside_works : (s : Shape) (words cells : List ℕ) → StandsBeside s words cells → WorksBeside s words cells
beside_works s words cells b = record { records = b.records; works = stands_works s b.records words cells b.stands }

-- a step from the first draw on, as a whole change
pub goes_done : (s : Shape) (step : Drawing → Drawing) (words cells words' cells' : List ℕ) (next : ℕ)
    → Goes s step words cells 0 words' cells' next → ChangedBy s step words cells words' cells' next
goes_done s step words cells words' cells' next g = record {
  done = λ records t.
      went_done s records words cells step records words' cells' next (g.went records (stands_works s records words cells t));
}

-- the first steps of one: what stands behind them, and one step more
module _ (s : Shape) (step : Drawing → Drawing) (words cells words' cells' : List ℕ) (next : ℕ)
    (b : Begins s step words cells words' cells' next) where
  pub begun_works : StandsBeside s words cells → WorksBeside s words' cells'
  begun_works t = record { records = t.records; works = (b.went t.records t.stands).works }

  pub begun_then : (other : Drawing → Drawing) (words'' cells'' : List ℕ) (last : ℕ) → Goes s other words' cells' next words'' cells'' last
      → Begins s (λ w. other (step w)) words cells words'' cells'' last
  begun_then other words'' cells'' last g = record {
    went = λ records t.
        let a = b.went records t in
        went_then s records words cells 0 records words' cells' next step other a records words'' cells'' last (g.went records a.works);
  }

-- ---- a change stored, and the list mended after it
module _ (s : Shape) (f : Picker → Picker) (i : ℕ) (records : List Record) (words cells : List ℕ) (records' : List Record)
    (words' cells' : List ℕ) (w : Works s records words cells) (t : Stored s f records words cells records' words' cells')
    (a : Alone i (decode records words cells) (f (decode records words cells))) where
  -- what mending asks
  pub mend_bounds : ListBounds s words' cells'
  mend_bounds =
      record {
        spans = t.bounds.spans;
        pieces = t.bounds.pieces;
        list = t.bounds.list;
        idle = t.bounds.idle;
        ranges = t.ranges;
      }

  pub mend_before : ListBefore s words' cells' (rank (decode records words cells) i) i
  mend_before =
      list_before s records records' words words' cells cells' i (subst (Alone i (decode records words cells)) (sym t.is) a) t.list
      w.bounds.list w.listed (w.ranks records)

  -- what it leaves
  module _ (draws : List ℕ) (old used : ℕ) (e : old ≡ rank (decode records words cells) i) (words'' : List ℕ) (next : ℕ)
      (l : ListBecame s (update draws old i) words' words'' cells' used next) where
    whole : drawing next (decode records' words'' cells') ≡ change_and_update draws i f (drawing used (decode records words cells))
    unfolding change_and_update no_draw drawing
    whole =
        let d = decode records words cells in
        let d' = decode records' words' cells' in
        let b = l.became.became records' t.bounds in
        ap₂ (λ (p : Picker) (n : ℕ). drawing n p) b.is (l.next_is records')
        ∙ ap₂ (λ (p : Picker) (v : ℕ). update draws v i (drawing used p)) t.is e

    pub mended : Went s (change_and_update draws i f) records words cells used records' words'' cells' next
    unfolding drawing
    mended =
        let b = l.became.became records' t.bounds in
        record {
          is = whole;
          works = record {
            bounds = b.bounds;
            plain = b.plain t.plain;
            ranges = t.ranges;
            ranks = l.ranks;
            listed = subst ListingOk (sym (ap (λ (v : Drawing). v.picker) whole))
                (moved_listed draws i f (drawing used (decode records words cells)) a w.listed);
          };
          words_kept = words_kept_again s words words' words'' t.words_kept l.became.words_kept;
          cells_kept = t.cells_kept;
        }

-- ---- a change stored, and the list given up
module _ (s : Shape) (f : Picker → Picker) (records : List Record) (words cells : List ℕ) (records' : List Record)
    (words' cells' : List ℕ) (t : Stored s f records words cells records' words' cells') where
  pub given_up : (used : ℕ) (words'' : List ℕ) → DirtyMarked s words' words''
      → Went s (no_draw (λ d. mark_dirty (f d))) records words cells used records' words'' cells' used
  unfolding no_draw drawing
  given_up used words'' m =
      let b = m.became.became records' cells' t.bounds in
      let e : decode records' words'' cells' ≡ mark_dirty (f (decode records words cells)) = b.is ∙ ap mark_dirty t.is in
      record {
        is = ap (drawing used) e;
        works = record {
          bounds = b.bounds;
          plain = b.plain t.plain;
          ranges = t.ranges;
          ranks = λ rs. m.ranks (rank (decode rs words'' cells'));
          listed = subst ListingOk (sym e) (unfold mark_dirty with_listing in ok_dirty (mark_dirty (f (decode records words cells))) refl);
        };
        words_kept = words_kept_again s words words' words'' t.words_kept m.became.kept;
        cells_kept = t.cells_kept;
      }
