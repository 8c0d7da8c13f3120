-- A list made anew in the words: a well-formed picker still stands, and the pick is under way beside it; then the walks over the list.
-- Assumes nothing.
use mathlib.Core.Path.{◌≡◌, refl, sym, ap, ap₂, ◌∙◌}
use mathlib.Core.Bool.{Bool, true, false}
use mathlib.Core.List.{List}
use Prim.Native.Nat.{ℕ, ◌≤◌}
use native.Mathlib.Omega.{arith}
use borrow.Author.Tests.{ne_eqb, eq-eqb}
use Rattle.model.specs.Lists.{len, unless, when}
use Rattle.model.specs.State.{DownloadingPiece, Picker}
use Rattle.model.specs.Options.{sequential}
use Rattle.model.specs.list.Order.{Draws, drawing, update_pieces}
use Rattle.model.specs.pick.Blocks.{PickRequest, PickState, with_picker, option, spent}
use Rattle.model.specs.pick.Pick.{pick_sequential, pick_rarest, with_list_updated, pick_listed}
use Rattle.model.specs.image.WellFormed.{well_formed}
use Rattle.model.proofs.list.ListingLaws.{OnlyListing, update_pieces_only}
use Rattle.model.proofs.pick.SoundPick.{sound_update_pieces}
use Rattle.model.proofs.sound.SoundLaws.{well_formed_sound, sound_well_formed}
use Rattle.memory_records.specs.Rows.{records_in}
use Rattle.memory_layout.specs.declared.shape.Shape.{Shape}
use Rattle.memory_layout.specs.Decode.{head_word}
use Rattle.memory_layout.proofs.Meanings.{partials_number}
use Rattle.memory_layout.proofs.BoundsLaws.{words_kept_again}
use Rattle.memory_rows.specs.Lookup.{picker_in}
use Rattle.memory_list.specs.Listings.{ListBounds, RanksRight, ListBecame}
use Rattle.memory_list.proofs.Moving.{well_formed_range, list_bounds, ranks_right}
use Rattle.pick_state.specs.declared.numbers.PickNumbers.{PickNumbers}
use Rattle.pick_state.specs.declared.request.PickRequest.{PickRequest as Request}
use Rattle.pick_state.specs.PickStates.{contiguous_of, state_of}
use Rattle.pick_state.specs.Room.{Underway}
use Rattle.pick_state.proofs.DidLaws.{kept_same, kept_then}
use Rattle.pick_state.proofs.RoomLaws.{underway_same}
use Rattle.pick_free.specs.Picking.{Picks}
use Rattle.pick_visits.specs.Steps.{Stepped}
use Rattle.pick_extents.specs.Extents.{Moved}
use Rattle.pick_extents.proofs.MoveLaws.{underway_beside, stepped_moved, moved_as}
use Rattle.pick_listed.specs.Listed.{with_used, walk_listed}

-- ---- the list
-- as many blocks are wanted
pub updated_left : (t : PickNumbers) (u : ℕ) (r : PickNumbers) → r ≡ with_used u t → 1 ≤ t.left → 1 ≤ r.left
unfolding with_used
updated_left t u r e h = omega (arith, ap (λ (y : PickNumbers). y.left) e)

module _ {s : Shape} {live : ℕ} {rows words cells : List ℕ} {q : Request} (p : Picks s live rows words cells q) where
  -- what making it anew asks
  pub listed_asks : ListBounds s words cells × RanksRight s words cells
  listed_asks =
      let g = p.asked.stands in
      let records = records_in live rows in (
        list_bounds s records words cells g.bounds (well_formed_range (picker_in live rows words cells) g.sound),
        ranks_right s records words cells g.ranks,
      )

  module _ (draws : Draws) {words' : List ℕ} (t : PickNumbers) (u : ℕ)
      (x : ListBecame s (update_pieces draws) words words' cells t.used u) where
    updated_is : picker_in live rows words' cells ≡ (update_pieces draws (drawing t.used (picker_in live rows words cells))).picker
    updated_is = (x.became.became (records_in live rows) p.asked.stands.bounds).is

    only : OnlyListing (picker_in live rows words cells) (update_pieces draws (drawing t.used (picker_in live rows words cells))).picker
    unfolding drawing
    only = update_pieces_only draws (drawing t.used (picker_in live rows words cells))

    -- the picker with the new list stands there
    pub updated_picks : Picks s live rows words' cells q
    unfolding len
    updated_picks =
        let records = records_in live rows in
        let d = picker_in live rows words cells in
        let g = p.asked.stands in
        let b = x.became.became records g.bounds in
        let many : head_word words 7 ≡ head_word words' 7 =
        sym (partials_number s records words cells g.bounds)
        ∙ (ap (λ (ds : List DownloadingPiece). len ds) (sym only.partials)
        ∙ (ap (λ (y : Picker). len y.partials) (sym updated_is) ∙ partials_number s records words' cells b.bounds)) in
        record {
          asked = record {
            stands = record {
              bounds = b.bounds;
              plain = b.plain g.plain;
              ranks = x.ranks records;
              sound = ap well_formed updated_is
                  ∙ sound_well_formed (update_pieces draws (drawing t.used d)).picker
                  (sound_update_pieces draws t.used d (well_formed_sound d g.sound));
            };
            many = p.asked.many ∙ many;
            wide = p.asked.wide;
          };
          bits = p.bits;
        }

    pub updated_underway : (r : PickNumbers) → r ≡ with_used u t → {out aside : List ℕ} {ignored : List Bool} {loops : List ℕ}
        → Underway (picker_in live rows words cells) t out aside ignored loops → Underway (picker_in live rows words' cells) r out aside
        ignored loops
    unfolding with_used
    updated_underway r e {loops = loops} w =
        underway_beside (picker_in live rows words' cells)
        (underway_same w r loops (ap (λ (y : PickNumbers). y.left) e) (ap (λ (y : PickNumbers). y.asked) e)
        (ap (λ (y : PickNumbers). y.given) e) (ap (λ (y : PickNumbers). y.end) e) (ap (λ (y : PickNumbers). y.aside) e) refl)

    pub updated_moved : (r : PickNumbers) → r ≡ with_used u t → {out aside : List ℕ} {ignored : List Bool} {loops : List ℕ}
        → Underway (picker_in live rows words cells) t out aside ignored loops
        → Moved (with_list_updated draws) s live rows words words' cells q t r out aside ignored loops out aside ignored loops
    unfolding with_list_updated with_picker with_used state_of contiguous_of
    updated_moved r e {out = out} {aside = aside} {ignored = ignored} {loops = loops} w = record {
      is = λ start h.
          ap (λ (y : PickNumbers). state_of start (picker_in live rows words' cells) y out aside ignored loops) e
          ∙ ap₂ (λ (d : Picker) (n : ℕ). state_of start d (with_used n t) out aside ignored loops) updated_is
          (x.next_is (records_in live rows));
      kept = kept_same t r out (ap (λ (y : PickNumbers). y.end) e);
      long_aside = refl;
      long_ignored = refl;
      long_loops = refl;
      picks = updated_picks;
      words_kept = x.became.words_kept;
      underway = updated_underway r e w;
    }

-- ---- one move after another
module _ {f : PickState → PickState} {s : Shape} {live : ℕ} {rows words words₁ cells : List ℕ} {q : Request} {t u : PickNumbers}
    {out aside : List ℕ} {ignored : List Bool} {loops : List ℕ} {out₁ aside₁ : List ℕ} {ignored₁ : List Bool} {loops₁ : List ℕ}
    (x : Moved f s live rows words words₁ cells q t u out aside ignored loops out₁ aside₁ ignored₁ loops₁) where
  pub moved_again : {g : PickState → PickState} {words₂ : List ℕ} {r : PickNumbers} {out₂ aside₂ : List ℕ} {ignored₂ : List Bool}
      {loops₂ : List ℕ}
      → Moved g s live rows words₁ words₂ cells q u r out₁ aside₁ ignored₁ loops₁ out₂ aside₂ ignored₂ loops₂
      → Moved (λ w. g (f w)) s live rows words words₂ cells q t r out aside ignored loops out₂ aside₂ ignored₂ loops₂
  moved_again {g = g} {words₂ = words₂} y = record {
    is = λ start h. let k = x.kept.rises in y.is start (omega arith) ∙ ap g (x.is start h);
    kept = kept_then x.kept y.kept;
    long_aside = y.long_aside ∙ x.long_aside;
    long_ignored = y.long_ignored ∙ x.long_ignored;
    long_loops = y.long_loops ∙ x.long_loops;
    picks = y.picks;
    words_kept = words_kept_again s words words₁ words₂ x.words_kept y.words_kept;
    underway = y.underway;
  }

  -- whether blocks are wanted after it
  pub moved_spent : (b : Bool) → spent (state_of 0 (picker_in live rows words₁ cells) u out₁ aside₁ ignored₁ loops₁) ≡ b → (start : ℕ) →
      start ≤ t.end
      → spent (f (state_of start (picker_in live rows words cells) t out aside ignored loops)) ≡ b
  unfolding spent state_of
  moved_spent b z start h = sym (ap spent (x.is start h)) ∙ z

-- ---- the walks
module _ {s : Shape} {live : ℕ} {rows words cells : List ℕ} {q : Request} (p : Picks s live rows words cells q) {t u : PickNumbers}
    {out aside : List ℕ} {ignored : List Bool} {loops : List ℕ} {out₁ aside₁ : List ℕ} {ignored₁ : List Bool} {loops₁ : List ℕ}
    (a : PickRequest) (e : option sequential a ≡ true)
    (y : Stepped (pick_sequential a) (picker_in live rows words cells) t u out aside ignored loops out₁ aside₁ ignored₁ loops₁) where
  -- no block is wanted any more
  pub listed_stop : u.left ≡ 0 → Moved (walk_listed a) s live rows words words cells q t u out aside ignored loops out₁ aside₁ ignored₁
      loops₁
  unfolding walk_listed when unless spent state_of
  listed_stop z =
      let x = stepped_moved p y in
      moved_as x (λ start h. rw (e, moved_spent x true (eq-eqb u.left 0 z) start h))

  pub listed_on : (u.left ≡ 0 → ⊥) → {words' : List ℕ} {r : PickNumbers} {out' aside' : List ℕ} {ignored' : List Bool} {loops' : List ℕ}
      → Moved (pick_rarest a) s live rows words words' cells q u r out₁ aside₁ ignored₁ loops₁ out' aside' ignored' loops'
      → Moved (walk_listed a) s live rows words words' cells q t r out aside ignored loops out' aside' ignored' loops'
  unfolding walk_listed when unless spent state_of
  listed_on n z =
      let x = stepped_moved p y in
      moved_as (moved_again x z) (λ start h. rw (e, moved_spent x false (ne_eqb u.left 0 n) start h))

-- without the first
pub listed_rarest : {s : Shape} {live : ℕ} {rows words words' cells : List ℕ} {q : Request} {t r : PickNumbers} {out aside : List ℕ}
    {ignored : List Bool} {loops : List ℕ} {out' aside' : List ℕ} {ignored' : List Bool} {loops' : List ℕ} (a : PickRequest)
    → option sequential a ≡ false → 1 ≤ t.left
    → Moved (pick_rarest a) s live rows words words' cells q t r out aside ignored loops out' aside' ignored' loops'
    → Moved (walk_listed a) s live rows words words' cells q t r out aside ignored loops out' aside' ignored' loops'
unfolding walk_listed when unless spent state_of
listed_rarest {t = t} a e w x = moved_as x (λ start h. rw (e, ne_eqb t.left 0 (λ z. omega arith)))

-- the list first
pub listed_whole : {s : Shape} {live : ℕ} {rows words words₁ words' cells : List ℕ} {q : Request} {t u r : PickNumbers} {out aside : List ℕ}
    {ignored : List Bool} {loops : List ℕ} {out' aside' : List ℕ} {ignored' : List Bool} {loops' : List ℕ} (draws : Draws) (a : PickRequest)
    → Moved (with_list_updated draws) s live rows words words₁ cells q t u out aside ignored loops out aside ignored loops
    → Moved (walk_listed a) s live rows words₁ words' cells q u r out aside ignored loops out' aside' ignored' loops'
    → Moved (pick_listed draws a) s live rows words words' cells q t r out aside ignored loops out' aside' ignored' loops'
unfolding pick_listed walk_listed
listed_whole draws a x y = moved_as (moved_again x y) (λ start h. refl)
