-- An extent forgotten in the words: a well-formed picker still stands, and the pick is under way beside it. Assumes nothing.
use mathlib.Core.Path.{◌≡◌, refl, sym, ap, subst, ◌∙◌}
use mathlib.Core.Bool.{Bool, true, false}
use mathlib.Core.List.{List, []}
use Prim.Native.Nat.{ℕ, ◌≤◌}
use native.Mathlib.Omega.{arith}
use Rattle.model.specs.Lists.{len, remove_nth}
use Rattle.model.specs.State.{DownloadingPiece, Picker, with_recent_extents, piece_at}
use Rattle.model.specs.list.Order.{rank}
use Rattle.model.specs.pick.Blocks.{PickRequest, PickState, with_picker}
use Rattle.model.specs.pick.Pick.{ExtentWalk, forget_extent, pick_extents}
use Rattle.model.specs.image.WellFormed.{well_formed}
use Rattle.model.specs.image.Sound.{Sound}
use Rattle.model.proofs.pick.SoundPick.{without_ok, sound_extents}
use Rattle.model.proofs.sound.SoundLaws.{well_formed_sound, sound_well_formed}
use Rattle.memory_records.specs.Rows.{records_in}
use Rattle.memory_layout.specs.declared.shape.Shape.{Shape}
use Rattle.memory_layout.specs.Decode.{head_word}
use Rattle.memory_layout.specs.Bounds.{RanksHeld}
use Rattle.memory_layout.proofs.Meanings.{partials_number}
use Rattle.memory_layout.proofs.BoundsLaws.{words_none, words_kept_none}
use Rattle.memory_layout.proofs.StandingLaws.{ranks_again}
use Rattle.memory_layout.proofs.stores.ListFrames.{list_kept_none}
use Rattle.memory_fields.specs.Storing.{WordsStored}
use Rattle.memory_rows.specs.Lookup.{picker_in}
use Rattle.pick_state.specs.declared.numbers.PickNumbers.{PickNumbers}
use Rattle.pick_state.specs.declared.request.PickRequest.{PickRequest as Request}
use Rattle.pick_state.specs.PickStates.{contiguous_of, state_of}
use Rattle.pick_state.specs.Room.{Underway}
use Rattle.pick_state.proofs.DidLaws.{kept_then}
use Rattle.pick_free.specs.Picking.{Picks}
use Rattle.pick_visits.specs.Steps.{Stepped}
use Rattle.pick_extents.specs.declared.ExtentWalk.{ExtentWalk as Numbers}
use Rattle.pick_extents.specs.Extents.{finished_at, walk_of, ExtentsBeside, first_walk, walked_extents, forgotten, Moved, MovedBeside}

-- ---- the picker without an extent
module _ (d : Picker) (place : ℕ) where
  forgot_sound : (found : Bool) → Sound d → Sound (forgotten found place d)
  unfolding forgotten
  forgot_sound true h = sound_extents d (remove_nth place d.recent_extents) h (without_ok d place d.recent_extents [] h.recent_extents)
  forgot_sound false h = h

  forgot_rank : (found : Bool) (i : ℕ) → rank (forgotten found place d) i ≡ rank d i
  unfolding forgotten rank piece_at with_recent_extents
  forgot_rank true i = refl
  forgot_rank false i = refl

  forgot_partials : (found : Bool) → (forgotten found place d).partials ≡ d.partials
  unfolding forgotten with_recent_extents
  forgot_partials true = refl
  forgot_partials false = refl

  -- the definition's way to say it
  forgot_state : (found : Bool) (start : ℕ) (t : PickNumbers) (out aside : List ℕ) (ignored : List Bool) (loops : List ℕ)
      → state_of start (forgotten found place d) t out aside ignored loops
      ≡ forget_extent (finished_at found place) (state_of start d t out aside ignored loops)
  unfolding forget_extent finished_at forgotten with_picker state_of
  forgot_state true start t out aside ignored loops = refl
  forgot_state false start t out aside ignored loops = refl

-- ---- the store
module _ (s : Shape) (words : List ℕ) (found : Bool) (place : ℕ) where
  pub forget_yes : (words' : List ℕ) → found ≡ true
      → WordsStored s (λ d. with_recent_extents (remove_nth place d.recent_extents) d) words words' → WordsStored s (forgotten found place) words words'
  unfolding forgotten
  forget_yes words' e x = subst (λ (b : Bool). WordsStored s (forgotten b place) words words') (sym e) x

  pub forget_no : found ≡ false → WordsStored s (forgotten found place) words words
  unfolding forgotten
  forget_no e =
      subst (λ (b : Bool). WordsStored s (forgotten b place) words words) (sym e)
      (record { became = words_none s words; list = list_kept_none s words })

-- ---- a pick beside another picker
-- the room does not look at the picker
pub underway_beside : {d : Picker} (d' : Picker) {t : PickNumbers} {out aside : List ℕ} {ignored : List Bool} {loops : List ℕ}
    → Underway d t out aside ignored loops → Underway d' t out aside ignored loops
unfolding state_of contiguous_of
underway_beside d' u =
    let w = u.working in
    let g = w.roomy in
    record {
      start = u.start;
      wanted = u.wanted;
      run = u.run;
      working = record {
        since = w.since;
        within = w.within;
        roomy = record {
          wanted = g.wanted;
          run = g.run;
          rest = g.rest;
          few = g.few;
          backup = g.backup;
          asked = g.asked;
          given = g.given;
          marks = g.marks;
          counters = g.counters;
          room = g.room;
          room_aside = g.room_aside;
          within_aside = g.within_aside;
        };
      };
    }

module _ {s : Shape} {live : ℕ} {rows words cells : List ℕ} {q : Request} (p : Picks s live rows words cells q) where
  module _ {words' : List ℕ} (found : Bool) (place : ℕ) (w : WordsStored s (forgotten found place) words words') where
    forgot_is : picker_in live rows words' cells ≡ forgotten found place (picker_in live rows words cells)
    forgot_is = (w.became.became (records_in live rows) cells p.asked.stands.bounds).is

    -- the picker without the extent stands there
    pub forgot_picks : Picks s live rows words' cells q
    unfolding len
    forgot_picks =
        let records = records_in live rows in
        let d = picker_in live rows words cells in
        let g = p.asked.stands in
        let b = w.became.became records cells g.bounds in
        let many : head_word words 7 ≡ head_word words' 7 =
        sym (partials_number s records words cells g.bounds)
        ∙ (ap (λ (ds : List DownloadingPiece). len ds) (sym (forgot_partials d place found))
        ∙ (ap (λ (x : Picker). len x.partials) (sym forgot_is) ∙ partials_number s records words' cells b.bounds)) in
        record {
          asked = record {
            stands = record {
              bounds = b.bounds;
              plain = b.plain g.plain;
              ranks = subst (λ (x : Picker). RanksHeld s.pieces words' (rank x)) (sym forgot_is)
                  (ranks_again s records words cells words' (forgotten found place d) g w.list (forgot_rank d place found));
              sound = ap well_formed forgot_is
                  ∙ sound_well_formed (forgotten found place d) (forgot_sound d place found (well_formed_sound d g.sound));
            };
            many = p.asked.many ∙ many;
            wide = p.asked.wide;
          };
          bits = p.bits;
        }

  -- the extents walked, and one forgotten
  pub extents_moved : (a : PickRequest) (x : Numbers) {words' : List ℕ} {t : PickNumbers} {out aside : List ℕ} {ignored : List Bool}
      {out' aside' : List ℕ} {ignored' : List Bool}
      → ExtentsBeside (walked_extents a (picker_in live rows words cells)) (picker_in live rows words cells) (first_walk t) x out aside ignored out' aside' ignored'
      → WordsStored s (forgotten x.found x.place) words words'
      → MovedBeside (pick_extents a) s live rows words words' cells q t x.numbers out aside ignored out' aside' ignored'
  unfolding pick_extents walked_extents walk_of first_walk finished_at state_of
  extents_moved a x {words' = words'} {out' = out'} {aside' = aside'} {ignored' = ignored'} y w loops u =
      let d = picker_in live rows words cells in
      let z = y loops u in
      record {
        is = λ start h.
            ap (λ (e : Picker). state_of start e x.numbers out' aside' ignored' loops) (forgot_is x.found x.place w)
            ∙ (forgot_state d x.place x.found start x.numbers out' aside' ignored' loops
            ∙ ap (λ (v : ExtentWalk). forget_extent v.finished v.work) (z.is start h));
        kept = z.kept;
        long_aside = z.long_aside;
        long_ignored = z.long_ignored;
        long_loops = refl;
        picks = forgot_picks x.found x.place w;
        words_kept = w.became.kept;
        underway = underway_beside (picker_in live rows words' cells) z.underway;
      }

  -- a step that leaves the words
  pub stepped_moved : {f : PickState → PickState} {t r : PickNumbers} {out aside : List ℕ} {ignored : List Bool} {loops : List ℕ}
      {out' aside' : List ℕ} {ignored' : List Bool} {loops' : List ℕ}
      → Stepped f (picker_in live rows words cells) t r out aside ignored loops out' aside' ignored' loops'
      → Moved f s live rows words words cells q t r out aside ignored loops out' aside' ignored' loops'
  stepped_moved x = record {
    is = x.did.is;
    kept = x.did.kept;
    long_aside = x.did.long_aside;
    long_ignored = x.did.long_ignored;
    long_loops = x.did.long_loops;
    picks = p;
    words_kept = words_kept_none s words;
    underway = x.underway;
  }

module _ {f : PickState → PickState} {s : Shape} {live : ℕ} {rows words words' cells : List ℕ} {q : Request} {t u : PickNumbers}
    {out aside : List ℕ} {ignored : List Bool} {loops : List ℕ} {out₁ aside₁ : List ℕ} {ignored₁ : List Bool} {loops₁ : List ℕ}
    (x : Moved f s live rows words words' cells q t u out aside ignored loops out₁ aside₁ ignored₁ loops₁) where
  -- by another name
  pub moved_as : {g : PickState → PickState} → ((start : ℕ) → start ≤ t.end
      → f (state_of start (picker_in live rows words cells) t out aside ignored loops) ≡ g (state_of start (picker_in live rows words cells) t out aside ignored loops))
      → Moved g s live rows words words' cells q t u out aside ignored loops out₁ aside₁ ignored₁ loops₁
  moved_as e = record {
    is = λ start h. x.is start h ∙ e start h;
    kept = x.kept;
    long_aside = x.long_aside;
    long_ignored = x.long_ignored;
    long_loops = x.long_loops;
    picks = x.picks;
    words_kept = x.words_kept;
    underway = x.underway;
  }

  -- a step after it
  pub moved_then : {g : PickState → PickState} {r : PickNumbers} {out₂ aside₂ : List ℕ} {ignored₂ : List Bool} {loops₂ : List ℕ}
      → Stepped g (picker_in live rows words' cells) u r out₁ aside₁ ignored₁ loops₁ out₂ aside₂ ignored₂ loops₂
      → Moved (λ w. g (f w)) s live rows words words' cells q t r out aside ignored loops out₂ aside₂ ignored₂ loops₂
  moved_then {g = g} y = record {
    is = λ start h. let k = x.kept.rises in y.did.is start (omega arith) ∙ ap g (x.is start h);
    kept = kept_then x.kept y.did.kept;
    long_aside = y.did.long_aside ∙ x.long_aside;
    long_ignored = y.did.long_ignored ∙ x.long_ignored;
    long_loops = y.did.long_loops ∙ x.long_loops;
    picks = x.picks;
    words_kept = x.words_kept;
    underway = y.underway;
  }
