-- The core of a public call, refused or done, is the call. Assumes nothing.
use mathlib.Core.Path.{◌≡◌, refl, sym, ap, subst, ◌∙◌}
use mathlib.Core.Bool.{true}
use mathlib.Core.List.{List}
use mathlib.Core.Option.{Option, none, some, none-ne-some}
use Prim.Native.Nat.{ℕ, suc, ◌+◌, ◌-◌, ◌≤◌, ◌<◌}
use native.Mathlib.Omega.{arith}
use lib.ListN.{length, get_or, take, drop}
use lib.Seq.{get_or-drop}
use Rattle.types.specs.declared.refusal.Refusal.{Refusal}
use Rattle.model.specs.State.{Picker}
use Rattle.model.specs.image.WellFormed.{well_formed}
use Rattle.model.specs.Memory.{memory_for}
use Rattle.model.specs.Calls.{Action, Answer, refused, Step, answering, refusal, act, unless_refused}
use Rattle.model.proofs.base.MemoryLaws.{long_enough}
use Rattle.model.proofs.sound.SoundLaws.{well_formed_sound, sound_well_formed}
use Rattle.model.proofs.keep.KeepCalls.{act_keeps}
use Rattle.memory_records.specs.declared.record.DownloadingPiece.{DownloadingPiece as Record}
use Rattle.memory_records.specs.declared.edits.Edit.{Edit}
use Rattle.memory_records.specs.declared.edits.Edit.TheVariants.{Keep, Replace, Insert, Remove}
use Rattle.memory_records.specs.Records.{no_record, HasRoom, EditFits, edited, rising_from}
use Rattle.memory_records.specs.Rows.{live_records, rows_of, records_in}
use Rattle.memory_records.proofs.laws.EditLaws.{length-edited, inserted_behind, removed_behind, replaced_behind}
use Rattle.memory_records.proofs.laws.RowLaws.{records_of}
use Rattle.memory_layout.specs.declared.shape.Shape.{Shape}
use Rattle.memory_layout.specs.Offsets.{places_for, words_for, cells_for}
use Rattle.memory_layout.specs.Decode.{head_word, pieces_on, blocks_on, record_at}
use Rattle.memory_layout.specs.Standing.{Changed, edit_records}
use Rattle.memory_layout.specs.Good.{lengths, short, memory_refusal}
use Rattle.memory_layout.proofs.EditedRecords.{decode_live, live_at, live_rise, stands_live, changed_edited}
use Rattle.memory_rows.specs.Lookup.{picker_in}
use Rattle.check_memory.proofs.Standing.{parts_pass}
use Rattle.check_memory.proofs.Passing.{changed_passes}
use Rattle.picker_calls.specs.Calling.{Lent, picker_on, memory_on, refusal_on, step_on, answer_on, LentKept, Called}
use Rattle.picker_calls.specs.Cores.{lending, Listless, Stood, CoreCalled}
use Rattle.picker_calls.proofs.LiveLaws.{memory_live}
use Rattle.picker_calls.proofs.AdmissionLaws.{admitted_memory}

-- ---- refused
kept_same : (m : Lent) → LentKept m m
kept_same m =
    record {
      long_words = refl;
      long_cells = refl;
      long_partials = refl;
      words = λ k h. refl;
      cells = λ k h. refl;
      partials = λ k h. refl;
    }

-- every buffer is as it was
pub called_refused : (m : Lent) (a : Action) (why : Refusal) → refusal_on m a ≡ some why → Called m a m (refused why)
unfolding answer_on step_on unless_refused answering
called_refused m a why e =
    record {
      answer = sym (ap (λ (x : Option Refusal). (unless_refused x (picker_on m) a).answer) e);
      after = sym (ap (λ (x : Option Refusal). (unless_refused x (picker_on m) a).after) e);
      unchanged = λ w h. refl;
      good = λ h. absurd (none-ne-some _ (sym h ∙ e));
      kept = kept_same m;
    }

-- the core of a refused call
pub core_refused : (words cells rows : List ℕ) (lent : ℕ) (a : Action) (why : Refusal)
    → ((partials : List Record) → length partials ≡ lent → rows ≡ rows_of words partials → refusal_on
    (lending words cells partials) a ≡ some why)
    → CoreCalled words cells rows lent a words cells (refused why) 0 Keep
core_refused words cells rows lent a why h =
    record { done = λ partials l r. (omega arith, called_refused (lending words cells partials) a why (h partials l r)) }

-- ---- records behind the live ones
behind : (n k : ℕ) (ds es : List Record) → drop n ds ≡ drop n es → n ≤ k → get_or ds k no_record ≡ get_or es k no_record
behind n k ds es e h =
    let q : n + (k - n) ≡ k = omega arith in
    subst (λ (x : ℕ). get_or ds x no_record ≡ get_or es x no_record) q
    (sym (get_or-drop n ds (k - n) no_record) ∙ (ap (λ (l : List Record). get_or l (k - n) no_record) e ∙ get_or-drop n es (k - n) no_record))

-- an edit that has room below place m moves nothing from there on
pub edited_behind : (n m : ℕ) (edit : Edit) (ds : List Record) → n ≤ m → ((d : Record) → edit ≡ Insert d → n < m) → HasRoom n edit ds
    → (k : ℕ) → m ≤ k → get_or (edited n edit ds) k no_record ≡ get_or ds k no_record
edited_behind n m Keep ds l i f k h = refl
edited_behind n m (Replace d) ds l i f k h = behind n k (edited n (Replace d) ds) ds (replaced_behind n d ds f) (omega arith)
edited_behind n m (Insert d) ds l i f k h = let j = i d refl in behind (suc n) k (edited n (Insert d) ds) ds (inserted_behind n d ds f)
    (omega arith)
edited_behind n m (Remove piece) ds l i f k h = behind n k (edited n (Remove piece) ds) ds (removed_behind n piece ds f) (omega arith)

fits : (n m : ℕ) (edit : Edit) (ds : List Record) → n ≤ m → ((d : Record) → edit ≡ Insert d → n < m) → m ≤ length ds → HasRoom n edit ds
fits n m Keep ds l i h = omega arith
fits n m (Replace d) ds l i h = omega arith
fits n m (Insert d) ds l i h = let j = i d refl in omega arith
fits n m (Remove piece) ds l i h = omega arith

rising_fits : (n : ℕ) (edit : Edit) (ds : List Record) → HasRoom n edit ds → rising_from 0 (take n ds) ≡ true → EditFits n edit ds
rising_fits n Keep ds h r = h
rising_fits n (Replace d) ds h r = (h, r)
rising_fits n (Insert d) ds h r = (h, (omega (arith, h), r))
rising_fits n (Remove piece) ds h r = (h, r)

-- ---- admitted
module _ (s : Shape) (live lent : ℕ) (rows counts words cells : List ℕ) (t : Stood s live lent rows counts words cells)
    (partials : List Record) (long : length partials ≡ lent) (rowed : rows ≡ rows_of words partials) where
  abbrev m : Lent
  m = lending words cells partials

  places_lent : s.places ≤ length partials
  unfolding short lengths memory_for
  places_lent =
      let p = parts_pass lent (records_in live rows) words cells t.passed in
      let e = (long_enough (lengths lent words cells) (memory_for (pieces_on words) (blocks_on words)) p.long).partials in
      let b = t.stands.bounds in
      omega (arith, e, long, b.spans.in_words.sizes.places, ap places_for b.pieces)

  few : live ≤ s.places
  few = omega (arith, t.many, t.stands.bounds.partials)

  front : records_in live rows ≡ take live partials
  front =
      ap (records_in live) rowed ∙ records_of words partials live (omega (arith, t.rowed)) (omega (arith, few, places_lent))

  same : (k : ℕ) → k < head_word words 7 → record_at partials k ≡ record_at (records_in live rows) k
  same k h =
      sym (ap (λ (l : List Record). record_at l k) front ∙ live_at live partials (omega (arith, few, places_lent)) k (omega
      (arith, t.many)))

  -- the picker that the buffers mean
  pub stood_picker : picker_on m ≡ picker_in live rows words cells
  unfolding picker_on
  stood_picker = decode_live s (records_in live rows) partials words cells same

  pub stood_memory : memory_on m ≡ none
  unfolding memory_on
  stood_memory =
      sym (memory_live words cells partials)
      ∙ subst (λ (k : ℕ). memory_refusal k (records_in (live_records words) (rows_of words partials)) words cells ≡ none) (sym long)
      (subst (λ (zs : List ℕ). memory_refusal lent (records_in (live_records words) zs) words cells ≡ none) rowed
      (subst (λ (n : ℕ). memory_refusal lent (records_in n rows) words cells ≡ none) t.rowed t.passed))

  -- refused as the definition refuses it
  pub stood_refusal : (a : Action) → Listless a → refusal_on m a ≡ refusal (picker_in live rows words cells) a
  stood_refusal a n = admitted_memory m a (n (picker_on m)) stood_memory ∙ ap (λ (d : Picker). refusal d a) stood_picker

  module _ (a : Action) (listless : Listless a) (none_refused : refusal (picker_in live rows words cells) a ≡ none) (r : Answer)
      (after : Picker)
      (acts : act (picker_in live rows words cells) a ≡ answering r after) where
    steps : step_on m a ≡ answering r after
    unfolding step_on unless_refused
    steps = rw (stood_refusal a listless ∙ none_refused) (ap (λ (d : Picker). act d a) stood_picker ∙ acts)

    sound : well_formed after ≡ true
    unfolding answering
    sound =
        subst (λ (x : Step). well_formed x.after ≡ true) acts
        (sound_well_formed (act (picker_in live rows words cells) a).after
        (act_keeps (picker_in live rows words cells) a (well_formed_sound (picker_in live rows words cells) t.stands.sound) none_refused))

    module _ (edit : Edit) (room : (d : Record) → edit ≡ Insert d → live < s.places) (words' cells' : List ℕ)
        (c : Changed s after words cells (edit_records edit (records_in live rows)) words' cells') where
      has_room : HasRoom live edit partials
      has_room = fits live s.places edit partials few room places_lent

      rises : rising_from 0 (take live partials) ≡ true
      rises =
          subst (λ (n : ℕ). rising_from 0 (take n partials) ≡ true) (sym t.many)
          (live_rise s partials words cells
          (stands_live s (records_in live rows) partials words cells same (omega (arith, t.many, few, places_lent)) t.stands))

      edit_fits : EditFits live edit partials
      edit_fits = rising_fits live edit partials has_room rises

      changed : Changed s after words cells (edited live edit partials) words' cells'
      changed =
          changed_edited live partials rises s edit has_room after words cells words' cells'
          (subst (λ (l : List Record). Changed s after words cells (edit_records edit l) words' cells') front c)

      kept : LentKept m (lending words' cells' (edited live edit partials))
      kept =
          let b = t.stands.bounds in
          record {
            long_words = changed.words_kept.long;
            long_cells = changed.cells_kept.long;
            long_partials = length-edited live edit partials;
            words = λ k h. changed.words_kept.beyond k
                (subst (λ (n : ℕ). words_for n s.blocks ≤ k) (sym b.pieces) (subst (λ (w : ℕ). words_for (pieces_on words) w ≤ k)
                (sym b.blocks) h));
            cells = λ k h. changed.cells_kept.beyond k
                (subst (λ (n : ℕ). cells_for n s.blocks ≤ k) (sym b.pieces) (subst (λ (w : ℕ). cells_for (pieces_on words) w ≤ k)
                (sym b.blocks) h));
            partials = λ k h. edited_behind live s.places edit partials few room has_room k
                (omega (arith, h, b.spans.in_words.sizes.places, ap places_for b.pieces));
          }

      called_done : Called m a (lending words' cells' (edited live edit partials)) r
      unfolding answer_on answering picker_on memory_on
      called_done = record {
        answer = sym (ap (λ (x : Step). x.answer) steps);
        after = changed.is ∙ sym (ap (λ (x : Step). x.after) steps);
        unchanged = λ why h. absurd (none-ne-some _ (sym (stood_refusal a listless ∙ none_refused) ∙ h));
        good = λ h. changed_passes s (length (edited live edit partials)) after words cells (edited live edit partials) words' cells'
            (omega (arith, places_lent, length-edited live edit partials)) sound changed;
        kept = kept;
      }

-- the core of a call that is done
pub core_done : (s : Shape) (live lent : ℕ) (rows counts words cells : List ℕ) → Stood s live lent rows counts words cells
    → (a : Action) → Listless a → refusal (picker_in live rows words cells) a ≡ none → (r : Answer) (after : Picker)
    → act (picker_in live rows words cells) a ≡ answering r after
    → (edit : Edit) → ((d : Record) → edit ≡ Insert d → live < s.places) → (words' cells' : List ℕ)
    → Changed s after words cells (edit_records edit (records_in live rows)) words' cells'
    → CoreCalled words cells rows lent a words' cells' r live edit
core_done s live lent rows counts words cells t a listless n r after acts edit room words' cells' c =
    record {
      done = λ partials long rowed. (
        edit_fits s live lent rows counts words cells t partials long rowed a listless n r after acts edit room words' cells' c,
        called_done s live lent rows counts words cells t partials long rowed a listless n r after acts edit room words' cells' c,
      );
    }

-- the core of a call that the definition refuses
pub core_refuses : (s : Shape) (live lent : ℕ) (rows counts words cells : List ℕ) → Stood s live lent rows counts words cells
    → (a : Action) → Listless a → (why : Refusal) → refusal (picker_in live rows words cells) a ≡ some why
    → CoreCalled words cells rows lent a words cells (refused why) 0 Keep
core_refuses s live lent rows counts words cells t a listless why e =
    core_refused words cells rows lent a why (λ partials long rowed.
    stood_refusal s live lent rows counts words cells t partials long rowed a listless ∙ e)
