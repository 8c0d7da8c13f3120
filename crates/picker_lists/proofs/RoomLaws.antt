-- What the memory's test and the places of a list say of a question that fills one. Assumes nothing.
use Rattle.std.specs.Prelude.{Err, Ok, Result, ⊤}
use Rattle.std.specs.Result.{IsErrAnd}
use Rattle.std.proofs.lemmas.Result.{err_from_is_err_and}
use mathlib.Core.Path.{◌≡◌, refl, sym, ap, subst, ◌∙◌}
use mathlib.Core.Bool.{Bool, true, false, not}
use mathlib.Core.List.{List}
use mathlib.Core.Option.{Option, none, some}
use Prim.Native.Nat.{ℕ, ◌≤◌, ◌<◌}
use native.Mathlib.Omega.{arith}
use lib.Dec.{ltb}
use lib.ListN.{length}
use borrow.Author.Tests.{lt-ltb, le-ltb, ltb-false}
use Rattle.types.specs.declared.refusal.Refusal.{Refusal}
use Rattle.types.specs.declared.refusal.Refusal.TheVariants.{ShortMemory, IllFormedMemory}
use Rattle.model.specs.State.{Picker, valid_geometry, blocks_per_piece}
use Rattle.model.specs.Memory.{partials_needed}
use Rattle.model.specs.ask.Questions.{Question}
use Rattle.model.specs.Calls.{question, question_refusal, refusal, check}
use Rattle.memory_records.specs.declared.record.DownloadingPiece.{DownloadingPiece as Record}
use Rattle.memory_records.specs.Rows.{live_records, rows_of, records_in}
use Rattle.memory_layout.specs.declared.shape.Shape.{Shape}
use Rattle.memory_layout.specs.Offsets.{places_for}
use Rattle.memory_layout.specs.Decode.{head_word, blocks_on, decode}
use Rattle.memory_layout.specs.Bounds.{ShapeOf}
use Rattle.memory_layout.specs.Good.{short, good_body, or_else, memory_refusal}
use Rattle.memory_rows.specs.Lookup.{picker_in}
use Rattle.check_pieces.proofs.ExtentTests.{pieces_in_lem}
use Rattle.check_memory.specs.Verdicts.{refusal_of, Checked}
use Rattle.picker_calls.specs.Calling.{picker_on, memory_on, refusal_on, of_memory}
use Rattle.picker_calls.specs.Cores.{lending, Admitted as MemoryAdmitted}
use Rattle.picker_calls.proofs.LiveLaws.{memory_live}
use Rattle.picker_calls.proofs.AdmissionLaws.{admitted_memory, good_stood}
use Rattle.picker_calls.proofs.CallLaws.{stood_picker, stood_memory}
use Rattle.picker_answers.specs.declared.admitted.Admitted.{Admitted}
use Rattle.picker_answers.specs.Admitting.{Ruled, Granted, AdmittedBy}
use Rattle.picker_lists.specs.declared.rooms.Need.{Need}
use Rattle.picker_lists.specs.declared.rooms.Need.TheVariants.{Pieces, Partials, Blocks}
use Rattle.picker_lists.specs.Rooms.{need_in, need_of, need_on, short_on, room_rule, Roomy, RoomAdmitted}
use Rattle.picker_lists.proofs.TableLaws.{memory_tests, list_tests, short_memory, few_places, bad_memory, places_enough}

-- ---- how many places are needed
need_picker : (need : Need) (records : List Record) (words cells : List ℕ) → need_in need (decode records words cells) ≡ need_on need words
unfolding blocks_per_piece blocks_on
need_picker Pieces records words cells = pieces_in_lem records words cells
need_picker Partials records words cells = ap partials_needed (pieces_in_lem records words cells)
need_picker Blocks records words cells = refl

pub need_shape : (need : Need) (s : Shape) (words : List ℕ) → ShapeOf s words → need_of need s ≡ need_on need words
unfolding places_for
need_shape Pieces s words g = g.pieces
need_shape Partials s words g = g.sizes.places ∙ ap partials_needed g.pieces
need_shape Blocks s words g = g.blocks

-- ---- the test of the places
module _ (need : Need) (room : ℕ) (words : List ℕ) where
  pub no_head : length words < 16 → false ≡ short_on need room words
  unfolding short_on
  no_head h = rw (lt-ltb (length words) 16 h) refl

  pub no_geometry : 16 ≤ length words → valid_geometry (head_word words 0) (head_word words 1) ≡ false → false ≡ short_on need room words
  unfolding short_on
  no_geometry h e = rw (le-ltb (length words) 16 h, e) refl

  pub room_tested : 16 ≤ length words → valid_geometry (head_word words 0) (head_word words 1) ≡ true → (s : Shape) → ShapeOf s words
      → (n : ℕ) → n ≡ need_of need s → ltb room n ≡ short_on need room words
  unfolding short_on
  room_tested h e s g n m = rw (le-ltb (length words) 16 h, e) (ap (ltb room) (m ∙ need_shape need s words g))

-- ---- the table
module _ (need : Need) (room : ℕ) (words cells : List ℕ) where
  abbrev headless : Bool
  headless = ltb (length words) 16

  abbrev valid : Bool
  valid = valid_geometry (head_word words 0) (head_word words 1)

  abbrev few : Bool
  few = ltb room (need_on need words)

  -- a list's refusals by its tests
  list_table : (partials : List Record) (rest : Picker → Option Refusal) (q : Question) → Ruled (room_rule need room rest) q
      → refusal_on (lending words cells partials) (question q)
      ≡ list_tests headless valid (short (length partials) words cells) few (good_body partials words cells)
      (rest (picker_on (lending words cells partials)))
  unfolding refusal_on list_tests room_rule refusal picker_on
  list_table partials rest q ruled =
      let d = decode partials words cells in
      ap (λ (x : Option Refusal). or_else headless ShortMemory
      (or_else (not valid) IllFormedMemory
      (or_else (short (length partials) words cells) ShortMemory
      (or_else (of_memory x) ShortMemory (or_else (not (good_body partials words cells)) IllFormedMemory x)))))
      (ruled d ∙ ap (λ (n : ℕ). check (ltb room n) ShortMemory (rest d)) (need_picker need partials words cells))

  memory_table : (partials : List Record) → memory_on (lending words cells partials)
      ≡ memory_tests headless valid (short (length partials) words cells) (good_body partials words cells)
  unfolding memory_on memory_refusal memory_tests
  memory_table partials = refl

  -- ---- the verdict
  module _ (rows counts : List ℕ) (lent : ℕ) where
    -- too few places
    pub room_short : short_on need room words ≡ true → RoomAdmitted need room words cells rows counts lent (Err ShortMemory)
    unfolding RoomAdmitted short_on
    room_short h = λ partials l r rest n q ruled.
        list_table partials rest q ruled
        ∙ few_places headless valid (short (length partials) words cells) few (good_body partials words cells) _ h

    module _ (v : Result ⊤ Refusal) (c : Checked v lent rows words cells counts) where
      memory_is : (partials : List Record) → length partials ≡ lent → rows ≡ rows_of words partials
          → memory_tests headless valid (short (length partials) words cells) (good_body partials words cells) ≡ refusal_of v
      unfolding memory_on
      memory_is partials l r =
          sym (memory_table partials)
          ∙ (sym (memory_live words cells partials)
          ∙ subst (λ (k : ℕ). memory_refusal k (records_in (live_records words) (rows_of words partials)) words cells ≡ refusal_of v) (sym l)
          (subst (λ (zs : List ℕ). memory_refusal lent (records_in (live_records words) zs) words cells ≡ refusal_of v) r (sym c.is)))

      -- memory that is too short, whatever the places
      pub verdict_short : v ≡ Err ShortMemory → RoomAdmitted need room words cells rows counts lent (Err ShortMemory)
      unfolding RoomAdmitted refusal_of
      verdict_short e = λ partials l r rest n q ruled.
          list_table partials rest q ruled
          ∙ short_memory headless valid (short (length partials) words cells) few (good_body partials words cells) _
          (memory_is partials l r ∙ ap refusal_of e)

      pub verdict_refused : (why : Refusal) → v ≡ Err why → short_on need room words ≡ false → (r : Result Shape Refusal)
          → IsErrAnd r (λ x. x ≡ why) → RoomAdmitted need room words cells rows counts lent r
      unfolding RoomAdmitted refusal_of short_on
      verdict_refused why e h r passed =
          let p = err_from_is_err_and r passed in
          let same : r ≡ Err why = p.1 ∙ ap Err p.2 in
          subst (RoomAdmitted need room words cells rows counts lent) (sym same)
          (λ partials l w rest n q ruled.
          list_table partials rest q ruled
          ∙ bad_memory headless valid (short (length partials) words cells) few (good_body partials words cells) _ why
          (memory_is partials l w ∙ ap refusal_of e) h (n (picker_on (lending words cells partials))))

      module _ (good : v ≡ Ok tt) (h : short_on need room words ≡ false) (s : Shape) (shape : ShapeOf s words)
          (long_rows : length rows ≡ 1536) where
        whole : memory_refusal lent (records_in (live_records words) rows) words cells ≡ none
        unfolding refusal_of
        whole = sym c.is ∙ ap refusal_of good

        enough : few ≡ false
        unfolding short_on memory_refusal memory_tests
        enough =
            places_enough headless valid (short lent words cells) few (good_body (records_in (live_records words) rows) words cells)
            whole h

        pub verdict_good : RoomAdmitted need room words cells rows counts lent (Ok s)
        unfolding RoomAdmitted MemoryAdmitted
        verdict_good = record {
          stood = good_stood words cells rows counts lent v c good s shape long_rows;
          enough = omega (arith, ltb-false room (need_on need words) enough, need_shape need s words shape);
        }

-- ---- a list that was admitted
pub roomy : (need : Need) (room : ℕ) (words cells rows counts : List ℕ) (lent : ℕ) (v : Result Shape Refusal)
    → RoomAdmitted need room words cells rows counts lent v → (s : Shape) → v ≡ Ok s
    → Roomy need room s (head_word words 7) lent rows counts words cells
unfolding RoomAdmitted
roomy need room words cells rows counts lent v g s e = subst (RoomAdmitted need room words cells rows counts lent) e g

module _ (need : Need) (room : ℕ) (rest : Picker → Option Refusal) (not_memory : (d : Picker) → of_memory (rest d) ≡ false)
    (Fits : Shape → Type 0) (words cells rows counts : List ℕ) (lent : ℕ) (v : Result Shape Refusal)
    (g : RoomAdmitted need room words cells rows counts lent v) where
  -- refused for memory or places
  pub list_refused : (why : Refusal) → v ≡ Err why → (r : Result Admitted Refusal) → IsErrAnd r (λ x. x ≡ why)
      → AdmittedBy (room_rule need room rest) Fits words cells rows counts lent r
  unfolding AdmittedBy RoomAdmitted
  list_refused why e r passed =
      let p = err_from_is_err_and r passed in
      let h = subst (RoomAdmitted need room words cells rows counts lent) e g in
      let same : r ≡ Err why = p.1 ∙ ap Err p.2 in
      subst (AdmittedBy (room_rule need room rest) Fits words cells rows counts lent) (sym same)
      (λ partials l w q ruled. h partials l w rest not_memory q ruled)

  module _ (s : Shape) (e : v ≡ Ok s) where
    abbrev stands : Roomy need room s (head_word words 7) lent rows counts words cells
    stands = roomy need room words cells rows counts lent v g s e

    shaped : ShapeOf s words
    shaped =
        let b = stands.stood.stands.bounds in
        record { sizes = b.spans.in_words.sizes; pieces = b.pieces; blocks = b.blocks }

    -- only the rest of the rule may refuse
    rest_only : (partials : List Record) → length partials ≡ lent → rows ≡ rows_of words partials → (q : Question)
        → Ruled (room_rule need room rest) q
        → refusal_on (lending words cells partials) (question q) ≡ rest (picker_in (head_word words 7) rows words cells)
    unfolding refusal room_rule check picker_on
    rest_only partials l r q ruled =
        let d = decode partials words cells in
        let t = stands.stood in
        let few_not : ltb room (need_in need d) ≡ false =
        le-ltb room (need_in need d)
        (omega (arith, stands.enough, need_picker need partials words cells, need_shape need s words shaped)) in
        let rule : question_refusal d q ≡ rest d = ruled d ∙ ap (λ (x : Bool). check x ShortMemory (rest d)) few_not in
        admitted_memory (lending words cells partials) (question q)
        (subst (λ (x : Option Refusal). of_memory x ≡ false) (sym rule) (not_memory d))
        (stood_memory s (head_word words 7) lent rows counts words cells t partials l r)
        ∙ (rule ∙ ap rest (stood_picker s (head_word words 7) lent rows counts words cells t partials l r))

    pub list_past : (why : Refusal) → rest (picker_in (head_word words 7) rows words cells) ≡ some why
        → AdmittedBy (room_rule need room rest) Fits words cells rows counts lent (Err why)
    unfolding AdmittedBy
    list_past why h = λ partials l r q ruled. rest_only partials l r q ruled ∙ h

    pub list_admitted : rest (picker_in (head_word words 7) rows words cells) ≡ none → Fits s → (live : ℕ) → live ≡ live_records words
        → AdmittedBy (room_rule need room rest) Fits words cells rows counts lent (Ok (record { shape = s; live = live }))
    unfolding AdmittedBy
    list_admitted h f live many =
        subst (λ (n : ℕ). Granted (room_rule need room rest) Fits s n lent rows counts words cells) (stands.stood.rowed ∙ sym many)
        (record {
          stood = stands.stood;
          fits = f;
          free = λ partials l r q ruled. rest_only partials l r q ruled ∙ h;
        })
