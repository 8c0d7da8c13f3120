-- What the admission of a public question gives: refused alike whatever is asked, or answered as the definition replies. Assumes nothing.
use Rattle.std.specs.Prelude.{Err, Ok, Result}
use Rattle.std.specs.Result.{IsErrAnd}
use Rattle.std.proofs.lemmas.Result.{err_from_is_err_and}
use mathlib.Core.Path.{◌≡◌, refl, sym, ap, subst, ◌∙◌}
use mathlib.Core.Bool.{Bool, true, false, true≢false}
use mathlib.Core.List.{List}
use mathlib.Core.Option.{Option, none, some}
use Prim.Native.Nat.{ℕ, ◌≤◌, ◌<◌}
use native.Mathlib.Omega.{arith}
use lib.Dec.{leb}
use lib.ListN.{length}
use mir.ValLaws.{to_z-of_z}
use borrow.Author.Tests.{le-leb, lt-leb}
use Rattle.types.specs.declared.refusal.Refusal.{Refusal}
use Rattle.types.specs.declared.refusal.Refusal.TheVariants.{OutOfRange}
use Rattle.model.specs.State.{Picker, Listing, dirty, fresh, is_dirty, list_of, pieces_in, blocks_in_piece}
use Rattle.model.specs.Lists.{len}
use Rattle.model.specs.ask.Questions.{Question, Reply, reply}
use Rattle.model.specs.Calls.{refused, replied, question, refusal, check, refuse_bad_piece, answering, act}
use Rattle.model.specs.Calls.{refuse_bad_block, no_place, unless_refused}
use Rattle.memory_records.specs.declared.record.DownloadingPiece.{DownloadingPiece as Record}
use Rattle.memory_records.specs.Records.{rising_from}
use Rattle.memory_records.specs.Rows.{live_records, records_in}
use Rattle.memory_layout.specs.declared.shape.Shape.{Shape}
use Rattle.memory_layout.specs.Decode.{head_word, blocks_of, decode}
use Rattle.memory_layout.specs.Standing.{Stands, StandsBeside}
use Rattle.memory_rows.specs.Lookup.{LiveRows, picker_in}
use Rattle.memory_fields.specs.Reading.{HeadSays}
use Rattle.model.specs.ask.Questions.{reply_piece, one, ask_blocks_in_piece}
use Rattle.ask_picker.specs.Asked.{Asked}
use Rattle.ask_picker.proofs.AskedLaws.{asked_queues, asked_rise}
use Rattle.ask_piece.proofs.ReplyLaws.{one_is}
use Rattle.memory_layout.specs.Bounds.{ShapeOf}
use Rattle.check_pieces.proofs.ExtentTests.{pieces_in_lem}
use Rattle.picker_calls.specs.Calling.{picker_on, of_memory, step_on, answer_on}
use Rattle.picker_calls.specs.Cores.{lending, Listless, Stood, Admitted as MemoryAdmitted}
use Rattle.picker_calls.proofs.CallLaws.{stood_picker, stood_refusal}
use Rattle.picker_calls.proofs.CoreLaws.{stood_at}
use Rattle.picker_calls.proofs.PublicLaws.{live_fits, rows_are}
use Rattle.picker_answers.specs.declared.admitted.Admitted.{Admitted}
use Rattle.picker_answers.specs.Admitting.{CoreAnswered, Ruled, Granted, AdmittedBy}

-- ---- a question that was admitted by a rule
module _ (rule : Picker → Option Refusal) (Fits : Shape → Type 0) (words cells rows counts : List ℕ) (lent : ℕ) (v : Result Admitted Refusal)
    (g : AdmittedBy rule Fits words cells rows counts lent v) where
  -- what an admitted question may rely on
  pub granted : (a : Admitted) → v ≡ Ok a → Granted rule Fits a.shape a.live lent rows counts words cells
  unfolding AdmittedBy
  granted a e = subst (AdmittedBy rule Fits words cells rows counts lent) e g

  -- refused
  pub question_refused : (q asked : Question) → q ≡ asked → Ruled rule q → (why : Refusal) → v ≡ Err why
      → CoreAnswered words cells rows lent asked (refused why)
  unfolding AdmittedBy answer_on step_on unless_refused answering
  question_refused q asked same ruled why e =
      let h = subst (AdmittedBy rule Fits words cells rows counts lent) e g in
      subst (λ (x : Question). CoreAnswered words cells rows lent x (refused why)) same
      (record {
        is = λ partials l r.
            sym (ap (λ (x : Option Refusal). (unless_refused x (picker_on (lending words cells partials)) (question q)).answer)
            (h partials l r q ruled));
      })

  -- answered
  pub question_replied : (q asked : Question) → q ≡ asked → Ruled rule q → (a : Admitted) → v ≡ Ok a → (r : Reply)
      → r ≡ reply (picker_in a.live rows words cells) q → CoreAnswered words cells rows lent asked (replied r)
  unfolding answer_on step_on unless_refused act answering
  question_replied q asked same ruled a e r t =
      let h = granted a e in
      subst (λ (x : Question). CoreAnswered words cells rows lent x (replied r)) same
      (record {
        is = λ partials l w.
            ap (λ (x : Reply). replied x)
            (t ∙ sym (ap (λ (d : Picker). reply d q) (stood_picker a.shape a.live lent rows counts words cells h.stood partials l w)))
            ∙ sym (ap (λ (x : Option Refusal). (unless_refused x (picker_on (lending words cells partials)) (question q)).answer)
            (h.free partials l w q ruled));
      })

-- ---- the rules
-- none of its refusals is 2
abbrev pub NotOfMemory : (rule : Picker → Option Refusal) → Type 0
NotOfMemory rule = (d : Picker) → of_memory (rule d) ≡ false

listless : (rule : Picker → Option Refusal) → NotOfMemory rule → (q : Question) → Ruled rule q → Listless (question q)
unfolding refusal
listless rule n q ruled d = subst (λ (x : Option Refusal). of_memory x ≡ false) (sym (ruled d)) (n d)

module _ (rule : Picker → Option Refusal) (not_memory : NotOfMemory rule) (Fits : Shape → Type 0) (words cells rows counts : List ℕ)
    (lent : ℕ) (v : Result Shape Refusal) (g : MemoryAdmitted words cells rows counts lent v) where
  -- the memory is refused
  pub refused_for_memory : (why : Refusal) → v ≡ Err why → (r : Result Admitted Refusal) → IsErrAnd r (λ x. x ≡ why)
      → AdmittedBy rule Fits words cells rows counts lent r
  unfolding AdmittedBy MemoryAdmitted
  refused_for_memory why e r passed =
      let p = err_from_is_err_and r passed in
      let h = subst (MemoryAdmitted words cells rows counts lent) e g in
      let same : r ≡ Err why = p.1 ∙ ap Err p.2 in
      subst (AdmittedBy rule Fits words cells rows counts lent) (sym same)
      (λ partials l r q ruled. h partials l r (question q) (listless rule not_memory q ruled))

  module _ (s : Shape) (e : v ≡ Ok s) where
    abbrev stood : Stood s (head_word words 7) lent rows counts words cells
    stood = stood_at words cells rows counts lent v g s e

    -- the rule refuses
    pub refused_by_rule : (why : Refusal) → rule (picker_in (head_word words 7) rows words cells) ≡ some why
        → AdmittedBy rule Fits words cells rows counts lent (Err why)
    unfolding AdmittedBy refusal
    refused_by_rule why h = λ partials l r q ruled.
        stood_refusal s (head_word words 7) lent rows counts words cells stood partials l r (question q) (listless rule not_memory q ruled)
        ∙ (ruled (picker_in (head_word words 7) rows words cells) ∙ h)

    -- it does not
    pub admitted_by_rule : rule (picker_in (head_word words 7) rows words cells) ≡ none → Fits s → (live : ℕ) → live ≡ live_records words
        → AdmittedBy rule Fits words cells rows counts lent (Ok (record { shape = s; live = live }))
    unfolding AdmittedBy refusal
    admitted_by_rule h f live many =
        subst (λ (n : ℕ). Granted rule Fits s n lent rows counts words cells) (stood.rowed ∙ sym many)
        (record {
          stood = stood;
          fits = f;
          free = λ partials l r q ruled.
              stood_refusal s (head_word words 7) lent rows counts words cells stood partials l r (question q)
              (listless rule not_memory q ruled)
              ∙ (ruled (picker_in (head_word words 7) rows words cells) ∙ h);
        })

-- ---- what stands where a picker does
module _ (s : Shape) (live lent : ℕ) (rows counts words cells : List ℕ) (t : Stood s live lent rows counts words cells) where
  pub live_rows : LiveRows s live rows words cells
  live_rows = record { bounds = t.stands.bounds; many = t.many }

  pub beside : StandsBeside s words cells
  beside = record { records = records_in live rows; stands = t.stands }

  pub shaped : ShapeOf s words
  shaped =
      let b = t.stands.bounds in
      record { sizes = b.spans.in_words.sizes; pieces = b.pieces; blocks = b.blocks }

  pub asked : Asked s live rows words cells
  asked = record { stands = t.stands; many = t.many; wide = t.long_rows }

  pub few_rows : (live ≤ 512) × (length rows ≡ 1536)
  few_rows = ((asked_queues s live rows words cells asked).few, t.long_rows)

  pub rising : rising_from 0 (records_in live rows) ≡ true
  rising = asked_rise s live rows words cells asked

-- ---- 5 of a piece, of a block and of a place of the list
range_rule : (t : Bool) → of_memory (check t OutOfRange none) ≡ false
unfolding check of_memory
range_rule true = refl
range_rule false = refl

pub piece_rule : (i : ℕ) → NotOfMemory (λ d. refuse_bad_piece d i none)
unfolding refuse_bad_piece
piece_rule i d = range_rule (leb (pieces_in d) i)

pub block_rule : (i j : ℕ) → NotOfMemory (λ d. refuse_bad_block d i j none)
unfolding refuse_bad_block refuse_bad_piece check of_memory
block_rule i j d = go (leb (pieces_in d) i)
  where
    go : (t : Bool) → of_memory (check t OutOfRange (check (leb (blocks_in_piece d i) j) OutOfRange none)) ≡ false
    go true = refl
    go false = range_rule (leb (blocks_in_piece d i) j)

pub place_rule : (k : ℕ) → NotOfMemory (λ d. check (no_place d.listing k) OutOfRange none)
place_rule k d = range_rule (no_place d.listing k)

module _ (s : Shape) (records : List Record) (words cells : List ℕ) (t : Stands s records words cells) where
  pub pieces_are : pieces_in (decode records words cells) ≡ s.pieces
  pieces_are = pieces_in_lem records words cells ∙ sym t.bounds.pieces

  pub piece_past : (i : ℕ) (r : Option Refusal) → s.pieces ≤ i → refuse_bad_piece (decode records words cells) i r ≡ some OutOfRange
  unfolding refuse_bad_piece check
  piece_past i r h = rw (le-leb (pieces_in (decode records words cells)) i (omega (arith, pieces_are))) refl

  pub piece_there : (i : ℕ) (r : Option Refusal) → i < s.pieces → refuse_bad_piece (decode records words cells) i r ≡ r
  unfolding refuse_bad_piece check
  piece_there i r h = rw (lt-leb (pieces_in (decode records words cells)) i (omega (arith, pieces_are))) refl

  module _ (i j n : ℕ) (h : i < s.pieces) (says : HeadSays words (λ d. reply_piece d i ask_blocks_in_piece) (one n)) where
    blocks_are : n ≡ blocks_in_piece (decode records words cells) i
    unfolding reply_piece
    blocks_are = one_is n (blocks_in_piece (decode records words cells) i) (says.is records cells)

    pub block_past : n ≤ j → refuse_bad_block (decode records words cells) i j none ≡ some OutOfRange
    unfolding refuse_bad_block check
    block_past l =
        piece_there i _ h ∙ rw (le-leb (blocks_in_piece (decode records words cells) i) j (omega (arith, blocks_are))) refl

    pub block_there : j < n → refuse_bad_block (decode records words cells) i j none ≡ none
    unfolding refuse_bad_block check
    block_there l =
        piece_there i _ h ∙ rw (lt-leb (blocks_in_piece (decode records words cells) i) j (omega (arith, blocks_are))) refl

    pub block_fits : j < n → (i < s.pieces) × (j < blocks_of words i)
    unfolding blocks_of blocks_in_piece
    block_fits l = (h, subst (λ (m : ℕ). j < m) blocks_are l)

-- a dirty list has no end to be past
pub dirty_place : (l : Listing) (k : ℕ) → is_dirty l ≡ true → false ≡ no_place l k
unfolding no_place is_dirty
dirty_place dirty k h = refl
dirty_place (fresh l) k h = absurd (true≢false (sym h))

pub fresh_place : (l : Listing) (k n : ℕ) → is_dirty l ≡ false → n ≡ len (list_of l) → leb n k ≡ no_place l k
unfolding no_place is_dirty list_of
fresh_place dirty k n h e = absurd (true≢false h)
fresh_place (fresh l) k n h e = ap (λ (m : ℕ). leb m k) e

-- what the proofs of public questions cite
pub ruleset public_questions = (live_fits, rows_are, to_z-of_z, question_refused)
