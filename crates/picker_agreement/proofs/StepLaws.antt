-- One public call on memory in which a picker stands, lent in buffers of any lengths, is the definition's step. Assumes nothing.
use mathlib.Core.Path.{◌≡◌, refl, sym, ap, ap₂, subst, ◌∙◌}
use mathlib.Core.Bool.{Bool, true, false}
use mathlib.Core.List.{List, ◌++◌}
use mathlib.Core.Option.{Option, none, some, none-ne-some}
use Prim.Native.Nat.{ℕ, ◌+◌, ◌-◌, ◌≤◌, ◌<◌}
use native.Mathlib.Omega.{arith}
use native.Mathlib.Decide.{dec_lt}
use lib.ListN.{length, get_or, drop, length-append, length-drop, get_or-append}
use lib.Seq.{get_or-append-add, get_or-drop}
use borrow.Author.Tests.{lt-ltb, le-ltb}
use Rattle.types.specs.declared.refusal.Refusal.{Refusal}
use Rattle.types.specs.declared.refusal.Refusal.TheVariants.{Geometry, ShortMemory, IllFormedMemory, FewDraws, OutOfRange, TooManyPeers}
use Rattle.types.specs.declared.refusal.Refusal.TheVariants.{NoPeerToTake, HavePiece, NotWriting, TooManyPartials, PickArguments}
use Rattle.types.specs.declared.refusal.Refusal.TheVariants.{ShortOutput, IllFormedImage}
use Rattle.model.specs.Bep3.{num_pieces, whole_piece_blocks}
use Rattle.model.specs.State.{Picker, valid_geometry}
use Rattle.model.specs.Memory.{Memory, memory_for, memory_needed, is_short}
use Rattle.model.specs.Calls.{Action, question, Call, Answer, refused, Step, check, refusal, act, answering, unless_refused, step}
use Rattle.model.specs.ask.Questions.{Question}
use Rattle.model.proofs.base.MemoryLaws.{Enough, long_enough}
use Rattle.memory_records.specs.Records.{no_record}
use Rattle.memory_layout.specs.Decode.{head_word, pieces_on, blocks_on}
use Rattle.memory_layout.specs.Good.{lengths, short, or_else, memory_refusal}
use Rattle.picker_calls.specs.Calling.{Lent, picker_on, memory_on, of_memory, refusal_on, step_on, answer_on, LentKept, Called}
use Rattle.picker_calls.specs.Starting.{lengths_on}
use Rattle.picker_agreement.specs.Traces.{LentFrom, put_back, Public, asked, changed, picked}
use Rattle.picker_agreement.proofs.FrontLaws.{needs_on, SameBelow, head_there, geometry_good, enough_on, front_good, front_picker}

-- ---- the table
-- 2 of the room for an answer's records comes first, and is the definition's own
two_first : (x : Option Refusal) → or_else (of_memory x) ShortMemory x ≡ x
unfolding or_else of_memory
two_first none = refl
two_first (some Geometry) = refl
two_first (some ShortMemory) = refl
two_first (some IllFormedMemory) = refl
two_first (some FewDraws) = refl
two_first (some OutOfRange) = refl
two_first (some TooManyPeers) = refl
two_first (some NoPeerToTake) = refl
two_first (some HavePiece) = refl
two_first (some NotWriting) = refl
two_first (some TooManyPartials) = refl
two_first (some PickArguments) = refl
two_first (some ShortOutput) = refl
two_first (some (IllFormedImage k)) = refl

-- the memory's tests, with nothing and with more behind them
abbrev of_all : (a b c d : Bool) → Option Refusal
of_all a b c d = or_else a ShortMemory (or_else b IllFormedMemory (or_else c ShortMemory (or_else d IllFormedMemory none)))

abbrev of_call : (a b c t d : Bool) (x : Option Refusal) → Option Refusal
of_call a b c t d x =
    or_else a ShortMemory (or_else b IllFormedMemory (or_else c ShortMemory (or_else t ShortMemory (or_else d IllFormedMemory x))))

more_none : (a b c t d : Bool) (x : Option Refusal) → of_all a b c d ≡ none → of_call a b c t d x ≡ or_else t ShortMemory x
unfolding or_else
more_none true b c t d x h = absurd (none-ne-some _ (sym h))
more_none false true c t d x h = absurd (none-ne-some _ (sym h))
more_none false false true t d x h = absurd (none-ne-some _ (sym h))
more_none false false false t true x h = absurd (none-ne-some _ (sym h))
more_none false false false true false x h = refl
more_none false false false false false x h = refl

less_none : (a b c t d : Bool) (x : Option Refusal) → of_call a b c t d x ≡ none → of_all a b c d ≡ none
unfolding or_else
less_none true b c t d x h = absurd (none-ne-some _ (sym h))
less_none false true c t d x h = absurd (none-ne-some _ (sym h))
less_none false false true t d x h = absurd (none-ne-some _ (sym h))
less_none false false false true d x h = absurd (none-ne-some _ (sym h))
less_none false false false false true x h = absurd (none-ne-some _ (sym h))
less_none false false false false false x h = refl

-- memory that passes: the definition's own refusals
pub admitted : (m : Lent) (a : Action) → memory_on m ≡ none → refusal_on m a ≡ refusal (picker_on m) a
unfolding refusal_on memory_on memory_refusal
admitted m a h = more_none _ _ _ (of_memory (refusal (picker_on m) a)) _ (refusal (picker_on m) a) h ∙ two_first (refusal (picker_on m) a)

-- a call that is not refused finds such memory
done_good : (m : Lent) (a : Action) → refusal_on m a ≡ none → memory_on m ≡ none
unfolding refusal_on memory_on memory_refusal
done_good m a h = less_none _ _ _ (of_memory (refusal (picker_on m) a)) _ (refusal (picker_on m) a) h

-- ---- every public call is a call
question_stays : (why : Option Refusal) (s : Picker) (q : Question) → (unless_refused why s (question q)).after ≡ s
unfolding unless_refused act answering
question_stays none s q = refl
question_stays (some why) s q = refl

kept_same : (m : Lent) → LentKept m m
kept_same m =
    record {
      long_words = refl;
      long_cells = refl;
      long_partials = refl;
      words = λ k h. refl;
      cells = λ k h. refl;
      partials = λ k h. refl;
    }

pub public_called : {entry exit : Lent} {a : Action} {r : Answer} → Public entry a exit r → Called entry a exit r
unfolding step_on
public_called (asked {m} {q} {r} e) =
    record {
      answer = e;
      after = sym (question_stays (refusal_on m (question q)) (picker_on m) q);
      unchanged = λ why h. refl;
      good = done_good m (question q);
      kept = kept_same m;
    }
public_called (changed c) = c
public_called (picked p) = p.called

-- ---- one list in front of what stands behind it in another
module _ {A : Type 0} (xs ys : List A) (d : A) where
  over_front : (k : ℕ) → k < length xs → get_or (xs ++ drop (length xs) ys) k d ≡ get_or xs k d
  over_front k h = get_or-append xs (drop (length xs) ys) d k h

  over_behind : (k : ℕ) → length xs ≤ k → get_or (xs ++ drop (length xs) ys) k d ≡ get_or ys k d
  over_behind k h =
      let q : length xs + (k - length xs) ≡ k = omega arith in
      subst (λ (x : ℕ). get_or (xs ++ drop (length xs) ys) x d ≡ get_or ys x d) q
      (get_or-append-add xs (drop (length xs) ys) (k - length xs) d ∙ get_or-drop (length xs) ys (k - length xs) d)

  -- in front of itself, as far as both go, the other stands whole
  over_same : ((k : ℕ) → k < length ys → k < length xs → get_or xs k d ≡ get_or ys k d)
      → (k : ℕ) → k < length ys → get_or (xs ++ drop (length xs) ys) k d ≡ get_or ys k d
  over_same same k h = elim (dec_lt k (length xs)) [
    | yes l ↦ over_front k l ∙ same k h l
    | no l ↦ over_behind k (omega arith)
  ]

over_long : {A : Type 0} (xs ys : List A) → (length xs ≤ length (xs ++ drop (length xs) ys))
    × (length ys ≤ length (xs ++ drop (length xs) ys))
over_long xs ys =
    let e = length-append xs (drop (length xs) ys) in
    let f = length-drop (length xs) ys in
    (omega (arith, e, f), omega (arith, e, f))

-- ---- one call
module _ (m : Lent) (good : memory_on m ≡ none) where
  abbrev need : Memory
  need = memory_for (pieces_on m.words) (blocks_on m.words)

  own : Enough (lengths_on m) need
  own = long_enough (lengths_on m) need (subst (λ (x : Memory). is_short (lengths_on m) x ≡ false) (needs_on m) (enough_on m good))

  -- memory that is put back behind a front of it
  module _ (entry : Lent) (lent : LentFrom m entry) where
    back_enough : Enough (lengths_on (put_back entry m)) need
    unfolding lengths_on lengths put_back
    back_enough = record {
      words = omega (arith, own.words, (over_long entry.words m.words).1);
      cells = omega (arith, own.cells, (over_long entry.cells m.cells).1);
      partials = omega (arith, own.partials, (over_long entry.partials m.partials).1);
    }

    back_same : SameBelow need m (put_back entry m)
    unfolding lengths_on lengths put_back
    back_same = record {
      words = λ k h. over_same entry.words m.words 0 lent.words k (omega (arith, own.words));
      cells = λ k h. over_same entry.cells m.cells 0 lent.cells k (omega (arith, own.cells));
      partials = λ k h. over_same entry.partials m.partials no_record lent.partials k (omega (arith, own.partials));
    }

    back_good : memory_on (put_back entry m) ≡ none
    back_good = front_good m good (put_back entry m) back_enough back_same

    back_picker : picker_on (put_back entry m) ≡ picker_on m
    back_picker = front_picker m good (put_back entry m) back_enough back_same

    -- ---- lent enough: the same picker
    module _ (long : is_short (lengths_on entry) (memory_needed (picker_on m)) ≡ false) where
      lent_enough : Enough (lengths_on entry) need
      lent_enough = long_enough (lengths_on entry) need (subst (λ (x : Memory). is_short (lengths_on entry) x ≡ false) (needs_on m) long)

      lent_same : SameBelow need m entry
      unfolding lengths_on lengths
      lent_same = record {
        words = λ k h. lent.words k (omega (arith, own.words)) (omega (arith, lent_enough.words));
        cells = λ k h. lent.cells k (omega (arith, own.cells)) (omega (arith, lent_enough.cells));
        partials = λ k h. lent.partials k (omega (arith, own.partials)) (omega (arith, lent_enough.partials));
      }

      pub lent_good : memory_on entry ≡ none
      lent_good = front_good m good entry lent_enough lent_same

      pub lent_picker : picker_on entry ≡ picker_on m
      lent_picker = front_picker m good entry lent_enough lent_same

    -- ---- lent too little: 2, of the memory alone
    module _ (few : is_short (lengths_on entry) (memory_needed (picker_on m)) ≡ true) where
      head_same : (k : ℕ) → k < 16 → 16 ≤ length entry.words → head_word entry.words k ≡ head_word m.words k
      unfolding head_word
      head_same k h l = lent.words k (omega (arith, head_there m good)) (omega arith)

      short_on : 16 ≤ length entry.words → short (length entry.partials) entry.words entry.cells ≡ true
      unfolding short lengths_on pieces_on blocks_on
      short_on l =
          let e = head_same 0 (omega arith) l in
          let f = head_same 1 (omega arith) l in
          let p : pieces_on entry.words ≡ pieces_on m.words = ap₂ num_pieces e f in
          let b : blocks_on entry.words ≡ blocks_on m.words = ap whole_piece_blocks f in
          ap₂ (λ (x y : ℕ). is_short (lengths_on entry) (memory_for x y)) p b
          ∙ subst (λ (x : Memory). is_short (lengths_on entry) x ≡ true) (needs_on m) few

      geometry_on : 16 ≤ length entry.words → valid_geometry (head_word entry.words 0) (head_word entry.words 1) ≡ true
      geometry_on l = ap₂ valid_geometry (head_same 0 (omega arith) l) (head_same 1 (omega arith) l) ∙ geometry_good m good

      pub few_memory : memory_on entry ≡ some ShortMemory
      unfolding memory_on memory_refusal or_else
      few_memory = elim (dec_lt (length entry.words) 16) [
        | yes h ↦ rw (lt-ltb (length entry.words) 16 h) refl
        | no h ↦ (
            rw (
              le-ltb (length entry.words) 16 (omega arith),
              geometry_on (omega arith),
              short_on (omega arith),
            ) refl
            )
      ]

      pub few_refused : (a : Action) → refusal_on entry a ≡ some ShortMemory
      unfolding refusal_on or_else
      few_refused a = elim (dec_lt (length entry.words) 16) [
        | yes h ↦ rw (lt-ltb (length entry.words) 16 h) refl
        | no h ↦ (
            rw (
              le-ltb (length entry.words) 16 (omega arith),
              geometry_on (omega arith),
              short_on (omega arith),
            ) refl
            )
      ]

    -- ---- the call, and the memory with what it left in front
    module _ (a : Action) where
      abbrev call : Call
      call = record { lent = lengths_on entry; action = a }

      -- the definition's step, as its memory is found
      judged : (t : Bool) → is_short (lengths_on entry) (memory_needed (picker_on m)) ≡ t
          → step (picker_on m) call ≡ unless_refused (check t ShortMemory (refusal (picker_on m) a)) (picker_on m) a
      unfolding step
      judged t e = ap (λ (b : Bool). unless_refused (check b ShortMemory (refusal (picker_on m) a)) (picker_on m) a) e

      few_step : is_short (lengths_on entry) (memory_needed (picker_on m)) ≡ true → step (picker_on m) call
          ≡ answering (refused ShortMemory) (picker_on m)
      unfolding unless_refused check
      few_step e = judged true e

      whole_step : is_short (lengths_on entry) (memory_needed (picker_on m)) ≡ false → step_on entry a ≡ step (picker_on m) call
      unfolding step_on check
      whole_step e =
          ap (λ (o : Option Refusal). unless_refused o (picker_on entry) a) (admitted entry a (lent_good e))
          ∙ ap (λ (d : Picker). unless_refused (refusal d a) d a) (lent_picker e)
          ∙ sym (judged false e)

      module _ (exit : Lent) (r : Answer) (c : Called entry a exit r) where
        -- the answer is the definition's, and its picker stands in the memory, which is well-formed
        pub record Left : Type 0 where
          pub answer : r ≡ (step (picker_on m) call).answer
          pub after : picker_on (put_back exit m) ≡ (step (picker_on m) call).after
          pub well : memory_on (put_back exit m) ≡ none

        -- refused: the memory holds what it held
        as_was : (why : Refusal) → refusal_on entry a ≡ some why → (picker_on (put_back exit m) ≡ picker_on m)
            × (memory_on (put_back exit m) ≡ none)
        as_was why e =
            let u = sym (c.unchanged why e) in (
              subst (λ (x : Lent). picker_on (put_back x m) ≡ picker_on m) u back_picker,
              subst (λ (x : Lent). memory_on (put_back x m) ≡ none) u back_good,
            )

        left_few : is_short (lengths_on entry) (memory_needed (picker_on m)) ≡ true → Left
        unfolding answer_on step_on unless_refused answering
        left_few h =
            let e = few_refused h a in
            let w = as_was ShortMemory e in
            record {
              answer = c.answer ∙ ap (λ (x : Option Refusal). (unless_refused x (picker_on entry) a).answer) e
                  ∙ sym (ap (λ (x : Step). x.answer) (few_step h));
              after = w.0 ∙ sym (ap (λ (x : Step). x.after) (few_step h));
              well = w.1;
            }

        -- done: what the call left is well-formed, and so is the memory with it in front
        module _ (e : memory_on exit ≡ none) where
          abbrev left_need : Memory
          left_need = memory_for (pieces_on exit.words) (blocks_on exit.words)

          left_own : Enough (lengths_on exit) left_need
          left_own =
              long_enough (lengths_on exit) left_need (subst (λ (x : Memory). is_short (lengths_on exit) x ≡ false) (needs_on exit)
              (enough_on exit e))

          exit_enough : Enough (lengths_on (put_back exit m)) left_need
          unfolding lengths_on lengths put_back
          exit_enough = record {
            words = omega (arith, left_own.words, (over_long exit.words m.words).0);
            cells = omega (arith, left_own.cells, (over_long exit.cells m.cells).0);
            partials = omega (arith, left_own.partials, (over_long exit.partials m.partials).0);
          }

          exit_same : SameBelow left_need exit (put_back exit m)
          unfolding lengths_on lengths put_back
          exit_same = record {
            words = λ k h. over_front exit.words m.words 0 k (omega (arith, left_own.words));
            cells = λ k h. over_front exit.cells m.cells 0 k (omega (arith, left_own.cells));
            partials = λ k h. over_front exit.partials m.partials no_record k (omega (arith, left_own.partials));
          }

          exit_good : memory_on (put_back exit m) ≡ none
          exit_good = front_good exit e (put_back exit m) exit_enough exit_same

          exit_picker : picker_on (put_back exit m) ≡ picker_on exit
          exit_picker = front_picker exit e (put_back exit m) exit_enough exit_same

        left_whole : is_short (lengths_on entry) (memory_needed (picker_on m)) ≡ false → Left
        unfolding answer_on
        left_whole h = go (refusal_on entry a) refl
          where
            told : r ≡ (step (picker_on m) call).answer
            told = c.answer ∙ ap (λ (x : Step). x.answer) (whole_step h)

            led : picker_on exit ≡ (step (picker_on m) call).after
            led = c.after ∙ ap (λ (x : Step). x.after) (whole_step h)

            go : (o : Option Refusal) → refusal_on entry a ≡ o → Left
            go none e = record { answer = told; after = exit_picker (c.good e) ∙ led; well = exit_good (c.good e) }
            go (some why) e =
                let w = as_was why e in
                record {
                  answer = told;
                  after = w.0 ∙ sym (lent_picker h) ∙ ap picker_on (sym (c.unchanged why e)) ∙ led;
                  well = w.1;
                }

        pub left : Left
        left = go (is_short (lengths_on entry) (memory_needed (picker_on m))) refl
          where
            go : (t : Bool) → is_short (lengths_on entry) (memory_needed (picker_on m)) ≡ t → Left
            go true e = left_few e
            go false e = left_whole e
