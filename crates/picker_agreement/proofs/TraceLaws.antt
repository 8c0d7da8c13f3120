-- Lists of public calls follow the definition; memories that answer every list alike hold the same picker. Assumes nothing.
use mathlib.Core.Path.{◌≡◌, refl, sym, ap, ap₂, subst, ◌∙◌}
use mathlib.Core.Bool.{false}
use mathlib.Core.List.{List, [], ◌∷◌, ◌++◌}
use mathlib.Core.Option.{none}
use native.Mathlib.Omega.{arith}
use lib.ListN.{length, length-append, get_or-append}
use Rattle.model.specs.State.{Picker}
use Rattle.model.specs.Memory.{Memory, memory_needed, is_short}
use Rattle.model.specs.ask.Questions.{Question}
use Rattle.model.specs.Calls.{question, Call, Answer, step, answers, run}
use Rattle.model.specs.image.Sound.{Sound}
use Rattle.model.proofs.base.MemoryLaws.{enough_long, long_enough}
use Rattle.model.proofs.sound.SoundLaws.{well_formed_sound}
use Rattle.model.proofs.image.Replies.{questions_same}
use Rattle.memory_records.specs.Records.{no_record}
use Rattle.memory_layout.specs.Good.{lengths}
use Rattle.check_memory.proofs.Standing.{well_formed_picker}
use Rattle.picker_calls.specs.Calling.{Lent, picker_on, memory_on, answer_on}
use Rattle.picker_calls.specs.Starting.{lengths_on}
use Rattle.picker_agreement.specs.Traces.{LentFrom, put_back, Trace, end, next, asked}
use Rattle.picker_agreement.specs.CodeTerm3.{AnswerAlike}
use Rattle.picker_agreement.proofs.FrontLaws.{enough_on}
use Rattle.picker_agreement.proofs.StepLaws.{public_called, left}

-- ---- lists of calls
pub followed : {m z : Lent} {calls : List Call} {rs : List Answer} → memory_on m ≡ none → Trace m calls rs z
    → (rs ≡ answers (picker_on m) calls) × (picker_on z ≡ run (picker_on m) calls) × (memory_on z ≡ none)
unfolding answers run
followed g end = (refl, refl, g)
followed g (next {m} {entry} {exit} {z} {a} {r} {calls} {rs} lent p t) =
    let l = left m g entry lent a exit r (public_called p) in
    let f = followed l.well t in (
      ap₂ (λ (x : Answer) (xs : List Answer). x ∷ xs) l.answer (f.0 ∙ ap (λ (d : Picker). answers d calls) l.after),
      f.1 ∙ ap (λ (d : Picker). run d calls) l.after,
      f.2,
    )

-- one list after another is one list
pub joined : {m z w : Lent} {calls later : List Call} {rs qs : List Answer} → Trace m calls rs z → Trace z later qs w
    → Trace m (calls ++ later) (rs ++ qs) w
joined end u = u
joined (next lent p t) u = next lent p (joined t u)

-- ---- questions to two memories
sound_on : (m : Lent) → memory_on m ≡ none → Sound (picker_on m)
unfolding memory_on picker_on
sound_on m g = well_formed_sound (picker_on m) (well_formed_picker (length m.partials) m.partials m.words m.cells g)

-- a memory with another behind it: lent so, both are as long
abbrev both : (m n : Lent) → Lent
both m n = record { words = m.words ++ n.words; cells = m.cells ++ n.cells; partials = m.partials ++ n.partials }

lent_both : (m n : Lent) → LentFrom m (both m n)
lent_both m n =
    record {
      words = λ k h l. get_or-append m.words n.words 0 k h;
      cells = λ k h l. get_or-append m.cells n.cells 0 k h;
      partials = λ k h l. get_or-append m.partials n.partials no_record k h;
    }

as_long : {A : Type 0} (xs ys : List A) → length (xs ++ ys) ≡ length (ys ++ xs)
as_long xs ys = omega (arith, length-append xs ys, length-append ys xs)

both_lengths : (m n : Lent) → lengths_on (both m n) ≡ lengths_on (both n m)
unfolding lengths_on lengths
both_lengths m n = λ i. record {
  words = as_long m.words n.words i;
  cells = as_long m.cells n.cells i;
  partials = as_long m.partials n.partials i;
}

both_enough : (m n : Lent) → memory_on m ≡ none → is_short (lengths_on (both m n)) (memory_needed (picker_on m)) ≡ false
unfolding lengths_on lengths
both_enough m n g =
    let e = long_enough (lengths_on m) (memory_needed (picker_on m)) (enough_on m g) in
    enough_long (lengths_on (both m n)) (memory_needed (picker_on m)) (record {
      words = omega (arith, e.words, length-append m.words n.words);
      cells = omega (arith, e.cells, length-append m.cells n.cells);
      partials = omega (arith, e.partials, length-append m.partials n.partials);
    })

-- a question to a memory that is lent with another behind it
asking : (m n : Lent) (q : Question)
    → Trace m (record { lent = lengths_on (both m n); action = question q } ∷ []) (answer_on (both m n) (question q) ∷ [])
    (put_back (both m n) m)
asking m n q = next (lent_both m n) (asked refl) end

module _ (m : Lent) (gm : memory_on m ≡ none) (n : Lent) (gn : memory_on n ≡ none) (same : AnswerAlike m n) where
  abbrev lent : Memory
  lent = lengths_on (both m n)

  -- one question to both
  told : (q : Question) → (step (picker_on m) (record { lent = lent; action = question q })).answer
      ≡ (step (picker_on n) (record { lent = lent; action = question q })).answer
  unfolding answers
  told q =
      let c : Call = record { lent = lent; action = question q } in
      let t = asking m n q in
      let u : Trace n (c ∷ []) (answer_on (both n m) (question q) ∷ []) (put_back (both n m) n) =
      subst (λ (x : Memory). Trace n (record { lent = x; action = question q } ∷ []) (answer_on (both n m) (question q) ∷ [])
      (put_back (both n m) n)) (sym (both_lengths m n)) (asking n m q) in
      let e : answers (picker_on m) (c ∷ []) ≡ answers (picker_on n) (c ∷ []) =
      sym (followed gm t).0 ∙ same (c ∷ []) _ _ _ _ t u ∙ (followed gn u).0 in
      cc

  pub asked_same : picker_on m ≡ picker_on n
  asked_same =
      questions_same (picker_on m) (picker_on n) lent (both_enough m n gm)
      (subst (λ (x : Memory). is_short x (memory_needed (picker_on n)) ≡ false) (sym (both_lengths m n)) (both_enough n m gn)) told
      (sound_on m gm) (sound_on n gn)
