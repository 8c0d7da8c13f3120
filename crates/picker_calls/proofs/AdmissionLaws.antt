-- What the test of the memory says of a call: refused for its memory, or all that a call may rely on. Assumes nothing.
use Rattle.std.specs.Prelude.{Err, Ok, Result, IsErrAnd, ⊤}
use mathlib.Core.Path.{◌≡◌, refl, sym, ap, subst, ◌∙◌}
use mathlib.Core.Bool.{Bool, true, false, not}
use mathlib.Core.List.{List}
use mathlib.Core.Option.{Option, none, some, none-ne-some}
use Prim.Native.Nat.{ℕ, ◌≤◌}
use native.Mathlib.Omega.{arith}
use lib.Dec.{ltb}
use lib.ListN.{length}
use Rattle.types.specs.declared.refusal.Refusal.{Refusal}
use Rattle.types.specs.declared.refusal.Refusal.TheVariants.{ShortMemory, IllFormedMemory}
use Rattle.model.specs.State.{valid_geometry}
use Rattle.model.specs.Calls.{Action, refusal}
use Rattle.memory_records.specs.Rows.{live_records, rows_of, records_in}
use Rattle.memory_layout.specs.declared.shape.Shape.{Shape}
use Rattle.memory_layout.specs.Decode.{head_word, decode}
use Rattle.memory_layout.specs.Bounds.{ShapeOf}
use Rattle.memory_layout.specs.Good.{short, good_body, or_else, memory_refusal}
use Rattle.check_partials.specs.Records.{CountsHeld}
use Rattle.check_memory.specs.Verdicts.{refusal_of, Checked}
use Rattle.check_memory.proofs.Standing.{parts_pass}
use Rattle.check_memory.proofs.Passing.{passed_stands}
use Rattle.picker_calls.specs.Calling.{Lent, picker_on, memory_on, of_memory, refusal_on}
use Rattle.picker_calls.specs.Cores.{lending, Admitted}
use Rattle.memory_records.proofs.laws.LiveLaws.{live_few}
use Rattle.memory_layout.specs.Standing.{Stands}
use Rattle.memory_layout.proofs.OffsetLaws.{places_min}
use Rattle.picker_calls.proofs.LiveLaws.{memory_live}

-- ---- the table, from the memory's refusals on
-- four tests, with nothing and with more behind them
more_none : (a b c d : Bool) (x : Option Refusal) → or_else a ShortMemory (or_else b IllFormedMemory (or_else c ShortMemory
    (or_else d IllFormedMemory none))) ≡ none
    → or_else a ShortMemory (or_else b IllFormedMemory (or_else c ShortMemory (or_else d IllFormedMemory x))) ≡ x
unfolding or_else
more_none true b c d x h = absurd (none-ne-some _ (sym h))
more_none false true c d x h = absurd (none-ne-some _ (sym h))
more_none false false true d x h = absurd (none-ne-some _ (sym h))
more_none false false false true x h = absurd (none-ne-some _ (sym h))
more_none false false false false x h = refl

more_some : (a b c d : Bool) (x : Option Refusal) (why : Refusal)
    → or_else a ShortMemory (or_else b IllFormedMemory (or_else c ShortMemory (or_else d IllFormedMemory none))) ≡ some why
    → or_else a ShortMemory (or_else b IllFormedMemory (or_else c ShortMemory (or_else d IllFormedMemory x))) ≡ some why
unfolding or_else
more_some true b c d x why h = h
more_some false true c d x why h = h
more_some false false true d x why h = h
more_some false false false true x why h = h
more_some false false false false x why h = absurd (none-ne-some _ h)

module _ (m : Lent) (a : Action) (listless : of_memory (refusal (picker_on m) a) ≡ false) where
  -- without 2 of an answer's records
  listed_not : refusal_on m a
      ≡ or_else (ltb (length m.words) 16) ShortMemory
      (or_else (not (valid_geometry (head_word m.words 0) (head_word m.words 1))) IllFormedMemory
      (or_else (short (length m.partials) m.words m.cells) ShortMemory
      (or_else (not (good_body m.partials m.words m.cells)) IllFormedMemory (refusal (picker_on m) a))))
  unfolding refusal_on or_else
  listed_not = rw listless refl

  -- refused for its memory
  pub refused_memory : (why : Refusal) → memory_on m ≡ some why → refusal_on m a ≡ some why
  unfolding memory_on memory_refusal
  refused_memory why h = listed_not ∙ more_some _ _ _ _ (refusal (picker_on m) a) why h

  -- its memory is admitted: the definition's own refusals
  pub admitted_memory : memory_on m ≡ none → refusal_on m a ≡ refusal (picker_on m) a
  unfolding memory_on memory_refusal
  admitted_memory h = listed_not ∙ more_none _ _ _ _ (refusal (picker_on m) a) h

-- ---- the verdict
-- a refusal as `?` passes it on
pub as_passed_on : (words cells rows counts : List ℕ) (lent : ℕ) (why : Refusal) (r : Result Shape Refusal) → IsErrAnd r (λ e. e ≡ why)
    → Admitted words cells rows counts lent (Err why) → Admitted words cells rows counts lent r
as_passed_on words cells rows counts lent why (Err e) k h = subst (λ (x : Refusal). Admitted words cells rows counts lent (Err x)) (sym k) h
as_passed_on words cells rows counts lent why (Ok s) k h = absurd k

module _ (words cells rows counts : List ℕ) (lent : ℕ) (v : Result ⊤ Refusal) (c : Checked v lent rows words cells counts) where
  pub refused_verdict : (why : Refusal) → v ≡ Err why → (r : Result Shape Refusal) → IsErrAnd r (λ e. e ≡ why)
      → Admitted words cells rows counts lent r
  unfolding Admitted memory_on refusal_of
  refused_verdict why e r k = as_passed_on words cells rows counts lent why r k (λ partials l r a n.
      refused_memory (lending words cells partials) a (n (picker_on (lending words cells partials))) why
      (sym (memory_live words cells partials)
      ∙ subst (λ (k : ℕ). memory_refusal k (records_in (live_records words) (rows_of words partials)) words cells ≡ some why) (sym l)
      (subst (λ (zs : List ℕ). memory_refusal lent (records_in (live_records words) zs) words cells ≡ some why) r (sym c.is ∙ ap refusal_of e))))

  module _ (good : v ≡ Ok tt) where
    abbrev passed : memory_refusal lent (records_in (live_records words) rows) words cells ≡ none
    unfolding refusal_of
    passed = sym c.is ∙ ap refusal_of good

    pub good_long : 16 ≤ length words
    good_long = (parts_pass lent (records_in (live_records words) rows) words cells passed).there

    pub good_geometry : valid_geometry (head_word words 0) (head_word words 1) ≡ true
    good_geometry = (parts_pass lent (records_in (live_records words) rows) words cells passed).geometry

    module _ (s : Shape) (shape : ShapeOf s words) (long_rows : length rows ≡ 1536) where
      stand : Stands s (records_in (live_records words) rows) words cells
      stand = passed_stands s lent rows words cells shape passed

      number : live_records words ≡ head_word words 7
      unfolding head_word
      number =
          live_few words good_long
          (omega (arith, stand.bounds.partials, stand.bounds.spans.in_words.sizes.places, places_min s.pieces))

      -- what a call may rely on
      pub good_stood : Admitted words cells rows counts lent (Ok s)
      unfolding Admitted
      good_stood = record {
        stands = subst (λ (n : ℕ). Stands s (records_in n rows) words cells) number stand;
        many = refl;
        rowed = sym number;
        counted = subst (λ (n : ℕ). CountsHeld (decode (records_in n rows) words cells) (head_word words 7) counts) number (c.counted good);
        long_rows = long_rows;
        long_counts = c.long;
        passed = subst (λ (n : ℕ). memory_refusal lent (records_in n rows) words cells ≡ none) number passed;
      }
