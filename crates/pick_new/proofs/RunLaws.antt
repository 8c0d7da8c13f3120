-- Spans of pieces: a step on one piece, and the loop over them by what is left. Assumes nothing.
use mathlib.Core.Path.{◌≡◌, refl, sym, ap, ◌∙◌}
use mathlib.Core.Bool.{Bool, true, false}
use mathlib.Core.List.{List}
use Prim.Native.Nat.{ℕ, suc, ◌+◌, ◌-◌, ◌*◌, ◌≤◌, ◌<◌}
use native.Mathlib.Numerals.{add-one}
use native.Mathlib.Nat.{mul-le-mul_right}
use native.Mathlib.Omega.{arith}
use lib.ListN.{length}
use Rattle.model.specs.Lists.{range, from, nth, set_nth, branch, walk}
use Rattle.model.specs.State.{Picker, payload_blocks_in_piece}
use Rattle.model.specs.pick.Blocks.{PickState, with_out, with_contiguous, ignore, is_ignored, shorter, took, contiguous_met, span_step}
use Rattle.model.specs.pick.Blocks.{take_span, take_payload}
use Rattle.pick_state.specs.declared.numbers.PickNumbers.{PickNumbers}
use Rattle.pick_state.specs.PickStates.{contiguous_of, with_given, state_of, OutKept, OutDid}
use Rattle.pick_state.proofs.DidLaws.{kept_none, kept_same, kept_then}
use Rattle.pick_state.proofs.RangeLaws.{each_next, each_none}
use Rattle.pick_new.specs.Runs.{RunDid}

-- ---- one piece
-- its payload, of n blocks
pub payload_run : (Stands : Picker → Type 0) (k n m : ℕ) {t r : PickNumbers} {out out' : List ℕ}
    → OutDid (walk (took k) contiguous_met (from 0 n)) n t r out out' → n ≤ m
    → ((d : Picker) → Stands d → n ≡ payload_blocks_in_piece d k) → (ignored : List Bool) (loops : List ℕ)
    → RunDid Stands (take_payload k) m t r out out' ignored ignored loops loops
unfolding take_payload state_of
payload_run Stands k n m {t = t} {out = out} y l e ignored loops =
    record {
      is = λ start d aside g h. y.is start d aside ignored loops h
          ∙ ap (λ (x : ℕ). walk (took k) contiguous_met (from 0 x) (state_of start d t out aside ignored loops)) (e d g);
      kept = y.kept;
      few = let a = y.few in omega arith;
      given = let a = y.given in omega arith;
      marks = refl;
      counters = refl;
    }

module _ (Stands : Picker → Type 0) (takes : ℕ → PickState → PickState) (k n : ℕ) (t : PickNumbers) (out : List ℕ) (ignored : List Bool) (loops : List ℕ) where
  -- an ignored one only shortens the run
  pub shorter_run : (r : PickNumbers) → nth false ignored k ≡ true → r ≡ with_given (t.given + 1) t → 1 ≤ n
      → RunDid Stands (span_step takes k) n t r out out ignored ignored loops loops
  unfolding span_step is_ignored state_of branch with_contiguous with_out shorter with_given contiguous_of
  shorter_run r e g l =
      record {
        is = λ start d aside o h.
            ap (λ (x : PickNumbers). state_of start d x out aside ignored loops) g
            ∙ (ap (λ (x : ℕ). state_of start d (with_given x t) out aside ignored loops) (add-one t.given)
            ∙ sym (ap (λ (b : Bool). branch b (λ v. with_contiguous (shorter v.contiguous) v) (λ v. takes k (ignore k v))
            (state_of start d t out aside ignored loops)) e));
        kept = kept_same t r out (ap (λ (x : PickNumbers). x.end) g);
        few = let a = ap (λ (x : PickNumbers). x.end) g in omega arith;
        given = let a = ap (λ (x : PickNumbers). x.given) g in omega arith;
        marks = refl;
        counters = refl;
      }

  -- another is marked, and its blocks are taken
  pub marked_run : {r : PickNumbers} {out' : List ℕ} {ignored' : List Bool} {loops' : List ℕ} → nth false ignored k ≡ false
      → length (set_nth k true ignored) ≡ length ignored
      → RunDid Stands (takes k) n t r out out' (set_nth k true ignored) ignored' loops loops'
      → RunDid Stands (span_step takes k) n t r out out' ignored ignored' loops loops'
  unfolding span_step is_ignored ignore state_of branch
  marked_run e l y =
      record {
        is = λ start d aside g h. y.is start d aside g h
            ∙ sym (ap (λ (b : Bool). branch b (λ v. with_contiguous (shorter v.contiguous) v) (λ v. takes k (ignore k v))
            (state_of start d t out aside ignored loops)) e);
        kept = y.kept;
        few = y.few;
        given = y.given;
        marks = y.marks ∙ l;
        counters = y.counters;
      }

-- ---- a loop by what is left: so far at most m blocks were appended
pub record RunRest (Stands : Picker → Type 0) (whole rest : PickState → PickState) (m : ℕ) (t cur : PickNumbers) (out out₁ : List ℕ)
    (ignored ignored₁ : List Bool) (loops loops₁ : List ℕ) : Type 0 where
  pub is : (start : ℕ) (d : Picker) (aside : List ℕ) → Stands d → start ≤ t.end
      → rest (state_of start d cur out₁ aside ignored₁ loops₁) ≡ whole (state_of start d t out aside ignored loops)
  pub kept : OutKept t cur out out₁
  pub few : cur.end ≤ t.end + m
  pub given : cur.given ≤ t.given + m
  pub marks : length ignored₁ ≡ length ignored
  pub counters : length loops₁ ≡ length loops

pub run_start : (Stands : Picker → Type 0) (f : PickState → PickState) (m : ℕ) (t : PickNumbers) (out : List ℕ) (ignored : List Bool) (loops : List ℕ)
    → RunRest Stands f f m t t out out ignored ignored loops loops
run_start Stands f m t out ignored loops =
    record {
      is = λ start d aside g h. refl;
      kept = kept_none t out;
      few = omega arith;
      given = omega arith;
      marks = refl;
      counters = refl;
    }

module _ {Stands : Picker → Type 0} {whole rest : PickState → PickState} {m : ℕ} {t cur : PickNumbers} {out out₁ : List ℕ}
    {ignored ignored₁ : List Bool} {loops loops₁ : List ℕ} (c : RunRest Stands whole rest m t cur out out₁ ignored ignored₁ loops loops₁) where
  pub run_next : {step : PickState → PickState} (after : PickState → PickState) {n : ℕ} (m' : ℕ) {r : PickNumbers} {out₂ : List ℕ}
      {ignored₂ : List Bool} {loops₂ : List ℕ} → RunDid Stands step n cur r out₁ out₂ ignored₁ ignored₂ loops₁ loops₂ → m + n ≤ m'
      → ((start : ℕ) (d : Picker) (aside : List ℕ)
      → rest (state_of start d cur out₁ aside ignored₁ loops₁) ≡ after (step (state_of start d cur out₁ aside ignored₁ loops₁)))
      → RunRest Stands whole after m' t r out out₂ ignored ignored₂ loops loops₂
  run_next after m' y l e =
      record {
        is = λ start d aside g h. let a = c.kept.rises in
            ap after (y.is start d aside g (omega arith)) ∙ (sym (e start d aside) ∙ c.is start d aside g h);
        kept = kept_then c.kept y.kept;
        few = let a = c.few in let b = y.few in omega arith;
        given = let a = c.given in let b = y.given in omega arith;
        marks = y.marks ∙ c.marks;
        counters = y.counters ∙ c.counters;
      }

  pub run_end : (n : ℕ) → m ≤ n
      → ((start : ℕ) (d : Picker) (aside : List ℕ) → rest (state_of start d cur out₁ aside ignored₁ loops₁) ≡ state_of start d cur out₁ aside ignored₁ loops₁)
      → RunDid Stands whole n t cur out out₁ ignored ignored₁ loops loops₁
  run_end n l e =
      record {
        is = λ start d aside g h. sym (e start d aside) ∙ c.is start d aside g h;
        kept = c.kept;
        few = let a = c.few in omega arith;
        given = let a = c.given in omega arith;
        marks = c.marks;
        counters = c.counters;
      }

-- ---- the pieces of a span
-- the blocks of the pieces before piece k, and those of one more
pub part_blocks : (first k end b : ℕ) → first ≤ k → k < end → ((k - first) * b + b ≤ (k + 1 - first) * b) × ((k - first) * b + b ≤ (end - first) * b)
part_blocks first k end b l h =
    let x = k - first in
    let e : k + 1 - first ≡ suc x = omega arith in
    let m = mul-le-mul_right {m = suc x} {n = end - first} b (omega arith) in
    (rw e (omega arith), omega arith)

module _ {Stands : Picker → Type 0} (takes : ℕ → PickState → PickState) (first end b : ℕ) {t cur : PickNumbers} {out out₁ : List ℕ}
    {ignored ignored₁ : List Bool} {loops loops₁ : List ℕ} {k : ℕ} where
  pub span_next : {r : PickNumbers} {out₂ : List ℕ} {ignored₂ : List Bool} {loops₂ : List ℕ}
      → RunRest Stands (take_span takes (range first end)) (take_span takes (range k end)) ((k - first) * b) t cur out out₁ ignored ignored₁ loops loops₁
      → first ≤ k → k < end → RunDid Stands (span_step takes k) b cur r out₁ out₂ ignored₁ ignored₂ loops₁ loops₂
      → RunRest Stands (take_span takes (range first end)) (take_span takes (range (k + 1) end)) ((k + 1 - first) * b) t r out out₂ ignored ignored₂ loops loops₂
  unfolding take_span
  span_next c l h y =
      run_next c (take_span takes (range (k + 1) end)) ((k + 1 - first) * b) y (part_blocks first k end b l h).0
      (λ start d aside. each_next (span_step takes) k end (state_of start d cur out₁ aside ignored₁ loops₁) h)

  pub span_end : RunRest Stands (take_span takes (range first end)) (take_span takes (range k end)) ((k - first) * b) t cur out out₁ ignored ignored₁ loops loops₁
      → k ≤ end → end ≤ k → RunDid Stands (take_span takes (range first end)) ((end - first) * b) t cur out out₁ ignored ignored₁ loops loops₁
  unfolding take_span
  span_end c l h =
      run_end c ((end - first) * b) (mul-le-mul_right {m = k - first} {n = end - first} b (omega arith))
      (λ start d aside. each_none (span_step takes) k end (state_of start d cur out₁ aside ignored₁ loops₁) h)
