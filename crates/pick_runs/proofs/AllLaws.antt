-- All blocks of a piece, and of the pieces of a span: the loops by what is left, the counters and the marks. Assumes nothing.
use mathlib.Core.Path.{◌≡◌, refl, sym, ap, subst, ◌∙◌}
use mathlib.Core.Bool.{Bool, true, false, not, ◌&&◌, true≢false}
use mathlib.Core.List.{List, [], ◌∷◌}
use Prim.Native.Nat.{ℕ, zero, suc, ◌+◌, ◌-◌, ◌*◌, ◌≤◌, ◌<◌}
use native.Mathlib.Nat.{mul-le-mul_right}
use native.Mathlib.Omega.{arith}
use lib.Dec.{eqb}
use lib.ListN.{length, get_or, length-set}
use lib.Seq.{get_or-set_same, get_or-set_other}
use Rattle.types.specs.Bits.{union}
use Rattle.model.specs.Lists.{bit, count, from, range, nth, set_nth, walk}
use Rattle.model.specs.Options.{random_pieces}
use Rattle.model.specs.State.{Picker, blocks_in_piece}
use Rattle.model.specs.pick.Blocks.{took, with_out, spent, steps, flagged, contiguous_above, contiguous_over, span_step, take_span}
use Rattle.model.specs.pick.Pick.{rand_step, take_all}
use Rattle.memory_layout.specs.declared.shape.Shape.{Shape}
use Rattle.memory_layout.specs.Decode.{blocks_of}
use Rattle.pick_state.specs.declared.numbers.PickNumbers.{PickNumbers}
use Rattle.pick_state.specs.PickStates.{contiguous_of, with_flags, with_given, state_of, OutDid}
use Rattle.pick_state.proofs.DidLaws.{kept_same, kept_then}
use Rattle.pick_state.proofs.RangeLaws.{range_all, walk_next, walk_stop, walk_none}
use Rattle.pick_new.specs.Runs.{InWords, RunDid}
use Rattle.pick_new.proofs.RunLaws.{shorter_run, marked_run, RunRest, run_start, run_next, run_end, part_blocks, span_next, span_end}
use Rattle.pick_runs.specs.Spans.{HasBlocks, marks, Counts, AllDid, SpanDid}

-- ---- counters
pub counts_none : (n : ℕ) (loops : List ℕ) → Counts n loops loops
counts_none n loops = record { blocks = omega arith; starts = refl }

-- a block more
pub counts_next : {n : ℕ} {loops loops₁ : List ℕ} → Counts n loops loops₁ → 5 < length loops₁
    → Counts (n + 1) loops (set_nth 5 (nth 0 loops₁ 5 + 1) loops₁)
unfolding set_nth nth
counts_next {loops₁ = loops₁} c l =
    record {
      blocks = let b = c.blocks in omega (arith, get_or-set_same loops₁ 5 (get_or loops₁ 5 0 + 1) 0 l);
      starts = get_or-set_other loops₁ 5 4 (get_or loops₁ 5 0 + 1) 0 (λ e. omega arith) ∙ c.starts;
    }

pub counts_then : {n m : ℕ} (k : ℕ) {loops loops₁ loops₂ : List ℕ} → Counts n loops loops₁ → Counts m loops₁ loops₂ → n + m ≤ k → Counts k loops loops₂
counts_then k c d l = record { blocks = let a = c.blocks in let b = d.blocks in omega arith; starts = d.starts ∙ c.starts }

-- ---- marks
pub marks_more : (l : List Bool) (k : ℕ) → k < length l → nth false l k ≡ false → marks (set_nth k true l) ≡ marks l + 1
unfolding marks count set_nth nth
marks_more [] k h e = absurd (omega arith)
marks_more (true ∷ l) zero h e = absurd (true≢false e)
marks_more (false ∷ l) zero h e = omega arith
marks_more (b ∷ l) (suc k) h e = omega (arith, marks_more l k (omega arith) e)

-- ---- one block, counted and taken
module _ (Stands : Picker → Type 0) (k j : ℕ) {cur r : PickNumbers} {out out' : List ℕ} (loops : List ℕ)
    (y : OutDid (took k j) 1 cur r out out') where
  pub rand_run : (ignored : List Bool) → RunDid Stands (rand_step k j) 1 cur r out out' ignored ignored loops (set_nth 5 (nth 0 loops 5 + 1) loops)
  unfolding rand_step steps state_of set_nth
  rand_run ignored =
      record {
        is = λ start d aside g h. y.is start d aside ignored (set_nth 5 (nth 0 loops 5 + 1) loops) h;
        kept = y.kept;
        few = y.few;
        given = y.given;
        marks = refl;
        counters = length-set loops 5 (nth 0 loops 5 + 1);
      }

  -- run and N after it, from the numbers
  pub over_rand : (start : ℕ) (d : Picker) (aside : List ℕ) (ignored : List Bool)
      → contiguous_over (rand_step k j (state_of start d cur out aside ignored loops)) ≡ (not (contiguous_above 0 (contiguous_of r)) && eqb r.left 0)
  unfolding contiguous_over spent rand_step steps took with_out state_of
  over_rand start d aside ignored = sym (ap contiguous_over (y.is cur.end d aside ignored loops (omega arith)))

-- ---- the blocks of a piece
-- the loop over them, with its counters
pub record AllRest (Stands : Picker → Type 0) (k n j : ℕ) (t cur : PickNumbers) (out out₁ loops loops₁ : List ℕ) : Type 0 where
  pub inside : j ≤ n
  pub run : (ignored : List Bool) → RunRest Stands (walk (rand_step k) contiguous_over (from 0 n)) (walk (rand_step k) contiguous_over (range j n)) j t cur
      out out₁ ignored ignored loops loops₁
  pub counts : Counts j loops loops₁

pub all_start : (Stands : Picker → Type 0) (k n : ℕ) (t : PickNumbers) (out loops : List ℕ) → AllRest Stands k n 0 t t out out loops loops
all_start Stands k n t out loops =
    record {
      inside = omega arith;
      run = λ ignored. rw (range_all n) (run_start Stands (walk (rand_step k) contiguous_over (from 0 n)) 0 t out ignored loops);
      counts = counts_none 0 loops;
    }

module _ {Stands : Picker → Type 0} {k n j : ℕ} {t cur : PickNumbers} {out out₁ loops loops₁ : List ℕ}
    (c : AllRest Stands k n j t cur out out₁ loops loops₁) {r : PickNumbers} {out₂ loops₂ : List ℕ} (h : j < n) (l : 5 < length loops₁)
    (y : OutDid (took k j) 1 cur r out₁ out₂) (x : loops₂ ≡ set_nth 5 (nth 0 loops₁ 5 + 1) loops₁) where
  -- the walk goes on
  pub all_next : (not (contiguous_above 0 (contiguous_of r)) && eqb r.left 0) ≡ false
      → AllRest Stands k n (j + 1) t r out out₂ loops loops₂
  all_next e =
      subst (AllRest Stands k n (j + 1) t r out out₂ loops) (sym x) (record {
        inside = omega arith;
        run = λ ignored. run_next (c.run ignored) (walk (rand_step k) contiguous_over (range (j + 1) n)) (j + 1) (rand_run Stands k j loops₁ y ignored)
            (omega arith) (λ start d aside. walk_next (rand_step k) j n (state_of start d cur out₁ aside ignored loops₁) contiguous_over h
            (over_rand Stands k j loops₁ y start d aside ignored ∙ e));
        counts = counts_next c.counts l;
      })

  -- or its step was the last
  pub all_stop : (not (contiguous_above 0 (contiguous_of r)) && eqb r.left 0) ≡ true
      → AllDid Stands (walk (rand_step k) contiguous_over (from 0 n)) n t r out out₂ loops loops₂
  all_stop e =
      subst (AllDid Stands (walk (rand_step k) contiguous_over (from 0 n)) n t r out out₂ loops) (sym x) (record {
        run = λ ignored. run_end (run_next (c.run ignored) (λ v. v) (j + 1) (rand_run Stands k j loops₁ y ignored)
            (omega arith) (λ start d aside. walk_stop (rand_step k) j n (state_of start d cur out₁ aside ignored loops₁) contiguous_over h
            (over_rand Stands k j loops₁ y start d aside ignored ∙ e))) n (omega arith) (λ start d aside. refl);
        counts = counts_then n (counts_next c.counts l) (counts_none 0 (set_nth 5 (nth 0 loops₁ 5 + 1) loops₁)) (omega arith);
      })

pub all_end : {Stands : Picker → Type 0} {k n j : ℕ} {t cur : PickNumbers} {out out₁ loops loops₁ : List ℕ}
    → AllRest Stands k n j t cur out out₁ loops loops₁ → n ≤ j → AllDid Stands (walk (rand_step k) contiguous_over (from 0 n)) n t cur out out₁ loops loops₁
all_end {k = k} {n = n} {j = j} {cur = cur} {out₁ = out₁} {loops₁ = loops₁} c h =
    record {
      run = λ ignored. run_end (c.run ignored) n c.inside (λ start d aside. walk_none (rand_step k) j n (state_of start d cur out₁ aside ignored loops₁) contiguous_over h);
      counts = counts_then n c.counts (counts_none 0 loops₁) (let l = c.inside in omega arith);
    }

-- with the flag set before
pub all_flagged : (k n : ℕ) {t u r : PickNumbers} {out out' loops loops' : List ℕ} → u ≡ with_flags (union t.flags random_pieces) t
    → AllDid (HasBlocks k n) (walk (rand_step k) contiguous_over (from 0 n)) n u r out out' loops loops'
    → AllDid (HasBlocks k n) (take_all k) n t r out out' loops loops'
unfolding take_all flagged state_of with_flags contiguous_of
all_flagged k n {t = t} {u = u} {r = r} {out = out} {out' = out'} {loops = loops} {loops' = loops'} e x =
    let ee = ap (λ (v : PickNumbers). v.end) e in
    let eg = ap (λ (v : PickNumbers). v.given) e in
    record {
      run = λ ignored. let y = x.run ignored in record {
        is = λ start d aside g h. y.is start d aside g (omega arith)
            ∙ (ap (λ (v : PickNumbers). walk (rand_step k) contiguous_over (from 0 n) (state_of start d v out aside ignored loops)) e
            ∙ ap (λ (m : ℕ). walk (rand_step k) contiguous_over (from 0 m) (flagged random_pieces (state_of start d t out aside ignored loops))) g);
        kept = kept_then (kept_same t u out ee) y.kept;
        few = let a = y.few in omega arith;
        given = let a = y.given in omega arith;
        marks = y.marks;
        counters = y.counters;
      };
      counts = x.counts;
    }

-- ---- a piece of a span
-- blocks by the words are the picker's
pub words_blocks : {s : Shape} {words : List ℕ} (k n : ℕ) → n ≡ blocks_of words k → (d : Picker) → InWords s words d → HasBlocks k n d
unfolding blocks_of blocks_in_piece
words_blocks k n e d h = rw h.is e

module _ {s : Shape} {words : List ℕ} {t r : PickNumbers} {out : List ℕ} {ignored : List Bool} {loops : List ℕ} (k : ℕ) where
  -- an ignored one
  pub short_span : nth false ignored k ≡ true → r ≡ with_given (t.given + 1) t → 1 ≤ s.blocks
      → SpanDid (InWords s words) (span_step take_all k) s.blocks (bit (not (nth false ignored k))) t r out out ignored ignored loops loops
  short_span e g l =
      record {
        run = shorter_run (InWords s words) take_all k s.blocks t out ignored loops r e g l;
        counts = counts_none s.blocks loops;
        marked = rw e (omega arith);
      }

  -- another
  pub all_span : (n : ℕ) {out' loops' : List ℕ} → nth false ignored k ≡ false → k < length ignored → n ≡ blocks_of words k → n ≤ s.blocks
      → AllDid (HasBlocks k n) (take_all k) n t r out out' loops loops'
      → SpanDid (InWords s words) (span_step take_all k) s.blocks (bit (not (nth false ignored k))) t r out out' ignored (set_nth k true ignored) loops loops'
  unfolding set_nth
  all_span n e l b m x =
      let y = x.run (set_nth k true ignored) in
      record {
        run = marked_run (InWords s words) take_all k s.blocks t out ignored loops e (length-set ignored k true) (record {
          is = λ start d aside g h. y.is start d aside (words_blocks k n b d g) h;
          kept = y.kept;
          few = let a = y.few in omega arith;
          given = let a = y.given in omega arith;
          marks = y.marks;
          counters = y.counters;
        });
        counts = counts_then s.blocks x.counts (counts_none 0 _) (omega arith);
        marked = rw e (marks_more ignored k l e);
      }

-- ---- the pieces of a span
pub record SpanRest (Stands : Picker → Type 0) (first end k b m : ℕ) (t cur : PickNumbers) (out out₁ : List ℕ) (ignored ignored₁ : List Bool)
    (loops loops₁ : List ℕ) : Type 0 where
  pub since : first ≤ k
  pub inside : k ≤ end
  pub run : RunRest Stands (take_span take_all (range first end)) (take_span take_all (range k end)) ((k - first) * b) t cur out out₁ ignored ignored₁ loops loops₁
  pub counts : Counts ((k - first) * b) loops loops₁
  pub marked : marks ignored₁ ≡ marks ignored + m
  pub few : m ≤ k - first

pub spans_start : (Stands : Picker → Type 0) (first end b : ℕ) (t : PickNumbers) (out : List ℕ) (ignored : List Bool) (loops : List ℕ) → first ≤ end
    → SpanRest Stands first end first b 0 t t out out ignored ignored loops loops
spans_start Stands first end b t out ignored loops l =
    record {
      since = omega arith;
      inside = l;
      run = run_start Stands (take_span take_all (range first end)) ((first - first) * b) t out ignored loops;
      counts = counts_none ((first - first) * b) loops;
      marked = omega arith;
      few = omega arith;
    }

module _ {Stands : Picker → Type 0} {first end k b m : ℕ} {t cur : PickNumbers} {out out₁ : List ℕ} {ignored ignored₁ : List Bool}
    {loops loops₁ : List ℕ} (c : SpanRest Stands first end k b m t cur out out₁ ignored ignored₁ loops loops₁) where
  pub spans_next : {r : PickNumbers} {out₂ : List ℕ} {ignored₂ : List Bool} {loops₂ : List ℕ} (was : Bool) (m' : ℕ) → k < end
      → m' ≡ m + bit (not was) → SpanDid Stands (span_step take_all k) b (bit (not was)) cur r out₁ out₂ ignored₁ ignored₂ loops₁ loops₂
      → SpanRest Stands first end (k + 1) b m' t r out out₂ ignored ignored₂ loops loops₂
  spans_next was m' h e y =
      let l = (part_blocks first k end b c.since h).0 in
      let f = c.few in
      let s = c.since in
      let o = bit_few (not was) in
      record {
        since = omega arith;
        inside = omega arith;
        run = span_next take_all first end b c.run c.since h y.run;
        counts = counts_then ((k + 1 - first) * b) c.counts y.counts l;
        marked = y.marked ∙ (let x = c.marked in omega arith);
        few = omega arith;
      }
    where
      bit_few : (q : Bool) → bit q ≤ 1
      bit_few true = omega arith
      bit_few false = omega arith

  pub spans_end : end ≤ k
      → SpanDid Stands (take_span take_all (range first end)) ((end - first) * b) m t cur out out₁ ignored ignored₁ loops loops₁
  spans_end h =
      record {
        run = span_end take_all first end b c.run c.inside h;
        counts = counts_then ((end - first) * b) c.counts (counts_none 0 loops₁)
            (let i = c.inside in let x = mul-le-mul_right {m = k - first} {n = end - first} b (omega arith) in omega arith);
        marked = c.marked;
      }
