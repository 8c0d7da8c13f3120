-- What an Open piece adds, by its two ways. Assumes nothing.
use mathlib.Core.Path.{◌≡◌, refl, sym, ap, ◌∙◌}
use mathlib.Core.Bool.{Bool, true, false}
use mathlib.Core.List.{List}
use Prim.Native.Nat.{ℕ, ◌-◌, ◌*◌, ◌≤◌}
use native.Mathlib.Omega.{arith}
use Rattle.model.specs.Lists.{least, range, from, branch, for_each}
use Rattle.model.specs.State.{Picker, payload_blocks_in_piece}
use Rattle.model.specs.pick.Blocks.{Span, contiguous_is_zero, expand_piece, pieces_of, took, take_span, take_payload, add_new_piece}
use Rattle.memory_layout.specs.declared.shape.Shape.{Shape}
use Rattle.memory_fields.specs.Reading.{WordsSay}
use Rattle.pick_state.specs.declared.numbers.PickNumbers.{PickNumbers}
use Rattle.pick_state.specs.declared.request.PickRequest.{PickRequest}
use Rattle.pick_state.specs.Requests.{request_of}
use Rattle.pick_state.specs.PickStates.{contiguous_of, state_of, OutDid}
use Rattle.pick_free.specs.declared.spans.Span.{Span as Numbers}
use Rattle.pick_free.specs.Spans.{span_is, Expanded}
use Rattle.pick_new.specs.Runs.{InWords, InBuffers, MarksDid}
use Rattle.pick_new.proofs.InLaws.{in_words, words_say}

module _ (s : Shape) (words cells : List ℕ) (q : PickRequest) (bytes : List ℕ) (i : ℕ) (t : PickNumbers) (out : List ℕ) (ignored : List Bool) where
  -- without a run as many as are wanted
  pub new_few : (n many m : ℕ) {r : PickNumbers} {out' : List ℕ} → contiguous_is_zero (contiguous_of t) ≡ true
      → WordsSay s words (λ d. payload_blocks_in_piece d i) n → many ≡ least n t.left → many ≤ m
      → OutDid (for_each (took i) (from 0 many)) many t r out out'
      → MarksDid (InBuffers s words cells) (add_new_piece (request_of q bytes) i) m t r out out' ignored ignored
  unfolding add_new_piece state_of branch
  new_few n many m z e k l y loops =
      record {
        is = λ start d aside g h.
            let w = state_of start d t out aside ignored loops in
            y.is start d aside ignored loops h
            ∙ (ap (λ (x : ℕ). for_each (took i) (from 0 x) w) (k ∙ ap (λ (x : ℕ). least x t.left) (words_say (λ d. payload_blocks_in_piece d i) e d (in_words g)))
            ∙ sym (ap (λ (b : Bool). branch b (for_each (took i) (from 0 (least (payload_blocks_in_piece d i) t.left)))
            (take_span take_payload (pieces_of (expand_piece (request_of q bytes) i w))) w) z));
        kept = y.kept;
        few = let a = y.few in omega arith;
        given = let a = y.given in omega arith;
        marks = refl;
        counters = refl;
      }

  -- else the whole span around it
  pub new_span : (x : Numbers) (m : ℕ) {r : PickNumbers} {out' : List ℕ} {ignored' : List Bool} → contiguous_is_zero (contiguous_of t) ≡ false
      → Expanded s cells q bytes t i x → (x.end - x.first) * s.blocks ≤ m
      → MarksDid (InWords s words) (take_span take_payload (range x.first x.end)) ((x.end - x.first) * s.blocks) t r out out' ignored ignored'
      → MarksDid (InBuffers s words cells) (add_new_piece (request_of q bytes) i) m t r out out' ignored ignored'
  unfolding add_new_piece state_of branch pieces_of span_is
  new_span x m z e l y loops =
      let v = y loops in
      record {
        is = λ start d aside g h.
            let w = state_of start d t out aside ignored loops in
            let f : span_is x ≡ expand_piece (request_of q bytes) i w = e.is g.records words g.bounds start out aside ignored loops
            ∙ ap (λ (p : Picker). expand_piece (request_of q bytes) i (state_of start p t out aside ignored loops)) (sym g.is) in
            v.is start d aside (in_words g) h
            ∙ (ap (λ (p : Span). take_span take_payload (pieces_of p) w) f
            ∙ sym (ap (λ (b : Bool). branch b (for_each (took i) (from 0 (least (payload_blocks_in_piece d i) t.left)))
            (take_span take_payload (pieces_of (expand_piece (request_of q bytes) i w))) w) z));
        kept = v.kept;
        few = let a = v.few in omega arith;
        given = let a = v.given in omega arith;
        marks = v.marks;
        counters = v.counters;
      }
