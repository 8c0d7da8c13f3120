-- What a pick starts from is the definition's start, and there is room for it. Assumes nothing.
use mathlib.Core.Path.{◌≡◌, refl, sym, ap, ap₂, ◌∙◌}
use mathlib.Core.Bool.{Bool, true, false, cond}
use mathlib.Core.List.{List, []}
use Prim.Native.Nat.{ℕ, ◌+◌, ◌-◌, ◌≤◌}
use native.Mathlib.Omega.{arith}
use lib.Dec.{ltb}
use lib.ListN.{length, take, drop, replicate}
use Rattle.types.specs.Bits.{union}
use Rattle.types.specs.declared.options.PickerOptions.{PickerOptions}
use Rattle.model.specs.Lists.{each, len, when}
use Rattle.model.specs.State.{Picker, max_pieces}
use Rattle.model.specs.Options.{num_counters, prioritize_partials, partial_ratio, prefer_contiguous}
use Rattle.model.specs.pick.Blocks.{PickRequest, PieceBlock, PickState, start_state, flagged}
use Rattle.model.specs.pick.Pick.{is_forced, forced_request, effective_request, start_pick}
use Rattle.pick_state.specs.declared.numbers.PickNumbers.{PickNumbers}
use Rattle.pick_state.specs.declared.request.PickRequest.{PickRequest as Request}
use Rattle.pick_state.specs.PickStates.{contiguous_of, block_from, blocks_between, with_flags, state_of}
use Rattle.pick_state.specs.Room.{Underway}
use Rattle.pick_state.proofs.TakeLaws.{between_length}
use Rattle.pick_start.specs.Starting.{request_with, forced_numbers, effective_numbers, first_numbers, flagged_where, start_numbers}

-- ---- what is asked
-- the rule forces it
pub forced_made : (q : Request) (options : PickerOptions) → options.0 ≡ union q.options.0 prioritize_partials → (forced : Bool) →
    forced ≡ true
    → record {
      options = options;
      wanted = q.wanted;
      contiguous = 0;
      peers = q.peers;
      has_peer = q.has_peer;
      peer = q.peer;
      bits
          = q.bits;
    }
    ≡ effective_numbers forced q
unfolding effective_numbers forced_numbers
forced_made q options e forced f =
    ap (λ (n : ℕ). record {
      options = record { 0 = n };
      wanted = q.wanted;
      contiguous = 0;
      peers = q.peers;
      has_peer = q.has_peer;
      peer = q.peer;
      bits = q.bits;
    }) e
    ∙ sym (ap (λ (b : Bool). effective_numbers b q) f)

-- or not
pub forced_kept : (q : Request) (forced : Bool) → forced ≡ false → q ≡ effective_numbers forced q
unfolding effective_numbers
forced_kept q forced f = sym (ap (λ (b : Bool). effective_numbers b q) f)

module _ (d : Picker) (q : Request) (bytes suggestions : List ℕ) where
  effective_by : (b : Bool) → cond b (forced_request (request_with q bytes suggestions)) (request_with q bytes suggestions)
      ≡ request_with (effective_numbers b q) bytes suggestions
  unfolding request_with forced_request effective_numbers forced_numbers
  effective_by true = refl
  effective_by false = refl

  -- after the rule, by the code's numbers
  pub effective_is : (forced : Bool) → forced ≡ is_forced d (request_with q bytes suggestions)
      → effective_request d (request_with q bytes suggestions) ≡ request_with (effective_numbers forced q) bytes suggestions
  unfolding effective_request
  effective_is forced e =
      effective_by (is_forced d (request_with q bytes suggestions)) ∙ ap
      (λ (b : Bool). request_with (effective_numbers b q) bytes suggestions) (sym e)

-- ---- the start
empty_between : (end : ℕ) (words : List ℕ) → blocks_between end end words ≡ []
unfolding blocks_between each
empty_between end words =
    let z : end - end ≡ 0 = omega arith in
    ap (λ (n : ℕ). each block_from (take n (drop end words))) z ∙ refl

module _ (d : Picker) (end : ℕ) (out aside : List ℕ) (ignored : List Bool) (loops : List ℕ) where
  abbrev state : PickNumbers → PickState
  state t = state_of end d t out aside ignored loops

  -- no block, so many marks and counters
  bare : (q : Request) (o b : List PieceBlock) (i : List Bool) (l : List ℕ) → PickState
  bare q o b i l =
      record {
        picker = d;
        used = 0;
        left = q.wanted;
        contiguous = record { asked = q.contiguous; given = 0 };
        out = o;
        backup = b;
        ignored = i;
        flags = 0;
        loops = l;
      }

  first_is : (q : Request) (bytes suggestions : List ℕ) → ignored ≡ replicate max_pieces false → loops ≡ replicate num_counters 0
      → state (first_numbers q end) ≡ start_state d (request_with q bytes suggestions)
  unfolding state_of first_numbers start_state request_with contiguous_of bare
  first_is q bytes suggestions ei el =
      ap₂ (λ (o b : List PieceBlock). bare q o b ignored loops) (empty_between end out) (empty_between 0 aside)
      ∙ ap₂ (λ (i : List Bool) (l : List ℕ). bare q [] [] i l) ei el

  flagged_is : (test : Bool) (flag : ℕ) (t : PickNumbers) → state (flagged_where test flag t) ≡ when test (flagged flag) (state t)
  unfolding flagged_where when flagged state_of with_flags contiguous_of
  flagged_is true flag t = refl
  flagged_is false flag t = refl

  -- the definition's start
  pub start_is : ignored ≡ replicate max_pieces false → loops ≡ replicate num_counters 0 → (q : Request) (bytes suggestions : List ℕ)
      (forced : Bool)
      → forced ≡ is_forced d (request_with q bytes suggestions)
      → state (start_numbers (effective_numbers forced q) forced end) ≡ start_pick d (request_with q bytes suggestions)
  unfolding start_numbers start_pick request_with
  start_is ei el q bytes suggestions forced e =
      let a = request_with q bytes suggestions in
      let p = effective_numbers forced q in
      flagged_is forced partial_ratio (flagged_where (ltb 0 p.contiguous) prefer_contiguous (first_numbers p end))
      ∙ ap (when forced (flagged partial_ratio)) (flagged_is (ltb 0 p.contiguous) prefer_contiguous (first_numbers p end)
      ∙ ap (when (ltb 0 p.contiguous) (flagged prefer_contiguous)) (first_is p bytes suggestions ei el)
      ∙ ap (λ (x : PickRequest). when (ltb 0 x.contiguous) (flagged prefer_contiguous) (start_state d x))
      (sym (effective_is d q bytes suggestions forced e)))
      ∙ ap (λ (b : Bool). when b (flagged partial_ratio) (when (ltb 0 (effective_request d a).contiguous) (flagged prefer_contiguous)
      (start_state d (effective_request d a)))) e

-- ---- the room
-- the numbers at the start
pub record Begun (q : Request) (start : ℕ) (t : PickNumbers) : Type 0 where
  pub left : t.left ≡ q.wanted
  pub asked : t.asked ≤ q.contiguous
  pub given : t.given ≡ 0
  pub used : t.used ≡ 0
  pub end : t.end ≡ start
  pub aside : t.aside ≡ 0

flag_begun : (q : Request) (end : ℕ) (t : PickNumbers) (test : Bool) (flag : ℕ) → Begun q end t → Begun q end (flagged_where test flag t)
unfolding flagged_where with_flags
flag_begun q end t true flag b =
    record { left = b.left; asked = b.asked; given = b.given; used = b.used; end = b.end; aside = b.aside }
flag_begun q end t false flag b = b

first_begun : (q : Request) (end : ℕ) (forced : Bool) → Begun q end (first_numbers (effective_numbers forced q) end)
unfolding first_numbers effective_numbers forced_numbers
first_begun q end true = record { left = refl; asked = omega arith; given = refl; used = refl; end = refl; aside = refl }
first_begun q end false = record { left = refl; asked = omega arith; given = refl; used = refl; end = refl; aside = refl }

pub start_begun : (q : Request) (end : ℕ) (forced : Bool) → Begun q end (start_numbers (effective_numbers forced q) forced end)
unfolding start_numbers
start_begun q end forced =
    flag_begun q end _ forced partial_ratio
    (flag_begun q end _ (ltb 0 (effective_numbers forced q).contiguous) prefer_contiguous (first_begun q end forced))

-- a pick that begins is under way
pub start_underway : (d : Picker) (q : Request) (end : ℕ) (t : PickNumbers) → Begun q end t → (out aside : List ℕ) (ignored : List Bool)
    (loops : List ℕ)
    → q.wanted ≤ 2048 → q.contiguous ≤ 2048 → end + q.wanted + q.contiguous + 255 ≤ length out → q.wanted + 256 ≤ length aside
    → length ignored ≡ 4096 → length loops ≡ 7 → Underway d t out aside ignored loops
unfolding state_of contiguous_of len
start_underway d q end t b out aside ignored loops hn hr room la li ll =
    let el = b.left in
    let ee = b.end in
    let eg = b.given in
    let es = b.aside in
    let none = between_length end t.end out (omega arith) in
    let none' = between_length 0 t.aside aside (omega arith) in
    record {
      start = end;
      wanted = q.wanted;
      run = q.contiguous;
      working = record {
        since = omega arith;
        within = omega arith;
        roomy = record {
          wanted = hn;
          run = hr;
          rest = omega arith;
          few = omega arith;
          backup = omega arith;
          asked = b.asked;
          given = omega arith;
          marks = li;
          counters = ll;
          room = room;
          room_aside = omega arith;
          within_aside = omega arith;
        };
      };
    }
