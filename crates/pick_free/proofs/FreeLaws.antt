-- Which pieces may be picked: the tests put together, the walks that go by them, and the span that these give. Assumes nothing.
use mathlib.Core.Path.{◌≡◌, refl, sym, ap, ◌∙◌}
use mathlib.Core.Bool.{Bool, true, false, cond, not, ◌&&◌}
use mathlib.Core.List.{List, []}
use Prim.Native.Nat.{ℕ, zero, suc, ◌+◌, ◌-◌, ◌*◌, ◌%◌, ◌≤◌, ◌<◌}
use native.Mathlib.Nat.{div-le_self}
use native.Mathlib.Numerals.{add-one}
use native.Mathlib.Omega.{arith}
use lib.Dec.{eqb, ltb}
use borrow.Author.Tests.{ltb-true}
use Rattle.model.specs.Lists.{least, len}
use Rattle.model.specs.Bep3.{bit_at}
use Rattle.model.specs.Options.{align_expanded_pieces}
use Rattle.model.specs.State.{Picker, is_open, same_queue, piece_at, pieces_in, blocks_per_piece}
use Rattle.model.specs.pick.Blocks.{PickRequest, option, has_bit, is_piece_free, can_pick, down_by, up_by, Span, alone, lowest_start}
use Rattle.model.specs.pick.Blocks.{span_from, span_of, whole_pieces, expand_piece, pieces_of}
use Rattle.types.specs.Queue.{queue_number}
use Rattle.types.specs.Bits.{meets}
use Rattle.model.proofs.base.Truths.{and_left}
use Rattle.pick_laws.proofs.SpanLaws.{span_around, pieces_size, span_blocks}
use Rattle.geometry.proofs.ValidLaws.{bounds}
use Rattle.memory_records.specs.declared.record.DownloadingPiece.{DownloadingPiece as Record}
use Rattle.memory_records.specs.Rows.{records_in}
use Rattle.memory_layout.specs.declared.shape.Shape.{Shape}
use Rattle.memory_layout.specs.Decode.{head_word, blocks_on, decode}
use Rattle.memory_layout.specs.Bounds.{InBounds}
use Rattle.memory_layout.proofs.Meanings.{pieces_number}
use Rattle.memory_fields.specs.Reading.{CellsSay}
use Rattle.pick_state.specs.declared.numbers.PickNumbers.{PickNumbers}
use Rattle.pick_state.specs.declared.request.PickRequest.{PickRequest as Request}
use Rattle.pick_state.specs.Requests.{request_of}
use Rattle.pick_state.specs.PickStates.{contiguous_of, state_of}
use Rattle.pick_free.specs.declared.spans.Span.{Span as Numbers}
use Rattle.pick_free.specs.Picking.{Picks, PicksCells}
use Rattle.pick_free.specs.Spans.{span_is, Expanded}

-- ---- what a picker that stands gives
module _ (s : Shape) (records : List Record) (words cells : List ℕ) (g : InBounds s records words cells) where
  -- a piece has a block
  pub block_there : 1 ≤ s.blocks
  unfolding blocks_on
  block_there = omega (arith, g.blocks, (bounds (head_word words 0) (head_word words 1) g.geometry).some_blocks)

  -- as many as the shape says
  pub blocks_each : blocks_per_piece (decode records words cells) ≡ s.blocks
  unfolding blocks_on blocks_per_piece
  blocks_each = sym g.blocks

-- what the tests of a piece rely on
pub picks_cells : (s : Shape) (live : ℕ) (rows words cells : List ℕ) (q : Request) → Picks s live rows words cells q → PicksCells s cells q
picks_cells s live rows words cells q p =
    let g = p.asked.stands.bounds in
    record { span = g.spans.in_cells; bits = p.bits; some = block_there s (records_in live rows) words cells g }

-- ---- one piece
unset : (r : Bool) → not r ≡ true → r ≡ false
unset true e = sym e
unset false e = refl

is_set : (r : Bool) → not r ≡ false → r ≡ true
is_set true e = refl
is_set false e = sym e

module _ (q : Request) (bytes : List ℕ) (i : ℕ) where
  -- what has a bit is a piece
  pub bit_inside : has_bit (request_of q bytes) i ≡ true → i < q.bits
  unfolding has_bit request_of
  bit_inside h = ltb-true i q.bits (and_left (ltb i q.bits) (bit_at bytes i) h)

  -- so is what is free
  pub free_inside : (d : Picker) → is_piece_free (request_of q bytes) d i ≡ true → i < q.bits
  unfolding is_piece_free
  free_inside d h = bit_inside (and_left (has_bit (request_of q bytes) i) _ h)

  module _ (s : Shape) (cells : List ℕ) (has : Bool) (e : has ≡ has_bit (request_of q bytes) i) where
    -- what has its bit set is a piece of the picker
    pub piece_inside : q.bits ≡ s.pieces → not has ≡ false → i < s.pieces
    piece_inside b h = omega (arith, bit_inside (sym e ∙ is_set has h))

    pub free_no : not has ≡ true → CellsSay s cells (λ d. is_piece_free (request_of q bytes) d i) false
    unfolding is_piece_free
    free_no h = record { is = λ records words g. rw (sym e ∙ unset has h) }

    pub pick_no : not has ≡ true → CellsSay s cells (λ d. can_pick (request_of q bytes) d i) false
    unfolding can_pick is_piece_free
    pick_no h = record { is = λ records words g. rw (sym e ∙ unset has h) }

    module _ (h : not has ≡ false) (wanted : Bool)
        (w : CellsSay s cells (λ d. not (piece_at d i).flushed && not (eqb (piece_at d i).priority 0)) wanted) where
      pub free_yes : CellsSay s cells (λ d. is_piece_free (request_of q bytes) d i) wanted
      unfolding is_piece_free
      free_yes = record { is = λ records words g. rw (sym e ∙ is_set has h) (w.is records words g) }

      pub pick_yes : (state : ℕ) → CellsSay s cells (λ d. queue_number (piece_at d i).state) state
          → CellsSay s cells (λ d. can_pick (request_of q bytes) d i) (wanted && eqb state 4)
      unfolding can_pick is_piece_free is_open same_queue
      pick_yes state x = record {
        is = λ records words g. rw (sym e ∙ is_set has h, w.is records words g, x.is records words g);
      }

-- ---- walks by a test
-- two numbers of the picker that the cells tell of are the same, beside any records and words in bounds
pub record SameTold (s : Shape) (cells : List ℕ) (f g : Picker → ℕ) : Type 0 where
  pub is : (records : List Record) (words : List ℕ) → InBounds s records words cells
      → f (decode records words cells) ≡ g (decode records words cells)

pub same_start : (s : Shape) (cells : List ℕ) (f : Picker → ℕ) → SameTold s cells f f
same_start s cells f = record { is = λ records words b. refl }

-- the whole walk is left, down and up
pub same_down : (s : Shape) (cells : List ℕ) (a : PickRequest) (n i : ℕ) → n ≤ i
    → SameTold s cells (λ d. down_by a d (i - (i - n)) i) (λ d. down_by a d n i)
same_down s cells a n i h = let e : i - (i - n) ≡ n = omega arith in rw e (same_start s cells (λ d. down_by a d n i))

pub same_up : (s : Shape) (cells : List ℕ) (a : PickRequest) (n k : ℕ)
    → SameTold s cells (λ d. up_by a d (k + n - k) k) (λ d. up_by a d n k)
same_up s cells a n k = let e : k + n - k ≡ n = omega arith in rw e (same_start s cells (λ d. up_by a d n k))

-- what is left is f: f' where the test passes, else x
module _ (s : Shape) (cells : List ℕ) (f f' g : Picker → ℕ) (test : Picker → Bool) (x : ℕ)
    (step : (d : Picker) → f d ≡ cond (test d) (f' d) x) (c : SameTold s cells f g) (r : Bool) (told : CellsSay s cells test r) where
  pub turn_next : not r ≡ false → SameTold s cells f' g
  turn_next h = record {
    is = λ records words b.
        let d = decode records words cells in
        sym (step d ∙ rw (sym (told.is records words b) ∙ is_set r h) refl) ∙ c.is records words b;
  }

  pub turn_stop : not r ≡ true → CellsSay s cells g x
  turn_stop h = record {
    is = λ records words b.
        let d = decode records words cells in
        sym (step d ∙ rw (sym (told.is records words b) ∙ unset r h) refl) ∙ c.is records words b;
  }

-- nothing is left
pub turn_end : (s : Shape) (cells : List ℕ) (f g : Picker → ℕ) (x : ℕ) → ((d : Picker) → f d ≡ x) → SameTold s cells f g
    → CellsSay s cells g x
turn_end s cells f g x e c = record { is = λ records words b. sym (e (decode records words cells)) ∙ c.is records words b }

module _ (a : PickRequest) (d : Picker) where
  -- one step down, of n that are left
  pub down_step : (n i : ℕ) → 0 < n → down_by a d n i ≡ cond (can_pick a d (i - 1)) (down_by a d (n - 1) (i - 1)) i
  unfolding down_by
  down_step zero i h = absurd (omega arith)
  down_step (suc n) i h = let e : suc n - 1 ≡ n = omega arith in rw e refl

  -- one step down, of those that are left to low
  pub down_step_to : (low i : ℕ) → low < i → down_by a d (i - low) i ≡ cond (can_pick a d (i - 1)) (down_by a d (i - 1 - low) (i - 1)) i
  unfolding down_by
  down_step_to low i h = let e : i - low ≡ suc (i - 1 - low) = omega arith in rw e refl

  pub down_none : (n i : ℕ) → n ≡ 0 → down_by a d n i ≡ i
  unfolding down_by
  down_none n i e = rw e refl

  -- one step up, of n that are left
  pub up_step : (n k : ℕ) → 0 < n → up_by a d n k ≡ cond (can_pick a d k) (up_by a d (n - 1) (k + 1)) k
  unfolding up_by
  up_step zero k h = absurd (omega arith)
  up_step (suc n) k h = let e : suc n - 1 ≡ n = omega arith in rw (e, add-one k) refl

  -- one step up, of those that are left to top
  pub up_step_to : (top k : ℕ) → k < top → up_by a d (top - k) k ≡ cond (can_pick a d k) (up_by a d (top - (k + 1)) (k + 1)) k
  unfolding up_by
  up_step_to top k h = let e : top - k ≡ suc (top - (k + 1)) = omega arith in rw (e, add-one k) refl

  pub up_none : (n k : ℕ) → n ≡ 0 → up_by a d n k ≡ k
  unfolding up_by
  up_none n k e = rw e refl

-- ---- the span
-- few pieces hold a run
pub whole_few : (b : ℕ) (t : PickNumbers) (n : ℕ) → n ≡ whole_pieces b (contiguous_of t) → t.asked < 4294967296 → b ≤ 256 → n < 8589934592
unfolding whole_pieces contiguous_of
whole_few b t n e h w = omega (arith, e, div-le_self (t.asked - t.given + b - 1) b)

pub above_none : (n : ℕ) → (n ≡ 0 → ⊥) → 0 < n
above_none n h = omega arith

module _ (s : Shape) (cells : List ℕ) (q : Request) (bytes : List ℕ) (i : ℕ) where
  -- from where it starts to where it ends
  pub span_told : (n : ℕ) → 0 < n → (aligned : Bool) → aligned ≡ meets q.options.0 align_expanded_pieces
      → (lowest : ℕ) → lowest ≡ cond aligned (i - i % n) (i + 1 - n)
      → (first : ℕ) → CellsSay s cells (λ d. down_by (request_of q bytes) d (i - lowest) i) first
      → (most : ℕ) → most ≡ least (cond aligned lowest first + n) s.pieces → (more : ℕ) → more ≡ most - (i + 1)
      → (r : Numbers) → CellsSay s cells (λ d. up_by (request_of q bytes) d more (i + 1)) r.end → r.first ≡ first
      → CellsSay s cells (λ d. span_of (request_of q bytes) d i n) (span_is r)
  unfolding span_of span_from lowest_start option request_of span_is
  span_told zero h aligned ea lowest el first cf most em more ee r cu er = absurd (omega arith)
  span_told (suc n) h aligned ea lowest el first cf most em more ee r cu er = record {
    is = λ records words b.
        let d = decode records words cells in
        let a = request_of q bytes in
        let low = lowest_start a i (suc n) in
        let down = down_by a d (i - low) i in
        let top = least (cond (option align_expanded_pieces a) low down + suc n) (pieces_in d) in
        let l : lowest ≡ low = el ∙ rw (ea, add-one i) refl in
        let f : first ≡ down = cf.is records words b ∙ ap (λ (m : ℕ). down_by a d (i - m) i) l in
        let p = sym (pieces_number s records words cells b) in
        let e : more ≡ top - suc i = ee ∙ rw (em, ea, l, f, p, add-one i) refl in
        let u : r.end ≡ up_by a d (top - suc i) (suc i) =
        cu.is records words b ∙ (ap (λ (m : ℕ). up_by a d m (i + 1)) e ∙ rw (add-one i) refl) in
        λ m. record { first = (er ∙ f) m; end = u m };
  }

  -- the span that holds the run, by how many whole pieces do
  module _ (t : PickNumbers) (n : ℕ) (e : n ≡ whole_pieces s.blocks (contiguous_of t)) (r : Numbers) where
    -- of none, the piece alone
    pub expand_none : n ≡ 0 → r.first ≡ i → r.end ≡ i + 1 → Expanded s cells q bytes t i r
    unfolding expand_piece state_of span_of alone span_is
    expand_none z ef ee = record {
      is = λ records words b start out aside ignored loops.
          rw (blocks_each s records words cells b, sym e ∙ z)
          (λ m. record { first = ef m; end = (ee ∙ add-one i) m });
    }

    pub expand_some : CellsSay s cells (λ d. span_of (request_of q bytes) d i n) (span_is r) → Expanded s cells q bytes t i r
    unfolding expand_piece state_of
    expand_some x = record {
      is = λ records words b start out aside ignored loops.
          x.is records words b ∙ rw (blocks_each s records words cells b, sym e);
    }

  -- ---- what a span is like
  -- it holds the piece and ends in the torrent; its pieces hold fewer than a piece's blocks more than what is left of the run
  pub record Around (t : PickNumbers) (r : Numbers) : Type 0 where
    pub from : r.first ≤ i
    pub to : i < r.end
    pub inside : r.end ≤ s.pieces
    pub few : (r.end - r.first) * s.blocks ≤ t.asked - t.given + s.blocks

  pub expanded_around : (t : PickNumbers) (r : Numbers) → Expanded s cells q bytes t i r → (records : List Record) (words : List ℕ)
      → InBounds s records words cells → i < s.pieces → Around t r
  unfolding expand_piece state_of span_is contiguous_of
  expanded_around t r x records words b h =
      let d = decode records words cells in
      let a = request_of q bytes in
      let n = whole_pieces s.blocks (contiguous_of t) in
      let e : span_is r ≡ span_of a d i n = x.is records words b 0 [] [] [] [] ∙ rw (blocks_each s records words cells b) refl in
      let f = ap (λ (y : Span). y.first) e in
      let l = ap (λ (y : Span). y.end) e in
      let w = span_around a d i n in
      let p = pieces_number s records words cells b in
      let y = span_blocks a d i s.blocks (contiguous_of t) (block_there s records words cells b) in
      let z = pieces_size (span_of a d i n) in
      let k : len (pieces_of (span_of a d i n)) ≡ r.end - r.first = omega arith in
      record {
        from = omega (arith, w.1.from);
        to = omega (arith, w.1.to);
        inside = omega (arith, w.1.inside (omega arith));
        few = rw k at y;
      }
