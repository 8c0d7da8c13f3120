-- Partial k of a picker, by its row: its piece, flags and blocks, and what it adds. Assumes nothing.
use mathlib.Core.Path.{◌≡◌, refl, sym, ap, ap₂, ◌∙◌}
use mathlib.Core.Bool.{Bool, true, false, not, ◌&&◌, ◌||◌}
use mathlib.Core.List.{List}
use Prim.Native.Nat.{ℕ, ◌/◌, ◌%◌, ◌≤◌, ◌<◌}
use native.Mathlib.Omega.{arith}
use lib.Dec.{eqb}
use Rattle.types.specs.Bits.{meets}
use Rattle.types.specs.Peer.{named_peer}
use Rattle.model.specs.Lists.{when}
use Rattle.model.specs.Bep3.{bit_of, num_pieces, piece_blocks}
use Rattle.model.specs.State.{DownloadingPiece}
use Rattle.model.specs.Options.{on_parole}
use Rattle.model.specs.pick.Blocks.{PickRequest, PickState, option, has_bit, requested_from, use_free, add_blocks_downloading}
use Rattle.model.proofs.base.Bep3Laws.{blocks_in_piece_pos}
use Rattle.geometry.proofs.ValidLaws.{bounds}
use Rattle.memory_records.specs.declared.record.DownloadingPiece.{DownloadingPiece as Record}
use Rattle.memory_records.specs.Rows.{row_at, records_in}
use Rattle.memory_layout.specs.declared.shape.Shape.{Shape}
use Rattle.memory_layout.specs.Tables.{tabulate}
use Rattle.memory_layout.specs.Decode.{head_word, record_at, pieces_on, blocks_of, block_held, blocks_held}
use Rattle.memory_layout.specs.Changes.{partial_in}
use Rattle.memory_layout.specs.Bounds.{ShapeOf, Spans}
use Rattle.memory_layout.proofs.Meanings.{partial_piece_is, locked_is, blocks_are}
use Rattle.memory_layout.proofs.BoundsLaws.{blocks_within}
use Rattle.memory_rows.specs.Lookup.{picker_in}
use Rattle.ask_picker.specs.Asked.{Asked}
use Rattle.ask_picker.proofs.AskedLaws.{asked_queues}
use Rattle.ask_picker.proofs.RecordRows.{record_row}
use Rattle.pick_state.specs.declared.request.PickRequest.{PickRequest as Request}
use Rattle.pick_state.specs.declared.numbers.PickNumbers.{PickNumbers}
use Rattle.pick_state.specs.Requests.{request_of}
use Rattle.pick_state.specs.PickStates.{state_of}
use Rattle.pick_partial.specs.Adding.{BlocksDid, PlainAt, FreeDid}
use Rattle.pick_partial.proofs.AddingLaws.{blocks_none, blocks_as}

-- ---- the row of a partial
module _ (s : Shape) (live : ℕ) (rows words cells : List ℕ) (g : Asked s live rows words cells) (k : ℕ) (h : k < live) where
  abbrev this : DownloadingPiece
  this = partial_in (picker_in live rows words cells) k

  counted : k < head_word words 7
  counted = let m = g.many in omega arith

  row_is : record_at (records_in live rows) k ≡ row_at rows k
  row_is = record_row live rows k h

  pub row_few : k < 512
  row_few = omega (arith, (asked_queues s live rows words cells g).few)

  pub row_piece : (row_at rows k).index < s.pieces
  unfolding row_at
  row_piece = (asked_queues s live rows words cells g).there k h

  pub row_place : (row_at rows k).info_idx < s.places
  row_place = omega (arith, ap (λ (r : Record). r.info_idx) row_is, g.stands.bounds.placed k counted)

  pub this-piece : this.piece ≡ (row_at rows k).index
  this-piece = partial_piece_is s (records_in live rows) words cells g.stands.bounds k counted ∙ ap (λ (r : Record). r.index) row_is

  pub this-locked : this.locked ≡ bit_of (row_at rows k).flags 1
  this-locked =
      locked_is s (records_in live rows) words cells g.stands.bounds k counted ∙ ap (λ (r : Record). bit_of r.flags 1) row_is

  pub this-blocks : this.blocks
      ≡ tabulate (blocks_of words (row_at rows k).index) (block_held words cells s.pieces s.blocks (row_at rows k).info_idx)
  unfolding blocks_held
  this-blocks =
      blocks_are s (records_in live rows) words cells g.stands.bounds k counted
      ∙ ap (λ (r : Record). tabulate (blocks_of words r.index) (block_held words cells s.pieces s.blocks r.info_idx)) row_is

  pub plain_at : PlainAt s cells (row_at rows k).info_idx (blocks_of words (row_at rows k).index)
  plain_at = rw (← row_is) (record {
    plain = λ j l. ((g.stands.plain.partials k counted).blocks j l).state;
  })

  -- it has a block
  pub some_blocks : 1 ≤ blocks_of words (row_at rows k).index
  unfolding blocks_of pieces_on
  some_blocks =
      let e = g.stands.bounds.pieces in
      let l = row_piece in
      blocks_in_piece_pos (head_word words 0) (head_word words 1) (row_at rows k).index
      (omega (arith, bounds (head_word words 0) (head_word words 1) g.stands.bounds.geometry)) (omega arith)

  pub few_blocks : blocks_of words (row_at rows k).index ≤ s.blocks
  few_blocks = blocks_within s (records_in live rows) words cells g.stands.bounds (row_at rows k).index

  -- what taking its blocks asks for, by the numbers of its row
  pub plain_there : (i p many : ℕ) → i ≡ (row_at rows k).index → p ≡ (row_at rows k).info_idx → many ≡ blocks_of words i
      → (Spans s words cells × PlainAt s cells p many) × ((i < 4096) × (p < s.places) × (many ≤ s.blocks) × (0 < many))
  plain_there i p many ei ep em =
      let c : many ≡ blocks_of words (row_at rows k).index = em ∙ ap (blocks_of words) ei in
      let a = row_piece in
      let b = row_place in
      let n = g.stands.bounds.spans.in_words.sizes.many in
      let l = few_blocks in
      let m = some_blocks in
      ((g.stands.bounds.spans, rw (ep, c) plain_at), (omega arith, omega arith, omega arith, omega arith))

-- the shape that the head gives
pub asked_shape : (s : Shape) (live : ℕ) (rows words cells : List ℕ) → Asked s live rows words cells → ShapeOf s words
asked_shape s live rows words cells g =
    let b = g.stands.bounds in
    record { sizes = b.spans.in_words.sizes; pieces = b.pieces; blocks = b.blocks }

-- ---- how many blocks
pub piece_in_head : (s : Shape) (words : List ℕ) → ShapeOf s words → (i total size n : ℕ) → total ≡ head_word words 0 → size ≡ head_word words 1
    → n ≡ i → i < s.pieces → n < num_pieces total size
unfolding pieces_on
piece_in_head s words g i total size n et es en h = rw (et, es, en) (let e = g.pieces in omega arith)

pub many_is : (words : List ℕ) (i total size n many r : ℕ) → total ≡ head_word words 0 → size ≡ head_word words 1 → n ≡ i
    → many ≡ piece_blocks total size n → r ≡ many → r ≡ blocks_of words i
unfolding blocks_of
many_is words i total size n many r et es en em er = er ∙ em ∙ rw (et, es, en)

-- ---- whether the peer may have it
pub open_is : (x : Record) (rows : List ℕ) (k : ℕ) → x ≡ row_at rows k → (a : PickRequest) (i : ℕ) → i ≡ x.index → (has : Bool) → has ≡ has_bit a i
    → (has && not (eqb (x.flags / 2 % 2) 1)) ≡ (has_bit a (row_at rows k).index && not (bit_of (row_at rows k).flags 1))
unfolding bit_of
open_is x rows k e a i f has h =
    ap (λ (b : Bool). b && not (eqb (x.flags / 2 % 2) 1)) (h ∙ ap (has_bit a) f)
    ∙ ap (λ (y : Record). has_bit a y.index && not (eqb (y.flags / 2 % 2) 1)) e

-- ---- what it adds
apart : (a b c : Bool) → (a && (b && c)) ≡ ((a && b) && c)
apart true b c = refl
apart false b c = refl

module _ (s : Shape) (live : ℕ) (rows words cells : List ℕ) (q : Request) (g : Asked s live rows words cells) (k : ℕ) (h : k < live)
    (bytes : List ℕ) (may : Bool) (e : may ≡ (has_bit (request_of q bytes) (row_at rows k).index && not (bit_of (row_at rows k).flags 1)))
    (t : PickNumbers) where
  may_is : (has_bit (request_of q bytes) (this s live rows words cells g k h).piece && not (this s live rows words cells g k h).locked) ≡ may
  may_is =
      ap₂ (λ (i : ℕ) (b : Bool). has_bit (request_of q bytes) i && not b) (this-piece s live rows words cells g k h)
      (this-locked s live rows words cells g k h) ∙ sym e

  -- by whether it may be used
  add_is : (w : PickState) → (let d = this s live rows words cells g k h in
      add_blocks_downloading (request_of q bytes) d w
      ≡ when (may && (not (meets q.options.0 on_parole) || (requested_from (named_peer q.has_peer q.peer) d).exclusive))
      (use_free d (requested_from (named_peer q.has_peer q.peer) d)) w)
  unfolding add_blocks_downloading request_of option
  add_is w =
      let d = this s live rows words cells g k h in
      let x = requested_from (named_peer q.has_peer q.peer) d in
      ap (λ (b : Bool). when b (use_free d x) w)
      (apart (has_bit (request_of q bytes) d.piece) (not d.locked) (not (meets q.options.0 on_parole) || x.exclusive)
      ∙ ap (λ (b : Bool). b && (not (meets q.options.0 on_parole) || x.exclusive)) may_is)

  pub add_none : may ≡ false → (out aside : List ℕ)
      → BlocksDid (add_blocks_downloading (request_of q bytes) (partial_in (picker_in live rows words cells) k)) t t out aside out aside
  add_none f out aside =
      let d = this s live rows words cells g k h in
      let x = requested_from (named_peer q.has_peer q.peer) d in
      blocks_as (blocks_none (use_free d x) (may && (not (meets q.options.0 on_parole) || x.exclusive))
      (ap (λ (b : Bool). b && (not (meets q.options.0 on_parole) || x.exclusive)) f) t out aside) _
      (λ start v ignored loops. sym (add_is (state_of start v t out aside ignored loops)))

  pub add_some : may ≡ true → (i p many : ℕ) → i ≡ (row_at rows k).index → p ≡ (row_at rows k).info_idx → many ≡ blocks_of words i
      → (r : PickNumbers) (out aside out' aside' : List ℕ) → FreeDid words cells s q i p many t r out aside out' aside'
      → BlocksDid (add_blocks_downloading (request_of q bytes) (partial_in (picker_in live rows words cells) k)) t r out aside out' aside'
  add_some f i p many ei ep em r out aside out' aside' x =
      let d = this s live rows words cells g k h in
      let z = requested_from (named_peer q.has_peer q.peer) d in
      blocks_as (x.is d (this-piece s live rows words cells g k h ∙ sym ei) (this-blocks s live rows words cells g k h
      ∙ (λ m. tabulate ((ap (blocks_of words) (sym ei) ∙ sym em) m) (block_held words cells s.pieces s.blocks (sym ep m)))))
      _ (λ start v ignored loops. let w = state_of start v t out aside ignored loops in
      sym (add_is w ∙ ap (λ (b : Bool). when (b && (not (meets q.options.0 on_parole) || z.exclusive)) (use_free d z) w) f))
