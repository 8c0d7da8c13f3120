-- A stretch of pieces: their numbers gathered in columns, and what the test of these columns says of them. Assumes nothing.
use mathlib.Core.Path.{◌≡◌, refl, sym, ap, subst, ◌∙◌}
use mathlib.Core.Bool.{Bool, true, false, true≢false, not, ◌&&◌, ◌||◌}
use mathlib.Core.List.{List}
use Prim.Native.Nat.{ℕ, ◌+◌, ◌*◌, ◌-◌, ◌≤◌, ◌<◌}
use native.Mathlib.Decide.{ℕ_discrete}
use native.Mathlib.Omega.{arith}
use lib.Dec.{eqb, leb, ltb}
use lib.ListN.{length, get_or, set, drop, length-set}
use lib.Seq.{get_or-set_same, get_or-set_other}
use borrow.Author.Tests.{eqb-true, leb-true, le-leb, lt-ltb, ltb-false, not-false}
use Rattle.model.specs.Lists.{nth}
use Rattle.model.specs.State.{Piece as PieceRecord, Picker, max_peers, max_priority, piece_size_at}
use Rattle.model.specs.list.Order.{bucket, rank_of}
use Rattle.model.specs.image.Image.{body_length, piece_kind, starts_with, field, last_queue, piece_of}
use Rattle.model.proofs.base.Truths.{both_true, or_no_left, or_no_right}
use Rattle.memory_layout.specs.Decode.{queue_from, yes?}
use Rattle.check_pieces.specs.Rows.{piece_from, rank_from, cells_ok, row_in, rank_in, Passed}
use Rattle.check_pieces.proofs.RowLaws.{rank_pad}
use Rattle.check_pieces.proofs.Passes.{every-from}
use Rattle.image_bytes.specs.Put.{FieldRead}
use Rattle.image_bytes.proofs.FieldLaws.{read_one}
use Rattle.image_records.specs.Records.{body_at}
use Rattle.image_records.proofs.FrontLaws.{Small, starts_here, body_at_lem, body_read}
use Rattle.image_pieces.specs.Pieces.{piece_test}
use Rattle.image_pieces.specs.Stretches.{Columns, PieceRow, Gathered, PieceWell, StretchPassed}
use Rattle.image_pieces.proofs.PieceLaws.{open_number, piece_found, PieceGot, piece_got}

-- ---- gathered
pub gathered_start : (start size : ℕ) (bytes a b c d : List ℕ) → Columns a b c d → Gathered start 0 size bytes a b c d true
gathered_start start size bytes a b c d h = record { columns = h; each = λ z j l. absurd (omega arith) }

pub gathered_end : (start j size : ℕ) (bytes a b c d : List ℕ) → Gathered start j size bytes a b c d true → j ≡ 128
    → Gathered start 128 size bytes a b c d true
gathered_end start j size bytes a b c d p e = rw e at p

pub gathered_wrong : (start size : ℕ) (bytes a b c d : List ℕ) → Columns a b c d → Gathered start 128 size bytes a b c d false
gathered_wrong start size bytes a b c d h = record { columns = h; each = λ z. absurd (true≢false (sym z)) }

-- what the test of kind and pad bytes says where it finds nothing wrong
row_tests : (kind size pad : ℕ) → (not (eqb kind piece_kind) || ltb size pad) ≡ false → (kind ≡ piece_kind) × (pad ≤ size)
row_tests kind size pad t = (
  eqb-true kind piece_kind (not-false _ (or_no_left (not (eqb kind piece_kind)) (ltb size pad) t)),
  ltb-false size pad (or_no_right (not (eqb kind piece_kind)) (ltb size pad) t),
)

-- one more
module _ (start j size : ℕ) (bytes a b c d : List ℕ) (p : Gathered start j size bytes a b c d true) (h : j < 128) (x y z t : ℕ) where
  next_columns : Columns (set a j x) (set b j y) (set c j z) (set d j t)
  next_columns = record {
    counts_long = length-set a j x ∙ p.columns.counts_long;
    states_long = length-set b j y ∙ p.columns.states_long;
    priorities_long = length-set c j z ∙ p.columns.priorities_long;
    flushed_long = length-set d j t ∙ p.columns.flushed_long;
  }

  pub gathered_next : (kind pad count state priority flushed : ℕ) → (not (eqb kind piece_kind) || ltb size pad) ≡ false
      → FieldRead (start + 10 * j) 1 bytes kind → FieldRead (start + 10 * j + 6) 4 bytes pad
      → FieldRead (start + 10 * j + 1) 2 bytes count → x ≡ count → FieldRead (start + 10 * j + 3) 1 bytes state → y ≡ state
      → FieldRead (start + 10 * j + 4) 1 bytes priority → z ≡ priority → FieldRead (start + 10 * j + 5) 1 bytes flushed → t ≡ flushed
      → Gathered start (j + 1) size bytes (set a j x) (set b j y) (set c j z) (set d j t) true
  gathered_next kind pad count state priority flushed test fk fd fc ex fs ey fp ez ff et = record {
    columns = next_columns;
    each = λ o i l. elim (ℕ_discrete i j) [
      | yes q ↦ rw (
        q,
        get_or-set_same a j x 0 (omega (arith, p.columns.counts_long)),
        get_or-set_same b j y 0 (omega (arith, p.columns.states_long)),
        get_or-set_same c j z 0 (omega (arith, p.columns.priorities_long)),
        get_or-set_same d j t 0 (omega (arith, p.columns.flushed_long)),
      ) here
      | no q ↦ rw (get_or-set_other a j i x 0 q, get_or-set_other b j i y 0 q, get_or-set_other c j i z 0 q, get_or-set_other d j i t 0 q)
          (p.each refl i (omega (arith, q)))
    ];
  }
    where
      here : PieceRow size (start + 10 * j) bytes x y z t
      here = record {
        pad = pad;
        kind_read = subst (FieldRead (start + 10 * j) 1 bytes) (row_tests kind size pad test).0 fk;
        count_read = subst (FieldRead (start + 10 * j + 1) 2 bytes) (sym ex) fc;
        state_read = subst (FieldRead (start + 10 * j + 3) 1 bytes) (sym ey) fs;
        priority_read = subst (FieldRead (start + 10 * j + 4) 1 bytes) (sym ez) fp;
        flushed_read = subst (FieldRead (start + 10 * j + 5) 1 bytes) (sym et) ff;
        pad_read = fd;
        pad_most = (row_tests kind size pad test).1;
      }

-- ---- one piece
module _ (seeds size at : ℕ) (bytes : List ℕ) (small : Small bytes) (room : at + 10 ≤ length bytes) (count state priority flushed : ℕ)
    (p : PieceRow size at bytes count state priority flushed) (t : cells_ok seeds count state priority flushed ≡ true) where
  piece_starts : starts_with piece_kind (drop at bytes) ≡ true
  unfolding body_length nth
  piece_starts =
      let first : get_or bytes at 0 ≡ piece_kind = (read_one at bytes (get_or bytes at 0) (omega arith) refl (small at)).is
      ∙ sym p.kind_read.is in
      sym (starts_here piece_kind at bytes (omega arith) small first)
      ∙ lt-ltb (body_length piece_kind) (length bytes - at) (omega arith)

  state_is_one : state ≤ last_queue
  unfolding cells_ok
  state_is_one =
      let a = both_true (leb state 6 && leb flushed 1) _ t in
      leb-true state 6 (both_true (leb state 6) (leb flushed 1) a.0).0

  row_test : piece_test count state priority flushed p.pad seeds size ≡ true
  unfolding piece_test cells_ok yes? queue_from
  row_test =
      let a = both_true (leb state 6 && leb flushed 1) _ t in
      let b = both_true (leb state 6) (leb flushed 1) a.0 in
      let c = both_true (leb (count + seeds) max_peers) _ a.1 in
      let d = both_true (leb priority max_priority) _ c.1 in
      let f : (not (eqb flushed 1) || eqb state 4) ≡ true = ap (λ (u : Bool). not (eqb flushed 1) || u)
      (sym (open_number state state_is_one)) ∙ d.1 in
      rw (b.0, b.1, c.0, d.0, f) (le-leb p.pad size p.pad_most)

  -- its numbers in its body
  count_in : count ≡ field 0 2 (body_at piece_kind at bytes)
  unfolding body_length nth
  count_in = body_read piece_kind at 0 2 (at + 1) bytes count (omega arith) (omega arith) p.count_read

  state_in : state ≡ field 2 1 (body_at piece_kind at bytes)
  unfolding body_length nth
  state_in = body_read piece_kind at 2 1 (at + 3) bytes state (omega arith) (omega arith) p.state_read

  priority_in : priority ≡ field 3 1 (body_at piece_kind at bytes)
  unfolding body_length nth
  priority_in = body_read piece_kind at 3 1 (at + 4) bytes priority (omega arith) (omega arith) p.priority_read

  flushed_in : flushed ≡ field 4 1 (body_at piece_kind at bytes)
  unfolding body_length nth
  flushed_in = body_read piece_kind at 4 1 (at + 5) bytes flushed (omega arith) (omega arith) p.flushed_read

  pad_in : p.pad ≡ field 5 4 (body_at piece_kind at bytes)
  unfolding body_length nth
  pad_in = body_read piece_kind at 5 4 (at + 6) bytes p.pad (omega arith) (omega arith) p.pad_read

  row_got : (s : Picker) (i : ℕ) → s.seeds ≡ seeds → piece_size_at s i ≡ size
      → PieceGot s i at bytes
      (record { peer_count = count; state = state; priority = priority; flushed = eqb flushed 1; pad_bytes = p.pad })
  row_got s i es el =
      piece_got s i at bytes _
      (piece_found s i at bytes piece_starts (body_at piece_kind at bytes) (body_at_lem piece_kind at bytes piece_starts) count state priority
      flushed p.pad count_in state_in priority_in flushed_in pad_in seeds size es el row_test)

  row_piece : piece_from count state priority flushed p.pad ≡ piece_of (body_at piece_kind at bytes)
  unfolding piece_from piece_of queue_from yes?
  row_piece = λ k. piece_from (count_in k) (state_in k) (priority_in k) (flushed_in k) (pad_in k)

  row_well : PieceWell seeds size at bytes (rank_from seeds count state priority flushed)
  row_well = record {
    is = λ s i es el. (row_got s i es el).is;
    state = subst (λ (k : ℕ). k ≤ last_queue) state_in state_is_one;
    rank = rank_pad seeds count state priority flushed p.pad ∙ ap (λ (q : PieceRecord). rank_of (bucket seeds q)) row_piece;
  }

-- ---- all of them
pub stretch_well : (start seeds size : ℕ) (bytes a b c d ranks : List ℕ) → Small bytes → start + 1280 ≤ length bytes
    → Gathered start 128 size bytes a b c d true → (s : ℕ) → s ≡ seeds → (r : Bool)
    → Passed (row_in s a b c d) (rank_in s a b c d) (length a) r ranks → StretchPassed start seeds size bytes ranks r
unfolding StretchPassed row_in rank_in
stretch_well start seeds size bytes a b c d ranks small room g s e r p = λ o j l.
    let k : j < length a = omega (arith, g.columns.counts_long) in
    let t : cells_ok seeds (get_or a j 0) (get_or b j 0) (get_or c j 0) (get_or d j 0) ≡ true
    = ap (λ (x : ℕ). cells_ok x (get_or a j 0) (get_or b j 0) (get_or c j 0) (get_or d j 0)) (sym e)
    ∙ every-from (row_in s a b c d) 0 (length a) (sym p.is ∙ o) j (omega arith) (omega arith) in
    let q : rank_from seeds (get_or a j 0) (get_or b j 0) (get_or c j 0) (get_or d j 0) ≡ get_or ranks j 0
    = ap (λ (x : ℕ). rank_from x (get_or a j 0) (get_or b j 0) (get_or c j 0) (get_or d j 0)) (sym e) ∙ sym (p.each o j k) in
    subst (PieceWell seeds size (start + 10 * j) bytes) q
    (row_well seeds size (start + 10 * j) bytes small (omega arith) (get_or a j 0) (get_or b j 0) (get_or c j 0) (get_or d j 0)
    (g.each refl j l) t)

pub stretch_unclear : (start seeds size : ℕ) (bytes ranks : List ℕ) → StretchPassed start seeds size bytes ranks false
unfolding StretchPassed
stretch_unclear start seeds size bytes ranks = λ o. absurd (true≢false (sym o))
