-- A turn of the pass over the pieces of a picker that stands, and its end. Assumes nothing.
use mathlib.Core.Path.{◌≡◌, ap, ap₂, ◌∙◌, subst, fun_ext}
use mathlib.Core.Bool.{Bool, true, false, ◌||◌}
use mathlib.Core.List.{List}
use Prim.Native.Nat.{ℕ, ◌+◌, ◌*◌, ◌≤◌, ◌<◌}
use native.Mathlib.Omega.{arith}
use lib.Dec.{eqb}
use lib.ListN.{get_or}
use Rattle.model.specs.Lists.{bit}
use Rattle.model.specs.State.{Picker, piece_at, pieces_in}
use Rattle.model.specs.ask.Questions.{have_piece, filtered}
use Rattle.memory_records.specs.Rows.{records_in}
use Rattle.memory_layout.specs.declared.shape.Shape.{Shape}
use Rattle.memory_layout.proofs.Meanings.{pieces_number}
use Rattle.memory_fields.specs.Reading.{CellsSay, WordsSay}
use Rattle.memory_rows.specs.Lookup.{picker_in}
use Rattle.ask_picker.specs.Asked.{Asked}
use Rattle.ask_picker.proofs.AskedLaws.{some_piece, pad_small, asked_rows, asked_queues, asked_rise}
use Rattle.ask_totals.specs.declared.count.Kinds.{Kinds}
use Rattle.ask_totals.specs.declared.count.PieceCount.{PieceCount}
use Rattle.ask_totals.specs.Marks.{PiecesLow, Marked}
use Rattle.ask_totals.specs.Totals.{Test, Computes, tested, included, Counted}
use Rattle.ask_totals.proofs.MarkLaws.{mark_says}
use Rattle.ask_totals.proofs.CountLaws.{bit_less, Counting, counting_next, counting_end}

module _ (s : Shape) (live : ℕ) (rows words cells : List ℕ) (g : Asked s live rows words cells) where
  -- each live row is of a piece that has a mark
  pub asked_low : PiecesLow live rows
  asked_low k h = omega (arith, (asked_queues s live rows words cells g).there k h, g.stands.bounds.spans.in_cells.sizes.many)

  -- as many pieces as the shape says
  pub asked_pieces : pieces_in (picker_in live rows words cells) ≡ s.pieces
  asked_pieces = pieces_number s (records_in live rows) words cells g.stands.bounds

  module _ (t : Test) (i num pads : ℕ) (last : Bool)
      (v : Counting (picker_in live rows words cells) (tested t (picker_in live rows words cells)) i num pads last) where
    -- piece i is counted or not
    pub total_next : (marks : List ℕ) → Marked rows live marks → i < s.pieces → (flush : Bool)
        → CellsSay s cells (λ d. (piece_at d i).flushed) flush
        → (priority : ℕ) → CellsSay s cells (λ d. (piece_at d i).priority) priority
        → (x : Bool) → x ≡ t (flush || eqb (get_or marks i 0) 1) (eqb priority 0)
        → (pad : ℕ) → WordsSay s words (λ d. (piece_at d i).pad_bytes) pad
        → (a b : ℕ) → a ≡ bit x * 1 → b ≡ bit x * pad
        → Counting (picker_in live rows words cells) (tested t (picker_in live rows words cells)) (i + 1) (num + a) (pads + b) x
    unfolding have_piece filtered
    total_next marks m h flush ef priority ep x ex pad ew a b ea eb =
        let d = picker_in live rows words cells in
        let records = records_in live rows in
        let q = g.stands.bounds in
        let said = ex ∙ ap₂ t (ap₂ ◌||◌ (ef.is records words q)
        (mark_says s live rows words cells (asked_rows s live rows words cells g) (asked_rise s live rows words cells g) marks m i))
        (ap (λ (n : ℕ). eqb n 0) (ep.is records words q)) in
        let w = ew.is records cells q in
        counting_next d (tested t d) i num pads last v (omega (arith, asked_pieces)) x said pad w
        (omega (arith, w, pad_small s records words cells g.stands i h)) a b ea eb

  -- a number that is added has room
  pub pads_room : (i pads pad b : ℕ) (x : Bool) → pads ≤ i * 4194304 → WordsSay s words (λ d. (piece_at d i).pad_bytes) pad → i < s.pieces → b ≡ bit x * pad
      → pads + b ≤ (i + 1) * 4194304
  pads_room i pads pad b x small ew h eb =
      let w = ew.is (records_in live rows) cells g.stands.bounds in
      omega (
        arith,
        bit_less x pad,
        small,
        w,
        pad_small s (records_in live rows) words cells g.stands i h,
      )

  -- all pieces are
  pub total_end : (t : Test) (i : ℕ) (r : PieceCount)
      → Counting (picker_in live rows words cells) (tested t (picker_in live rows words cells)) i r.num_pieces r.pad_bytes
      r.last_piece → s.pieces ≤ i
      → Counted (picker_in live rows words cells) (tested t (picker_in live rows words cells)) r
  total_end t i r v h =
      let some = some_piece s (records_in live rows) words cells g.stands in
      counting_end (picker_in live rows words cells) (tested t (picker_in live rows words cells)) i r v (omega (arith, asked_pieces))
      (omega (arith, asked_pieces))

-- ---- kinds of pieces
-- an answer to each of the four is one to all
pub answers_all : (answers : Bool → Bool → Bool → Type 0) (k : Kinds) → answers false false k.neither → answers false true k.filtered → answers true false k.had
    → answers true true k.both → (had out : Bool) → answers had out (included k had out)
answers_all answers k n f h b false false = n
answers_all answers k n f h b false true = f
answers_all answers k n f h b true false = h
answers_all answers k n f h b true true = b

-- the kinds of what a closure answers are those for which the test holds
pub included_is : (answers : Bool → Bool → Bool → Type 0) (k : Kinds) → ((had out : Bool) → answers had out (included k had out)) → (t : Test) → Computes answers t
    → included k ≡ t
included_is answers k a t h = fun_ext (λ had. fun_ext (λ out. h had out (included k had out) (a had out)))

-- counts of the kinds are those of the test
pub counted_same : (s t : Test) (d : Picker) {r : PieceCount} → s ≡ t → Counted d (tested s d) r → Counted d (tested t d) r
counted_same s t d {r} e c = subst (λ (u : Test). Counted d (tested u d) r) e c
