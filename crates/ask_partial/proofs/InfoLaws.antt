-- A partial as it is told, by its row and its counts. Assumes nothing.
use Rattle.std.specs.Prelude.{None, Some}
use mathlib.Core.Path.{◌≡◌, refl, sym, ap, ◌∙◌}
use mathlib.Core.Bool.{Bool, true, false}
use mathlib.Core.List.{List, [], ◌∷◌}
use mathlib.Core.Option.{none}
use Prim.Native.Nat.{ℕ, ◌+◌, ◌*◌, ◌/◌, ◌%◌, ◌≤◌, ◌<◌}
use native.Mathlib.Omega.{arith}
use lib.Dec.{eqb, leb}
use Rattle.types.specs.declared.block.BlockState.TheVariants.{Requested, Writing, Finished}
use Rattle.model.specs.Lists.{bit}
use Rattle.model.specs.Bep3.{bit_of}
use Rattle.model.specs.State.{Picker, piece_at, blocks_in_piece}
use Rattle.model.specs.change.Partials.{blocks_in_state}
use Rattle.model.specs.ask.Questions.{reply_piece, info_of, info, finished_in, plain, flag, one, ask_blocks_in_piece, piece_info}
use Rattle.model.specs.ask.Questions.{is_piece_finished}
use Rattle.memory_records.specs.declared.record.DownloadingPiece.{DownloadingPiece as Record}
use Rattle.memory_records.specs.Rows.{row_at, records_in}
use Rattle.memory_layout.specs.declared.shape.Shape.{Shape}
use Rattle.memory_layout.specs.Decode.{head_word, record_at, decode}
use Rattle.memory_layout.specs.Changes.{partial_in}
use Rattle.memory_layout.specs.Bounds.{ShapeOf}
use Rattle.memory_layout.specs.Standing.{StandsBeside}
use Rattle.memory_layout.proofs.Meanings.{partial_piece_is, passed_is, locked_is, hashing_is, blocks_of_is}
use Rattle.memory_layout.proofs.BoundsLaws.{blocks_within}
use Rattle.memory_fields.specs.Reading.{HeadSays, CellsSay}
use Rattle.memory_rows.specs.Lookup.{picker_in, FoundIn}
use Rattle.memory_counts.specs.Counted.{CountSays}
use Rattle.ask_picker.specs.Telling.{BothSay}
use Rattle.ask_picker.proofs.AskedLaws.{asked_rows}
use Rattle.ask_piece.proofs.ReplyLaws.{one_is}
use Rattle.ask_partial.specs.declared.info.PieceInfo.{PieceInfo}
use Rattle.ask_partial.specs.Info.{info_numbers, info_reply, InfoSays, AskedCounts}
use Rattle.ask_picker.proofs.RecordRows.{record_row}

-- ---- a partial
bit_none : (flags : ℕ) → eqb (flags % 2) 1 ≡ bit_of flags 0
unfolding bit_of
bit_none flags =
    let e : flags % 2 ≡ flags / 1 % 2 = omega arith in
    ap (λ (n : ℕ). eqb n 1) e

bit_one : (flags : ℕ) → eqb (flags / 2 % 2) 1 ≡ bit_of flags 1
unfolding bit_of
bit_one flags = refl

bit_two : (flags : ℕ) → eqb (flags / 4 % 2) 1 ≡ bit_of flags 2
unfolding bit_of
bit_two flags = refl

pub info_says : (rows counts : List ℕ) (k : ℕ) (d : Record) (r : PieceInfo) → d ≡ row_at rows k → r.index ≡ d.index
    → CountSays counts k Finished r.finished → r.passed_hash_check ≡ eqb (d.flags % 2) 1 → CountSays counts k Writing r.writing
    → r.locked ≡ eqb (d.flags / 2 % 2) 1 → CountSays counts k Requested r.requested → r.hashing ≡ eqb (d.flags / 4 % 2) 1
    → InfoSays rows counts k r
unfolding info_numbers info
info_says rows counts k d r ed ei f ep w el q eh = record {
  is = λ s live words cells v n h.
      let rs = records_in live rows in
      let x = picker_in live rows words cells in
      let l : k < head_word words 7 = omega (arith, v.many) in
      let e : d ≡ record_at rs k = ed ∙ sym (record_row live rows k h) in
      let p : r.index ≡ (partial_in x k).piece =
      ei ∙ ap (λ (y : Record). y.index) e ∙ sym (partial_piece_is s rs words cells v.bounds k l) in
      let a : r.passed_hash_check ≡ (partial_in x k).passed_hash_check =
      ep ∙ bit_none d.flags ∙ ap (λ (y : Record). bit_of y.flags 0) e ∙ sym (passed_is s rs words cells v.bounds k l) in
      let b : r.locked ≡ (partial_in x k).locked =
      el ∙ bit_one d.flags ∙ ap (λ (y : Record). bit_of y.flags 1) e ∙ sym (locked_is s rs words cells v.bounds k l) in
      let c : r.hashing ≡ (partial_in x k).hashing =
      eh ∙ bit_two d.flags ∙ ap (λ (y : Record). bit_of y.flags 2) e ∙ sym (hashing_is s rs words cells v.bounds k l) in
      λ j. p j
      ∷ f.is x live n h j ∷ bit (a j) ∷ w.is x live n h j ∷ bit (b j) ∷ q.is x live n h j ∷ bit (c j) ∷ [];
}

-- ---- a piece without one
-- the shape is the one that the head gives
pub beside_shape : (s : Shape) (words cells : List ℕ) → StandsBeside s words cells → ShapeOf s words
beside_shape s words cells g =
    let q = g.stands.bounds in
    record { sizes = q.spans.in_words.sizes; pieces = q.pieces; blocks = q.blocks }

-- blocks of a piece are few
pub blocks_few : (s : Shape) (words cells : List ℕ) → StandsBeside s words cells → (i blocks : ℕ)
    → HeadSays words (λ d. reply_piece d i ask_blocks_in_piece) (one blocks) → blocks ≤ 256
unfolding reply_piece
blocks_few s words cells g i blocks b =
    let rs = g.records in
    let q = g.stands.bounds in
    omega (
      arith,
      one_is blocks (blocks_in_piece (decode rs words cells) i) (b.is rs cells),
      blocks_of_is rs words cells i,
      blocks_within s rs words cells q i,
      q.spans.in_words.sizes.wide,
    )

module _ (s : Shape) (words cells : List ℕ) (i : ℕ) where
  pub flushed_info : (blocks r : ℕ) → CellsSay s cells (λ d. (piece_at d i).flushed) true
      → HeadSays words (λ d. reply_piece d i ask_blocks_in_piece) (one blocks) → r ≡ blocks
      → BothSay s words cells (λ d. info_of d i none) (i ∷ r ∷ 0 ∷ 0 ∷ 0 ∷ 0 ∷ 0 ∷ [])
  unfolding reply_piece info_of
  flushed_info blocks r f b e = record {
    is = λ records q.
        let d = decode records words cells in
        let n : r ≡ bit (piece_at d i).flushed * blocks_in_piece d i =
        e ∙ one_is blocks (blocks_in_piece d i) (b.is records cells) ∙ rw (← f.is records words q) (omega arith) in
        λ j. i ∷ n j ∷ 0 ∷ 0 ∷ 0 ∷ 0 ∷ 0 ∷ [];
  }

  pub open_info : CellsSay s cells (λ d. (piece_at d i).flushed) false
      → BothSay s words cells (λ d. info_of d i none) (i ∷ 0 ∷ 0 ∷ 0 ∷ 0 ∷ 0 ∷ 0 ∷ [])
  unfolding info_of
  open_info f = record {
    is = λ records q.
        let d = decode records words cells in
        let n : 0 ≡ bit (piece_at d i).flushed * blocks_in_piece d i = rw (← f.is records words q) (omega arith) in
        λ j. i ∷ n j ∷ 0 ∷ 0 ∷ 0 ∷ 0 ∷ 0 ∷ [];
  }

-- ---- what stands in the buffers
module _ (s : Shape) (live : ℕ) (rows counts words cells : List ℕ) (g : AskedCounts s live rows counts words cells) where
  abbrev here : Picker
  here = picker_in live rows words cells

  pub counts_beside : StandsBeside s words cells
  counts_beside = record { records = records_in live rows; stands = g.asked.stands }

  pub counts_shape : ShapeOf s words
  counts_shape = beside_shape s words cells counts_beside

  module _ (i : ℕ) where
    -- no partial
    pub info_none : (r : PieceInfo) → FoundIn live rows i None → BothSay s words cells (λ d. info_of d i none) (info_numbers r)
        → info_reply r ≡ reply_piece here i piece_info
    unfolding info_reply reply_piece
    info_none r f e =
        ap plain (e.is (records_in live rows) g.asked.stands.bounds
        ∙ ap (info_of here i) (sym (f.is s words cells (asked_rows s live rows words cells g.asked))))

    -- that of a row
    pub info_some : (r : PieceInfo) (k : ℕ) → FoundIn live rows i (Some k) → InfoSays rows counts k r
        → info_reply r ≡ reply_piece here i piece_info
    unfolding info_reply reply_piece info_of
    info_some r k f e =
        let v = asked_rows s live rows words cells g.asked in
        ap plain (e.is s live words cells v g.held f.row.0 ∙ ap (info_of here i) (sym (f.is s words cells v).1))

    pub finished_none : (t : Bool) → FoundIn live rows i None → CellsSay s cells (λ d. (piece_at d i).flushed) t
        → flag t ≡ reply_piece here i is_piece_finished
    unfolding reply_piece finished_in
    finished_none t f e =
        ap flag (e.is (records_in live rows) words g.asked.stands.bounds
        ∙ ap (finished_in here i) (sym (f.is s words cells (asked_rows s live rows words cells g.asked))))

    pub finished_some : (k finished writing blocks there : ℕ) → FoundIn live rows i (Some k) → CountSays counts k Finished finished
        → CountSays counts k Writing writing → HeadSays words (λ d. reply_piece d i ask_blocks_in_piece) (one blocks)
        → there ≡ finished + writing
        → flag (leb blocks there) ≡ reply_piece here i is_piece_finished
    unfolding reply_piece finished_in
    finished_some k finished writing blocks there f a b n e =
        let v = asked_rows s live rows words cells g.asked in
        let l = f.row.0 in
        let x : blocks ≡ blocks_in_piece here i = one_is blocks (blocks_in_piece here i) (n.is (records_in live rows) cells) in
        let y : there ≡ blocks_in_state Finished (partial_in here k) + blocks_in_state Writing (partial_in here k) =
        e ∙ (λ j. a.is here live g.held l j + b.is here live g.held l j) in
        ap flag ((λ j. leb (x j) (y j)) ∙ ap (finished_in here i) (sym (f.is s words cells v).1))
