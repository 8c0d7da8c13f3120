-- What a mark asks is given where the table refuses nothing. Assumes nothing.
use mathlib.Core.Path.{◌≡◌}
use mathlib.Core.Bool.{false}
use mathlib.Core.List.{List}
use mathlib.Core.Option.{Option, none}
use Prim.Native.Nat.{ℕ, ◌≤◌, ◌<◌}
use native.Mathlib.Omega.{arith}
use lib.Dec.{ltb, leb}
use lib.ListN.{length}
use borrow.Author.Tests.{ltb-false, leb-false}
use Rattle.types.specs.declared.block.BlockState.TheVariants.{Requested}
use Rattle.types.specs.declared.refusal.Refusal.{Refusal}
use Rattle.types.specs.declared.refusal.Refusal.TheVariants.{FewDraws, OutOfRange, TooManyPeers, HavePiece, NotWriting, TooManyPartials}
use Rattle.model.specs.Lists.{len}
use Rattle.model.specs.State.{Picker, min_draws, same_block_state, piece_at, pieces_in, blocks_in_piece}
use Rattle.model.specs.list.Order.{Draws}
use Rattle.model.specs.ask.Questions.{block_test}
use Rattle.model.specs.Calls.{refuse_few_draws, refuse_bad_piece, refuse_bad_block, num_peers_full, block_there, no_partial_left, refusal}
use Rattle.model.specs.Calls.{do_mark_as_downloading, do_mark_as_writing, do_mark_as_finished}
use Rattle.model.proofs.keep.KeepCalls.{check-none}
use Rattle.memory_records.specs.Rows.{records_in}
use Rattle.memory_layout.specs.declared.shape.Shape.{Shape}
use Rattle.memory_layout.specs.Decode.{blocks_of, decode}
use Rattle.memory_layout.specs.Bounds.{InBounds}
use Rattle.memory_layout.proofs.Meanings.{pieces_number, blocks_of_is}

module _ (s : Shape) (live : ℕ) (rows words cells : List ℕ) (b : InBounds s (records_in live rows) words cells) (i j : ℕ)
    (draws : Draws) where
  abbrev d : Picker
  d = decode (records_in live rows) words cells

  -- draws enough, a piece and a block of it
  pub record Within : Type 0 where
    pub place : (i < s.pieces) × (j < blocks_of words i)
    pub draw : min_draws ≤ length draws

  in_range_lem : (r : Option Refusal) → refuse_few_draws draws (refuse_bad_block d i j r) ≡ none → Within × (r ≡ none)
  unfolding refuse_few_draws refuse_bad_block refuse_bad_piece len
  in_range_lem r e =
      let few = check-none (ltb (len draws) min_draws) FewDraws _ e in
      let piece = check-none (leb (pieces_in d) i) OutOfRange _ few.1 in
      let block = check-none (leb (blocks_in_piece d i) j) OutOfRange r piece.1 in
      let m = leb-false (pieces_in d) i piece.0 in
      let n = leb-false (blocks_in_piece d i) j block.0 in (
        record {
          place = (
            omega (arith, m, pieces_number s (records_in live rows) words cells b),
            omega (arith, n, blocks_of_is (records_in live rows) words cells i),
          );
          draw = ltb-false (len draws) min_draws few.0;
        },
        block.1,
      )

  pub downloading_accepted : (peer : Option ℕ) (options : ℕ) → refusal d (do_mark_as_downloading i j peer options draws) ≡ none
      → Within × (((piece_at d i).flushed ≡ false) × (no_partial_left d i ≡ false))
  unfolding refusal
  downloading_accepted peer options e =
      let w = in_range_lem _ e in
      let full = check-none (block_test num_peers_full (block_there d i j)) TooManyPeers _ w.1 in
      let flushed = check-none (piece_at d i).flushed HavePiece _ full.1 in
      (w.0, (flushed.0, (check-none (no_partial_left d i) TooManyPartials none flushed.1).0))

  pub writing_accepted : (peer : Option ℕ) → refusal d (do_mark_as_writing i j peer draws) ≡ none → Within × (no_partial_left d i ≡ false)
  unfolding refusal
  writing_accepted peer e =
      let w = in_range_lem _ e in (w.0, (check-none (no_partial_left d i) TooManyPartials none w.1).0)

  pub finished_accepted : (peer : Option ℕ) → refusal d (do_mark_as_finished i j peer draws) ≡ none → Within × (no_partial_left d i ≡ false)
  unfolding refusal
  finished_accepted peer e =
      let w = in_range_lem _ e in
      let asked = check-none (block_test (λ q. same_block_state q.state Requested) (block_there d i j)) NotWriting _ w.1 in
      (w.0, (check-none (no_partial_left d i) TooManyPartials none asked.1).0)
