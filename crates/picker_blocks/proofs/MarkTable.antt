-- 6, 9 and 10 of the table, from the numbers of a block and of a piece. Assumes nothing.
use mathlib.Core.Path.{◌≡◌, refl, sym, ap, ◌∙◌}
use mathlib.Core.Bool.{Bool, true, false, not, ◌&&◌, ◌||◌}
use mathlib.Core.List.{List}
use mathlib.Core.Option.{none, some}
use Prim.Native.Nat.{ℕ}
use native.Mathlib.Omega.{arith}
use lib.Dec.{eqb, ltb, leb}
use Rattle.types.specs.declared.block.BlockState.{BlockState}
use Rattle.types.specs.declared.block.BlockState.TheVariants.{None, Requested, Writing, Finished}
use Rattle.types.specs.Block.{block_state_number}
use Rattle.types.specs.Queue.{queue_number}
use Rattle.model.specs.Lists.{bit, each}
use Rattle.model.specs.State.{Picker, same_queue, is_open, same_block_state, piece_at}
use Rattle.model.specs.change.Changes.{received}
use Rattle.model.specs.change.Partials.{partial_of}
use Rattle.model.specs.ask.Questions.{block_in, block_test, flag, one, plain, reply, reply_block, of_block, is_requested}
use Rattle.model.specs.Calls.{num_peers_full, block_there, no_partial_left}
use Rattle.memory_layout.specs.declared.shape.Shape.{Shape}
use Rattle.memory_layout.proofs.Meanings.{partials_number}
use Rattle.memory_blocks.specs.declared.info.BlockInfo.{BlockInfo}
use Rattle.memory_blocks.specs.Blocks.{block_of}
use Rattle.memory_fields.specs.Reading.{CellsSay}
use Rattle.picker_blocks.specs.MarkJudges.{NoneLeft}

-- ---- 6
not-received : (q : BlockState) → ltb (block_state_number q) 2 ≡ not (same_block_state q Writing || same_block_state q Finished)
unfolding same_block_state
not-received None = refl
not-received Requested = refl
not-received Writing = refl
not-received Finished = refl

-- by the numbers of the block, or where none stands
module _ (d : Picker) (i j : ℕ) where
  pub full_there : (x : BlockInfo)
      → (block_in (partial_of d i) j ≡ some (block_of x)) × (x.state ≡ block_state_number (block_of x).state)
      → (ltb x.state 2 && leb 1000 x.num_peers) ≡ block_test num_peers_full (block_there d i j)
  unfolding block_test num_peers_full received block_there block_of
  full_there x t =
      ap (λ (n : ℕ). ltb n 2 && leb 1000 x.num_peers) t.1
      ∙ (ap (λ (b : Bool). b && leb 1000 x.num_peers) (not-received (block_of x).state) ∙ ap (block_test num_peers_full) (sym t.0))

  pub full_missing : block_in (partial_of d i) j ≡ none → false ≡ block_test num_peers_full (block_there d i j)
  unfolding block_test block_there
  full_missing e = ap (block_test num_peers_full) (sym e)

-- ---- 9
flag_one : (t u : Bool) → flag t ≡ flag u → t ≡ u
unfolding flag one plain each
flag_one true true e = refl
flag_one false false e = refl
flag_one true false e = let n : bit true ≡ bit false = cc e in absurd (omega (arith, n))
flag_one false true e = let n : bit false ≡ bit true = cc e in absurd (omega (arith, n))

-- the question answers it
pub requested_told : (d : Picker) (i j : ℕ) (t : Bool) → flag t ≡ reply d (of_block is_requested i j)
    → t ≡ block_test (λ b. same_block_state b.state Requested) (block_there d i j)
unfolding reply reply_block block_there
requested_told d i j t e = flag_one t _ e

-- ---- 10
pub none_left : (s : Shape) (live : ℕ) (cells : List ℕ) (i state : ℕ) (flushed : Bool)
    → CellsSay s cells (λ d. queue_number (piece_at d i).state) state → CellsSay s cells (λ d. (piece_at d i).flushed) flushed
    → NoneLeft s live cells i (eqb state 4 && (not flushed && leb 512 live))
unfolding no_partial_left is_open same_queue
none_left s live cells i state flushed a b = record {
  is = λ records words r many.
      let m = many ∙ sym (partials_number s records words cells r) in
      λ k. eqb (a.is records words r k) 4 && (not (b.is records words r k) && leb 512 (m k));
}
