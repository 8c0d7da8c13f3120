-- 4 and 5 of the table, of a block: what a test that holds says, and what is left where none does. Assumes nothing.
use Rattle.std.specs.Prelude.{Err, Ok, Result, IsErrAnd, ⊤}
use mathlib.Core.Path.{◌≡◌, refl, sym, ap, ◌∙◌}
use mathlib.Core.List.{List}
use mathlib.Core.Option.{Option, none, some}
use Prim.Native.Nat.{ℕ, ◌≤◌, ◌<◌}
use native.Mathlib.Omega.{arith}
use lib.Dec.{leb}
use borrow.Author.Tests.{le-leb, lt-leb, leb-false}
use Rattle.types.specs.declared.refusal.Refusal.{Refusal}
use Rattle.types.specs.declared.refusal.Refusal.TheVariants.{OutOfRange}
use Rattle.model.specs.State.{Picker, blocks_in_piece}
use Rattle.model.specs.list.Order.{Draws}
use Rattle.model.specs.Calls.{refuse_few_draws, refuse_bad_block}
use Rattle.model.proofs.keep.KeepCalls.{check-none}
use Rattle.memory_records.specs.declared.record.DownloadingPiece.{DownloadingPiece as Record}
use Rattle.memory_layout.specs.declared.shape.Shape.{Shape}
use Rattle.memory_layout.specs.Decode.{blocks_of, decode}
use Rattle.memory_layout.specs.Standing.{Stands}
use Rattle.memory_layout.proofs.Meanings.{blocks_of_is}
use Rattle.picker_calls.specs.Outcomes.{judged}
use Rattle.picker_calls.proofs.JudgeLaws.{check_yes, check_no, piece_yes, piece_no, do_piece_passed, few_passed}
use Rattle.picker_blocks.specs.BlockJudges.{and_then, BlockJudged}

-- ---- what a judge says
-- with nothing behind it
judged_alone : (r : Result ⊤ Refusal) → judged r ≡ and_then r none
unfolding and_then
judged_alone (Err why) = refl
judged_alone (Ok tt) = refl

-- ---- 5
module _ (s : Shape) (records : List Record) (words cells : List ℕ) (t : Stands s records words cells) (i j : ℕ) (r : Option Refusal)
  where
    abbrev d : Picker
    d = decode records words cells

    -- no such piece
    pub no_piece : s.pieces ≤ i → refuse_bad_block d i j r ≡ some OutOfRange
    unfolding refuse_bad_block
    no_piece h = piece_yes s records words cells t i _ h

    -- of one of n blocks
    module _ (h : i < s.pieces) (n : ℕ) (e : n ≡ blocks_of words i) where
      pub no_block : n ≤ j → refuse_bad_block d i j r ≡ some OutOfRange
      unfolding refuse_bad_block
      no_block l =
          piece_no s records words cells t i _ h
          ∙ check_yes _ OutOfRange r (le-leb (blocks_in_piece d i) j (omega (arith, e, blocks_of_is records words cells i)))

      pub some_block : j < n → refuse_bad_block d i j r ≡ r
      unfolding refuse_bad_block
      some_block l =
          piece_no s records words cells t i _ h
          ∙ check_no _ OutOfRange r (lt-leb (blocks_in_piece d i) j (omega (arith, e, blocks_of_is records words cells i)))

    -- such a piece and block, where neither 4 nor 5 holds
    pub block_passed : (draws : Draws) → refuse_few_draws draws (refuse_bad_block d i j r) ≡ none → (i < s.pieces) × (j < blocks_of words i)
    unfolding refuse_bad_block
    block_passed draws e =
        let p = do_piece_passed s records words cells t i _ (few_passed draws _ e).1 in (
          p.0,
          omega (
            arith,
            leb-false (blocks_in_piece d i) j (check-none (leb (blocks_in_piece d i) j) OutOfRange r p.1).0,
            blocks_of_is records words cells i,
          ),
        )

-- ---- 4 and 5 as they are judged
module _ (s : Shape) (records : List Record) (words cells : List ℕ) (t : Stands s records words cells) (draws : Draws) (i j : ℕ)
    (r : Result ⊤ Refusal) (q : BlockJudged s words draws i j r) where
  -- the whole table
  pub front_alone : judged r ≡ refuse_few_draws draws (refuse_bad_block (decode records words cells) i j none)
  front_alone = judged_alone r ∙ sym (q.is records cells t none)

  -- refused, whatever follows
  pub front_refused : (why : Refusal) → r ≡ Err why → (z : Result ⊤ Refusal) → IsErrAnd z (λ x. x ≡ why) → (rest : Option Refusal)
      → judged z ≡ refuse_few_draws draws (refuse_bad_block (decode records words cells) i j rest)
  unfolding and_then
  front_refused why e (Err x) k rest = ap some k ∙ sym (q.is records cells t rest ∙ ap (λ (y : Result ⊤ Refusal). and_then y rest) e)
  front_refused why e (Ok x) k rest = absurd k

  module _ (e : r ≡ (Ok tt)) where
    -- left to what follows
    pub front_passed : (rest : Option Refusal) → refuse_few_draws draws (refuse_bad_block (decode records words cells) i j rest) ≡ rest
    unfolding and_then
    front_passed rest = q.is records cells t rest ∙ ap (λ (x : Result ⊤ Refusal). and_then x rest) e

    -- there are such a piece and block
    pub front_place : (i < s.pieces) × (j < blocks_of words i)
    front_place = block_passed s records words cells t i j none draws (front_passed none)
