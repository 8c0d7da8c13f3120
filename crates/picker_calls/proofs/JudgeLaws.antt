-- The tests of the table, one by one: what a test that holds says of the refusal, and what is left where it does not. Assumes nothing.
use mathlib.Core.Path.{◌≡◌, refl}
use mathlib.Core.Bool.{Bool, true, false}
use mathlib.Core.List.{List}
use mathlib.Core.Option.{Option, none, some}
use Prim.Native.Nat.{ℕ, ◌≤◌, ◌<◌}
use native.Mathlib.Omega.{arith}
use lib.ListN.{length}
use borrow.Author.Tests.{lt-ltb, le-ltb, le-leb, lt-leb, leb-false, ltb-false}
use Rattle.types.specs.declared.refusal.Refusal.{Refusal}
use Rattle.types.specs.declared.refusal.Refusal.TheVariants.{FewDraws, OutOfRange}
use Rattle.model.specs.Lists.{len}
use Rattle.model.specs.State.{pieces_in, min_draws}
use Rattle.model.specs.list.Order.{Draws}
use Rattle.model.specs.Calls.{check, refuse_few_draws, refuse_bad_piece}
use Rattle.model.proofs.keep.KeepCalls.{check-none}
use Rattle.memory_records.specs.declared.record.DownloadingPiece.{DownloadingPiece as Record}
use Rattle.memory_layout.specs.declared.shape.Shape.{Shape}
use Rattle.memory_layout.specs.Decode.{decode}
use Rattle.memory_layout.specs.Standing.{Stands}
use Rattle.memory_layout.proofs.Meanings.{pieces_number}

-- a test that holds, and one that does not
pub check_yes : (t : Bool) (why : Refusal) (r : Option Refusal) → t ≡ true → check t why r ≡ some why
unfolding check
check_yes t why r e = rw e refl

pub check_no : (t : Bool) (why : Refusal) (r : Option Refusal) → t ≡ false → check t why r ≡ r
unfolding check
check_no t why r e = rw e refl

-- 4
pub few_yes : (draws : Draws) (r : Option Refusal) → length draws < 4352 → refuse_few_draws draws r ≡ some FewDraws
unfolding refuse_few_draws len
few_yes draws r h = check_yes _ FewDraws r (lt-ltb (length draws) 4352 h)

pub few_no : (draws : Draws) (r : Option Refusal) → 4352 ≤ length draws → refuse_few_draws draws r ≡ r
unfolding refuse_few_draws len
few_no draws r h = check_no _ FewDraws r (le-ltb (length draws) 4352 h)

-- 5 of a piece
module _ (s : Shape) (records : List Record) (words cells : List ℕ) (t : Stands s records words cells) where
  pub piece_yes : (i : ℕ) (r : Option Refusal) → s.pieces ≤ i → refuse_bad_piece (decode records words cells) i r ≡ some OutOfRange
  unfolding refuse_bad_piece
  piece_yes i r h =
      check_yes _ OutOfRange r
      (le-leb (pieces_in (decode records words cells)) i (omega (arith, pieces_number s records words cells t.bounds)))

  pub piece_no : (i : ℕ) (r : Option Refusal) → i < s.pieces → refuse_bad_piece (decode records words cells) i r ≡ r
  unfolding refuse_bad_piece
  piece_no i r h =
      check_no _ OutOfRange r
      (lt-leb (pieces_in (decode records words cells)) i (omega (arith, pieces_number s records words cells t.bounds)))

  -- such a piece, where 5 does not hold
  pub do_piece_passed : (i : ℕ) (r : Option Refusal) → refuse_bad_piece (decode records words cells) i r ≡ none → (i < s.pieces) × (r ≡ none)
  unfolding refuse_bad_piece
  do_piece_passed i r h =
      let a = check-none _ OutOfRange r h in (
        omega (arith, leb-false (pieces_in (decode records words cells)) i a.0, pieces_number s records words cells t.bounds),
        a.1,
      )

-- draws enough, where 4 does not hold
pub few_passed : (draws : Draws) (r : Option Refusal) → refuse_few_draws draws r ≡ none → (min_draws ≤ length draws) × (r ≡ none)
unfolding refuse_few_draws len
few_passed draws r h = let a = check-none _ FewDraws r h in (omega (arith, ltb-false (length draws) min_draws a.0), a.1)
