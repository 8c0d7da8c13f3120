-- A change or a pick is lent no places for records of its answer: none of its refusals is 2. Assumes nothing.
use mathlib.Core.Path.{◌≡◌, refl}
use mathlib.Core.Bool.{Bool, true, false}
use Rattle.model.proofs.base.Truths.{not_both}
use mathlib.Core.Option.{Option, none, some}
use Prim.Native.Nat.{ℕ}
use Rattle.types.specs.declared.refusal.Refusal.{Refusal}
use Rattle.types.specs.declared.refusal.Refusal.TheVariants.{FewDraws, OutOfRange, TooManyPeers, NoPeerToTake, HavePiece, NotWriting}
use Rattle.types.specs.declared.refusal.Refusal.TheVariants.{TooManyPartials, PickArguments, ShortOutput}
use Rattle.model.specs.State.{Picker}
use Rattle.model.specs.list.Order.{Draws}
use Rattle.model.specs.Calls.{Action, question, do_inc_refcount, do_dec_refcount, do_inc_refcount_all, do_dec_refcount_all, do_set_piece_priority}
use Rattle.model.specs.Calls.{do_mark_as_downloading, do_mark_as_writing, do_mark_as_finished, do_mark_as_canceled, do_abort_download, do_lock_piece}
use Rattle.model.specs.Calls.{do_piece_passed, do_pick_pieces, check, refuse_few_draws, refuse_bad_piece, refuse_bad_block, refusal}
use Rattle.picker_calls.specs.Calling.{of_memory}
use Rattle.picker_calls.specs.Cores.{Listless}

abbrev pub is_question : (a : Action) → Bool
is_question (question q) = true
is_question (do_inc_refcount i draws) = false
is_question (do_dec_refcount i draws) = false
is_question do_inc_refcount_all = false
is_question do_dec_refcount_all = false
is_question (do_set_piece_priority i priority draws) = false
is_question (do_mark_as_downloading i j peer options draws) = false
is_question (do_mark_as_writing i j peer draws) = false
is_question (do_mark_as_finished i j peer draws) = false
is_question (do_mark_as_canceled i j peer draws) = false
is_question (do_abort_download i j peer draws) = false
is_question (do_lock_piece i) = false
is_question (do_piece_passed i) = false
is_question (do_pick_pieces request free draws) = false

-- a test of the table whose refusal is not 2
after : (t : Bool) (why : Refusal) (r : Option Refusal) → of_memory (some why) ≡ false → of_memory r ≡ false
    → of_memory (check t why r) ≡ false
unfolding check
after true why r e h = e
after false why r e h = h

few : (draws : Draws) (r : Option Refusal) → of_memory r ≡ false → of_memory (refuse_few_draws draws r) ≡ false
unfolding refuse_few_draws of_memory
few draws r h = after _ FewDraws r refl h

piece : (d : Picker) (i : ℕ) (r : Option Refusal) → of_memory r ≡ false → of_memory (refuse_bad_piece d i r) ≡ false
unfolding refuse_bad_piece of_memory
piece d i r h = after _ OutOfRange r refl h

block : (d : Picker) (i j : ℕ) (r : Option Refusal) → of_memory r ≡ false → of_memory (refuse_bad_block d i j r) ≡ false
unfolding refuse_bad_block of_memory
block d i j r h = piece d i _ (after _ OutOfRange r refl h)

pub listless : (a : Action) → is_question a ≡ false → Listless a
unfolding refusal of_memory
listless (question q) e d = absurd (not_both true refl e)
listless (do_inc_refcount i draws) e d = few draws _ (piece d i _ (after _ TooManyPeers none refl refl))
listless (do_dec_refcount i draws) e d = few draws _ (piece d i _ (after _ NoPeerToTake none refl refl))
listless do_inc_refcount_all e d = after _ TooManyPeers none refl refl
listless do_dec_refcount_all e d = after _ NoPeerToTake none refl refl
listless (do_set_piece_priority i priority draws) e d = few draws _ (piece d i _ (after _ OutOfRange none refl refl))
listless (do_mark_as_downloading i j peer options draws) e d =
    few draws _ (block d i j _ (after _ TooManyPeers _ refl (after _ HavePiece _ refl (after _ TooManyPartials none refl refl))))
listless (do_mark_as_writing i j peer draws) e d = few draws _ (block d i j _ (after _ TooManyPartials none refl refl))
listless (do_mark_as_finished i j peer draws) e d =
    few draws _ (block d i j _ (after _ NotWriting _ refl (after _ TooManyPartials none refl refl)))
listless (do_mark_as_canceled i j peer draws) e d = few draws _ (block d i j none refl)
listless (do_abort_download i j peer draws) e d = few draws _ (block d i j none refl)
listless (do_lock_piece i) e d = piece d i none refl
listless (do_piece_passed i) e d = piece d i none refl
listless (do_pick_pieces request free draws) e d = few draws _ (after _ PickArguments _ refl (after _ ShortOutput none refl refl))
