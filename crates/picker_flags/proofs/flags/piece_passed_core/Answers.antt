-- `piece_passed_core` meets its contract. Assumes nothing.
use mathlib.Core.Path.{refl}
use Rattle.model.specs.Calls.{refusal, do_piece_passed}
use Rattle.picker_calls.proofs.ListlessLaws.{listless}
use Rattle.picker_calls.proofs.CoreLaws.{stood_at, of_argument, of_argument_on, barred, denied, passed}
use Rattle.picker_flags.proofs.RowLaws.{flag_passed, rows_stand, passed_done}
use borrow.Author.Rules.{rules}
use Rattle.picker_flags.proofs.flags.piece_passed_core.Goals as goal

pub piece_passed-edit-requires : goal.piece_passed-edit-requires
unfolding refusal
piece_passed-edit-requires c = let m = c.admit in
    let j = c.judge_piece in
    let t = stood_at _ _ _ _ _ m.result m.ensures _ c.in_ok-s.was in
    let p = passed _ _ _ _ _ _ t (do_piece_passed c.number-i.result) (listless (do_piece_passed _) refl) j.result
    (j.ensures.is _ _ _ t.stands) c.in_ok-judge_piece.was in
    record {
      rows_stand = rows_stand _ _ _ _ _ _ t _ c.live_records-live.ensures;
      i_lt_pieces = flag_passed _ _ _ _ _ _ t _ p;
    }

pub returns-in_err-s : goal.returns-in_err-s
returns-in_err-s c = let m = c.admit in
    let l = listless (do_piece_passed _) refl in
    barred _ _ _ _ _ m.result m.ensures _ c.in_err-s.was _ l c.from_residual.result c.from_residual.ensures.1

pub returns-in_err-judge_piece : goal.returns-in_err-judge_piece
unfolding refusal
returns-in_err-judge_piece c = let m = c.admit in
    let j = c.judge_piece in
    let t = stood_at _ _ _ _ _ m.result m.ensures _ c.in_ok-s.was in
    of_argument_on do_piece_passed _ _ c.number-i.ensures _ _ _ _ _ _ _
    (denied _ _ _ _ _ _ t _ (listless (do_piece_passed _) refl) j.result (j.ensures.is _ _ _ t.stands) _
    c.in_err-judge_piece.was c.from_residual-in_err-judge_piece.result c.from_residual-in_err-judge_piece.ensures.1)

pub returns : goal.returns
unfolding refusal
returns c = let m = c.admit in
    let n = c.number-i in
    let j = c.judge_piece in
    let r = c.live_records-live in
    let t = stood_at _ _ _ _ _ m.result m.ensures _ c.in_ok-s.was in
    let p = passed _ _ _ _ _ _ t (do_piece_passed n.result) (listless (do_piece_passed _) refl) j.result (j.ensures.is _ _ _ t.stands)
    c.in_ok-judge_piece.was in
    of_argument do_piece_passed _ _ n.ensures _ _ _ _ _ _ _ _ _
    (passed_done _ _ _ _ _ _ t r.result r.ensures _ _ _ c.piece_passed-edit.ensures.room n.result p c.piece_passed-edit.ensures.change)
