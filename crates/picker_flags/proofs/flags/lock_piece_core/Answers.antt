-- `lock_piece_core` meets its contract. Assumes nothing.
use mathlib.Core.Path.{refl}
use native.Mathlib.Omega.{arith}
use Rattle.model.specs.Calls.{refusal, do_lock_piece}
use Rattle.picker_calls.proofs.ListlessLaws.{listless}
use Rattle.picker_calls.proofs.CoreLaws.{stood_at, of_argument, of_argument_on, barred, denied, passed}
use Rattle.picker_flags.proofs.RowLaws.{rows_stand, rows_asked, lock_done}
use borrow.Author.Rules.{rules}
use Rattle.picker_flags.proofs.flags.lock_piece_core.Goals as goal

pub lock_piece-edit-requires : goal.lock_piece-edit-requires
lock_piece-edit-requires c = let m = c.admit in
    let all = rows_asked _ _ _ _ _ _ (stood_at _ _ _ _ _ m.result m.ensures _ c.in_ok-s.was) _ c.live_records-live.ensures in
    record {
      live_bound = all.0;
      rows_value = all.1;
    }

pub returns-in_err-s : goal.returns-in_err-s
returns-in_err-s c = let m = c.admit in
    let l = listless (do_lock_piece _) refl in
    barred _ _ _ _ _ m.result m.ensures _ c.in_err-s.was _ l c.from_residual.result c.from_residual.ensures.1

pub returns-in_err-judge_piece : goal.returns-in_err-judge_piece
unfolding refusal
returns-in_err-judge_piece c = let m = c.admit in
    let j = c.judge_piece in
    let t = stood_at _ _ _ _ _ m.result m.ensures _ c.in_ok-s.was in
    of_argument_on do_lock_piece _ _ c.number-i.ensures _ _ _ _ _ _ _
    (denied _ _ _ _ _ _ t _ (listless (do_lock_piece _) refl) j.result (j.ensures.is _ _ _ t.stands) _
    c.in_err-judge_piece.was c.from_residual-in_err-judge_piece.result c.from_residual-in_err-judge_piece.ensures.1)

pub returns : goal.returns
unfolding refusal
returns c = let m = c.admit in
    let n = c.number-i in
    let j = c.judge_piece in
    let r = c.live_records-live in
    let t = stood_at _ _ _ _ _ m.result m.ensures _ c.in_ok-s.was in
    let p = passed _ _ _ _ _ _ t (do_lock_piece n.result) (listless (do_lock_piece _) refl) j.result (j.ensures.is _ _ _ t.stands)
    c.in_ok-judge_piece.was in
    let g = rows_stand _ _ _ _ _ _ t r.result r.ensures in
    of_argument do_lock_piece _ _ n.ensures _ _ _ _ _ _ _ _ _
    (lock_done _ _ _ _ _ _ t r.result r.ensures _ _ _ (c.lock_piece-edit.ensures.room _ (omega (arith, g.many, g.stands.bounds.partials))) n.result p
    (c.lock_piece-edit.ensures.changed _ _ _ g.stands g.many))
