-- `set_piece_priority_core` meets its contract. Assumes nothing.
use mathlib.Core.Path.{refl}
use Prim.Native.Nat.{ℕ}
use Rattle.model.specs.Calls.{do_set_piece_priority}
use Rattle.picker_calls.proofs.ListlessLaws.{listless}
use Rattle.picker_calls.proofs.CoreLaws.{stood_at, of_argument, of_argument_on, barred, denied, passed}
use Rattle.picker_flags.proofs.RowLaws.{priority_passed, rows_stand, priority_done}
use borrow.Author.Rules.{rules}
use Rattle.picker_flags.proofs.priorities.set_piece_priority_core.Goals as goal

pub set_piece_priority-r-requires : goal.set_piece_priority-r-requires
set_piece_priority-r-requires c = let m = c.admit in
    let j = c.judge_set_piece_priority in
    let t = stood_at _ _ _ _ _ m.result m.ensures _ c.in_ok-s.was in
    let p = passed _ _ _ _ _ _ t _ (listless (do_set_piece_priority _ _ _) refl) j.result (j.ensures.is _ _ _ t.stands)
    c.in_ok-judge_set_piece_priority.was in
    let all = priority_passed _ _ _ _ _ _ t _ _ _ p in
    record {
      rows_stand = rows_stand _ _ _ _ _ _ t _ c.live_records-live.ensures;
      i_lt_pieces = all.0;
      min_draws_in_bounds = all.1;
    }

pub returns-in_err-s : goal.returns-in_err-s
returns-in_err-s c = let m = c.admit in
    let l = listless (do_set_piece_priority _ _ _) refl in
    barred _ _ _ _ _ m.result m.ensures _ c.in_err-s.was _ l c.from_residual.result c.from_residual.ensures.1

pub returns-in_err-judge_set_piece_priority : goal.returns-in_err-judge_set_piece_priority
returns-in_err-judge_set_piece_priority c = let a = c.args in
    let m = c.admit in
    let j = c.judge_set_piece_priority in
    let t = stood_at _ _ _ _ _ m.result m.ensures _ c.in_ok-s.was in
    of_argument_on (λ (i : ℕ). do_set_piece_priority i a.new.priority.0 a.draws.now) _ _ c.number-i.ensures
    _ _ _ _ _ _ _
    (denied _ _ _ _ _ _ t _ (listless (do_set_piece_priority _ _ _) refl) j.result (j.ensures.is _ _ _ t.stands) _
    c.in_err-judge_set_piece_priority.was c.from_residual-in_err-judge_set_piece_priority.result c.from_residual-in_err-judge_set_piece_priority.ensures.1)

pub returns : goal.returns
returns c = let a = c.args in
    let m = c.admit in
    let n = c.number-i in
    let j = c.judge_set_piece_priority in
    let r = c.live_records-live in
    let x = c.set_piece_priority-r in
    let t = stood_at _ _ _ _ _ m.result m.ensures _ c.in_ok-s.was in
    let p = passed _ _ _ _ _ _ t _ (listless (do_set_piece_priority _ _ _) refl) j.result (j.ensures.is _ _ _ t.stands)
    c.in_ok-judge_set_piece_priority.was in
    of_argument (λ (i : ℕ). do_set_piece_priority i a.new.priority.0 a.draws.now) _ _ n.ensures _ _ _ _ _ _ _ _ _
    (priority_done _ _ _ _ _ _ t r.result r.ensures _ _ _ _ _ p x.result x.ensures)
