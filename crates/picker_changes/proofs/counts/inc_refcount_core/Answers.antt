-- `inc_refcount_core` meets its contract. Assumes nothing.
use mathlib.Core.Path.{refl}
use Prim.Native.Nat.{ℕ}
use Rattle.model.specs.change.Changes.{inc_refcount}
use Rattle.model.specs.Calls.{act, do_inc_refcount}
use Rattle.memory_layout.specs.Standing.{edit_records}
use Rattle.picker_calls.proofs.ListlessLaws.{listless}
use Rattle.picker_calls.proofs.CoreLaws.{stood_at, stood_beside, of_argument, of_argument_on, barred, denied, passed, acted_quietly, keep_insert}
use Rattle.picker_changes.proofs.CountLaws.{inc_passed}
use borrow.Author.Rules.{rules}
use Rattle.picker_changes.proofs.counts.inc_refcount_core.Goals as goal

pub judge_inc_refcount-requires : goal.judge_inc_refcount-requires
judge_inc_refcount-requires c = let m = c.admit in
    stood_beside _ _ _ _ _ _ (stood_at _ _ _ _ _ m.result m.ensures _ c.in_ok-s.was)

pub inc_refcount-used-requires : goal.inc_refcount-used-requires
inc_refcount-used-requires c = let m = c.admit in
    let j = c.judge_inc_refcount in
    let t = stood_at _ _ _ _ _ m.result m.ensures _ c.in_ok-s.was in
    let l = listless (do_inc_refcount _ _) refl in
    let p = passed _ _ _ _ _ _ t _ l j.result (j.ensures.is _ t.stands) c.in_ok-judge_inc_refcount.was in
    let all = inc_passed _ _ _ _ t.stands _ _ p in
    record {
      stands_beside = stood_beside _ _ _ _ _ _ t;
      i_lt_pieces = all.0;
      words_bound = all.1;
    }

pub returns-in_err-s : goal.returns-in_err-s
returns-in_err-s c = let m = c.admit in
    let l = listless (do_inc_refcount _ _) refl in
    barred _ _ _ _ _ m.result m.ensures _ c.in_err-s.was _ l c.from_residual.result c.from_residual.ensures.1

pub returns-in_err-judge_inc_refcount : goal.returns-in_err-judge_inc_refcount
returns-in_err-judge_inc_refcount c = let a = c.args in
    let m = c.admit in
    let j = c.judge_inc_refcount in
    let t = stood_at _ _ _ _ _ m.result m.ensures _ c.in_ok-s.was in
    of_argument_on (λ (i : ℕ). do_inc_refcount i a.draws.now) _ _ c.number-i.ensures _ _ _ _ _ _ _
    (denied _ _ _ _ _ _ t _ (listless (do_inc_refcount _ _) refl) j.result (j.ensures.is _ t.stands) _
    c.in_err-judge_inc_refcount.was c.from_residual-in_err-judge_inc_refcount.result c.from_residual-in_err-judge_inc_refcount.ensures.1)

pub returns : goal.returns
unfolding act edit_records
returns c = let a = c.args in
    let m = c.admit in
    let n = c.number-i in
    let j = c.judge_inc_refcount in
    let r = c.live_records-live in
    let x = c.inc_refcount-used in
    let t = stood_at _ _ _ _ _ m.result m.ensures _ c.in_ok-s.was in
    let l = listless (do_inc_refcount _ _) refl in
    let p = passed _ _ _ _ _ _ t _ l j.result (j.ensures.is _ t.stands) c.in_ok-judge_inc_refcount.was in
    let d = x.ensures.done _ t.stands in
    of_argument (λ (i : ℕ). do_inc_refcount i a.draws.now) _ _ n.ensures _ _ _ _ _ _ _ _ _
    (acted_quietly _ _ _ _ _ _ t _ l p r.result r.ensures _ keep_insert _ _ (inc_refcount a.draws.now n.result) refl
    x.result d.draws d.changed)
