-- `dec_refcount_all_core` meets its contract. Assumes nothing.
use mathlib.Core.Path.{refl}
use Rattle.model.specs.change.Changes.{dec_refcount_all}
use Rattle.model.specs.Calls.{act, do_dec_refcount_all}
use Rattle.memory_layout.specs.Standing.{edit_records}
use Rattle.picker_calls.proofs.ListlessLaws.{listless}
use Rattle.picker_calls.proofs.CoreLaws.{stood_at, stood_beside, barred, denied, passed, acted_undrawn, keep_insert}
use borrow.Author.Rules.{rules}
use Rattle.picker_seeds.proofs.seeds.dec_refcount_all_core.Goals as goal

pub judge_dec_refcount_all-requires : goal.judge_dec_refcount_all-requires
judge_dec_refcount_all-requires c = let m = c.admit in
    stood_beside _ _ _ _ _ _ (stood_at _ _ _ _ _ m.result m.ensures _ c.in_ok-s.was)

pub dec_refcount_all-requires : goal.dec_refcount_all-requires
dec_refcount_all-requires c = let m = c.admit in
    stood_beside _ _ _ _ _ _ (stood_at _ _ _ _ _ m.result m.ensures _ c.in_ok-s.was)

pub returns-in_err-s : goal.returns-in_err-s
returns-in_err-s c = let m = c.admit in
    let l = listless do_dec_refcount_all refl in
    barred _ _ _ _ _ m.result m.ensures _ c.in_err-s.was _ l c.from_residual.result c.from_residual.ensures.1

pub returns-in_err-judge_dec_refcount_all : goal.returns-in_err-judge_dec_refcount_all
returns-in_err-judge_dec_refcount_all c = let m = c.admit in
    let j = c.judge_dec_refcount_all in
    let t = stood_at _ _ _ _ _ m.result m.ensures _ c.in_ok-s.was in
    denied _ _ _ _ _ _ t _ (listless do_dec_refcount_all refl) j.result (j.ensures.is _ t.stands) _
    c.in_err-judge_dec_refcount_all.was c.from_residual-in_err-judge_dec_refcount_all.result c.from_residual-in_err-judge_dec_refcount_all.ensures.1

pub returns : goal.returns
unfolding act edit_records
returns c = let m = c.admit in
    let j = c.judge_dec_refcount_all in
    let r = c.live_records-live in
    let x = c.dec_refcount_all in
    let t = stood_at _ _ _ _ _ m.result m.ensures _ c.in_ok-s.was in
    let l = listless do_dec_refcount_all refl in
    let p = passed _ _ _ _ _ _ t _ l j.result (j.ensures.is _ t.stands) c.in_ok-judge_dec_refcount_all.was in
    acted_undrawn _ _ _ _ _ _ t _ l p r.result r.ensures _ keep_insert _ _ dec_refcount_all refl (x.ensures.made _ t.stands)
