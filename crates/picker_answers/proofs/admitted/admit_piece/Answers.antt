-- `admit_piece` meets its contract. Assumes nothing.
use mathlib.Core.Option.{none}
use Rattle.model.specs.Calls.{refuse_bad_piece}
use Rattle.picker_calls.proofs.CoreLaws.{stood_at}
use Rattle.picker_answers.proofs.AdmittedLaws.{refused_for_memory, refused_by_rule, admitted_by_rule}
use Rattle.picker_answers.proofs.AdmittedLaws.{piece_rule, piece_past, piece_there}
use borrow.Author.Rules.{rules}
use Rattle.picker_answers.proofs.admitted.admit_piece.Goals as goal

pub returns-then-shape-i : goal.returns-then-shape-i
returns-then-shape-i c = let k = c.admit in
    let at = c.in_ok-shape.was in
    let a = c.args in
    let t = (stood_at _ _ _ _ _ k.result k.ensures _ at).stands in
    refused_by_rule (λ d. refuse_bad_piece d a.i none) (piece_rule a.i) _ _ _ _ _ _ k.result k.ensures _ at _
    (piece_past _ _ _ _ t a.i none c.if-shape-i.true)

pub returns-in_err-shape : goal.returns-in_err-shape
returns-in_err-shape c = let k = c.admit in
    let a = c.args in
    refused_for_memory (λ d. refuse_bad_piece d a.i none) (piece_rule a.i) _ _ _ _ _ _ k.result k.ensures _
    c.in_err-shape.was _ c.from_residual.ensures.1

pub returns : goal.returns
returns c = let k = c.admit in
    let at = c.in_ok-shape.was in
    let a = c.args in
    let t = (stood_at _ _ _ _ _ k.result k.ensures _ at).stands in
    admitted_by_rule (λ d. refuse_bad_piece d a.i none) (piece_rule a.i) _ _ _ _ _ _ k.result k.ensures _ at
    (piece_there _ _ _ _ t a.i none c.if-shape-i.false) c.if-shape-i.false _ c.live_records.ensures
