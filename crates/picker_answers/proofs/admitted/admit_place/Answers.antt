-- `admit_place` meets its contract. Assumes nothing.
use mathlib.Core.Path.{sym, ap, ◌∙◌}
use mathlib.Core.Bool.{Bool}
use mathlib.Core.Option.{none}
use Rattle.types.specs.declared.refusal.Refusal.TheVariants.{OutOfRange}
use Rattle.model.specs.Calls.{check, no_place}
use Rattle.picker_calls.proofs.CoreLaws.{stood_at}
use Rattle.picker_answers.proofs.AdmittedLaws.{refused_for_memory, refused_by_rule, admitted_by_rule, place_rule}
use borrow.Author.Rules.{rules}
use Rattle.picker_answers.proofs.admitted.admit_place.Goals as goal

pub past_list-requires : goal.past_list-requires
past_list-requires c = let k = c.admit in
    (stood_at _ _ _ _ _ k.result k.ensures _ c.in_ok-shape.was).stands.bounds.spans.in_words

pub returns-then-past_list : goal.returns-then-past_list
unfolding check
returns-then-past_list c = let k = c.admit in
    let at = c.in_ok-shape.was in
    let a = c.args in
    let t = (stood_at _ _ _ _ _ k.result k.ensures _ at).stands in
    refused_by_rule (λ d. check (no_place d.listing a.k) OutOfRange none) (place_rule a.k) _ _ _ _ _ _
    k.result k.ensures _ at _
    (ap (λ (x : Bool). check x OutOfRange none)
    (sym (c.past_list.ensures.is _ _ t.bounds) ∙ c.if-past_list.true))

pub returns-in_err-shape : goal.returns-in_err-shape
returns-in_err-shape c = let k = c.admit in
    let a = c.args in
    refused_for_memory (λ d. check (no_place d.listing a.k) OutOfRange none) (place_rule a.k) _ _ _ _ _ _ k.result k.ensures _
    c.in_err-shape.was _ c.from_residual.ensures.1

pub returns : goal.returns
unfolding check
returns c = let k = c.admit in
    let at = c.in_ok-shape.was in
    let a = c.args in
    let t = (stood_at _ _ _ _ _ k.result k.ensures _ at).stands in
    admitted_by_rule (λ d. check (no_place d.listing a.k) OutOfRange none) (place_rule a.k) _ _ _ _ _ _
    k.result k.ensures _ at
    (ap (λ (x : Bool). check x OutOfRange none)
    (sym (c.past_list.ensures.is _ _ t.bounds) ∙ c.if-past_list.false)) tt _
    c.live_records.ensures
