-- `admit_picker` meets its contract. Assumes nothing.
use mathlib.Core.Path.{refl}
use mathlib.Core.Option.{none}
use Rattle.picker_calls.specs.Calling.{of_memory}
use Rattle.picker_answers.proofs.AdmittedLaws.{refused_for_memory, admitted_by_rule}
use borrow.Author.Rules.{rules}
use Rattle.picker_answers.proofs.admitted.admit_picker.Goals as goal

pub returns-in_err-shape : goal.returns-in_err-shape
unfolding of_memory
returns-in_err-shape c = let k = c.admit in
    refused_for_memory (λ d. none) (λ d. refl) _ _ _ _ _ _ k.result k.ensures _
    c.in_err-shape.was _ c.from_residual.ensures.1

pub returns : goal.returns
unfolding of_memory
returns c = let k = c.admit in
    admitted_by_rule (λ d. none) (λ d. refl) _ _ _ _ _ _ k.result k.ensures _
    c.in_ok-shape.was refl tt _ c.live_records.ensures
