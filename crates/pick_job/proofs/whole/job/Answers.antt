-- `job` meets its contract. Assumes nothing.
use mathlib.Core.Path.{sym, ◌∙◌}
use Prim.Native.Nat.{◌-◌}
use native.Mathlib.Omega.{arith}
use lib.ListN.{length}
use lib.Seq.{length-take-le}
use Rattle.pick_job.proofs.FoundLaws.{fault_told, job_got}
use borrow.Author.Rules.{rules}
use Rattle.pick_job.proofs.whole.job.Goals as goal

pub overflow_sub-end : goal.overflow_sub-end
overflow_sub-end c = let g = job_got c.args.bytes.now _ (sym c.in-Ok.is ∙ c.judge_job.ensures) in
    omega (arith, g.long)

pub slice_bounds-pick_image-end : goal.slice_bounds-pick_image-end
slice_bounds-pick_image-end c = sym (length-take-le (length c.args.bytes.now - 18) c.args.bytes.now (omega arith))

pub pick_image-requires : goal.pick_image-requires
pick_image-requires c = let g = job_got c.args.bytes.now _ (sym c.in-Ok.is ∙ c.judge_job.ensures) in
    (record { picker = g.picker; is = g.image }, g.options, c.requires)

pub returns-in-Err : goal.returns-in-Err
returns-in-Err c = fault_told c.args.bytes.now _ (sym c.in-Err.is ∙ c.judge_job.ensures)

pub returns-in-Ok : goal.returns-in-Ok
returns-in-Ok c = let g = job_got c.args.bytes.now _ (sym c.in-Ok.is ∙ c.judge_job.ensures) in
    c.pick_image.ensures g.picker g.image ∙ sym g.is
