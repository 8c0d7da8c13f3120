-- `im_judge_job` meets its contract. Assumes nothing.
use mathlib.Core.Path.{sym, ap, ◌∙◌}
use Rattle.link_judge.specs.Places.{job_place}
use borrow.Author.Rules.{rules}
use Rattle.link_judge.proofs.im_judge_job.Goals as goal

pub returns-in-Ok : goal.returns-in-Ok
returns-in-Ok c = ap job_place (sym c.in-Ok.is ∙ c.judge_job.ensures)

pub returns-in-Err : goal.returns-in-Err
returns-in-Err c = ap job_place (sym c.in-Err.is ∙ c.judge_job.ensures)
