-- `judge_job` meets its contract. Assumes nothing.
use Rattle.image_judge.proofs.WholeLaws.{image_ended, job_fault, job_pick}
use Rattle.image_pieces.proofs.PassedOn.{passed_on}
use Rattle.image_judge.proofs.whole.judge_job.Goals as goal

pub judge_pick-requires : goal.judge_pick-requires
judge_pick-requires c = (image_ended c.args.bytes.now _ c.read_front.ensures _ c.in_ok-end.was).within

pub returns : goal.returns
returns c = job_pick c.args.bytes.now _ c.read_front.ensures _ c.in_ok-end.was _ c.judge_pick.ensures

pub returns-in_err-end : goal.returns-in_err-end
returns-in_err-end c = rw (passed_on c.from_residual.result c.in_err-end.field-0.0 c.from_residual.ensures.1)
    (job_fault c.args.bytes.now _ c.read_front.ensures _ c.in_err-end.was)
