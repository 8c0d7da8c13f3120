-- `judge_image` meets its contract. Assumes nothing.
use Rattle.image_judge.proofs.WholeLaws.{image_fault, image_more, image_done}
use Rattle.image_pieces.proofs.PassedOn.{passed_on}
use Rattle.image_judge.proofs.whole.judge_image.Goals as goal

pub returns-then-k-bytes : goal.returns-then-k-bytes
returns-then-k-bytes c = image_more c.args.bytes.now _ c.read_front.ensures _ c.in_ok-k.was c.if-k-bytes.true

pub returns : goal.returns
returns c = image_done c.args.bytes.now _ c.read_front.ensures _ c.in_ok-k.was c.if-k-bytes.false

pub returns-in_err-k : goal.returns-in_err-k
returns-in_err-k c = rw (passed_on c.from_residual.result c.in_err-k.field-0.0 c.from_residual.ensures.1)
    (image_fault c.args.bytes.now _ c.read_front.ensures _ c.in_err-k.was)
