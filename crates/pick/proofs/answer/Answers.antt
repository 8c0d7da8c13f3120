-- `answer` meets its contract. Assumes nothing.
use Rattle.pick.proofs.TextLaws.{answered}
use Rattle.pick.proofs.answer.Goals as goal

pub returns : goal.returns
returns g c =
    answered c.print_answer.result _ _ _ _ _ _ c.input_buffer-input.ensures c.in_ok-n.ensures.bytes _ c.job-told.ensures c.print_answer.ensures
