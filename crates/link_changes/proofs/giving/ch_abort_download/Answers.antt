-- `ch_abort_download` asks of its caller what `abort_download` asks, and tells what that answers. Assumes nothing.
use Rattle.link_changes.proofs.OutcomeLaws.{done_told}
use Rattle.link_changes.proofs.giving.ch_abort_download.Goals as goal

pub returns : goal.returns
returns c = done_told _ _ _ _ _ _ _ _ _ _ _ c.told.ensures (rw c.from-s.ensures at c.abort_download-given.ensures.change)
