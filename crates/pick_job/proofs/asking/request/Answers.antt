-- `request` meets its contract. Assumes nothing.
use Rattle.pick_job.proofs.PickLaws.{request_made}
use borrow.Author.Rules.{rules}
use Rattle.pick_job.proofs.asking.request.Goals as goal

pub returns : goal.returns
returns c = request_made c.args.p c.args.n _ _ _ _ _ c.u64_to_u16.ensures c.u64_to_usize.ensures
    c.u64_to_usize-2.ensures c.u64_to_usize-3.ensures c.lent_peer.ensures
