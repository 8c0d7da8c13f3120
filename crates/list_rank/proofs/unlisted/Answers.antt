-- `unlisted` meets its contract: the tests are those of the definition. Assumes nothing.
use Rattle.list_rank.proofs.Ranking.{tests}
use Rattle.list_rank.proofs.unlisted.Goals as goal

pub returns : goal.returns
returns c = tests c.args.seeds c.args.peer_count c.args.state c.args.priority c.args.flushed
