-- `lap_ends` meets its contract. Assumes nothing.
use Rattle.pick_walk.proofs.TellLaws.{lap_told}
use Rattle.pick_state.specs.Requests.{request_of}
use borrow.Author.Rules.{rules}
use Rattle.pick_walk.proofs.tests.lap_ends.Goals as goal

pub returns : goal.returns
returns c = lap_told (request_of c.args.q c.args.bytes.now) c.args.ignored.now c.args.x c.stands_open-open.result c.same_trace-same.result
    c.stands_open-open.ensures c.same_trace-same.ensures
