-- `stands_open` meets its contract. Assumes nothing.
use Rattle.pick_walk.proofs.TellLaws.{stands_told}
use Rattle.pick_state.specs.Requests.{request_of}
use Rattle.model.specs.Lists.{nth}
use lib.ListN.{get_or}
use mathlib.Core.Bool.{false}
use borrow.Author.Rules.{rules}
use Rattle.pick_walk.proofs.tests.stands_open.Goals as goal

pub returns : goal.returns
unfolding nth
returns c = stands_told (request_of c.args.q c.args.bytes.now) c.args.i c.is_piece_free-free.result (get_or c.args.ignored.now c.args.i false) c.is_piece_free-free.ensures
