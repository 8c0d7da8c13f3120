-- `skip_done` meets its contract. Assumes nothing.
use Rattle.pick_walk.proofs.TellLaws.{or_told}
use Rattle.pick_state.specs.Requests.{request_of}
use Rattle.model.specs.pick.Blocks.{is_piece_free}
use Rattle.model.specs.Lists.{nth}
use mathlib.Core.Bool.{false, not, ◌&&◌}
use borrow.Author.Rules.{rules}
use Rattle.pick_walk.proofs.skipping.skip_done.Goals as goal

pub returns : goal.returns
returns c = or_told c.args.back c.stands_open-open.result (λ d. is_piece_free (request_of c.args.q c.args.bytes.now) d c.args.place && not (nth false c.args.ignored.now c.args.place)) c.stands_open-open.ensures
