-- `check_pieces::join` meets its contract: the joined cells pass exactly where those before and the piece's do. Assumes nothing.
use Rattle.check_pieces.proofs.RowLaws.{join_row}
use borrow.Author.Rules.{rules}
use Rattle.check_pieces.proofs.rows.join.Goals as goal

pub returns : goal.returns
returns c = join_row c.args.sum c.args.seeds c.args.count c.args.state c.args.priority c.args.flushed
    c.wrong_in.result c.wrong_in.ensures
