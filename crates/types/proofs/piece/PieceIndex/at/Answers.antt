-- `PieceIndex::at` meets its contract: a place below 2^31 fits, and its bits read as itself. Assumes nothing.
use Rattle.types.proofs.Signed.{reads, numbers, places}
use Rattle.types.proofs.piece.PieceIndex.at.Goals as goal

pub returns : goal.returns
returns c = let e = reads c.args.i c.requires in (e, numbers c.args.i _ e, places c.args.i _ e)
