-- `unreverse_piece` meets its contract. Assumes nothing.
use Rattle.change_direction.proofs.TurnLaws.{turned_back, turned_left}
use Rattle.change_direction.proofs.unreverse_piece.Goals as goal

pub returns-then-back-is_reverse : goal.returns-then-back-is_reverse
returns-then-back-is_reverse c = let
    a = c.args in turned_back a.s _ a.i a.back a.words.now a.cells.now a.used
    c.queue_at-q.result c.queue_at-q.ensures c.is_reverse.result c.is_reverse.ensures c.if-back-is_reverse.true
    c.unreverse.result c.unreverse.ensures _ _ c.set_direction.result c.set_direction.ensures

pub returns : goal.returns
returns c = turned_left c.args.s _ c.args.i c.args.back c.args.words.now c.args.cells.now c.args.used c.queue_at-q.result c.queue_at-q.ensures
    c.is_reverse.result c.is_reverse.ensures c.if-back-is_reverse.false
