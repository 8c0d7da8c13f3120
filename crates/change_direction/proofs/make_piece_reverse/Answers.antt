-- `make_piece_reverse` meets its contract. Assumes nothing.
use Rattle.change_direction.proofs.TurnLaws.{reverse_made, reverse_left}
use Rattle.change_direction.proofs.make_piece_reverse.Goals as goal

pub returns-then-back-is_reverse : goal.returns-then-back-is_reverse
returns-then-back-is_reverse c = let
    a = c.args in reverse_made a.s _ a.i a.back a.words.now a.cells.now
    a.used c.queue_at-q.result c.queue_at-q.ensures a.requested c.is_reverse.result c.is_reverse.ensures
    c.if-back-is_reverse.true c.make_reverse.result c.make_reverse.ensures _ _ c.set_direction.result
    c.set_direction.ensures

pub returns : goal.returns
returns c = reverse_left c.args.s _ c.args.i c.args.back c.args.words.now c.args.cells.now c.args.used c.queue_at-q.result c.queue_at-q.ensures
    c.args.requested c.is_reverse.result c.is_reverse.ensures c.if-back-is_reverse.false
