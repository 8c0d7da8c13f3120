-- `finished_info` meets its contract. Assumes nothing.
use mathlib.Core.Path.{refl}
use Rattle.change_finishes.proofs.FinishLaws.{info_kept, info_given}
use Rattle.change_finishes.proofs.finishes.finished_info.Goals as goal

pub returns-then-b-has_peer : goal.returns-then-b-has_peer
returns-then-b-has_peer c = info_kept c.args.b c.args.has_peer c.args.peer _ refl refl c.if-b-has_peer.true refl refl

pub returns : goal.returns
returns c = info_given c.args.b c.args.has_peer c.args.peer _ refl refl c.if-b-has_peer.false refl refl
