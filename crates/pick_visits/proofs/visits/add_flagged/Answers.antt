-- `add_flagged` meets its contract. Assumes nothing.
use borrow.Author.Rules.{rules}
use Rattle.pick_visits.proofs.VisitLaws.{picks_sound, flag_wanted, flag_beside, flag_added}
use Rattle.pick_visits.proofs.visits.add_flagged.Goals as goal

pub add_blocks-requires : goal.add_blocks-requires
add_blocks-requires c = record {
  picks = c.requires.picks;
  piece_room = flag_beside c.args.flag.0 c.flagged.result c.flagged.ensures c.requires.piece_room;
  left_nonzero = (flag_wanted c.args.flag.0 c.args.t c.flagged.result c.flagged.ensures c.requires.le_left.0, c.requires.le_left.1);
}

pub returns : goal.returns
returns c = flag_added c.args.flag.0 c.flagged.result c.flagged.ensures _ c.args.i (picks_sound c.requires.picks) c.requires.le_left.0 c.add_blocks.ensures
