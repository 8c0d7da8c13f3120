-- `pick_rarest` meets its contract. Assumes nothing.
use mathlib.Core.Path.{sym, ◌∙◌}
use borrow.Author.Rules.{rules}
use Rattle.model.specs.pick.Blocks.{option}
use Rattle.pick_state.specs.Requests.{request_of}
use Rattle.pick_rarest.proofs.RarestLaws.{counted_risen, rarest_back, rarest_forward}
use Rattle.pick_rarest.proofs.rarest.pick_rarest.Goals as goal

pub walk_list_back-requires : goal.walk_list_back-requires
walk_list_back-requires c = record {
  picks = c.requires.picks;
  underway = c.requires.underway;
  le_left = (c.requires.le_left.0, c.requires.le_left.1);
}

pub returns-then-contains : goal.returns-then-contains
unfolding option request_of
returns-then-contains c = let r = request_of c.args.q c.args.bytes.now in
    record {
      moved = rarest_back c.requires.picks r (sym c.contains.ensures ∙ c.if-contains.true) c.walk_list_back.ensures.stepped;
      risen = counted_risen c.walk_list_back.ensures.counted;
    }

pub pick_forward-requires : goal.pick_forward-requires
pick_forward-requires c = record {
  picks = c.requires.picks;
  underway = c.requires.underway;
  le_left = (c.requires.le_left.0, c.requires.le_left.2);
}

pub returns : goal.returns
unfolding option request_of
returns c = let r = request_of c.args.q c.args.bytes.now in
    record {
      moved = rarest_forward r (sym c.contains.ensures ∙ c.if-contains.false) c.pick_forward.ensures.moved;
      risen = c.pick_forward.ensures.risen;
    }
