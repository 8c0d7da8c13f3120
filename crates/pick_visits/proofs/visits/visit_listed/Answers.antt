-- `visit_listed` meets its contract. Assumes nothing.
use mathlib.Core.Path.{sym, ◌∙◌}
use borrow.Author.Rules.{rules}
use Rattle.pick_state.specs.Requests.{request_of}
use Rattle.pick_visits.specs.Visits.{OnlyBit}
use Rattle.pick_visits.proofs.VisitLaws.{picks_inside, visit_yes, visit_no}
use Rattle.pick_visits.proofs.visits.visit_listed.Goals as goal

pub add_flagged-requires : goal.add_flagged-requires
unfolding OnlyBit
add_flagged-requires c = record {
  picks = c.requires.picks;
  piece_room = c.requires.piece_room;
  le_left = (c.requires.le_left.0, picks_inside c.requires.picks c.args.bytes.now c.args.i (c.requires.le_left.1 ∙ (sym c.has_bit.ensures ∙ c.if-has_bit.true)));
}

pub returns-then-has_bit : goal.returns-then-has_bit
unfolding OnlyBit
returns-then-has_bit c = visit_yes (request_of c.args.q c.args.bytes.now) c.args.flag.0 c.args.i (c.requires.le_left.1 ∙ (sym c.has_bit.ensures ∙ c.if-has_bit.true)) c.add_flagged.ensures

pub returns : goal.returns
unfolding OnlyBit
returns c = visit_no (request_of c.args.q c.args.bytes.now) c.args.flag.0 c.args.i (c.requires.le_left.1 ∙ (sym c.has_bit.ensures ∙ c.if-has_bit.false))
