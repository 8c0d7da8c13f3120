-- `visit_outside` meets its contract. Assumes nothing.
use mathlib.Core.Path.{sym, ◌∙◌}
use borrow.Author.Rules.{rules}
use Rattle.memory_records.specs.Rows.{records_in}
use Rattle.pick_state.specs.Requests.{request_of}
use Rattle.pick_visits.proofs.VisitLaws.{outside_yes, outside_no}
use Rattle.pick_visits.proofs.visits.visit_outside.Goals as goal

pub in_range-requires : goal.in_range-requires
in_range-requires c = c.requires.picks.asked.stands.bounds.spans.in_words

pub returns-then-in_range : goal.returns-then-in_range
returns-then-in_range c = let e = c.in_range.ensures.is (records_in c.args.live c.args.rows.now) c.args.cells.now in
    outside_no (request_of c.args.q c.args.bytes.now) c.args.flag.0 c.args.i (sym e ∙ c.if-in_range.true)

pub visit-requires : goal.visit-requires
visit-requires c = record {
  picks = c.requires.picks;
  piece_room = c.requires.piece_room;
  le_left = c.requires.le_left;
}

pub returns : goal.returns
returns c = let e = c.in_range.ensures.is (records_in c.args.live c.args.rows.now) c.args.cells.now in
    outside_yes (request_of c.args.q c.args.bytes.now) c.args.flag.0 c.args.i (sym e ∙ c.if-in_range.false) c.visit.ensures
