-- `visit_below_top` meets its contract. Assumes nothing.
use mathlib.Core.Path.{sym, ◌∙◌}
use borrow.Author.Tests.{eq-eqb, ne_eqb}
use borrow.Author.Rules.{rules}
use Rattle.model.specs.State.{piece_at}
use Rattle.pick_state.specs.Requests.{request_of}
use Rattle.pick_visits.proofs.VisitLaws.{picks_say, below_yes, below_no}
use Rattle.pick_visits.proofs.visits.visit_below_top.Goals as goal

pub priority-requires : goal.priority-requires
priority-requires c = record {
  cells_span = c.requires.picks.asked.stands.bounds.spans.in_cells;
  i_lt_pieces = c.requires.le_left.1;
}

pub returns-then-priority-eq7 : goal.returns-then-priority-eq7
returns-then-priority-eq7 c = let e = picks_say c.requires.picks (λ d. (piece_at d c.args.i).priority) c.priority.result c.priority.ensures in
    below_no (request_of c.args.q c.args.bytes.now) c.args.flag.0 c.args.i (eq-eqb _ 7 (sym e ∙ c.if-priority-eq7.true))

pub visit-requires : goal.visit-requires
visit-requires c = record {
  picks = c.requires.picks;
  piece_room = c.requires.piece_room;
  le_left = c.requires.le_left.0;
}

pub returns : goal.returns
returns c = let e = picks_say c.requires.picks (λ d. (piece_at d c.args.i).priority) c.priority.result c.priority.ensures in
    below_yes (request_of c.args.q c.args.bytes.now) c.args.flag.0 c.args.i (ne_eqb _ 7 (λ z. c.if-priority-eq7.false (e ∙ z))) c.visit.ensures
