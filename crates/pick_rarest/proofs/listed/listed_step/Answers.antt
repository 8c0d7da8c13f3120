-- `listed_step` meets its contract. Assumes nothing.
use mathlib.Core.Path.{sym, ◌∙◌}
use native.Mathlib.Omega.{arith}
use borrow.Author.Rules.{rules}
use Rattle.memory_records.specs.Rows.{records_in}
use Rattle.pick_state.specs.Requests.{request_of}
use Rattle.pick_visits.proofs.VisitLaws.{beside, counted_one, underway_marks, listed_yes, listed_no}
use Rattle.pick_rarest.proofs.listed.listed_step.Goals as goal

pub count-requires : goal.count-requires
count-requires c = let m = underway_marks c.requires.underway in (omega (arith, c.requires.le_left.1), c.requires.le_left.2)

pub in_range-requires : goal.in_range-requires
in_range-requires c = c.requires.picks.asked.stands.bounds.spans.in_words

pub returns-then-in_range : goal.returns-then-in_range
returns-then-in_range c = let e = c.in_range.ensures.is (records_in c.args.live c.args.rows.now) c.args.cells.now in
    let m = underway_marks c.requires.underway in record {
      stepped = listed_no (request_of c.args.q c.args.bytes.now) c.args.counter c.args.flag.0 c.args.i c.requires.underway c.count.ensures (sym e ∙ c.if-in_range.true);
      counted = counted_one c.args.counter c.args.loops.now _ (omega (arith, c.requires.le_left.1)) c.count.ensures;
    }

pub visit_listed-requires : goal.visit_listed-requires
visit_listed-requires c = record {
  picks = c.requires.picks;
  piece_room = beside c.requires.underway;
  le_left = (c.requires.le_left.0, c.requires.le_left.3);
}

pub returns : goal.returns
returns c = let e = c.in_range.ensures.is (records_in c.args.live c.args.rows.now) c.args.cells.now in
    let m = underway_marks c.requires.underway in record {
      stepped = listed_yes (request_of c.args.q c.args.bytes.now) c.args.counter c.args.flag.0 c.args.i c.requires.underway c.count.ensures (sym e ∙ c.if-in_range.false)
          c.visit_listed.ensures;
      counted = counted_one c.args.counter c.args.loops.now _ (omega (arith, c.requires.le_left.1)) c.count.ensures;
    }
