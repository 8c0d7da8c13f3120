-- `suggest` meets its contract. Assumes nothing.
use mathlib.Core.Path.{sym, ◌∙◌}
use native.Mathlib.Omega.{arith}
use borrow.Author.Rules.{rules}
use Rattle.model.specs.Options.{suggest_loops}
use Rattle.model.specs.pick.Blocks.{is_piece_free}
use Rattle.pick_state.specs.Requests.{request_of}
use Rattle.pick_free.proofs.FreeLaws.{picks_cells}
use Rattle.pick_visits.proofs.VisitLaws.{picks_say, picks_inside, beside, counted_one, underway_marks, suggest_yes, suggest_no}
use Rattle.pick_visits.proofs.suggestions.suggest.Goals as goal

pub count-requires : goal.count-requires
count-requires c = let m = underway_marks c.requires.underway in (omega arith, c.requires.le_left.1)

pub is_piece_free-requires : goal.is_piece_free-requires
is_piece_free-requires c = picks_cells c.args.s c.args.live c.args.rows.now c.args.words.now c.args.cells.now c.args.q c.requires.picks

pub add_flagged-r-requires : goal.add_flagged-r-requires
add_flagged-r-requires c = let e = picks_say c.requires.picks (λ d. is_piece_free (request_of c.args.q c.args.bytes.now) d c.args.i) c.is_piece_free.result c.is_piece_free.ensures in
    record {
      picks = c.requires.picks;
      piece_room = beside c.requires.underway;
      le_left = (c.requires.le_left.0, picks_inside c.requires.picks c.args.bytes.now c.args.i (sym e ∙ c.if-is_piece_free.true));
    }

pub bounds-ignored-i : goal.bounds-ignored-i
bounds-ignored-i c = let e = picks_say c.requires.picks (λ d. is_piece_free (request_of c.args.q c.args.bytes.now) d c.args.i) c.is_piece_free.result c.is_piece_free.ensures in
    let h = picks_inside c.requires.picks c.args.bytes.now c.args.i (sym e ∙ c.if-is_piece_free.true) in
    let m = (underway_marks (c.add_flagged-r.ensures c.args.loops.now c.requires.underway).underway).0 in
    omega arith

pub returns-then-is_piece_free : goal.returns-then-is_piece_free
returns-then-is_piece_free c = let e = picks_say c.requires.picks (λ d. is_piece_free (request_of c.args.q c.args.bytes.now) d c.args.i) c.is_piece_free.result c.is_piece_free.ensures in
    let m = underway_marks c.requires.underway in record {
      stepped = suggest_yes (request_of c.args.q c.args.bytes.now) c.args.i c.requires.underway c.count.ensures (sym e ∙ c.if-is_piece_free.true) c.add_flagged-r.ensures;
      counted = counted_one suggest_loops c.args.loops.now _ (omega arith) c.count.ensures;
    }

pub returns : goal.returns
returns c = let e = picks_say c.requires.picks (λ d. is_piece_free (request_of c.args.q c.args.bytes.now) d c.args.i) c.is_piece_free.result c.is_piece_free.ensures in
    let m = underway_marks c.requires.underway in record {
      stepped = suggest_no (request_of c.args.q c.args.bytes.now) c.args.i c.requires.underway c.count.ensures (sym e ∙ c.if-is_piece_free.false);
      counted = counted_one suggest_loops c.args.loops.now _ (omega arith) c.count.ensures;
    }
