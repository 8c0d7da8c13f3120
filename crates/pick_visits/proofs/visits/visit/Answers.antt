-- `visit` meets its contract. Assumes nothing.
use mathlib.Core.Path.{sym, ◌∙◌}
use borrow.Author.Rules.{rules}
use Rattle.model.specs.pick.Blocks.{is_piece_free}
use Rattle.pick_state.specs.Requests.{request_of}
use Rattle.pick_free.proofs.FreeLaws.{picks_cells}
use Rattle.pick_visits.proofs.VisitLaws.{picks_say, picks_inside, visit_yes, visit_no}
use Rattle.pick_visits.proofs.visits.visit.Goals as goal

pub is_piece_free-requires : goal.is_piece_free-requires
is_piece_free-requires c = picks_cells c.args.s c.args.live c.args.rows.now c.args.words.now c.args.cells.now c.args.q c.requires.picks

pub add_flagged-requires : goal.add_flagged-requires
add_flagged-requires c = let e = picks_say c.requires.picks (λ d. is_piece_free (request_of c.args.q c.args.bytes.now) d c.args.i) c.is_piece_free.result c.is_piece_free.ensures in
    record {
      picks = c.requires.picks;
      piece_room = c.requires.piece_room;
      le_left = (c.requires.le_left, picks_inside c.requires.picks c.args.bytes.now c.args.i (sym e ∙ c.if-is_piece_free.true));
    }

pub returns-then-is_piece_free : goal.returns-then-is_piece_free
returns-then-is_piece_free c = let e = picks_say c.requires.picks (λ d. is_piece_free (request_of c.args.q c.args.bytes.now) d c.args.i) c.is_piece_free.result c.is_piece_free.ensures in
    visit_yes (request_of c.args.q c.args.bytes.now) c.args.flag.0 c.args.i (sym e ∙ c.if-is_piece_free.true) c.add_flagged.ensures

pub returns : goal.returns
returns c = let e = picks_say c.requires.picks (λ d. is_piece_free (request_of c.args.q c.args.bytes.now) d c.args.i) c.is_piece_free.result c.is_piece_free.ensures in
    visit_no (request_of c.args.q c.args.bytes.now) c.args.flag.0 c.args.i (sym e ∙ c.if-is_piece_free.false)
