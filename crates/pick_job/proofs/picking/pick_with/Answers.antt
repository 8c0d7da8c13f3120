-- `pick_with` meets its contract. Assumes nothing.
use Rattle.std.specs.Prelude.{Ok, Err}
use Rattle.std.proofs.lemmas.Result.{err_from_is_err_and}
use mathlib.Core.Path.{refl}
use lib.ListN.{length}
use Rattle.types.specs.Piece.{number_of}
use Rattle.model.specs.Lists.{each}
use Rattle.memory_rows.specs.Lookup.{picker_in}
use Rattle.pick_start.specs.Starting.{request_with}
use Rattle.pick_job.proofs.PickLaws.{room_told, judged_here, refused_told, passed_none, done_told}
use borrow.Author.Rules.{rules}
use Rattle.pick_job.proofs.picking.pick_with.Goals as goal

pub returns-in_err-judge_pick : goal.returns-in_err-judge_pick
returns-in_err-judge_pick c = let request = request_with c.args.q c.args.bytes.now (each number_of c.args.suggestions.now) in
    let d = picker_in c.args.live c.args.rows.now c.args.words.now c.args.cells.now in
    let h = judged_here c.args.s c.args.live c.args.rows.now c.args.words.now c.args.cells.now c.requires.asked.0 request (length c.args.out.now) c.args.draws.now
    (Err _) c.in_err-judge_pick.ensures in
    let p = err_from_is_err_and c.from_residual.result c.from_residual.ensures.1 in
    rw (p.1, p.2) (refused_told d request (length c.args.out.now) c.args.draws.now (Err _) h _ refl)

pub pick_pieces-picked-requires : goal.pick_pieces-picked-requires
pick_pieces-picked-requires c = let request = request_with c.args.q c.args.bytes.now (each number_of c.args.suggestions.now) in
    let d = picker_in c.args.live c.args.rows.now c.args.words.now c.args.cells.now in
    let h = judged_here c.args.s c.args.live c.args.rows.now c.args.words.now c.args.cells.now c.requires.asked.0 request (length c.args.out.now) c.args.draws.now
    (Ok tt) c.in_ok-judge_pick.ensures in
    let none = passed_none d request (length c.args.out.now) c.args.draws.now (Ok tt) h refl in record {
      picks = record { asked = c.requires.asked.0; bits = c.requires.asked.1 };
      counts_held = c.requires.counts_held;
      pick_room = room_told d c.args.q c.args.bytes.now c.args.suggestions.now (length c.args.out.now) c.args.draws.now none;
    }

pub returns : goal.returns
returns c = let request = request_with c.args.q c.args.bytes.now (each number_of c.args.suggestions.now) in
    let d = picker_in c.args.live c.args.rows.now c.args.words.now c.args.cells.now in
    let h = judged_here c.args.s c.args.live c.args.rows.now c.args.words.now c.args.cells.now c.requires.asked.0 request (length c.args.out.now) c.args.draws.now
    (Ok tt) c.in_ok-judge_pick.ensures in
    done_told d request (length c.args.out.now) c.args.draws.now (Ok tt) h refl _ _ _ _
    c.pick_pieces-picked.ensures.pick_gave
