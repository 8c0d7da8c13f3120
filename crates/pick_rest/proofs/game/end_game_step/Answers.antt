-- `end_game_step` meets its contract. Assumes nothing.
use Rattle.pick_rest.proofs.GameLaws.{draw_in, place_in, piece_of, piece_low, used-end, used-used, step_did}
use Rattle.ask_picker.proofs.AskedLaws.{asked_queues}
use lib.ListN.{length-replicate}
use Prim.Native.Nat.{ℕ}
use native.Mathlib.Omega.{arith}
use borrow.Author.Rules.{rules}
use Rattle.pick_rest.proofs.game.end_game_step.Goals as goal

pub offset_bounds-places-k : goal.offset_bounds-places-k
offset_bounds-places-k c = omega (arith, draw_in _ _ _ _ c.requires.many_nonzero.0 c.draw-k.ensures, c.requires.many_nonzero.1.few)

pub bounds-places-k : goal.bounds-places-k
bounds-places-k c = omega (arith, draw_in _ _ _ _ c.requires.many_nonzero.0 c.draw-k.ensures, c.requires.many_nonzero.1.few)

pub offset_bounds-rows-place : goal.offset_bounds-rows-place
offset_bounds-rows-place c = omega (
  arith,
  place_in _ _ _ c.requires.many_nonzero.1 _ (draw_in _ _ _ _ c.requires.many_nonzero.0 c.draw-k.ensures) _ c.u16_to_usize-place.ensures,
  (asked_queues c.args.s c.args.live c.args.rows.now c.args.words.now c.args.cells.now c.requires.asked).few,
)

pub bounds-rows-place : goal.bounds-rows-place
bounds-rows-place c = omega (
  arith,
  place_in _ _ _ c.requires.many_nonzero.1 _ (draw_in _ _ _ _ c.requires.many_nonzero.0 c.draw-k.ensures) _ c.u16_to_usize-place.ensures,
  (asked_queues c.args.s c.args.live c.args.rows.now c.args.words.now c.args.cells.now c.requires.asked).few,
  c.requires.asked.wide,
)

pub busy_blocks-n-requires : goal.busy_blocks-n-requires
busy_blocks-n-requires c = record {
  asked = c.requires.asked;
  k_lt_live = (place_in _ _ _ c.requires.many_nonzero.1 _ (draw_in _ _ _ _ c.requires.many_nonzero.0 c.draw-k.ensures) _ c.u16_to_usize-place.ensures, length-replicate {A = ℕ} 512 0);
}

pub count-requires : goal.count-requires
count-requires c = (omega (arith, c.requires.end_in_bounds.2.wide), omega (arith, c.requires.end_in_bounds.2.room))

pub end_game_try-requires : goal.end_game_try-requires
end_game_try-requires c = let k = draw_in _ _ _ _ c.requires.many_nonzero.0 c.draw-k.ensures in
    let l = place_in _ _ _ c.requires.many_nonzero.1 _ k _ c.u16_to_usize-place.ensures in
    record {
      end_in_bounds = (
        omega (arith, used-end c.args.t _ c.drawn.ensures, c.requires.end_in_bounds.0),
        omega (arith, used-used c.args.t _ c.drawn.ensures, c.requires.end_in_bounds.1),
        piece_low c.args.s c.args.live c.args.rows.now c.args.words.now c.args.cells.now c.requires.asked _ l _ c.u32_to_usize-i.ensures,
      );
      k_lt_many = (k, c.requires.many_nonzero.1.few, c.requires.many_nonzero.1.long);
      blocks_in = record { few = c.busy_blocks-n.ensures.few; low = c.busy_blocks-n.ensures.low; long = c.busy_blocks-n.ensures.long };
    }

pub returns : goal.returns
returns c = let l = place_in _ _ _ c.requires.many_nonzero.1 _ (draw_in _ _ _ _ c.requires.many_nonzero.0 c.draw-k.ensures) _ c.u16_to_usize-place.ensures in
    step_did c.args.draws.now c.args.q _ c.args.live c.args.t c.args.many c.args.places.now c.args.out.now c.args.loops.now c.requires.many_nonzero.0 c.requires.many_nonzero.1
    (omega (arith, c.requires.end_in_bounds.2.wide)) _ c.draw-k.ensures _ c.u16_to_usize-place.ensures _
    (piece_of c.args.s c.args.live c.args.rows.now c.args.words.now c.args.cells.now c.requires.asked _ l _ c.u32_to_usize-i.ensures) _ _
    c.busy_blocks-n.ensures _ c.count.ensures _ c.drawn.ensures _ _ _ c.end_game_try.ensures
