-- `end_game_try` meets its contract. Assumes nothing.
use Rattle.pick_rest.proofs.GameLaws.{draw_low, try_none, try_some}
use mathlib.Core.Path.{ap}
use lib.ListN.{take}
use native.Mathlib.Omega.{arith}
use borrow.Author.Rules.{rules}
use Rattle.pick_rest.proofs.game.end_game_try.Goals as goal

pub returns-then-n-eq0 : goal.returns-then-n-eq0
returns-then-n-eq0 c = try_none c.args.draws.now c.args.k c.args.i _ (ap (λ n. take n c.args.blocks.now) c.if-n-eq0.true) c.args.t c.args.many c.args.places.now
    c.args.out.now c.requires.k_lt_many.0 c.requires.k_lt_many.1 c.requires.k_lt_many.2

pub offset_bounds-blocks-at : goal.offset_bounds-blocks-at
offset_bounds-blocks-at c = omega (arith, draw_low _ _ _ _ c.draw-at.ensures, c.requires.blocks_in.few)

pub bounds-blocks-at : goal.bounds-blocks-at
bounds-blocks-at c = omega (arith, draw_low _ _ _ _ c.draw-at.ensures, c.requires.blocks_in.few)

pub take_found-r-requires : goal.take_found-r-requires
take_found-r-requires c = record {
  end_in_bounds = (c.requires.end_in_bounds.0, c.requires.end_in_bounds.1);
  i_bound = (c.requires.end_in_bounds.2, omega (arith, c.u16_to_usize-j.ensures, c.requires.blocks_in.low c.draw-at.result (let l = draw_low _ _ _ _ c.draw-at.ensures in omega arith)));
}

pub returns : goal.returns
returns c = try_some c.args.draws.now c.args.k c.args.i c.args.blocks.now c.args.n c.requires.blocks_in (omega (arith, c.if-n-eq0.false)) c.args.t c.args.many
    c.args.places.now _ _ _ c.draw-at.ensures _ c.u16_to_usize-j.ensures _ c.take_found-r.ensures.did
    (omega (arith, c.take_found-r.ensures.used))
