-- `take_found` meets its contract. Assumes nothing.
use Rattle.pick_rest.proofs.GameLaws.{found_did, flags_are}
use mathlib.Core.Path.{refl}
use borrow.Author.Rules.{rules}
use Rattle.pick_rest.proofs.game.take_found.Goals as goal

pub returns : goal.returns
returns c = record {
  did = found_did c.args.t _ c.args.out.now c.args.i c.args.j c.usize_to_u64.result c.requires.end_in_bounds.0 c.requires.i_bound.1
      c.usize_to_u64.ensures refl refl refl refl (flags_are c.args.t _ c.flagged-u.ensures) refl refl;
  used = refl;
}
