use mathlib.Core.Path.{refl}
use Rattle.pick_state.proofs.TakeLaws.{aside_did}
use borrow.Author.Rules.{rules}
use Rattle.pick_state.proofs.takes.put_aside.Goals as goal

pub returns : goal.returns
returns c = aside_did c.args.t _ c.args.aside.now c.args.i c.args.j c.usize_to_u64.result c.requires.aside_in_bounds c.requires.i_bound.1
    c.usize_to_u64.ensures refl refl refl refl refl refl refl
