use mathlib.Core.Path.{refl}
use Rattle.pick_state.proofs.TakeLaws.{took_did}
use borrow.Author.Rules.{rules}
use Rattle.pick_state.proofs.takes.take.Goals as goal

pub returns : goal.returns
returns c = took_did c.args.t _ c.args.out.now c.args.i c.args.j c.usize_to_u64.result c.requires.end_in_bounds.0 c.requires.i_bound.1
    c.usize_to_u64.ensures c.saturating_sub-left.ensures refl refl refl refl refl refl
