-- `remove` meets its contract: the groups behind the word pulled over it. Assumes nothing.
use borrow.Author.Rules.{rules}
use mathlib.Core.Path.{ap, ◌∙◌}
use Prim.Native.Nat.{ℕ, ◌-◌}
use native.Mathlib.Omega.{arith}
use lib.ListN.{take}
use Rattle.model.specs.Lists.{place_of}
use Rattle.list_moves.specs.Moves.{pulled}
use Rattle.list_changes.proofs.Adding.{removed-pulled}
use Rattle.list_changes.proofs.remove.Goals as goal

pub place_of-k-requires : goal.place_of-k-requires
place_of-k-requires c = record {
  end_in_bounds = c.requires.n_in_bounds;
  rises = c.requires.rises;
  w_nonzero = c.requires.w_nonzero;
  list_bound = c.requires.list_bound;
}

pub overflow_sub-n : goal.overflow_sub-n
overflow_sub-n c = omega (arith, c.requires.list_bound)

pub pull-requires : goal.pull-requires
pull-requires c = record {
  k_le_last = omega (arith, c.requires.list_bound, c.place_of-k.ensures);
  last_in_bounds = omega (arith, c.requires.n_in_bounds, c.requires.list_bound);
  rises = λ k m a f d. c.requires.rises k m (omega arith) f (omega (arith, c.requires.list_bound));
}

pub returns : goal.returns
returns c = let k = place_of c.args.w (take c.args.n c.args.list.now) in
    c.pull.ensures
    ∙ ap (λ (m : ℕ). pulled m (c.args.n - 1) c.args.list.now) c.place_of-k.ensures
    ∙ removed-pulled c.args.n k c.args.list.now c.requires.list_bound
