-- `with_flags` meets its contract. Assumes nothing.
use mathlib.Core.Path.{refl}
use Rattle.memory_partials.specs.Partials.{flagged}
use Rattle.memory_partials.proofs.FlagLaws.{with_flags_lem}
use Rattle.memory_layout.proofs.Numbers.{flag_bit}
use borrow.Author.Rules.{rules}
use Rattle.memory_partials.proofs.flags.with_flags.Goals as goal

pub returns : goal.returns
unfolding flagged
returns c = with_flags_lem c.args.passed c.args.locked c.args.r _ refl refl (rw (flag_bit _ _ c.from-low.ensures, flag_bit _ _ c.from-middle.ensures))
