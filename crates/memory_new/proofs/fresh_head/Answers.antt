-- `fresh_head` meets its contract: a run of stores. Assumes nothing.
use mathlib.Core.List.{[], ◌∷◌}
use lib.ListN.{length-set}
use lib.Seq.{sets-eq}
use Rattle.memory_new.specs.Fresh.{fresh_head}
use native.Mathlib.Omega.{arith}
use Rattle.memory_new.proofs.fresh_head.Goals as goal

pub bounds-words-1 : goal.bounds-words-1
bounds-words-1 c = simp length-set (omega (arith, c.requires))

pub bounds-words-2 : goal.bounds-words-2
bounds-words-2 c = simp length-set (omega (arith, c.requires))

pub bounds-words-3 : goal.bounds-words-3
bounds-words-3 c = simp length-set (omega (arith, c.requires))

pub bounds-words-4 : goal.bounds-words-4
bounds-words-4 c = simp length-set (omega (arith, c.requires))

pub bounds-words-5 : goal.bounds-words-5
bounds-words-5 c = simp length-set (omega (arith, c.requires))

pub bounds-words-6 : goal.bounds-words-6
bounds-words-6 c = simp length-set (omega (arith, c.requires))

pub bounds-words-7 : goal.bounds-words-7
bounds-words-7 c = simp length-set (omega (arith, c.requires))

pub bounds-words-8 : goal.bounds-words-8
bounds-words-8 c = simp length-set (omega (arith, c.requires))

pub returns : goal.returns
unfolding fresh_head
returns c = sets-eq (c.args.total ∷ c.args.size ∷ 0 ∷ 0 ∷ c.args.n ∷ 1 ∷ 0 ∷ 0 ∷ 0 ∷ []) c.args.words.now 0 (omega (arith, c.requires))
