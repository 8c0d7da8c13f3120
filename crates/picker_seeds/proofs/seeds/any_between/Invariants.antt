-- `any_between` meets its contract. In the loop what is found and what is left decide. Assumes nothing.
use Rattle.picker_seeds.proofs.SeedLaws.{Finding}
use Rattle.picker_seeds.proofs.seeds.any_between.Given as goal

abbrev pub invariant-loop-count : goal.invariant-loop-count
invariant-loop-count l = Finding l.low l.high l.counts l.found l.count-index
