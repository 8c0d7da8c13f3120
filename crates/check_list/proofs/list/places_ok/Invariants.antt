-- `check_pieces::places_ok` meets its contract. The loop's invariant: the places before the k-th four pass. Assumes nothing.
use Prim.Native.Nat.{◌*◌}
use Rattle.check_list.proofs.WalkLaws.{Walking}
use Rattle.check_list.proofs.list.places_ok.Given as goal

abbrev pub invariant-loop-k : goal.invariant-loop-k
invariant-loop-k l = Walking l.n l.list 0 l.many 1 l.initial.ranks l.ranks l.last (4 * l.k)
