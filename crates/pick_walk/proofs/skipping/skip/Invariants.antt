-- `skip` meets its contract. Assumes nothing.
use Rattle.pick_walk.proofs.SkipLaws.{ahead, SkipRest, skips_start, skips_next, skips_less, skips_end}
use Rattle.pick_state.specs.Requests.{request_of}
use Rattle.pick_laws.proofs.RoundLaws.{far_some}
use borrow.Author.Tests.{not-true, not-false}
use native.Mathlib.Omega.{arith}
use borrow.Author.Rules.{rules}
use Rattle.pick_walk.proofs.skipping.skip.Given as goal

abbrev pub invariant-loop-back : goal.invariant-loop-back
invariant-loop-back l = SkipRest (request_of l.q l.bytes) l.start l.s l.cells l.x l.ignored l.initial.loops l.place l.back l.loops

abbrev pub decreases-loop-back : goal.decreases-loop-back
decreases-loop-back l = ahead l.s.pieces l.start l.place l.back
