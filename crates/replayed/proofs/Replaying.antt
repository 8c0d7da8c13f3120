-- All definitions opened, those of the model among them, for recorded calls that the checker computes.
use Rattle.model.proofs.cases.Everything.{everything}
use Rattle.replayed.specs.Replay.{after, making, taking, stepping, lead, image_after, outcome_of, outcomes}

unfoldable pub replaying : Unit {0}
unfolding everything after making taking stepping lead image_after outcome_of outcomes
replaying = tt
