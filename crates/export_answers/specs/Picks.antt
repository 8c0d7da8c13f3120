-- What a pick answers, as a struct of numbers. Assumes nothing.
use Rattle.std.specs.Prelude.{ℕ, Err, Ok, Result}
use Rattle.types.specs.declared.refusal.Refusal.{Refusal}
use Rattle.pick_pieces.specs.declared.pieces.Picked.{Picked}
use Rattle.types.specs.Refusal.{refusal_number}
use Rattle.export_answers.specs.declared.picks.PickAnswered.{PickAnswered}
use Rattle.export_answers.specs.Refusals.{refusal_place}

-- refused: a number and a place
abbrev pub pick_refused : (number place : ℕ) → PickAnswered
pick_refused number place =
    record {
      refusal = number;
      flags = 0;
      place = place;
      end = 0;
      draws = 0;
      partial_loops = 0;
      suggest_loops = 0;
      reverse_rare_loops = 0;
      rare_loops = 0;
      rand_start_loops = 0;
      rand_loops = 0;
      busy_loops = 0;
    }

abbrev pub of_pick : (o : Result Picked Refusal) → PickAnswered
of_pick (Err why) = pick_refused (refusal_number why) (refusal_place why)
of_pick (Ok p) =
    record {
      refusal = 0;
      flags = p.flags;
      place = 0;
      end = p.end;
      draws = p.used;
      partial_loops = p.partial_loops;
      suggest_loops = p.suggest_loops;
      reverse_rare_loops = p.reverse_rare_loops;
      rare_loops = p.rare_loops;
      rand_start_loops = p.rand_start_loops;
      rand_loops = p.rand_loops;
      busy_loops = p.busy_loops;
    }
