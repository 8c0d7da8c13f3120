-- Public answers of one number at most, as a struct of numbers. Assumes nothing.
use Rattle.std.specs.Prelude.{ℕ, Bool, Err, None, Ok, Option, Result, Some, ⊤}
use Rattle.types.specs.declared.refusal.Refusal.{Refusal}
use Rattle.ask_places.specs.declared.Placed.{Placed}
use Rattle.ask_block.specs.declared.peers.PeerOf.{PeerOf}
use Rattle.export_answers.specs.declared.answered.Answered.{Answered}
use Rattle.export_answers.specs.Answers.{refused_answer, valued, of_flag as flag_answered, of_placed, of_flag_of, of_number_of, of_peer_of}

-- a number
abbrev pub of_number : (o : Result ℕ Refusal) → Answered
of_number (Err why) = refused_answer why
of_number (Ok n) = valued 1 n

-- true or false
abbrev pub of_flag : (o : Result Bool Refusal) → Answered
of_flag (Err why) = refused_answer why
of_flag (Ok flag) = flag_answered flag

-- what stands at a place
abbrev pub of_place : (o : Result Placed Refusal) → Answered
of_place (Err why) = refused_answer why
of_place (Ok x) = of_placed x

-- a flag of a partial, or nothing
abbrev pub of_partial_flag : (o : Result (Option Bool) Refusal) → Answered
of_partial_flag (Err why) = refused_answer why
of_partial_flag (Ok x) = of_flag_of x

-- a number of a block, or nothing
abbrev pub of_block_number : (o : Result (Option ℕ) Refusal) → Answered
of_block_number (Err why) = refused_answer why
of_block_number (Ok x) = of_number_of x

-- a peer, none, or nothing
abbrev pub of_peer : (o : Result PeerOf Refusal) → Answered
of_peer (Err why) = refused_answer why
of_peer (Ok x) = of_peer_of x

-- records written, or nothing
abbrev pub of_list : (o : Result (Option ℕ) Refusal) → Answered
of_list (Err why) = refused_answer why
of_list (Ok (Some n)) = valued 1 n
of_list (Ok None) = valued 0 0

-- a picker made
abbrev pub of_making : (o : Result ⊤ Refusal) → Answered
of_making (Err why) = refused_answer why
of_making (Ok tt) = valued 0 0

-- bytes written
abbrev pub of_image : (o : Result ℕ Refusal) → Answered
of_image (Err why) = refused_answer why
of_image (Ok n) = valued 1 n
