-- What the answers of these questions are in the definition. Assumes nothing.
-- Written by tools/publics.py, and not by hand.
use Rattle.std.specs.Prelude.{Err, Ok, Option, Result, ℕ}
use Rattle.types.specs.declared.refusal.Refusal.{Refusal}
use Rattle.ask_block.specs.declared.peers.PeerOf.{PeerOf}
use Rattle.model.specs.Calls.{Answer, refused, replied}
use Rattle.ask_block.specs.Blocks.{number_reply, peer_reply}

-- a number of a block, or nothing where no partial stands
abbrev pub block_number_answer : (r : Result (Option ℕ) Refusal) → Answer
block_number_answer (Err why) = refused why
block_number_answer (Ok x) = replied (number_reply x)

-- a peer or none, or nothing where no partial stands
abbrev pub peer_answer : (r : Result PeerOf Refusal) → Answer
peer_answer (Err why) = refused why
peer_answer (Ok x) = replied (peer_reply x)
