-- Answers of one number at most, as a struct of numbers. Assumes nothing.
use Rattle.std.specs.Prelude.{ℕ, Bool, cond, None, Option, Some}
use Rattle.types.specs.declared.refusal.Refusal.{Refusal}
use Rattle.types.specs.Refusal.{refusal_number}
use Rattle.ask_places.specs.declared.Placed.{Placed}
use Rattle.ask_places.specs.declared.Placed.TheVariants.{Number, Nothing, Stale}
use Rattle.ask_block.specs.declared.peers.PeerOf.{PeerOf}
use Rattle.ask_block.specs.declared.peers.PeerOf.TheVariants.{Peer, NoPeer, Nothing as NoBlock}
use Rattle.export_answers.specs.declared.answered.Answered.{Answered}
use Rattle.export_answers.specs.Refusals.{refusal_place}

-- refused: a number and a place
abbrev pub refused_with : (number place : ℕ) → Answered
refused_with number place = record { refusal = number; kind = 0; place = place; value = 0 }

-- those of a refusal
abbrev pub refused_answer : (why : Refusal) → Answered
refused_answer why = refused_with (refusal_number why) (refusal_place why)

-- a kind, and a number
abbrev pub valued : (kind value : ℕ) → Answered
valued kind value = record { refusal = 0; kind = kind; place = 0; value = value }

-- 1 for true
abbrev pub flag_value : (flag : Bool) → ℕ
flag_value flag = cond flag 1 0

abbrev pub of_flag : (flag : Bool) → Answered
of_flag flag = valued 1 (flag_value flag)

-- a number, nothing, or a stale list
abbrev pub of_placed : (x : Placed) → Answered
of_placed (Number n) = valued 1 n
of_placed Nothing = valued 0 0
of_placed Stale = valued 2 0

-- a flag of a partial, or nothing
abbrev pub of_flag_of : (x : Option Bool) → Answered
of_flag_of (Some flag) = of_flag flag
of_flag_of None = valued 0 0

-- a number of a block, or nothing
abbrev pub of_number_of : (x : Option ℕ) → Answered
of_number_of (Some n) = valued 1 n
of_number_of None = valued 0 0

-- a peer, none, or nothing
abbrev pub of_peer_of : (x : PeerOf) → Answered
of_peer_of (Peer peer) = valued 1 peer
of_peer_of NoPeer = valued 3 0
of_peer_of NoBlock = valued 0 0
