-- Answers that are enums, from their kinds and numbers. Assumes nothing.
use Rattle.std.specs.Prelude.{ℕ, Bool, cond, eqb, None, Option, Some}
use Rattle.ask_block.specs.declared.peers.PeerOf.{PeerOf}
use Rattle.ask_block.specs.declared.peers.PeerOf.TheVariants.{Peer, NoPeer, Nothing as NoBlock}
use Rattle.ask_places.specs.declared.Placed.{Placed}
use Rattle.ask_places.specs.declared.Placed.TheVariants.{Number as NumberThere, Nothing as NothingThere, Stale}
use Rattle.link_piece_questions.specs.declared.answers.Told.{Told}

abbrev pub flag_told : (r : Told) → Option Bool
flag_told r = cond (eqb r.kind 0) (Some (eqb r.number 1)) None

abbrev pub number_told : (r : Told) → Option ℕ
number_told r = cond (eqb r.kind 0) (Some r.number) None

abbrev pub peer_told : (r : Told) → PeerOf
peer_told r = cond (eqb r.kind 0) (Peer r.number) (cond (eqb r.kind 1) NoPeer NoBlock)

abbrev pub placed_told : (r : Told) → Placed
placed_told r = cond (eqb r.kind 0) (NumberThere r.number) (cond (eqb r.kind 3) Stale NothingThere)

abbrev pub records_told : (r : Told) → Option ℕ
records_told r = cond (eqb r.kind 0) (Some r.number) None
