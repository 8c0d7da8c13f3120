-- What a struct of numbers says: the public answer that it is written for. The exports' contracts cite these. Assumes nothing.
use Rattle.std.specs.Prelude.{ℕ, Bool, cond, eqb, Err, None, Ok, Option, Result, Some, ⊤}
use Rattle.types.specs.declared.refusal.Refusal.{Refusal}
use Rattle.pick_pieces.specs.declared.pieces.Picked.{Picked}
use Rattle.ask_totals.specs.declared.count.PieceCount.{PieceCount}
use Rattle.ask_progress.specs.declared.QueueSizes.{QueueSizes}
use Rattle.ask_piece.specs.declared.stats.PieceStats.{PieceStats}
use Rattle.ask_partial.specs.declared.info.PieceInfo.{PieceInfo}
use Rattle.ask_columns.specs.declared.copies.DistributedCopies.{DistributedCopies}
use Rattle.picker_calls.specs.declared.outcomes.Outcome.{Outcome}
use Rattle.picker_calls.specs.declared.outcomes.Outcome.TheVariants.{Done, Said}
use Rattle.ask_places.specs.declared.Placed.{Placed}
use Rattle.ask_places.specs.declared.Placed.TheVariants.{Number, Nothing, Stale}
use Rattle.ask_block.specs.declared.peers.PeerOf.{PeerOf}
use Rattle.ask_block.specs.declared.peers.PeerOf.TheVariants.{Peer, NoPeer, Nothing as NoBlock}
use Rattle.export_answers.specs.declared.answered.Answered.{Answered}
use Rattle.export_answers.specs.declared.changes.Changed.{Changed}
use Rattle.export_answers.specs.declared.picks.PickAnswered.{PickAnswered}
use Rattle.export_answers.specs.declared.records.Copied.{Copied}
use Rattle.export_answers.specs.declared.records.Counted.{Counted}
use Rattle.export_answers.specs.declared.records.Sized.{Sized}
use Rattle.export_answers.specs.declared.records.Stats.{Stats}
use Rattle.export_answers.specs.declared.records.Info.{Info}
use Rattle.export_answers.specs.Refusals.{refusal_of, unless_refusal}

-- ---- one number at most
-- a number
unfoldable pub number_in : (r : Answered) → Result ℕ Refusal
number_in r = unless_refusal Err (Ok r.value) (refusal_of r.refusal r.place)

-- true for 1
unfoldable pub flag_in : (r : Answered) → Result Bool Refusal
flag_in r = unless_refusal Err (Ok (eqb r.value 1)) (refusal_of r.refusal r.place)

-- what stands at a place: kind 1 a number, 2 a stale list, any other nothing
unfoldable pub placed_in : (r : Answered) → Placed
placed_in r = cond (eqb r.kind 1) (Number r.value) (cond (eqb r.kind 2) Stale Nothing)

unfoldable pub place_in : (r : Answered) → Result Placed Refusal
place_in r = unless_refusal Err (Ok (placed_in r)) (refusal_of r.refusal r.place)

-- a flag of a partial: kind 1 a flag, any other nothing
unfoldable pub flag_of_in : (r : Answered) → Option Bool
flag_of_in r = cond (eqb r.kind 1) (Some (eqb r.value 1)) None

unfoldable pub partial_flag_in : (r : Answered) → Result (Option Bool) Refusal
partial_flag_in r = unless_refusal Err (Ok (flag_of_in r)) (refusal_of r.refusal r.place)

-- a number of a block: kind 1 a number, any other nothing
unfoldable pub number_of_in : (r : Answered) → Option ℕ
number_of_in r = cond (eqb r.kind 1) (Some r.value) None

unfoldable pub block_number_in : (r : Answered) → Result (Option ℕ) Refusal
block_number_in r = unless_refusal Err (Ok (number_of_in r)) (refusal_of r.refusal r.place)

-- a peer: kind 1 a peer, 3 none, any other nothing
unfoldable pub peer_of_in : (r : Answered) → PeerOf
peer_of_in r = cond (eqb r.kind 1) (Peer r.value) (cond (eqb r.kind 3) NoPeer NoBlock)

unfoldable pub peer_in : (r : Answered) → Result PeerOf Refusal
peer_in r = unless_refusal Err (Ok (peer_of_in r)) (refusal_of r.refusal r.place)

-- records written: kind 1 so many, any other nothing
unfoldable pub list_in : (r : Answered) → Result (Option ℕ) Refusal
list_in r = unless_refusal Err (Ok (cond (eqb r.kind 1) (Some r.value) None)) (refusal_of r.refusal r.place)

-- a picker made
unfoldable pub making_in : (r : Answered) → Result ⊤ Refusal
making_in r = unless_refusal Err (Ok tt) (refusal_of r.refusal r.place)

-- bytes written
unfoldable pub image_in : (r : Answered) → Result ℕ Refusal
image_in r = unless_refusal Err (Ok r.value) (refusal_of r.refusal r.place)

-- ---- several numbers
-- a change: kind 1 true for 1 and false for any other, any other kind done
unfoldable pub outcome_in : (r : Changed) → Result Outcome Refusal
outcome_in r =
    unless_refusal Err (Ok (cond (eqb r.kind 1) (Said (eqb r.value 1) r.draws) (Done r.draws)))
    (refusal_of r.refusal r.place)

-- the least copies of a piece
unfoldable pub copies_in : (r : Copied) → Result DistributedCopies Refusal
copies_in r =
    unless_refusal Err (Ok (record { integer = r.integer; fraction = r.fraction }))
    (refusal_of r.refusal r.place)

-- a count of pieces
unfoldable pub count_in : (r : Counted) → Result PieceCount Refusal
count_in r =
    unless_refusal Err (Ok (record {
      num_pieces = r.num_pieces;
      pad_bytes = r.pad_bytes;
      last_piece = r.last_piece;
    }))
    (refusal_of r.refusal r.place)

-- the sizes of the queues
unfoldable pub sizes_in : (r : Sized) → Result QueueSizes Refusal
sizes_in r =
    unless_refusal Err (Ok (record {
      downloading = r.downloading;
      full = r.full;
      finished = r.finished;
      zero_prio = r.zero_prio;
    }))
    (refusal_of r.refusal r.place)

-- of a piece
unfoldable pub stats_in : (r : Stats) → Result PieceStats Refusal
stats_in r =
    unless_refusal Err (Ok (record {
      peer_count = r.peer_count;
      listed = r.listed;
      priority = r.priority;
      flushed = r.flushed;
      downloading = r.downloading;
    }))
    (refusal_of r.refusal r.place)

-- of a partial
unfoldable pub info_in : (r : Info) → Result PieceInfo Refusal
info_in r =
    unless_refusal Err (Ok (record {
      index = r.index;
      finished = r.finished;
      passed_hash_check = r.passed_hash_check;
      writing = r.writing;
      locked = r.locked;
      requested = r.requested;
      hashing = r.hashing;
    }))
    (refusal_of r.refusal r.place)

-- a pick
unfoldable pub pick_in : (r : PickAnswered) → Result Picked Refusal
pick_in r =
    unless_refusal Err (Ok (record {
      end = r.end;
      flags = r.flags;
      used = r.draws;
      partial_loops = r.partial_loops;
      suggest_loops = r.suggest_loops;
      reverse_rare_loops = r.reverse_rare_loops;
      rare_loops = r.rare_loops;
      rand_start_loops = r.rand_start_loops;
      rand_loops = r.rand_loops;
      busy_loops = r.busy_loops;
    }))
    (refusal_of r.refusal r.place)
