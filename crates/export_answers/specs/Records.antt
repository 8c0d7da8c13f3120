-- Public answers of several numbers, as structs of numbers. Assumes nothing.
use Rattle.std.specs.Prelude.{ℕ, false, Err, Ok, Result}
use Rattle.types.specs.declared.refusal.Refusal.{Refusal}
use Rattle.ask_totals.specs.declared.count.PieceCount.{PieceCount}
use Rattle.ask_progress.specs.declared.QueueSizes.{QueueSizes}
use Rattle.ask_piece.specs.declared.stats.PieceStats.{PieceStats}
use Rattle.ask_partial.specs.declared.info.PieceInfo.{PieceInfo}
use Rattle.ask_columns.specs.declared.copies.DistributedCopies.{DistributedCopies}
use Rattle.types.specs.Refusal.{refusal_number}
use Rattle.export_answers.specs.Refusals.{refusal_place}
use Rattle.export_answers.specs.declared.records.Copied.{Copied}
use Rattle.export_answers.specs.declared.records.Counted.{Counted}
use Rattle.export_answers.specs.declared.records.Sized.{Sized}
use Rattle.export_answers.specs.declared.records.Stats.{Stats}
use Rattle.export_answers.specs.declared.records.Info.{Info}

-- the least copies of a piece, and how many pieces have more in thousandths
abbrev pub copies_refused : (number place : ℕ) → Copied
copies_refused number place = record { refusal = number; place = place; integer = 0; fraction = 0 }

abbrev pub of_copies : (o : Result DistributedCopies Refusal) → Copied
of_copies (Err why) = copies_refused (refusal_number why) (refusal_place why)
of_copies (Ok x) = record { refusal = 0; place = 0; integer = x.integer; fraction = x.fraction }

-- pieces, their pad bytes, and whether the last piece is among them
abbrev pub count_refused : (number place : ℕ) → Counted
count_refused number place = record { refusal = number; place = place; num_pieces = 0; pad_bytes = 0; last_piece = false }

abbrev pub of_count : (o : Result PieceCount Refusal) → Counted
of_count (Err why) = count_refused (refusal_number why) (refusal_place why)
of_count (Ok x) =
    record {
      refusal = 0;
      place = 0;
      num_pieces = x.num_pieces;
      pad_bytes = x.pad_bytes;
      last_piece = x.last_piece;
    }

-- how many partials each queue has
abbrev pub sizes_refused : (number place : ℕ) → Sized
sizes_refused number place = record { refusal = number; place = place; downloading = 0; full = 0; finished = 0; zero_prio = 0 }

abbrev pub of_sizes : (o : Result QueueSizes Refusal) → Sized
of_sizes (Err why) = sizes_refused (refusal_number why) (refusal_place why)
of_sizes (Ok x) =
    record {
      refusal = 0;
      place = 0;
      downloading = x.downloading;
      full = x.full;
      finished = x.finished;
      zero_prio = x.zero_prio;
    }

-- how many have a piece, its priority where it is listed, and its state
abbrev pub stats_refused : (number place : ℕ) → Stats
stats_refused number place =
    record {
      refusal = number;
      place = place;
      peer_count = 0;
      listed = false;
      priority = 0;
      flushed = false;
      downloading = false;
    }

abbrev pub of_stats : (o : Result PieceStats Refusal) → Stats
of_stats (Err why) = stats_refused (refusal_number why) (refusal_place why)
of_stats (Ok x) =
    record {
      refusal = 0;
      place = 0;
      peer_count = x.peer_count;
      listed = x.listed;
      priority = x.priority;
      flushed = x.flushed;
      downloading = x.downloading;
    }

-- a partial: how many of its blocks are in each state, and its flags
abbrev pub info_refused : (number place : ℕ) → Info
info_refused number place =
    record {
      refusal = number;
      place = place;
      index = 0;
      finished = 0;
      passed_hash_check = false;
      writing = 0;
      locked = false;
      requested = 0;
      hashing = false;
    }

abbrev pub of_info : (o : Result PieceInfo Refusal) → Info
of_info (Err why) = info_refused (refusal_number why) (refusal_place why)
of_info (Ok x) =
    record {
      refusal = 0;
      place = 0;
      index = x.index;
      finished = x.finished;
      passed_hash_check = x.passed_hash_check;
      writing = x.writing;
      locked = x.locked;
      requested = x.requested;
      hashing = x.hashing;
    }
