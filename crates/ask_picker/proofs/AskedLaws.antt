-- What a well-formed picker gives to those who read it: bounds of rows, of numbers that are added up, and that there is a piece.
-- Assumes nothing.
use mathlib.Core.Path.{◌≡◌}
use mathlib.Core.Bool.{true}
use mathlib.Core.List.{List}
use Prim.Native.Nat.{ℕ, ◌+◌, ◌≤◌, ◌<◌}
use native.Mathlib.Omega.{arith}
use Rattle.model.specs.State.{piece_at, piece_size_at}
use Rattle.model.proofs.base.Bep3Laws.{piece_length_le}
use Rattle.model.proofs.sound.SoundLaws.{well_formed_sound}
use Rattle.model.proofs.sound.SoundBody.{piece_in}
use Rattle.geometry.proofs.ValidLaws.{bounds}
use Rattle.memory_records.specs.declared.record.DownloadingPiece.{DownloadingPiece as Record}
use Rattle.memory_records.specs.Records.{rising_from}
use Rattle.memory_records.specs.Rows.{records_in}
use Rattle.memory_layout.specs.declared.shape.Shape.{Shape}
use Rattle.memory_layout.specs.Decode.{head_word, pieces_on, decode}
use Rattle.memory_layout.specs.Standing.{Stands}
use Rattle.memory_layout.proofs.Meanings.{pieces_number}
use Rattle.memory_rows.specs.Lookup.{LiveRows}
use Rattle.memory_rows.proofs.RisingLaws.{well_formed_rise}
use Rattle.memory_queues.specs.Queues.{InQueues}
use Rattle.memory_queues.proofs.StandLaws.{in_queues}
use Rattle.ask_picker.specs.Asked.{Asked}

-- ---- a picker that stands
module _ (s : Shape) (records : List Record) (words cells : List ℕ) (g : Stands s records words cells) where
  -- it has a piece
  pub some_piece : 1 ≤ s.pieces
  unfolding pieces_on
  some_piece = omega (arith, g.bounds.pieces, (bounds (head_word words 0) (head_word words 1) g.bounds.geometry).some_pieces)

  module _ (i : ℕ) (h : i < s.pieces) where
    -- no piece has more pad bytes than bytes
    pub pad_small : (piece_at (decode records words cells) i).pad_bytes ≤ 4194304
    unfolding piece_size_at
    pad_small =
        let d = decode records words cells in
        let w = well_formed_sound d g.sound in
        let m = pieces_number s records words cells g.bounds in
        omega (
          arith,
          (piece_in d i (piece_at d i) (w.piece i (omega arith))).pad_bytes,
          piece_length_le (head_word words 0) (head_word words 1) i,
          (bounds (head_word words 0) (head_word words 1) g.bounds.geometry).size_most,
        )

    -- its peers with the seeds are few
    pub peers_few : (piece_at (decode records words cells) i).peer_count + head_word words 2 ≤ 1000
    peers_few =
        let d = decode records words cells in
        let w = well_formed_sound d g.sound in
        let m = pieces_number s records words cells g.bounds in
        (piece_in d i (piece_at d i) (w.piece i (omega arith))).peers

-- ---- with its records in rows
module _ (s : Shape) (live : ℕ) (rows words cells : List ℕ) (g : Asked s live rows words cells) where
  pub asked_rows : LiveRows s live rows words cells
  asked_rows = record { bounds = g.stands.bounds; many = g.many }

  -- few rows, their pieces there and in one of the four queues
  pub asked_queues : InQueues s live rows cells
  asked_queues = in_queues s live rows words cells asked_rows g.stands.sound

  -- their pieces rise
  pub asked_rise : rising_from 0 (records_in live rows) ≡ true
  asked_rise = well_formed_rise s live rows words cells asked_rows g.stands.sound
