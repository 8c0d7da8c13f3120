-- The fields of a piece: what a number read is in the picker. Assumes nothing.
use mathlib.Core.Path.{◌≡◌, sym, ap, ◌∙◌}
use mathlib.Core.List.{List}
use Prim.Native.Nat.{ℕ, ◌<◌}
use Rattle.types.specs.Queue.{queue_number}
use Rattle.model.specs.State.{piece_at}
use Rattle.memory_layout.specs.declared.shape.Shape.{Shape}
use Rattle.memory_layout.specs.Decode.{piece_word, piece_cell, queue_from, yes?}
use Rattle.memory_layout.proofs.Meanings.{peer_count_is, state_is, priority_is, flushed_is, pad_bytes_is}
use Rattle.memory_fields.specs.Reading.{CellsSay, WordsSay}

module _ (s : Shape) (cells : List ℕ) (i : ℕ) (h : i < s.pieces) where
  -- column 0
  pub peer_count_read : (r : ℕ) → r ≡ piece_cell cells s.pieces 0 i → CellsSay s cells (λ d. (piece_at d i).peer_count) r
  peer_count_read r e = record { is = λ records words q. e ∙ sym (peer_count_is s records words cells q i h) }

  -- column 1, by the state's number
  pub state_read : (r v : ℕ) → r ≡ queue_number (queue_from v) → v ≡ piece_cell cells s.pieces 1 i
      → CellsSay s cells (λ d. queue_number (piece_at d i).state) r
  state_read r v e o = record {
    is = λ records words q.
        e ∙ ap (λ (w : ℕ). queue_number (queue_from w)) o ∙ ap queue_number (sym (state_is s records words cells q i h));
  }

  -- column 2
  pub priority_read : (r : ℕ) → r ≡ piece_cell cells s.pieces 2 i → CellsSay s cells (λ d. (piece_at d i).priority) r
  priority_read r e = record { is = λ records words q. e ∙ sym (priority_is s records words cells q i h) }

  -- column 3
  pub flushed_read : (v : ℕ) → v ≡ piece_cell cells s.pieces 3 i → CellsSay s cells (λ d. (piece_at d i).flushed) (yes? v)
  flushed_read v e = record { is = λ records words q. ap yes? e ∙ sym (flushed_is s records words cells q i h) }

-- the pad bytes, in the words
pub pad_bytes_read : (s : Shape) (words : List ℕ) (i : ℕ) → i < s.pieces → (r : ℕ) → r ≡ piece_word words s.pieces 0 i
    → WordsSay s words (λ d. (piece_at d i).pad_bytes) r
pad_bytes_read s words i h r e = record { is = λ records cells q. e ∙ sym (pad_bytes_is s records words cells q i h) }
