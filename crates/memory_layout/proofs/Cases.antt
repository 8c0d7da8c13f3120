-- Buffers of a picker of two pieces, and the picker that they mean: the bounds can be met, and each number is read in its column. Assumes
-- nothing.
use mathlib.Core.Path.{◌≡◌, refl, sym}
use mathlib.Core.Bool.{true, false, true≢false}
use mathlib.Core.Option.{some}
use mathlib.Core.List.{List, [], ◌∷◌, ◌++◌}
use Prim.Native.Nat.{ℕ, zero, suc, ◌≤◌, ◌<◌}
use native.Mathlib.Omega.{arith}
use Rattle.types.specs.declared.queue.DownloadQueue.TheVariants.{Downloading, Open}
use Rattle.types.specs.declared.block.BlockState.TheVariants.{Requested}
use Rattle.model.specs.Lists.{least, nth}
use Rattle.model.specs.Bep3.{parts_of, part_length, num_pieces, piece_length, block_length, block_count, whole_piece_blocks, piece_blocks, bit_of}
use Rattle.model.specs.State.{Picker, fresh, valid_geometry}
use Rattle.list_entries.specs.Words.{listed_piece}
use Rattle.memory_records.specs.declared.record.DownloadingPiece.{DownloadingPiece as Record}
use Rattle.memory_layout.specs.declared.shape.Shape.{Shape}
use Rattle.memory_layout.specs.Tables.{tabulate}
use Rattle.memory_layout.specs.Offsets.{cell, places_for, piece_word_at, peer_at, piece_cell_at, block_cell_at, words_for, cells_for}
use Rattle.memory_layout.specs.Decode.{head_word, piece_word, peer_word, piece_cell, block_cell, record_at, pieces_on, blocks_on, blocks_of}
use Rattle.memory_layout.specs.Decode.{queue_from}
use Rattle.memory_layout.specs.Decode.{state_from, yes?, peer_from, piece_held, block_from, block_held, blocks_held}
use Rattle.memory_layout.specs.Decode.{partial_from}
use Rattle.memory_layout.specs.Decode.{partial_held, pieces_held, partials_held, extents_held, list_held, listing_held, decode}
use Rattle.memory_layout.specs.Bounds.{InBounds, PlainBlock, PlainRecord, Plain}

-- three bytes in pieces of two, of one block each
abbrev head : List ℕ
head = 3 ∷ 2 ∷ 7 ∷ 1 ∷ 2 ∷ 0 ∷ 2 ∷ 1 ∷ 1 ∷ 0 ∷ 0 ∷ 0 ∷ 0 ∷ 0 ∷ 0 ∷ 0 ∷ []

-- pad bytes; the list, piece 1 of rank 2 and piece 0 of rank 3; a peer at place 1
abbrev words : List ℕ
words = head ++ (0 ∷ 0 ∷ 131073 ∷ 196608 ∷ 0 ∷ 99 ∷ [])

-- peer counts, states, priorities, flushed; of the blocks state, num_peers, has-peer. Place 0 is free
abbrev cells : List ℕ
cells = 5 ∷ 6 ∷ 4 ∷ 0 ∷ 4 ∷ 7 ∷ 1 ∷ 0 ∷ 0 ∷ 1 ∷ 0 ∷ 2 ∷ 0 ∷ 1 ∷ []

-- one partial, of piece 1, locked, at place 1
abbrev records : List Record
records = record { index = 1; info_idx = 1; flags = 2 } ∷ []

-- of two pieces
abbrev shape : Shape
shape = record { pieces = 2; blocks = 1; places = 2 }

-- the picker
abbrev picker : Picker
picker =
    record {
      total_size = 3;
      piece_size = 2;
      seeds = 7;
      cursor = 1;
      reverse_cursor = 2;
      pieces =
          record { peer_count = 5; state = Open; priority = 4; flushed = true; pad_bytes = 0 }
          ∷ record { peer_count = 6; state = Downloading; priority = 7; flushed = false; pad_bytes = 0 } ∷ [];
      partials =
          record {
            piece = 1;
            passed_hash_check = false;
            locked = true;
            hashing = false;
            blocks = record { state = Requested; num_peers = 2; peer = some 99 } ∷ [];
          } ∷ [];
      recent_extents = 0 ∷ [];
      listing = fresh (1 ∷ 0 ∷ []);
    }

-- they mean it
pub two_pieces : decode records words cells ≡ picker
unfolding least nth parts_of part_length num_pieces piece_length block_length block_count whole_piece_blocks piece_blocks bit_of tabulate cell places_for piece_word_at peer_at piece_cell_at block_cell_at head_word piece_word peer_word piece_cell block_cell record_at pieces_on blocks_on blocks_of queue_from state_from yes? peer_from listed_piece piece_held block_from block_held blocks_held partial_from partial_held pieces_held partials_held extents_held list_held listing_held
two_pieces = refl

-- they are in bounds
pub two_pieces_bounds : InBounds shape records words cells
unfolding least parts_of num_pieces block_length block_count whole_piece_blocks valid_geometry places_for words_for cells_for head_word record_at pieces_on blocks_on yes?
two_pieces_bounds =
    record {
      spans = record {
        in_words = record { sizes = record { places = refl; many = omega arith; wide = omega arith }; long = omega arith };
        in_cells = record { sizes = record { places = refl; many = omega arith; wide = omega arith }; long = omega arith };
      };
      geometry = refl;
      pieces = refl;
      blocks = refl;
      list = omega arith;
      idle = λ e. absurd (true≢false (sym e));
      partials = omega arith;
      live = omega arith;
      recent_extents = omega arith;
      placed = place;
      apart = λ k l a b e. omega arith;
    }
  where
    place : (k : ℕ) → k < 1 → (record_at records k).info_idx < 2
    place zero h = omega arith
    place (suc k) h = absurd (omega arith)

-- and plain
pub two_pieces_plain : Plain shape records words cells
unfolding cell places_for least piece_cell_at block_cell_at head_word record_at piece_cell block_cell blocks_of piece_blocks piece_length part_length parts_of block_length block_count
two_pieces_plain =
    record {
      dirty = omega arith;
      pieces = record { states = states; flushed = flushed };
      partials = one;
    }
  where
    states : (i : ℕ) → i < 2 → piece_cell cells 2 1 i ≤ 6
    states zero h = omega arith
    states (suc zero) h = omega arith
    states (suc (suc i)) h = absurd (omega arith)

    flushed : (i : ℕ) → i < 2 → piece_cell cells 2 3 i ≤ 1
    flushed zero h = omega arith
    flushed (suc zero) h = omega arith
    flushed (suc (suc i)) h = absurd (omega arith)

    block : (j : ℕ) → j < 1 → PlainBlock 2 1 cells 1 j
    block zero h = record { state = omega arith; has = omega arith }
    block (suc j) h = absurd (omega arith)

    one : (k : ℕ) → k < 1 → PlainRecord 2 1 words cells (record_at records k)
    one zero h = record { flags = omega arith; blocks = block }
    one (suc k) h = absurd (omega arith)
