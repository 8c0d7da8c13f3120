-- A pick passes nothing over. Where it gives fewer blocks than are wanted it has given every free block of every piece that the peer has,
-- that is not flushed and that has a priority above 0; or one of five reasons holds of the piece. Assumes nothing.
use Rattle.std.specs.Prelude.{◌≡◌, ◌⊎◌, ℕ, ◌+◌, ◌<◌, Bool, true, false, ◌&&◌, ◌||◌, List, eqb, ltb}
use Rattle.std.proofs.Math.Option.{Option, none, some}
use Rattle.types.specs.declared.queue.DownloadQueue.TheVariants.{Downloading}
use Rattle.types.specs.declared.block.BlockState.TheVariants.{None}
use Rattle.types.specs.Queue.{unreverse}
use Rattle.model.specs.Lists.{any, len}
use Rattle.model.specs.State.{DownloadingPiece, Picker, top_priority, same_queue, same_block_state, piece_at, payload_blocks_in_piece}
use Rattle.model.specs.Options.{rarest_first, sequential, on_parole}
use Rattle.model.specs.list.Order.{Draws}
use Rattle.model.specs.change.Partials.{partial_of, block_at, progress}
use Rattle.model.specs.pick.Blocks.{PickRequest, option, is_piece_free, PieceBlock, by_another}
use Rattle.model.specs.pick.Pick.{in_range, pick_pieces}
use Rattle.model.specs.image.WellFormed.{well_formed}
use Rattle.model.specs.Memory.{Memory}
use Rattle.model.specs.Calls.{do_pick_pieces, picked, lent_request, step}

-- ---- free blocks, and blocks given
-- of an Open piece each block that holds more than pad bytes, of a partial each in state None
unfoldable pub free_in : (payload : ℕ) (found : Option DownloadingPiece) (j : ℕ) → Bool
free_in payload none j = ltb j payload
free_in payload (some d) j = ltb j (len d.blocks) && same_block_state (block_at d j).state None

-- block j of piece i is free
unfoldable pub is_free : (s : Picker) (i j : ℕ) → Bool
is_free s i j = free_in (payload_blocks_in_piece s i) (partial_of s i) j

-- block j of piece i is among these
unfoldable pub is_given : (i j : ℕ) (blocks : List PieceBlock) → Bool
is_given i j blocks = any (λ b. eqb b.piece i && eqb b.block j) blocks

-- the pick goes by the list
unfoldable pub by_list : (a : PickRequest) → Bool
by_list a = option sequential a || option rarest_first a

-- ---- why piece i may be passed over; `in_range` says that the pick is SEQUENTIAL and the piece lies between the cursors
pub data PassedOver (s : Picker) (a : PickRequest) (i : ℕ) : Type 0 where
  -- the pick goes by the list, and nobody has the piece: this peer was not counted in
  not_counted : by_list a ≡ true → in_range a s i ≡ false → (piece_at s i).peer_count + s.seeds ≡ 0 → PassedOver s a i
  -- it is locked
  is_locked : (d : DownloadingPiece) → partial_of s i ≡ some d → d.locked ≡ true → PassedOver s a i
  -- the peer is on parole, and a block of it is another peer value's
  held_by_another :
      (d : DownloadingPiece) → partial_of s i ≡ some d → option on_parole a ≡ true → any (by_another a.peer) d.blocks ≡ true
      → PassedOver s a i
  -- no block of its partial is at work, and its state is another than Downloading: only an image brings that about
  at_rest :
      (d : DownloadingPiece) → partial_of s i ≡ some d → progress d ≡ 0 → same_queue (unreverse (piece_at s i).state) Downloading ≡ false
      → PassedOver s a i
  -- case 10 of document 01: a piece of the top priority in the range of a SEQUENTIAL pick
  top_in_range : in_range a s i ≡ true → (piece_at s i).priority ≡ top_priority → PassedOver s a i

-- For every well-formed picker, every request and all draws:
pub record Complete : Type 0 where
  -- where blocks are still wanted at the end, a free block of a free piece is given, or there is a reason
  pub passes_nothing :
      (s : Picker) → well_formed s ≡ true → (a : PickRequest) (draws : Draws) → 0 < (pick_pieces draws s a).left
      → (i j : ℕ) → is_piece_free a s i ≡ true → is_free s i j ≡ true → (is_given i j (pick_pieces draws s a).out ≡ true) ⊎ PassedOver s a i
  -- the same of a call's answer, where it has fewer blocks than N
  pub answers_all :
      (s : Picker) → well_formed s ≡ true → (a : PickRequest) (lent : Memory) (free : ℕ) (draws : Draws) (blocks : List PieceBlock)
      (flags : ℕ) (loops : List ℕ) (used : ℕ)
      → (step s (record { lent = lent; action = do_pick_pieces a free draws })).answer ≡ picked blocks flags loops used → len blocks < a.wanted
      → (i j : ℕ) → is_piece_free a s i ≡ true → is_free s i j ≡ true → (is_given i j blocks ≡ true) ⊎ PassedOver s (lent_request a) i
