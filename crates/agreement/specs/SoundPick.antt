-- A pick gives nothing that it should not: what holds of each block that it gives. Assumes nothing.
use Rattle.std.specs.Prelude.{◌≡◌, ℕ, ◌<◌, true, false, List, [], ◌∷◌, ◌++◌}
use Rattle.std.proofs.Math.Option.{some}
use Rattle.types.specs.declared.queue.DownloadQueue.TheVariants.{Downloading, Full, Open}
use Rattle.types.specs.declared.block.BlockState.TheVariants.{None, Requested}
use Rattle.types.specs.Queue.{unreverse}
use Rattle.model.specs.State.{DownloadingPiece, Picker, same_peer, piece_at, pieces_in, blocks_in_piece}
use Rattle.model.specs.Options.{on_parole}
use Rattle.model.specs.list.Order.{Draws}
use Rattle.model.specs.change.Partials.{partial_of, block_at}
use Rattle.model.specs.pick.Blocks.{PickRequest, option, has_bit, PieceBlock, requested_from}
use Rattle.model.specs.pick.Pick.{pick_pieces}
use Rattle.model.specs.image.WellFormed.{well_formed}
use Rattle.model.specs.Memory.{Memory}
use Rattle.model.specs.Calls.{lent_request, do_pick_pieces, picked, request_fits, step}

-- the block lies in a piece that the peer has, that is not flushed, and that has a priority above 0
pub record InWantedPiece (s : Picker) (request : PickRequest) (b : PieceBlock) : Type 0 where
  pub piece : b.piece < pieces_in s
  pub block : b.block < blocks_in_piece s b.piece
  pub peer_has : has_bit request b.piece ≡ true
  pub not_flushed : (piece_at s b.piece).flushed ≡ false
  pub priority : 0 < (piece_at s b.piece).priority

-- why it is given, where the blocks of `after` are given after it
pub data Why (s : Picker) (request : PickRequest) (b : PieceBlock) (after : List PieceBlock) : Type 0 where
  -- its piece is Open: no partial stands for it, and each of its blocks is free. In the random walk a run takes those of pad bytes, too
  free_of_open : (state : (piece_at s b.piece).state ≡ Open) → Why s request b after
  -- its piece is Downloading, plain or reverse, and not locked; the block is free; on parole no other peer has a block of the piece
  free_of_partial :
      (d : DownloadingPiece) (partial : partial_of s b.piece ≡ some d)
      (state : unreverse (piece_at s b.piece).state ≡ Downloading) (not_locked : d.locked ≡ false)
      (free : (block_at d b.block).state ≡ None)
      (parole : option on_parole request ≡ true → (requested_from request.peer d).exclusive ≡ true) → Why s request b after
  -- the end game: none is given after it, and the peer is not on parole. Its piece is Full, plain or reverse, be it locked or not; the
  -- block is requested, and not this peer asked for it last
  EndGame :
      (d : DownloadingPiece) (partial : partial_of s b.piece ≡ some d)
      (state : unreverse (piece_at s b.piece).state ≡ Full)
      (requested : (block_at d b.block).state ≡ Requested) (another : same_peer (block_at d b.block).peer request.peer ≡ false)
      (not_on_parole : option on_parole request ≡ false) (last : after ≡ []) → Why s request b after

-- both
pub record Given (s : Picker) (request : PickRequest) (b : PieceBlock) (after : List PieceBlock) : Type 0 where
  pub wanted : InWantedPiece s request b
  pub why : Why s request b after

-- For every well-formed picker:
pub record SoundPick : Type 0 where
  -- each block that a pick gives, whatever is drawn
  pub given :
      (s : Picker) → well_formed s ≡ true → (request : PickRequest) → request_fits s request ≡ true → (draws : Draws)
      → (before : List PieceBlock) (b : PieceBlock) (after : List PieceBlock)
      → (pick_pieces draws s request).out ≡ before ++ (b ∷ after) → Given s request b after
  -- and so each block in the answer of a call that was not refused; its peer is a number of 64 bits
  pub answered :
      (s : Picker) → well_formed s ≡ true → (lent : Memory) (request : PickRequest) (free : ℕ) (draws : Draws)
      → (before : List PieceBlock) (b : PieceBlock) (after : List PieceBlock) (flags : ℕ) (loops : List ℕ) (used : ℕ)
      → (step s (record { lent = lent; action = do_pick_pieces request free draws })).answer ≡ picked (before ++ (b ∷ after)) flags loops used
      → Given s (lent_request request) b after
