-- Blocks for a pick: which pieces may be picked, the run around a piece, and what a piece adds to the pick. Assumes nothing.
use Rattle.std.specs.Prelude.{ℕ, zero, suc, ◌+◌, ◌-◌, ◌/◌, ◌%◌, Bool, true, false, cond, not, ◌&&◌, ◌||◌, List, [], ◌∷◌, ◌++◌, take, replicate, eqb, ltb, leb}
use Rattle.std.proofs.Math.Option.{Option, none, some}
use Rattle.types.specs.declared.queue.DownloadQueue.TheVariants.{Downloading}
use Rattle.types.specs.declared.block.BlockState.TheVariants.{None, Requested}
use Rattle.types.specs.Queue.{unreverse}
use Rattle.types.specs.Bits.{meets, union}
use Rattle.model.specs.Lists.{least, from, range, filter, each, any, nth, set_nth, len, unless, when, branch, walk, walk_until, for_each}
use Rattle.model.specs.Bep3.{bit_at}
use Rattle.model.specs.State.{Block, DownloadingPiece, Picker, max_pieces, same_queue, is_open, same_block_state, same_peer, has_peer}
use Rattle.model.specs.State.{piece_at, pieces_in, blocks_per_piece, payload_blocks_in_piece}
use Rattle.model.specs.Options.{num_counters, on_parole, prioritize_partials, align_expanded_pieces}
use Rattle.model.specs.change.Partials.{partial_of, block_at}

-- ---- what a pick is asked
-- the arguments of `pick_pieces`: `wanted` is document 01's N, `contiguous` its P, the blocks wanted in a row; `peers` is how many peers
-- there are, `peer` the one that is asked; `bits` and `bytes` are its bitfield
pub record PickRequest : Type 0 where
  pub options : ℕ
  pub wanted : ℕ
  pub contiguous : ℕ
  pub peers : ℕ
  pub peer : Option ℕ
  pub bits : ℕ
  pub bytes : List ℕ
  pub suggestions : List ℕ

-- an option is asked for
unfoldable pub option : (bit : ℕ) (a : PickRequest) → Bool
option bit a = meets a.options bit

-- the peer has piece i
unfoldable pub has_bit : (a : PickRequest) (i : ℕ) → Bool
has_bit a i = ltb i a.bits && bit_at a.bytes i

-- ---- what a pick has come to
-- a run and the blocks that went towards it: the Rust's `prefer_contiguous_blocks` is the difference, which may fall below 0
pub record Contiguous : Type 0 where
  pub asked : ℕ
  pub given : ℕ

-- a block that is picked
pub record PieceBlock : Type 0 where
  pub piece : ℕ
  pub block : ℕ

-- `used` are the draws used so far, `left` the blocks still wanted: of a difference below 0 the Rust only asks whether it is 0 or less.
-- `out` are the blocks picked, `backup` the blocks set aside; `ignored` has a mark for each of 4,096 pieces, `loops` the seven counters
pub record PickState : Type 0 where
  pub picker : Picker
  pub used : ℕ
  pub left : ℕ
  pub contiguous : Contiguous
  pub out : List PieceBlock
  pub backup : List PieceBlock
  pub ignored : List Bool
  pub flags : ℕ
  pub loops : List ℕ

-- nothing picked yet
unfoldable pub start_state : (s : Picker) (a : PickRequest) → PickState
start_state s a =
    record {
      picker = s;
      used = 0;
      left = a.wanted;
      contiguous = record { asked = a.contiguous; given = 0 };
      out = [];
      backup = [];
      ignored = replicate max_pieces false;
      flags = 0;
      loops = replicate num_counters 0;
    }

-- no block is wanted any more
unfoldable pub spent : (w : PickState) → Bool
spent w = eqb w.left 0

-- ---- a field changed
-- other blocks picked, with so many still wanted and another run
unfoldable pub with_out : (n : ℕ) (r : Contiguous) (blocks : List PieceBlock) (w : PickState) → PickState
with_out n r picked w =
    record {
      picker = w.picker;
      used = w.used;
      left = n;
      contiguous = r;
      out = picked;
      backup = w.backup;
      ignored = w.ignored;
      flags = w.flags;
      loops = w.loops;
    }

-- another run
unfoldable pub with_contiguous : (r : Contiguous) (w : PickState) → PickState
with_contiguous r w = with_out w.left r w.out w

-- other blocks set aside
unfoldable pub with_backup : (aside : List PieceBlock) (w : PickState) → PickState
with_backup aside w =
    record {
      picker = w.picker;
      used = w.used;
      left = w.left;
      contiguous = w.contiguous;
      out = w.out;
      backup = aside;
      ignored = w.ignored;
      flags = w.flags;
      loops = w.loops;
    }

-- another picker, with so many draws used
unfoldable pub with_picker : (s : Picker) (used : ℕ) (w : PickState) → PickState
with_picker s used w =
    record {
      picker = s;
      used = used;
      left = w.left;
      contiguous = w.contiguous;
      out = w.out;
      backup = w.backup;
      ignored = w.ignored;
      flags = w.flags;
      loops = w.loops;
    }

-- piece i is ignored from here on
unfoldable pub ignore : (i : ℕ) (w : PickState) → PickState
ignore i w =
    record {
      picker = w.picker;
      used = w.used;
      left = w.left;
      contiguous = w.contiguous;
      out = w.out;
      backup = w.backup;
      ignored = set_nth i true w.ignored;
      flags = w.flags;
      loops = w.loops;
    }

-- a flag set
unfoldable pub flagged : (flag : ℕ) (w : PickState) → PickState
flagged flag w =
    record {
      picker = w.picker;
      used = w.used;
      left = w.left;
      contiguous = w.contiguous;
      out = w.out;
      backup = w.backup;
      ignored = w.ignored;
      flags = union w.flags flag;
      loops = w.loops;
    }

-- n steps more on a counter: the Rust's `inc`, n times
unfoldable pub steps : (n counter : ℕ) (w : PickState) → PickState
steps n counter w =
    record {
      picker = w.picker;
      used = w.used;
      left = w.left;
      contiguous = w.contiguous;
      out = w.out;
      backup = w.backup;
      ignored = w.ignored;
      flags = w.flags;
      loops = set_nth counter (nth 0 w.loops counter + n) w.loops;
    }

-- piece i is ignored
unfoldable pub is_ignored : (i : ℕ) (w : PickState) → Bool
is_ignored i w = nth false w.ignored i

-- ---- runs
-- nothing is left of the run, and no more was given
unfoldable pub contiguous_is_zero : (r : Contiguous) → Bool
contiguous_is_zero r = eqb r.asked r.given

-- more than n are left of the run
unfoldable pub contiguous_above : (n : ℕ) (r : Contiguous) → Bool
contiguous_above n r = ltb (r.given + n) r.asked

-- a block more towards the run
unfoldable pub shorter : (r : Contiguous) → Contiguous
shorter r = record { asked = r.asked; given = suc r.given }

-- pieces of n blocks that hold what is left of the run; none below 0, since it falls by less than n below
unfoldable pub whole_pieces : (n : ℕ) (r : Contiguous) → ℕ
whole_pieces n r = (r.asked - r.given + n - 1) / n

-- ---- which pieces
-- `is_piece_free`: the peer has it, it is not flushed, and it is not filtered
unfoldable pub is_piece_free : (a : PickRequest) (s : Picker) (i : ℕ) → Bool
is_piece_free a s i = has_bit a i && (not (piece_at s i).flushed && not (eqb (piece_at s i).priority 0))

-- `can_pick`: and no partial stands for it
unfoldable pub can_pick : (a : PickRequest) (s : Picker) (i : ℕ) → Bool
can_pick a s i = is_piece_free a s i && is_open (piece_at s i).state

-- down from piece i, by n at most, while the piece below can be picked
unfoldable pub down_by : (a : PickRequest) (s : Picker) (n i : ℕ) → ℕ
down_by a s zero i = i
down_by a s (suc n) i = cond (can_pick a s (i - 1)) (down_by a s n (i - 1)) i

-- up from piece k, by n at most, while pieces can be picked
unfoldable pub up_by : (a : PickRequest) (s : Picker) (n k : ℕ) → ℕ
up_by a s zero k = k
up_by a s (suc n) k = cond (can_pick a s k) (up_by a s n (suc k)) k

-- the pieces from `first` to `end`, without the end
pub record Span : Type 0 where
  pub first : ℕ
  pub end : ℕ

-- the piece alone
unfoldable pub alone : (i : ℕ) → Span
alone i = record { first = i; end = suc i }

-- the lowest piece that a span of n pieces around piece i may start at
unfoldable pub lowest_start : (a : PickRequest) (i n : ℕ) → ℕ
lowest_start a i n = cond (option align_expanded_pieces a) (i - i % n) (suc i - n)

-- from `first` past piece i, to no more than n pieces and no further than the last
unfoldable pub span_from : (a : PickRequest) (s : Picker) (i n lowest first : ℕ) → Span
span_from a s i n lowest first =
    let end = least (cond (option align_expanded_pieces a) lowest first + n) (pieces_in s) in
    record { first = first; end = up_by a s (end - suc i) (suc i) }

-- a span of n pieces around piece i, as far as pieces can be picked; of no pieces, the piece alone
unfoldable pub span_of : (a : PickRequest) (s : Picker) (i n : ℕ) → Span
span_of a s i zero = alone i
span_of a s i (suc n) =
    let lowest = lowest_start a i (suc n) in
    span_from a s i (suc n) lowest (down_by a s (i - lowest) i)

-- `expand_piece`: the span around piece i that holds the run
unfoldable pub expand_piece : (a : PickRequest) (i : ℕ) (w : PickState) → Span
expand_piece a i w = span_of a w.picker i (whole_pieces (blocks_per_piece w.picker) w.contiguous)

-- its pieces
unfoldable pub pieces_of : (span : Span) → List ℕ
pieces_of span = range span.first span.end

-- ---- blocks taken
-- block j of piece i
unfoldable pub piece_block : (i j : ℕ) → PieceBlock
piece_block i j = record { piece = i; block = j }

-- the block picked, towards the run
unfoldable pub took : (i j : ℕ) (w : PickState) → PickState
took i j w = with_out (w.left - 1) (shorter w.contiguous) (w.out ++ (piece_block i j ∷ [])) w

-- exactly the run has been given, and no block is wanted
unfoldable pub contiguous_met : (w : PickState) → Bool
contiguous_met w = contiguous_is_zero w.contiguous && spent w

-- the same, or more than the run
unfoldable pub contiguous_over : (w : PickState) → Bool
contiguous_over w = not (contiguous_above 0 w.contiguous) && spent w

-- piece k of a span: an ignored one only shortens the run; another is ignored from here on, and its blocks are taken
unfoldable pub span_step : (takes : ℕ → PickState → PickState) (k : ℕ) (w : PickState) → PickState
span_step takes k w = branch (is_ignored k w) (λ v. with_contiguous (shorter v.contiguous) v) (λ v. takes k (ignore k v)) w

-- the pieces of a span in turn. The Rust leaves it at an ignored piece where run and N are met: that can only be the last
unfoldable pub take_span : (takes : ℕ → PickState → PickState) (ks : List ℕ) (w : PickState) → PickState
take_span takes ks w = for_each (span_step takes) ks w

-- ---- new pieces
-- the blocks of piece k that hold more than pad bytes, up to where run and N are met
unfoldable pub take_payload : (k : ℕ) (w : PickState) → PickState
take_payload k w = walk (took k) contiguous_met (from 0 (payload_blocks_in_piece w.picker k)) w

-- blocks of an Open piece: without a run as many as are wanted, else the whole span around it
unfoldable pub add_new_piece : (a : PickRequest) (i : ℕ) (w : PickState) → PickState
add_new_piece a i w =
    branch (contiguous_is_zero w.contiguous)
    (for_each (took i) (from 0 (least (payload_blocks_in_piece w.picker i) w.left)))
    (take_span take_payload (pieces_of (expand_piece a i w))) w

-- ---- partials
-- who works on a partial, as `requested_from` answers: `exclusive`, no other peer's block; `active`, another peer has a request (the Rust
-- has the opposite, `exclusive_active`); the longest run of free blocks, and its first
pub record RequestedFrom : Type 0 where
  pub exclusive : Bool
  pub active : Bool
  pub longest : ℕ
  pub first : ℕ

-- a run of free blocks: how long it is, and its first block
pub record FreeRun : Type 0 where
  pub longest : ℕ
  pub first : ℕ

-- the run of `now` free blocks that ends before block j, where it is longer than x; so the first of equals stays
unfoldable pub longer : (j now : ℕ) (x : FreeRun) → FreeRun
longer j now x = cond (ltb x.longest now) (record { longest = now; first = j - now }) x

-- the longest run of free blocks, from block j on: x is the longest so far, and `now` free ones stand right before j
unfoldable pub longest_free : (j now : ℕ) (x : FreeRun) (bs : List Block) → FreeRun
longest_free j now x [] = longer j now x
longest_free j now x (b ∷ bs) =
    let free = same_block_state b.state None in
    longest_free (suc j) (cond free (suc now) 0) (cond free x (longer j now x)) bs

-- a block that is not free, and that not this peer asked for last
unfoldable pub by_another : (peer : Option ℕ) (b : Block) → Bool
by_another peer b = not (same_block_state b.state None) && not (same_peer b.peer peer)

-- `requested_from`
unfoldable pub requested_from : (peer : Option ℕ) (d : DownloadingPiece) → RequestedFrom
requested_from peer d =
    let x = longest_free 0 0 (record { longest = 0; first = 0 }) d.blocks in
    record {
      exclusive = not (any (by_another peer) d.blocks);
      active = any (λ b. by_another peer b && (same_block_state b.state Requested && has_peer b.peer)) d.blocks;
      longest = x.longest;
      first = x.first;
    }

-- the free blocks, from `first` round the piece
unfoldable pub free_from : (d : DownloadingPiece) (first : ℕ) → List ℕ
free_from d first =
    filter (λ j. same_block_state (block_at d j).state None) (each (λ k. (k + first) % len d.blocks) (from 0 (len d.blocks)))

-- as many blocks are set aside as are wanted, or more
unfoldable pub enough_aside : (w : PickState) → Bool
enough_aside w = leb w.left (len w.backup)

-- block j of piece i set aside
unfoldable pub put_aside : (i j : ℕ) (w : PickState) → PickState
put_aside i j w = with_backup (w.backup ++ (piece_block i j ∷ [])) w

-- the free blocks set aside, unless enough are there already
unfoldable pub set_aside : (d : DownloadingPiece) (first : ℕ) (w : PickState) → PickState
set_aside d first w = unless (enough_aside w) (for_each (put_aside d.piece) (free_from d first)) w

-- the last wanted block ends the walk, once the run is over
unfoldable pub free_halt : (i j : ℕ) (w : PickState) → Bool
free_halt i j w = not (contiguous_above 0 w.contiguous) && spent (took i j w)

-- the free blocks taken. The Rust's copy of the run stays at 0 once it is there, and all that it asks is whether it is above
unfoldable pub take_free : (d : DownloadingPiece) (first : ℕ) (w : PickState) → PickState
take_free d first w = walk_until (took d.piece) (free_halt d.piece) (free_from d first) w

-- work on a copy of the run: the pick's own stays as it is
unfoldable pub keeping_contiguous : (f : PickState → PickState) (w : PickState) → PickState
keeping_contiguous f w = with_contiguous w.contiguous (f w)

-- set aside where the run does not fit and another peer is at work; else taken. The Rust asks here for a peer on parole, too:
-- such a peer comes here only where no other is at work
unfoldable pub use_free : (d : DownloadingPiece) (h : RequestedFrom) (w : PickState) → PickState
use_free d h w =
    let first = cond (contiguous_is_zero w.contiguous) 0 h.first in
    branch (contiguous_above h.longest w.contiguous && h.active) (set_aside d first) (keeping_contiguous (take_free d first)) w

-- `add_blocks_downloading`: what a partial adds; nothing where the peer lacks it, it is locked or, on parole, another touched it
unfoldable pub add_blocks_downloading : (a : PickRequest) (d : DownloadingPiece) (w : PickState) → PickState
add_blocks_downloading a d w =
    let h = requested_from a.peer d in
    when (has_bit a d.piece && (not d.locked && (not (option on_parole a) || h.exclusive))) (use_free d h) w

-- ---- a piece
-- what its partial adds, where one stands
unfoldable pub add_partial_of : (a : PickRequest) (found : Option DownloadingPiece) (w : PickState) → PickState
add_partial_of a none w = w
add_partial_of a (some d) w = add_blocks_downloading a d w

-- what a Downloading piece adds: nothing under PRIORITIZE_PARTIALS, since partials were walked before
unfoldable pub add_standing : (a : PickRequest) (i : ℕ) (w : PickState) → PickState
add_standing a i w = unless (option prioritize_partials a) (add_partial_of a (partial_of w.picker i)) w

-- `add_blocks`: what piece i adds, where it is Open or Downloading, and not ignored
unfoldable pub add_blocks : (a : PickRequest) (i : ℕ) (w : PickState) → PickState
add_blocks a i w =
    let q = (piece_at w.picker i).state in
    unless (is_ignored i w)
    (branch (is_open q) (keeping_contiguous (add_new_piece a i)) (when (same_queue (unreverse q) Downloading) (add_standing a i))) w

-- ---- backup blocks
-- `append_blocks`: as many as are wanted of the blocks set aside, and none is set aside from here on. The Rust leaves there those that
-- are not wanted: then N is spent, and the pick is over
unfoldable pub append_blocks : (w : PickState) → PickState
append_blocks w =
    let n = least (len w.backup) w.left in
    with_backup [] (with_out (w.left - n) w.contiguous (w.out ++ take n w.backup) w)
