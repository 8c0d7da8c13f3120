-- The changes of a standing picker, where they are not refused. Assumes nothing.
use Rattle.std.specs.Prelude.{ℕ, zero, suc, ◌+◌, ◌-◌, Bool, true, false, cond, not, ◌&&◌, ◌||◌, List, [], ◌∷◌, ◌++◌, drop, eqb, ltb, leb}
use Rattle.std.proofs.Math.Option.{Option, none, some}
use Rattle.types.specs.declared.queue.DownloadQueue.{DownloadQueue}
use Rattle.types.specs.declared.queue.DownloadQueue.TheVariants.{Downloading, DownloadingReverse}
use Rattle.types.specs.declared.block.BlockState.TheVariants.{None, Requested, Writing, Finished}
use Rattle.types.specs.Queue.{unreverse, make_reverse, is_reverse}
use Rattle.types.specs.Bits.{meets}
use Rattle.model.specs.Lists.{bit, every, filter, each, len, member, range, unless, when}
use Rattle.model.specs.State.{Piece, Block, DownloadingPiece, Picker, max_extents, extent_blocks, is_open, same_block_state, same_peer}
use Rattle.model.specs.State.{has_peer, with_peer_count, with_priority, with_flushed, with_state, with_peer, with_flags, with_seeds}
use Rattle.model.specs.State.{with_cursors, with_pieces, with_piece, with_recent_extents, piece_at, pieces_in, mark_dirty, blocks_in_piece}
use Rattle.model.specs.State.{blocks_per_piece, extent_for, extent_start, extent_end}
use Rattle.model.specs.list.Order.{Draws, Drawing, drawing, no_draw, rank, change_and_update}
use Rattle.model.specs.Options.{reverse, piece_extent_affinity}
use Rattle.model.specs.change.Partials.{partial_of, block_at, blocks_in_state, progress, replace_partial, replace_block, set_state}
use Rattle.model.specs.change.Partials.{update_piece_state, add_download_piece, erase_download_piece, erase_and_update}

-- ---- what a change answers
-- nothing, or true or false; the picker after it, and the draws used
pub record Change : Type 0 where
  pub answer : Option Bool
  pub after : Drawing

-- a change that answers nothing
unfoldable pub quietly : (w : Drawing) → Change
quietly w = record { answer = none; after = w }

-- a change that answers true or false
unfoldable pub saying : (truth : Bool) (w : Drawing) → Change
saying truth w = record { answer = some truth; after = w }

-- ---- availability
-- a peer more
unfoldable pub inc_peer_count : (p : Piece) → Piece
inc_peer_count p = with_peer_count (suc p.peer_count) p

-- a peer less
unfoldable pub dec_peer_count : (p : Piece) → Piece
dec_peer_count p = with_peer_count (p.peer_count - 1) p

-- every piece changed
unfoldable pub all_pieces : (f : Piece → Piece) (s : Picker) → Picker
all_pieces f s = with_pieces (each f s.pieces) s

-- `inc_refcount`: a peer has piece i
unfoldable pub inc_refcount : (draws : Draws) (i : ℕ) (w : Drawing) → Drawing
inc_refcount draws i w = change_and_update draws i (with_piece i inc_peer_count) w

-- `break_one_seed`: a seed turns out to lack a piece, and counts with each piece from now on
unfoldable pub break_one_seed : (s : Picker) → Picker
break_one_seed s = mark_dirty (all_pieces inc_peer_count (with_seeds (s.seeds - 1) s))

-- `dec_refcount`: a peer has it no more; where only seeds had it, one of them is broken first
unfoldable pub dec_refcount : (draws : Draws) (i : ℕ) (w : Drawing) → Drawing
dec_refcount draws i w =
    change_and_update draws i (with_piece i dec_peer_count) (when (eqb (piece_at w.picker i).peer_count 0) (no_draw break_one_seed) w)

-- `inc_refcount_all`: a seed more. A first one gives a bucket to pieces without peers, so the list is dirty
unfoldable pub inc_refcount_all : (s : Picker) → Picker
inc_refcount_all s = when (eqb s.seeds 0) mark_dirty (with_seeds (suc s.seeds) s)

-- `dec_refcount_all`: a seed goes, and with the last one the list is dirty; without a seed, a peer of each piece goes
unfoldable pub dec_refcount_all : (s : Picker) → Picker
dec_refcount_all s =
    cond (eqb s.seeds 0) (mark_dirty (all_pieces dec_peer_count s)) (when (eqb s.seeds 1) mark_dirty (with_seeds (s.seeds - 1) s))

-- ---- cursors
-- nothing of the piece is wanted any more
unfoldable pub flushed_or_filtered : (p : Piece) → Bool
flushed_or_filtered p = p.flushed || eqb p.priority 0

-- how many in front are so
unfoldable pub flushed_or_filtered_run : (ps : List Piece) → ℕ
flushed_or_filtered_run [] = 0
flushed_or_filtered_run (p ∷ ps) = cond (flushed_or_filtered p) (suc (flushed_or_filtered_run ps)) 0

-- the first piece from i on that is not
unfoldable pub cursor_from : (s : Picker) (i : ℕ) → ℕ
cursor_from s i = i + flushed_or_filtered_run (drop i s.pieces)

-- one past the last piece below i that is not
unfoldable pub reverse_from : (s : Picker) (i : ℕ) → ℕ
reverse_from s zero = 0
reverse_from s (suc i) = cond (flushed_or_filtered (piece_at s i)) (reverse_from s i) (suc i)

-- the cursors past each other: no piece between them
unfoldable pub empty_range : (s : Picker) → Picker
empty_range s = with_cursors (pieces_in s) 0 s

-- piece i is flushed or filtered now: a cursor that stands at it moves on
unfoldable pub advance_cursors : (i : ℕ) (s : Picker) → Picker
advance_cursors i s =
    cond (eqb s.cursor i && eqb s.reverse_cursor (suc i)) (empty_range s)
    (cond (eqb s.cursor i) (with_cursors (cursor_from s (suc i)) s.reverse_cursor s)
    (cond (eqb s.reverse_cursor (suc i)) (with_cursors s.cursor (reverse_from s i) s) s))

-- ---- priorities
-- the cursors where piece i, which is not flushed, gets priority 0, or another one after it
unfoldable pub cursors_on_filter : (i priority : ℕ) (s : Picker) → Picker
cursors_on_filter i priority s = cond (eqb priority 0) (advance_cursors i s) (when (eqb s.cursor s.reverse_cursor) empty_range s)

-- the priority turns from or to 0
unfoldable pub filter_changes : (priority : ℕ) (p : Piece) → Bool
filter_changes priority p = not (eqb (bit (eqb priority 0)) (bit (eqb p.priority 0)))

-- cursors, priority and list, then the state of a partial
unfoldable pub priority_set : (draws : Draws) (i priority : ℕ) (w : Drawing) → Drawing
priority_set draws i priority w =
    let p = piece_at w.picker i in
    let turned = when (filter_changes priority p && not p.flushed) (no_draw (cursors_on_filter i priority)) w in
    let listed = change_and_update draws i (with_piece i (with_priority priority)) turned in
    unless (is_open p.state) (update_piece_state draws i) listed

-- `set_piece_priority`: answers whether the priority turned from or to 0
unfoldable pub set_piece_priority : (draws : Draws) (i priority : ℕ) (w : Drawing) → Change
set_piece_priority draws i priority w =
    let p = piece_at w.picker i in
    saying (filter_changes priority p) (unless (eqb priority p.priority) (priority_set draws i priority) w)

-- ---- extents
-- the other pieces of i's extent
unfoldable pub neighbours : (s : Picker) (i : ℕ) → List Piece
neighbours s i =
    each (piece_at s) (filter (λ k. not (eqb k i)) (range (extent_start s (extent_for s i)) (extent_end s (extent_for s i))))

-- they have this one's priority, and not all are flushed
unfoldable pub worth_recording : (s : Picker) (i : ℕ) → Bool
worth_recording s i =
    every (λ p. eqb p.priority (piece_at s i).priority) (neighbours s i) && not (every (λ p. p.flushed) (neighbours s i))

-- piece i's extent is to be recorded: none where a piece has 256 blocks, none twice, no sixth
unfoldable pub recordable : (s : Picker) (i : ℕ) → Bool
recordable s i =
    ltb (blocks_per_piece s) extent_blocks
    && (not (member (extent_for s i) s.recent_extents) && (ltb (len s.recent_extents) max_extents && worth_recording s i))

-- `record_downloading_piece`: piece i's extent becomes the latest
unfoldable pub record_downloading_piece : (i : ℕ) (s : Picker) → Picker
record_downloading_piece i s = when (recordable s i) (with_recent_extents (s.recent_extents ++ (extent_for s i ∷ []))) s

-- ---- marks
-- REVERSE is asked for
unfoldable pub reverse_asked : (options : ℕ) → Bool
reverse_asked options = meets options reverse

-- PIECE_EXTENT_AFFINITY is asked for
unfoldable pub affinity_asked : (options : ℕ) → Bool
affinity_asked options = meets options piece_extent_affinity

-- Open piece i becomes a partial, first in state `q`
unfoldable pub opened : (draws : Draws) (i : ℕ) (q : DownloadQueue) (affinity : Bool) (w : Drawing) → Drawing
opened draws i q affinity w = add_download_piece draws i (when affinity (no_draw (record_downloading_piece i)) (set_state draws i q w))

-- block j of a standing partial replaced, and the piece's state after it
unfoldable pub set_block : (draws : Draws) (i : ℕ) (d : DownloadingPiece) (j : ℕ) (b : Block) (w : Drawing) → Drawing
set_block draws i d j b w = update_piece_state draws i (no_draw (replace_block d j b) w)

-- the block marked in a piece just opened; false where pad bytes finished it
unfoldable pub mark_first : (draws : Draws) (i : ℕ) (found : Option DownloadingPiece) (j : ℕ) (b : Block) (w : Drawing) → Change
mark_first draws i none j b w = saying false w
mark_first draws i (some d) j b w =
    cond (same_block_state (block_at d j).state Finished) (saying false w) (saying true (set_block draws i d j b w))

-- a block of an Open piece marked
unfoldable pub mark_opening : (draws : Draws) (i : ℕ) (q : DownloadQueue) (affinity : Bool) (j : ℕ) (b : Block) (w : Drawing) → Change
mark_opening draws i q affinity j b w =
    let o = opened draws i q affinity w in
    mark_first draws i (partial_of o.picker i) j b o

-- the piece turned reverse or back. One that gets a bucket by it is not put into the list: the list is dirty
unfoldable pub set_direction : (draws : Draws) (i : ℕ) (q : DownloadQueue) (w : Drawing) → Drawing
set_direction draws i q w =
    let s = with_piece i (with_state q) w.picker in
    cond (eqb (rank w.picker i) 0 && ltb 0 (rank s i)) (drawing w.used (mark_dirty s)) (set_state draws i q w)

-- under REVERSE a piece without a Requested block turns reverse
unfoldable pub make_piece_reverse : (draws : Draws) (i : ℕ) (back : Bool) (d : DownloadingPiece) (w : Drawing) → Drawing
make_piece_reverse draws i back d w =
    let q = (piece_at w.picker i).state in
    when (back && (not (is_reverse q) && eqb (blocks_in_state Requested d) 0)) (set_direction draws i (make_reverse q)) w

-- without REVERSE a reverse piece turns back
unfoldable pub unreverse_piece : (draws : Draws) (i : ℕ) (back : Bool) (w : Drawing) → Drawing
unreverse_piece draws i back w =
    let q = (piece_at w.picker i).state in
    when (not back && is_reverse q) (set_direction draws i (unreverse q)) w

-- a block requested by n peers, last by this one
unfoldable pub requested_by : (peer : Option ℕ) (n : ℕ) → Block
requested_by peer n = record { state = Requested; num_peers = n; peer = peer }

-- a block that this peer brought
unfoldable pub written_by : (peer : Option ℕ) → Block
written_by peer = record { state = Writing; num_peers = 0; peer = peer }

-- a block on disk
unfoldable pub finished_by : (peer : Option ℕ) (n : ℕ) → Block
finished_by peer n = record { state = Finished; num_peers = n; peer = peer }

-- Writing or Finished
unfoldable pub received : (b : Block) → Bool
received b = same_block_state b.state Writing || same_block_state b.state Finished

-- a block of a standing partial requested once more
unfoldable pub request : (draws : Draws) (i : ℕ) (d : DownloadingPiece) (j : ℕ) (peer : Option ℕ) (back : Bool) (w : Drawing) → Drawing
request draws i d j peer back w =
    unreverse_piece draws i back
    (set_block draws i d j (requested_by peer (suc (block_at d j).num_peers)) (make_piece_reverse draws i back d w))

-- by whether a partial stands: a block that was received is not asked for again
unfoldable pub mark_downloading_in : (draws : Draws) (i : ℕ) (found : Option DownloadingPiece) (j : ℕ) (peer : Option ℕ) (options : ℕ) (w : Drawing) → Change
mark_downloading_in draws i none j peer options w =
    mark_opening draws i (cond (reverse_asked options) DownloadingReverse Downloading) (affinity_asked options) j (requested_by peer 1) w
mark_downloading_in draws i (some d) j peer options w =
    cond (received (block_at d j)) (saying false w) (saying true (request draws i d j peer (reverse_asked options) w))

-- `mark_as_downloading`
unfoldable pub mark_as_downloading : (draws : Draws) (i j : ℕ) (peer : Option ℕ) (options : ℕ) (w : Drawing) → Change
mark_as_downloading draws i j peer options w = mark_downloading_in draws i (partial_of w.picker i) j peer options w

-- by whether a partial stands: a block that was received before only changes its peer
unfoldable pub mark_writing_in : (draws : Draws) (i : ℕ) (found : Option DownloadingPiece) (j : ℕ) (peer : Option ℕ) (w : Drawing) → Change
mark_writing_in draws i none j peer w =
    cond (piece_at w.picker i).flushed (saying false w) (mark_opening draws i Downloading false j (written_by peer) w)
mark_writing_in draws i (some d) j peer w =
    cond (received (block_at d j)) (saying false (no_draw (replace_block d j (with_peer peer (block_at d j))) w))
    (saying true (set_block draws i d j (written_by peer) w))

-- `mark_as_writing`
unfoldable pub mark_as_writing : (draws : Draws) (i j : ℕ) (peer : Option ℕ) (w : Drawing) → Change
mark_as_writing draws i j peer w = mark_writing_in draws i (partial_of w.picker i) j peer w

-- `piece_flushed`: the whole piece is on disk, and its partial goes. It has no bucket before or after
unfoldable pub piece_flushed : (i : ℕ) (s : Picker) → Picker
piece_flushed i s = advance_cursors i (with_piece i with_flushed (erase_download_piece i s))

-- every block is on disk
unfoldable pub all_finished : (s : Picker) (d : DownloadingPiece) → Bool
all_finished s d = leb (blocks_in_piece s d.piece) (blocks_in_state Finished d)

-- a passed piece with all blocks finished goes, unless it is locked or being hashed
unfoldable pub flush_if : (i : ℕ) (found : Option DownloadingPiece) (s : Picker) → Picker
flush_if i none s = s
flush_if i (some d) s =
    when (all_finished s d && (d.passed_hash_check && (not d.hashing && not d.locked))) (piece_flushed i) s

-- the partial of piece i, if one stands
unfoldable pub flush_done : (i : ℕ) (s : Picker) → Picker
flush_done i s = flush_if i (partial_of s i) s

-- a Writing block keeps its peer where no peer brings the news
unfoldable pub finished_peer : (peer : Option ℕ) (b : Block) → Option ℕ
finished_peer peer b = cond (same_block_state b.state Writing && not (has_peer peer)) b.peer peer

-- by whether a partial stands: a Finished block stays as it is, and a passed piece may go
unfoldable pub mark_finished_in : (draws : Draws) (i : ℕ) (found : Option DownloadingPiece) (j : ℕ) (peer : Option ℕ) (w : Drawing) → Drawing
mark_finished_in draws i none j peer w =
    cond (piece_at w.picker i).flushed w (mark_opening draws i Downloading false j (finished_by peer 0) w).after
mark_finished_in draws i (some d) j peer w =
    let b = block_at d j in
    cond (same_block_state b.state Finished) w
    (no_draw (flush_done i) (set_block draws i d j (finished_by (finished_peer peer b) b.num_peers) w))

-- `mark_as_finished`
unfoldable pub mark_as_finished : (draws : Draws) (i j : ℕ) (peer : Option ℕ) (w : Drawing) → Drawing
mark_as_finished draws i j peer w = mark_finished_in draws i (partial_of w.picker i) j peer w

-- a block free again that no peer has a part in
unfoldable pub freed : Block
freed = record { state = None; num_peers = 0; peer = none }

-- a block free again that keeps its number of peers and has the named one for its peer
unfoldable pub canceled : (peer : Option ℕ) (b : Block) → Block
canceled peer b = record { state = None; num_peers = b.num_peers; peer = peer }

-- block j, which is at work, becomes the free block `b`; a partial without another block at work is closed, unless it is being hashed
unfoldable pub free_block : (draws : Draws) (i : ℕ) (d : DownloadingPiece) (j : ℕ) (b : Block) (w : Drawing) → Drawing
free_block draws i d j b w =
    cond (eqb (progress d) 1 && not d.hashing) (erase_and_update draws i w) (set_block draws i d j b w)

-- a Finished block stays, a Writing one is given back, and any other only gets the named peer. The Rust brings the piece's state up to date
-- before it closes the partial, which changes nothing there
unfoldable pub cancel_in : (draws : Draws) (i : ℕ) (found : Option DownloadingPiece) (j : ℕ) (peer : Option ℕ) (w : Drawing) → Drawing
cancel_in draws i none j peer w = w
cancel_in draws i (some d) j peer w =
    let b = block_at d j in
    cond (same_block_state b.state Finished) w
    (cond (same_block_state b.state Writing) (free_block draws i d j (canceled peer b) w) (no_draw (replace_block d j (with_peer peer b)) w))

-- `mark_as_canceled`
unfoldable pub mark_as_canceled : (draws : Draws) (i j : ℕ) (peer : Option ℕ) (w : Drawing) → Drawing
mark_as_canceled draws i j peer w = cancel_in draws i (partial_of w.picker i) j peer w

-- a requester less; the named peer is forgotten
unfoldable pub released : (peer : Option ℕ) (b : Block) → Block
released peer b =
    record { state = Requested; num_peers = b.num_peers - 1; peer = cond (same_peer b.peer peer) none b.peer }

-- only a Requested block of a standing partial is given back, and it is free once its last requester is gone
unfoldable pub abort_in : (draws : Draws) (i : ℕ) (found : Option DownloadingPiece) (j : ℕ) (peer : Option ℕ) (w : Drawing) → Drawing
abort_in draws i none j peer w = w
abort_in draws i (some d) j peer w =
    let b = block_at d j in
    cond (not (same_block_state b.state Requested)) w
    (cond (ltb 1 b.num_peers) (no_draw (replace_block d j (released peer b)) w) (free_block draws i d j freed w))

-- `abort_download`
unfoldable pub abort_download : (draws : Draws) (i j : ℕ) (peer : Option ℕ) (w : Drawing) → Drawing
abort_download draws i j peer w = abort_in draws i (partial_of w.picker i) j peer w

-- the partial, if one stands, locked and no longer passed
unfoldable pub lock_in : (found : Option DownloadingPiece) (s : Picker) → Picker
lock_in none s = s
lock_in (some d) s = replace_partial (with_flags false true d) s

-- `lock_piece`: no block of the piece is picked
unfoldable pub lock_piece : (i : ℕ) (s : Picker) → Picker
lock_piece i s = lock_in (partial_of s i) s

-- the partial, if one stands and is not locked, passed; flushed at once where every block is on disk
unfoldable pub pass_in : (i : ℕ) (found : Option DownloadingPiece) (s : Picker) → Picker
pass_in i none s = s
pass_in i (some d) s =
    unless d.locked (λ t. when (all_finished t d) (piece_flushed i) (replace_partial (with_flags true false d) t)) s

-- `piece_passed`
unfoldable pub piece_passed : (i : ℕ) (s : Picker) → Picker
piece_passed i s = pass_in i (partial_of s i) s
