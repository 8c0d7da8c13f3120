-- Partials and their blocks: finding, opening, closing, the state that the blocks give, the four queues. Assumes nothing.
use Rattle.std.specs.Prelude.{ℕ, ◌+◌, ◌-◌, false, cond, not, ◌||◌, List, [], ◌∷◌, eqb, ltb}
use Rattle.std.proofs.Math.Option.{Option, none, some}
use Rattle.types.specs.declared.queue.DownloadQueue.{DownloadQueue}
use Rattle.types.specs.declared.queue.DownloadQueue.TheVariants.{Downloading, Full, Finished as FinishedQueue, ZeroPrio, Open}
use Rattle.types.specs.declared.block.BlockState.{BlockState}
use Rattle.types.specs.declared.block.BlockState.TheVariants.{None, Requested, Finished}
use Rattle.types.specs.Queue.{unreverse, make_reverse, is_reverse}
use Rattle.model.specs.Lists.{bit, count, filter, each, from, nth, set_nth, len, unless, insert_by}
use Rattle.model.specs.State.{Block, DownloadingPiece, Picker, no_block, same_queue, is_open, same_block_state, with_blocks, with_partials}
use Rattle.model.specs.State.{with_piece, with_state, piece_at, blocks_in_piece, payload_blocks_in_piece}
use Rattle.model.specs.list.Order.{Draws, Drawing, no_draw, change_and_update}

-- ---- finding
-- `find_dl_piece`: the partial of a piece, if one stands
unfoldable pub find_dl_piece : (i : ℕ) (ds : List DownloadingPiece) → Option DownloadingPiece
find_dl_piece i [] = none
find_dl_piece i (d ∷ ds) = cond (eqb d.piece i) (some d) (find_dl_piece i ds)

-- the same, of a picker
unfoldable pub partial_of : (s : Picker) (i : ℕ) → Option DownloadingPiece
partial_of s i = find_dl_piece i s.partials

-- block j of a partial
unfoldable pub block_at : (d : DownloadingPiece) (j : ℕ) → Block
block_at d j = nth no_block d.blocks j

-- ---- counts, from the blocks
-- blocks in one state
unfoldable pub blocks_in_state : (k : BlockState) (d : DownloadingPiece) → ℕ
blocks_in_state k d = count (λ b. same_block_state b.state k) d.blocks

-- blocks that are not free
unfoldable pub progress : (d : DownloadingPiece) → ℕ
progress d = len d.blocks - blocks_in_state None d

-- ---- queues
-- the partials of a queue, by rising piece; the reverse states stand with the plain ones
unfoldable pub in_queue : (q : DownloadQueue) (s : Picker) → List DownloadingPiece
in_queue q s = filter (λ d. same_queue (unreverse (piece_at s d.piece).state) q) s.partials

-- ---- one partial changed
-- the partial of its piece replaced, in a list
unfoldable pub replace_in : (d : DownloadingPiece) (ds : List DownloadingPiece) → List DownloadingPiece
replace_in d ds = each (λ e. cond (eqb e.piece d.piece) d e) ds

-- the same, in a picker
unfoldable pub replace_partial : (d : DownloadingPiece) (s : Picker) → Picker
replace_partial d s = with_partials (replace_in d s.partials) s

-- block j of a partial replaced
unfoldable pub replace_block : (d : DownloadingPiece) (j : ℕ) (b : Block) (s : Picker) → Picker
replace_block d j b s = replace_partial (with_blocks (set_nth j b d.blocks) d) s

-- ---- the state that the blocks give
-- plain or reverse, as the piece was before
unfoldable pub in_direction : (current q : DownloadQueue) → DownloadQueue
in_direction current q = cond (is_reverse current) (make_reverse q) q

-- `new_state` of `update_piece_state`: the state that these blocks and this priority give. Open means that the piece is left as it is
unfoldable pub new_state : (d : DownloadingPiece) (priority : ℕ) (current : DownloadQueue) → DownloadQueue
new_state d priority current =
    cond (eqb priority 0) ZeroPrio
    (cond (eqb (progress d + bit d.hashing) 0) Open
    (cond (ltb (progress d) (len d.blocks)) (in_direction current Downloading)
    (cond (ltb 0 (blocks_in_state Requested d)) (in_direction current Full) FinishedQueue)))

-- the piece in another state, and the list mended
unfoldable pub set_state : (draws : Draws) (i : ℕ) (q : DownloadQueue) (w : Drawing) → Drawing
set_state draws i q w = change_and_update draws i (with_piece i (with_state q)) w

-- the piece goes to state `q` unless it is there, or is to be left
unfoldable pub move_state : (draws : Draws) (i : ℕ) (current q : DownloadQueue) (w : Drawing) → Drawing
move_state draws i current q w = unless (same_queue q current || is_open q) (set_state draws i q) w

-- the state made that of the blocks, where a partial stands
unfoldable pub update_state_of : (draws : Draws) (i : ℕ) (found : Option DownloadingPiece) (w : Drawing) → Drawing
update_state_of draws i none w = w
update_state_of draws i (some d) w =
    let p = piece_at w.picker i in
    move_state draws i p.state (new_state d p.priority p.state) w

-- `update_piece_state`
unfoldable pub update_piece_state : (draws : Draws) (i : ℕ) (w : Drawing) → Drawing
update_piece_state draws i w = update_state_of draws i (partial_of w.picker i) w

-- ---- opening and closing
-- block j of a piece just opened: Finished where it holds pad bytes alone
unfoldable pub fresh_block : (payload j : ℕ) → Block
fresh_block payload j = record { state = cond (ltb j payload) None Finished; num_peers = 0; peer = none }

-- the partial of a piece just opened
unfoldable pub fresh_partial : (s : Picker) (i : ℕ) → DownloadingPiece
fresh_partial s i =
    record {
      piece = i;
      passed_hash_check = false;
      locked = false;
      hashing = false;
      blocks = each (fresh_block (payload_blocks_in_piece s i)) (from 0 (blocks_in_piece s i));
    }

-- a partial put in by rising piece
unfoldable pub insert_in : (d : DownloadingPiece) (ds : List DownloadingPiece) → List DownloadingPiece
insert_in d ds = insert_by (λ e f. ltb e.piece f.piece) d ds

-- a partial for piece i
unfoldable pub add_partial : (i : ℕ) (s : Picker) → Picker
add_partial i s = with_partials (insert_in (fresh_partial s i) s.partials) s

-- `add_download_piece`: the partial stands, and its pad blocks may move it on
unfoldable pub add_download_piece : (draws : Draws) (i : ℕ) (w : Drawing) → Drawing
add_download_piece draws i w = update_piece_state draws i (no_draw (add_partial i) w)

-- no partial of piece i any more
unfoldable pub drop_partial : (i : ℕ) (s : Picker) → Picker
drop_partial i s = with_partials (filter (λ d. not (eqb d.piece i)) s.partials) s

-- `erase_download_piece`: the partial gone and its piece Open; the list is not mended
unfoldable pub erase_download_piece : (i : ℕ) (s : Picker) → Picker
erase_download_piece i s = with_piece i (with_state Open) (drop_partial i s)

-- the same, and the list mended
unfoldable pub erase_and_update : (draws : Draws) (i : ℕ) (w : Drawing) → Drawing
erase_and_update draws i w = change_and_update draws i (erase_download_piece i) w
