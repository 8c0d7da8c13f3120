-- What every change is made of: parts that take at most a draw each and leave the torrent as it is.
use mathlib.Core.Path.{◌≡◌, refl}
use Prim.Native.Nat.{ℕ, suc, ◌+◌, ◌≤◌}
use native.Mathlib.Omega.{arith}
use mathlib.Core.Bool.{Bool, true, false, cond, not, ◌&&◌, ◌||◌}
use mathlib.Core.List.{List}
use mathlib.Core.Option.{Option, none, some}
use lib.Dec.{eqb, ltb}
use Rattle.types.specs.declared.queue.DownloadQueue.{DownloadQueue}
use Rattle.types.specs.declared.queue.DownloadQueue.TheVariants.{Downloading}
use Rattle.types.specs.declared.block.BlockState.TheVariants.{Requested, Writing, Finished}
use Rattle.types.specs.Queue.{unreverse, make_reverse}
use Rattle.model.specs.Lists.{when}
use Rattle.model.specs.State.{Block, DownloadingPiece, Picker, piece_at, with_piece, with_state, with_priority, with_peer, mark_dirty}
use Rattle.model.specs.State.{same_queue, is_open, same_block_state}
use Rattle.model.specs.list.Order.{Drawing, drawing, no_draw, change_and_update, rank}
use Rattle.model.specs.change.Partials.{partial_of, block_at, replace_block, add_partial, erase_download_piece, progress, new_state}
use Rattle.model.specs.change.Partials.{set_state, move_state, update_state_of, update_piece_state, add_download_piece, erase_and_update}
use Rattle.model.specs.change.Changes.{record_downloading_piece, requested_by, written_by, finished_by, finished_peer, freed, canceled}
use Rattle.model.specs.change.Changes.{flush_done, dec_peer_count, inc_peer_count, break_one_seed, inc_refcount_all, dec_refcount_all, lock_piece}
use Rattle.model.specs.change.Changes.{piece_passed, filter_changes, cursors_on_filter, received, reverse_asked, saying, inc_refcount}
use Rattle.model.specs.change.Changes.{dec_refcount, priority_set, set_piece_priority, opened, set_block, mark_first, mark_opening}
use Rattle.model.specs.change.Changes.{set_direction, make_piece_reverse, unreverse_piece, request, mark_downloading_in, mark_as_downloading}
use Rattle.model.specs.change.Changes.{mark_writing_in, mark_as_writing, mark_finished_in, mark_as_finished, free_block, cancel_in}
use Rattle.model.specs.change.Changes.{mark_as_canceled, released, abort_in, abort_download}
use Rattle.model.proofs.list.ListingLaws.{moved_used}
use Rattle.model.proofs.base.Phases.{cond_arms, when_arms, unless_arms}
use Rattle.model.specs.State.{Piece, dirty, pieces_in, with_pieces, with_flushed, with_flags, with_seeds, with_cursors, with_partials}
use Rattle.model.specs.State.{with_recent_extents}
use Rattle.types.specs.declared.queue.DownloadQueue.TheVariants.{Open}
use Rattle.model.specs.Lists.{len}
use Rattle.model.specs.change.Partials.{replace_partial, drop_partial}
use Rattle.model.specs.change.Changes.{all_pieces, empty_range, cursor_from, reverse_from, advance_cursors, recordable, piece_flushed}
use Rattle.model.specs.change.Changes.{all_finished, flush_if, lock_in, pass_in}
use Rattle.model.proofs.list.ListingLaws.{OnlyListing, with_listing_only, moved_only}
use Rattle.model.proofs.list.RankLaws.{pieces_in-with_piece}
use Rattle.model.proofs.sound.PieceLaws.{pieces_in-all_pieces}
use Prim.Native.Nat.{◌-◌}
use mathlib.Core.Path.{ap, ◌∙◌}

-- ---- the torrent
-- t is of the same torrent as s: as long, in pieces as long, and as many of them
pub record SameTorrent (s t : Picker) : Type 0 where
  pub total_size : t.total_size ≡ s.total_size
  pub piece_size : t.piece_size ≡ s.piece_size
  pub many : pieces_in t ≡ pieces_in s

pub same_torrent : (s : Picker) → SameTorrent s s
same_torrent s = record { total_size = refl; piece_size = refl; many = refl }

pub torrent_then : {s t u : Picker} → SameTorrent s t → SameTorrent t u → SameTorrent s u
torrent_then f g = record {
  total_size = g.total_size ∙ f.total_size;
  piece_size = g.piece_size ∙ f.piece_size;
  many = g.many ∙ f.many;
}

-- a piece changed
piece_torrent : (i : ℕ) (f : Piece → Piece) (s : Picker) → SameTorrent s (with_piece i f s)
unfolding with_piece with_pieces
piece_torrent i f s = record { total_size = refl; piece_size = refl; many = pieces_in-with_piece i f s }

-- every piece changed
all_torrent : (f : Piece → Piece) (s : Picker) → SameTorrent s (all_pieces f s)
unfolding all_pieces with_pieces
all_torrent f s = record { total_size = refl; piece_size = refl; many = pieces_in-all_pieces f s }

-- seeds, cursors, partials, extents, list
seeds_torrent : (n : ℕ) (s : Picker) → SameTorrent s (with_seeds n s)
unfolding with_seeds pieces_in
seeds_torrent n s = record { total_size = refl; piece_size = refl; many = refl }

cursors_torrent : (c r : ℕ) (s : Picker) → SameTorrent s (with_cursors c r s)
unfolding with_cursors pieces_in
cursors_torrent c r s = record { total_size = refl; piece_size = refl; many = refl }

partials_torrent : (l : List DownloadingPiece) (s : Picker) → SameTorrent s (with_partials l s)
unfolding with_partials pieces_in
partials_torrent l s = record { total_size = refl; piece_size = refl; many = refl }

extents_torrent : (l : List ℕ) (s : Picker) → SameTorrent s (with_recent_extents l s)
unfolding with_recent_extents pieces_in
extents_torrent l s = record { total_size = refl; piece_size = refl; many = refl }

list_torrent : {s t : Picker} → OnlyListing s t → SameTorrent s t
unfolding pieces_in
list_torrent o = record { total_size = o.total_size; piece_size = o.piece_size; many = ap len o.pieces }

dirty_torrent : (s : Picker) → SameTorrent s (mark_dirty s)
unfolding mark_dirty
dirty_torrent s = list_torrent (with_listing_only dirty s)

-- ---- changes that take no draw
break_torrent : (s : Picker) → SameTorrent s (break_one_seed s)
unfolding break_one_seed
break_torrent s =
    let t = with_seeds (s.seeds - 1) s in
    torrent_then (torrent_then (seeds_torrent (s.seeds - 1) s) (all_torrent inc_peer_count t)) (dirty_torrent (all_pieces inc_peer_count t))

empty_torrent : (s : Picker) → SameTorrent s (empty_range s)
unfolding empty_range
empty_torrent s = cursors_torrent (pieces_in s) 0 s

advance_torrent : (i : ℕ) (s : Picker) → SameTorrent s (advance_cursors i s)
unfolding advance_cursors
advance_torrent i s = go (eqb s.cursor i && eqb s.reverse_cursor (suc i)) (eqb s.cursor i) (eqb s.reverse_cursor (suc i))
  where
    on : Picker
    on = with_cursors (cursor_from s (suc i)) s.reverse_cursor s

    back : Picker
    back = with_cursors s.cursor (reverse_from s i) s

    go : (x y z : Bool) → SameTorrent s (cond x (empty_range s) (cond y on (cond z back s)))
    go true y z = empty_torrent s
    go false true z = cursors_torrent (cursor_from s (suc i)) s.reverse_cursor s
    go false false true = cursors_torrent s.cursor (reverse_from s i) s
    go false false false = same_torrent s

filter_torrent : (i priority : ℕ) (s : Picker) → SameTorrent s (cursors_on_filter i priority s)
unfolding cursors_on_filter
filter_torrent i priority s =
    cond_arms (SameTorrent s) (eqb priority 0) _ _ (λ e. advance_torrent i s)
    (λ e. when_arms (SameTorrent s) (eqb s.cursor s.reverse_cursor) empty_range s (λ f. empty_torrent s) (λ f. same_torrent s))

record_torrent : (i : ℕ) (s : Picker) → SameTorrent s (record_downloading_piece i s)
unfolding record_downloading_piece
record_torrent i s = when_arms (SameTorrent s) (recordable s i) _ s (λ e. extents_torrent _ s) (λ e. same_torrent s)

replace_torrent : (d : DownloadingPiece) (s : Picker) → SameTorrent s (replace_partial d s)
unfolding replace_partial
replace_torrent d s = partials_torrent _ s

block_torrent : (d : DownloadingPiece) (j : ℕ) (b : Block) (s : Picker) → SameTorrent s (replace_block d j b s)
unfolding replace_block
block_torrent d j b s = replace_torrent _ s

add_torrent : (i : ℕ) (s : Picker) → SameTorrent s (add_partial i s)
unfolding add_partial
add_torrent i s = partials_torrent _ s

erase_torrent : (i : ℕ) (s : Picker) → SameTorrent s (erase_download_piece i s)
unfolding erase_download_piece drop_partial
erase_torrent i s = torrent_then (partials_torrent _ s) (piece_torrent i (with_state Open) (drop_partial i s))

flushed_torrent : (i : ℕ) (s : Picker) → SameTorrent s (piece_flushed i s)
unfolding piece_flushed
flushed_torrent i s =
    let t = erase_download_piece i s in
    torrent_then (torrent_then (erase_torrent i s) (piece_torrent i with_flushed t)) (advance_torrent i (with_piece i with_flushed t))

flush_torrent : (i : ℕ) (s : Picker) → SameTorrent s (flush_done i s)
unfolding flush_done flush_if
flush_torrent i s = go (partial_of s i)
  where
    go : (o : Option DownloadingPiece) → SameTorrent s (flush_if i o s)
    go none = same_torrent s
    go (some d) = when_arms (SameTorrent s) _ (piece_flushed i) s (λ e. flushed_torrent i s) (λ e. same_torrent s)

pub lock_torrent : (i : ℕ) (s : Picker) → SameTorrent s (lock_piece i s)
unfolding lock_piece lock_in
lock_torrent i s = go (partial_of s i)
  where
    go : (o : Option DownloadingPiece) → SameTorrent s (lock_in o s)
    go none = same_torrent s
    go (some d) = replace_torrent _ s

pub pass_torrent : (i : ℕ) (s : Picker) → SameTorrent s (piece_passed i s)
unfolding piece_passed pass_in
pass_torrent i s = go (partial_of s i)
  where
    go : (o : Option DownloadingPiece) → SameTorrent s (pass_in i o s)
    go none = same_torrent s
    go (some d) =
        let t = replace_partial (with_flags true false d) s in
        unless_arms (SameTorrent s) d.locked _ s
        (λ e. when_arms (SameTorrent s) (all_finished s d) (piece_flushed i) t
        (λ f. torrent_then (replace_torrent _ s) (flushed_torrent i t)) (λ f. replace_torrent _ s))
        (λ e. same_torrent s)

pub inc_all_torrent : (s : Picker) → SameTorrent s (inc_refcount_all s)
unfolding inc_refcount_all
inc_all_torrent s =
    let t = with_seeds (suc s.seeds) s in
    when_arms (SameTorrent s) (eqb s.seeds 0) mark_dirty t
    (λ e. torrent_then (seeds_torrent (suc s.seeds) s) (dirty_torrent t)) (λ e. seeds_torrent (suc s.seeds) s)

pub dec_all_torrent : (s : Picker) → SameTorrent s (dec_refcount_all s)
unfolding dec_refcount_all
dec_all_torrent s =
    let t = with_seeds (s.seeds - 1) s in
    cond_arms (SameTorrent s) (eqb s.seeds 0) _ _ (λ e. torrent_then (all_torrent dec_peer_count s) (dirty_torrent (all_pieces dec_peer_count s)))
    (λ e. when_arms (SameTorrent s) (eqb s.seeds 1) mark_dirty t
    (λ f. torrent_then (seeds_torrent (s.seeds - 1) s) (dirty_torrent t)) (λ f. seeds_torrent (s.seeds - 1) s))

-- ---- parts of a change
-- v comes from w with at most n draws more, and of the same torrent
pub record Part (n : ℕ) (w v : Drawing) : Type 0 where
  pub draws : v.used ≤ w.used + n
  pub torrent : SameTorrent w.picker v.picker

still : (n : ℕ) (w : Drawing) → Part n w w
still n w = record { draws = omega arith; torrent = same_torrent w.picker }

-- one part after another
part_then : {n m : ℕ} {w v u : Drawing} → Part n w v → Part m v u → Part (n + m) w u
part_then f g = let a = f.draws in let b = g.draws in record { draws = omega arith; torrent = torrent_then f.torrent g.torrent }

-- with more draws allowed
part_within : {n : ℕ} {w v : Drawing} (m : ℕ) → n ≤ m → Part n w v → Part m w v
part_within m h f = let a = f.draws in record { draws = omega arith; torrent = f.torrent }

-- a change without a draw
quiet : (f : Picker → Picker) → ((s : Picker) → SameTorrent s (f s)) → (w : Drawing) → Part 0 w (no_draw f w)
unfolding no_draw drawing
quiet f h w = record { draws = omega arith; torrent = h w.picker }

-- a phase that is made or not
perhaps : (n : ℕ) (b : Bool) (f : Drawing → Drawing) (w v : Drawing) → Part n v (f w) → Part n v w → Part n v (when b f w)
perhaps n b f w v h g = when_arms (Part n v) b f w (λ e. h) (λ e. g)

module _ (ds : List ℕ) (i : ℕ) where
  -- a piece changed and the list mended
  moved_part : (f : Picker → Picker) → ((s : Picker) → SameTorrent s (f s)) → (w : Drawing) → Part 1 w (change_and_update ds i f w)
  moved_part f h w = record {
    draws = (moved_used ds i f w).1;
    torrent = torrent_then (h w.picker) (list_torrent (moved_only ds i f w));
  }

  piece_part : (f : Piece → Piece) (w : Drawing) → Part 1 w (change_and_update ds i (with_piece i f) w)
  piece_part f w = moved_part (with_piece i f) (piece_torrent i f) w

  state_part : (q : DownloadQueue) (w : Drawing) → Part 1 w (set_state ds i q w)
  unfolding set_state
  state_part q w = piece_part (with_state q) w

  move_part : (p q : DownloadQueue) (w : Drawing) → Part 1 w (move_state ds i p q w)
  unfolding move_state
  move_part p q w = unless_arms (Part 1 w) (same_queue q p || is_open q) (set_state ds i q) w (λ e. state_part q w) (λ e. still 1 w)

  update_part : (w : Drawing) → Part 1 w (update_piece_state ds i w)
  unfolding update_piece_state update_state_of
  update_part w = go (partial_of w.picker i)
    where
      go : (o : Option DownloadingPiece) → Part 1 w (update_state_of ds i o w)
      go none = still 1 w
      go (some d) =
          let p = piece_at w.picker i in
          move_part p.state (new_state d p.priority p.state) w

  block_part : (d : DownloadingPiece) (j : ℕ) (b : Block) (w : Drawing) → Part 1 w (set_block ds i d j b w)
  unfolding set_block
  block_part d j b w = part_then (quiet (replace_block d j b) (block_torrent d j b) w) (update_part (no_draw (replace_block d j b) w))

  erase_part : (w : Drawing) → Part 1 w (erase_and_update ds i w)
  unfolding erase_and_update
  erase_part w = moved_part (erase_download_piece i) (erase_torrent i) w

  opened_part : (q : DownloadQueue) (affinity : Bool) (w : Drawing) → Part 2 w (opened ds i q affinity w)
  unfolding opened add_download_piece
  opened_part q affinity w =
      let s = set_state ds i q w in
      let r = when affinity (no_draw (record_downloading_piece i)) s in
      let f = perhaps 0 affinity (no_draw (record_downloading_piece i)) s s (quiet (record_downloading_piece i) (record_torrent i) s) (still 0 s) in
      let g = part_then (quiet (add_partial i) (add_torrent i) r) (update_part (no_draw (add_partial i) r)) in
      part_then (part_then (state_part q w) f) g

  first_part : (o : Option DownloadingPiece) (j : ℕ) (b : Block) (w v : Drawing) → Part 2 w v → Part 3 w (mark_first ds i o j b v).after
  unfolding mark_first saying
  first_part none j b w v h = part_within 3 (omega arith) h
  first_part (some d) j b w v h = go (same_block_state (block_at d j).state Finished)
    where
      go : (t : Bool) → Part 3 w (cond t (saying false v) (saying true (set_block ds i d j b v))).after
      go true = part_within 3 (omega arith) h
      go false = part_then h (block_part d j b v)

  opening_part : (q : DownloadQueue) (affinity : Bool) (j : ℕ) (b : Block) (w : Drawing) → Part 3 w (mark_opening ds i q affinity j b w).after
  unfolding mark_opening
  opening_part q affinity j b w =
      let o = opened ds i q affinity w in
      first_part (partial_of o.picker i) j b w o (opened_part q affinity w)

  turn_part : (q : DownloadQueue) (w : Drawing) → Part 1 w (set_direction ds i q w)
  unfolding set_direction drawing
  turn_part q w =
      let s = with_piece i (with_state q) w.picker in
      cond_arms (Part 1 w) (eqb (rank w.picker i) 0 && ltb 0 (rank s i)) (drawing w.used (mark_dirty s)) (set_state ds i q w)
      (λ e. record { draws = omega arith; torrent = torrent_then (piece_torrent i (with_state q) w.picker) (dirty_torrent s) })
      (λ e. state_part q w)

  on_part : (back : Bool) (d : DownloadingPiece) (w : Drawing) → Part 1 w (make_piece_reverse ds i back d w)
  unfolding make_piece_reverse
  on_part back d w = perhaps 1 _ (set_direction ds i (make_reverse (piece_at w.picker i).state)) w w (turn_part _ w) (still 1 w)

  back_part : (back : Bool) (w : Drawing) → Part 1 w (unreverse_piece ds i back w)
  unfolding unreverse_piece
  back_part back w = perhaps 1 _ (set_direction ds i (unreverse (piece_at w.picker i).state)) w w (turn_part _ w) (still 1 w)

  request_part : (d : DownloadingPiece) (j : ℕ) (peer : Option ℕ) (back : Bool) (w : Drawing) → Part 3 w (request ds i d j peer back w)
  unfolding request
  request_part d j peer back w =
      let v = make_piece_reverse ds i back d w in
      let b = requested_by peer (suc (block_at d j).num_peers) in
      part_then (part_then (on_part back d w) (block_part d j b v)) (back_part back (set_block ds i d j b v))

  -- ---- changes
  pub inc_part : (w : Drawing) → Part 1 w (inc_refcount ds i w)
  unfolding inc_refcount
  inc_part w = piece_part inc_peer_count w

  pub dec_part : (w : Drawing) → Part 1 w (dec_refcount ds i w)
  unfolding dec_refcount
  dec_part w =
      let b = eqb (piece_at w.picker i).peer_count 0 in
      let v = when b (no_draw break_one_seed) w in
      part_then (perhaps 0 b (no_draw break_one_seed) w w (quiet break_one_seed break_torrent w) (still 0 w)) (piece_part dec_peer_count v)

  set_part : (priority : ℕ) (w : Drawing) → Part 2 w (priority_set ds i priority w)
  unfolding priority_set
  set_part priority w =
      let p = piece_at w.picker i in
      let t = filter_changes priority p && not p.flushed in
      let v = when t (no_draw (cursors_on_filter i priority)) w in
      let u = change_and_update ds i (with_piece i (with_priority priority)) v in
      let f = perhaps 0 t (no_draw (cursors_on_filter i priority)) w w (quiet (cursors_on_filter i priority) (filter_torrent i priority) w) (still 0 w) in
      let g = part_then f (piece_part (with_priority priority) v) in
      unless_arms (Part 2 w) (is_open p.state) (update_piece_state ds i) u (λ e. part_then g (update_part u)) (λ e. part_within 2 (omega arith) g)

  pub priority_part : (priority : ℕ) (w : Drawing) → Part 2 w (set_piece_priority ds i priority w).after
  unfolding set_piece_priority saying
  priority_part priority w =
      unless_arms (Part 2 w) (eqb priority (piece_at w.picker i).priority) (priority_set ds i priority) w (λ e. set_part priority w) (λ e. still 2 w)

  pub downloading_part : (j : ℕ) (peer : Option ℕ) (options : ℕ) (w : Drawing) → Part 3 w (mark_as_downloading ds i j peer options w).after
  unfolding mark_as_downloading mark_downloading_in saying
  downloading_part j peer options w = go (partial_of w.picker i)
    where
      go : (o : Option DownloadingPiece) → Part 3 w (mark_downloading_in ds i o j peer options w).after
      go none = opening_part _ _ j _ w
      go (some d) = arm (received (block_at d j))
        where
          arm : (t : Bool) → Part 3 w (cond t (saying false w) (saying true (request ds i d j peer (reverse_asked options) w))).after
          arm true = still 3 w
          arm false = request_part d j peer (reverse_asked options) w

  -- a block gets another peer
  handed_part : (d : DownloadingPiece) (j : ℕ) (peer : Option ℕ) (w : Drawing) → Part 0 w (no_draw (replace_block d j (with_peer peer (block_at d j))) w)
  handed_part d j peer w = quiet (replace_block d j (with_peer peer (block_at d j))) (block_torrent d j (with_peer peer (block_at d j))) w

  pub writing_part : (j : ℕ) (peer : Option ℕ) (w : Drawing) → Part 3 w (mark_as_writing ds i j peer w).after
  unfolding mark_as_writing mark_writing_in saying
  writing_part j peer w = go (partial_of w.picker i)
    where
      go : (o : Option DownloadingPiece) → Part 3 w (mark_writing_in ds i o j peer w).after
      go none = arm (piece_at w.picker i).flushed
        where
          arm : (t : Bool) → Part 3 w (cond t (saying false w) (mark_opening ds i Downloading false j (written_by peer) w)).after
          arm true = still 3 w
          arm false = opening_part Downloading false j (written_by peer) w
      go (some d) = arm (received (block_at d j))
        where
          arm : (t : Bool) → Part 3 w (cond t (saying false (no_draw (replace_block d j (with_peer peer (block_at d j))) w)) (saying true (set_block ds i d j (written_by peer) w))).after
          arm true = part_within 3 (omega arith) (handed_part d j peer w)
          arm false = part_within 3 (omega arith) (block_part d j (written_by peer) w)

  pub finished_part : (j : ℕ) (peer : Option ℕ) (w : Drawing) → Part 3 w (mark_as_finished ds i j peer w)
  unfolding mark_as_finished mark_finished_in
  finished_part j peer w = go (partial_of w.picker i)
    where
      go : (o : Option DownloadingPiece) → Part 3 w (mark_finished_in ds i o j peer w)
      go none = arm (piece_at w.picker i).flushed
        where
          arm : (t : Bool) → Part 3 w (cond t w (mark_opening ds i Downloading false j (finished_by peer 0) w).after)
          arm true = still 3 w
          arm false = opening_part Downloading false j (finished_by peer 0) w
      go (some d) = arm (same_block_state (block_at d j).state Finished)
        where
          b : Block
          b = finished_by (finished_peer peer (block_at d j)) (block_at d j).num_peers

          arm : (t : Bool) → Part 3 w (cond t w (no_draw (flush_done i) (set_block ds i d j b w)))
          arm true = still 3 w
          arm false =
              part_within 3 (omega arith)
              (part_then (block_part d j b w) (quiet (flush_done i) (flush_torrent i) (set_block ds i d j b w)))

  free_part : (d : DownloadingPiece) (j : ℕ) (b : Block) (w : Drawing) → Part 1 w (free_block ds i d j b w)
  unfolding free_block
  free_part d j b w =
      cond_arms (Part 1 w) (eqb (progress d) 1 && not d.hashing) (erase_and_update ds i w) (set_block ds i d j b w)
      (λ e. erase_part w) (λ e. block_part d j b w)

  pub canceled_part : (j : ℕ) (peer : Option ℕ) (w : Drawing) → Part 1 w (mark_as_canceled ds i j peer w)
  unfolding mark_as_canceled cancel_in
  canceled_part j peer w = go (partial_of w.picker i)
    where
      go : (o : Option DownloadingPiece) → Part 1 w (cancel_in ds i o j peer w)
      go none = still 1 w
      go (some d) = arm (same_block_state (block_at d j).state Finished) (same_block_state (block_at d j).state Writing)
        where
          arm : (t u : Bool)
              → Part 1 w (cond t w (cond u (free_block ds i d j (canceled peer (block_at d j)) w) (no_draw (replace_block d j (with_peer peer (block_at d j))) w)))
          arm true u = still 1 w
          arm false true = free_part d j (canceled peer (block_at d j)) w
          arm false false = part_within 1 (omega arith) (handed_part d j peer w)

  pub abort_part : (j : ℕ) (peer : Option ℕ) (w : Drawing) → Part 1 w (abort_download ds i j peer w)
  unfolding abort_download abort_in
  abort_part j peer w = go (partial_of w.picker i)
    where
      go : (o : Option DownloadingPiece) → Part 1 w (abort_in ds i o j peer w)
      go none = still 1 w
      go (some d) = arm (not (same_block_state (block_at d j).state Requested)) (ltb 1 (block_at d j).num_peers)
        where
          b : Block
          b = released peer (block_at d j)

          arm : (t u : Bool) → Part 1 w (cond t w (cond u (no_draw (replace_block d j b) w) (free_block ds i d j freed w)))
          arm true u = still 1 w
          arm false true = part_within 1 (omega arith) (quiet (replace_block d j b) (block_torrent d j b) w)
          arm false false = free_part d j freed w
