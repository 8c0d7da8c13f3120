-- One pick: partials, suggestions, sequential, rarest or random, backup blocks, end game. A spent N stops it. Assumes nothing.
use Rattle.std.specs.Prelude.{ℕ, suc, ◌-◌, ◌*◌, ◌/◌, Bool, true, false, cond, not, ◌&&◌, ◌||◌, List, [], ◌∷◌, ◌++◌, take, eqb, ltb, leb}
use Rattle.std.proofs.Math.Option.{Option, none, some}
use Rattle.types.specs.declared.queue.DownloadQueue.TheVariants.{Downloading, Full}
use Rattle.types.specs.declared.block.BlockState.TheVariants.{Requested}
use Rattle.types.specs.Bits.{union}
use Rattle.model.specs.Lists.{count, from, range, range_down, filter, every, nth, set_nth, len, remove_nth, last_or, reversed, unless}
use Rattle.model.specs.Lists.{when, branch, repeat, walk, for_each, sort_by}
use Rattle.model.specs.State.{DownloadingPiece, Picker, max_pieces, top_priority, max_partial_blocks, is_open, same_block_state, same_peer}
use Rattle.model.specs.State.{list_of, with_recent_extents, piece_at, pieces_in, blocks_per_piece, blocks_in_piece, extent_start, extent_end}
use Rattle.model.specs.Options.{rarest_first, reverse, on_parole, prioritize_partials, sequential, piece_extent_affinity, partial_ratio}
use Rattle.model.specs.Options.{prioritized_partials, rarest_first_partials, rarest_first_pieces, reverse_rarest_first, suggested_pieces}
use Rattle.model.specs.Options.{prio_sequential_pieces, sequential_pieces, random_pieces, prefer_contiguous, reverse_sequential, backup1}
use Rattle.model.specs.Options.{end_game, extent_affinity, partial_loops, suggest_loops, reverse_rare_loops, rare_loops, rand_start_loops}
use Rattle.model.specs.Options.{rand_loops, busy_loops}
use Rattle.model.specs.list.Order.{Draws, drawing, draw, update_pieces}
use Rattle.model.specs.change.Partials.{block_at, progress, in_queue}
use Rattle.model.specs.pick.Blocks.{PickRequest, option, has_bit, PickState, start_state, spent, with_out, with_picker, ignore, flagged}
use Rattle.model.specs.pick.Blocks.{steps, is_ignored, contiguous_above, is_piece_free, expand_piece, pieces_of, piece_block, took}
use Rattle.model.specs.pick.Blocks.{contiguous_over, take_span, add_blocks_downloading, add_blocks, append_blocks, enough_aside}

-- ---- the forcing rule
-- too many partials for the peers, or too many blocks in them; a piece has `blocks`
unfoldable pub forced : (partials blocks peers : ℕ) → Bool
forced partials blocks peers = ltb (peers * 3 / 2) partials || ltb max_partial_blocks (partials * blocks)

-- the same, of a picker and what is asked
unfoldable pub is_forced : (s : Picker) (a : PickRequest) → Bool
is_forced s a = forced (len (in_queue Downloading s)) (blocks_per_piece s) a.peers

-- PRIORITIZE_PARTIALS set, and no run
unfoldable pub forced_request : (a : PickRequest) → PickRequest
forced_request a =
    record {
      options = union a.options prioritize_partials;
      wanted = a.wanted;
      contiguous = 0;
      peers = a.peers;
      peer = a.peer;
      bits = a.bits;
      bytes = a.bytes;
      suggestions = a.suggestions;
    }

-- what is asked after the forcing rule
unfoldable pub effective_request : (s : Picker) (a : PickRequest) → PickRequest
effective_request s a = cond (is_forced s a) (forced_request a) a

-- the work at the start, with its flags
unfoldable pub start_pick : (s : Picker) (a : PickRequest) → PickState
start_pick s a =
    when (is_forced s a) (flagged partial_ratio)
    (when (ltb 0 (effective_request s a).contiguous) (flagged prefer_contiguous) (start_state s (effective_request s a)))

-- ---- partials
-- a partial to pick from: its piece is free for the peer, and it is not locked
unfoldable pub usable : (a : PickRequest) (s : Picker) (d : DownloadingPiece) → Bool
usable a s d = is_piece_free a s d.piece && not d.locked

-- the walk that finds them: what the pick has come to, and those found, by rising piece
pub record PartialScan : Type 0 where
  pub work : PickState
  pub partials : List DownloadingPiece

-- one partial: a step is counted, and it is kept where it can be picked from
unfoldable pub scan_step : (a : PickRequest) (d : DownloadingPiece) (scan : PartialScan) → PartialScan
scan_step a d scan =
    let s = scan.work.picker in
    record { work = steps 1 partial_loops scan.work; partials = cond (usable a s d) (scan.partials ++ (d ∷ [])) scan.partials }

-- the whole Downloading queue
unfoldable pub scan_partials : (a : PickRequest) (w : PickState) → PartialScan
scan_partials a w = for_each (scan_step a) (in_queue Downloading w.picker) (record { work = w; partials = [] })

-- `partial_compare_rarest_first`, as a test: d goes before d' where fewer peers have it or, of as many, where it is closer to complete
unfoldable pub partial_compare_rarest_first : (s : Picker) (d d' : DownloadingPiece) → Bool
partial_compare_rarest_first s d d' =
    let n = (piece_at s d.piece).peer_count in
    let n' = (piece_at s d'.piece).peer_count in
    ltb n n' || (eqb n n' && ltb (progress d') (progress d))

-- RAREST_FIRST, and not on parole
unfoldable pub by_rarity : (a : PickRequest) → Bool
by_rarity a = option rarest_first a && not (option on_parole a)

-- the partials found in the order of the pick; equals stay by rising piece
unfoldable pub ordered_partials : (a : PickRequest) (s : Picker) (ds : List DownloadingPiece) → List DownloadingPiece
ordered_partials a s ds = cond (by_rarity a) (sort_by (partial_compare_rarest_first s) ds) ds

-- a partial adds its blocks
unfoldable pub partial_step : (a : PickRequest) (d : DownloadingPiece) (w : PickState) → PickState
partial_step a d w = add_blocks_downloading a d (flagged prioritized_partials w)

-- partials in turn, until N is spent or enough blocks are set aside; then these
unfoldable pub walk_partials : (a : PickRequest) (ds : List DownloadingPiece) (w : PickState) → PickState
walk_partials a ds w =
    let v = walk (partial_step a) enough_aside ds w in
    unless (spent v) append_blocks v

-- those found, in their order
unfoldable pub pick_scanned : (a : PickRequest) (scan : PartialScan) → PickState
pick_scanned a scan =
    walk_partials a (ordered_partials a scan.work.picker scan.partials) (when (by_rarity a) (flagged rarest_first_partials) scan.work)

-- the first phase, where partials come first
unfoldable pub pick_partials : (a : PickRequest) (w : PickState) → PickState
pick_partials a w = when (option prioritize_partials a) (λ v. pick_scanned a (scan_partials a v)) w

-- ---- walks over pieces
-- a free piece adds its blocks, and the flag of the walk is set
unfoldable pub visit : (a : PickRequest) (flag i : ℕ) (w : PickState) → PickState
visit a flag i w = when (is_piece_free a w.picker i) (λ v. add_blocks a i (flagged flag v)) w

-- ---- suggestions
-- a suggested piece is counted; a free one adds its blocks, and is ignored from here on
unfoldable pub suggest : (a : PickRequest) (i : ℕ) (w : PickState) → PickState
suggest a i w = when (is_piece_free a w.picker i) (λ v. ignore i (add_blocks a i (flagged suggested_pieces v))) (steps 1 suggest_loops w)

-- the second phase
unfoldable pub pick_suggested : (a : PickRequest) (w : PickState) → PickState
pick_suggested a w = walk (suggest a) spent a.suggestions w

-- ---- sequential
-- the list up to the first piece that is not of the top priority
unfoldable pub leading_top : (s : Picker) (l : List ℕ) → List ℕ
leading_top s [] = []
leading_top s (i ∷ is) = cond (eqb (piece_at s i).priority top_priority) (i ∷ leading_top s is) []

-- a piece below the top priority; the others were walked before
unfoldable pub visit_below_top : (a : PickRequest) (flag i : ℕ) (w : PickState) → PickState
visit_below_top a flag i w = unless (eqb (piece_at w.picker i).priority top_priority) (visit a flag i) w

-- the range from cursor to reverse cursor, backwards under REVERSE
unfoldable pub pick_range : (a : PickRequest) (w : PickState) → PickState
pick_range a w =
    let s = w.picker in
    branch (option reverse a)
    (walk (visit_below_top a reverse_sequential) spent (range_down s.cursor s.reverse_cursor))
    (walk (visit_below_top a sequential_pieces) spent (range s.cursor s.reverse_cursor)) w

-- the pieces of the top priority in the list's order, then the range
unfoldable pub pick_sequential : (a : PickRequest) (w : PickState) → PickState
pick_sequential a w =
    let v = walk (visit a prio_sequential_pieces) spent (leading_top w.picker (list_of w.picker.listing)) w in
    unless (spent v) (pick_range a) v

-- ---- rarest first
-- a sequential pick has walked over piece i
unfoldable pub in_range : (a : PickRequest) (s : Picker) (i : ℕ) → Bool
in_range a s i = option sequential a && (leb s.cursor i && ltb i s.reverse_cursor)

-- a piece outside that range
unfoldable pub visit_outside : (a : PickRequest) (flag i : ℕ) (w : PickState) → PickState
visit_outside a flag i w = unless (in_range a w.picker i) (visit a flag i) w

-- a piece of the list is counted, and visited
unfoldable pub rare_step : (a : PickRequest) (i : ℕ) (w : PickState) → PickState
rare_step a i w = visit_outside a rarest_first_pieces i (steps 1 rare_loops w)

-- the same, in the walk backwards
unfoldable pub reverse_rare_step : (a : PickRequest) (i : ℕ) (w : PickState) → PickState
reverse_rare_step a i w = visit_outside a reverse_rarest_first i (steps 1 reverse_rare_loops w)

-- a walk over extents: what the pick has come to, and the place of the last extent found finished
pub record ExtentWalk : Type 0 where
  pub work : PickState
  pub finished : Option ℕ

-- every piece of extent e is flushed
unfoldable pub all_flushed : (s : Picker) (e : ℕ) → Bool
all_flushed s e = every (λ i. (piece_at s i).flushed) (range (extent_start s e) (extent_end s e))

-- a finished extent at place k replaces the one found before; where N is spent none is looked at
unfoldable pub found_finished : (w : PickState) (k : ℕ) (found : Option ℕ) → Option ℕ
found_finished w k found = cond (not (spent w) && all_flushed w.picker (nth 0 w.picker.recent_extents k)) (some k) found

-- the pieces of the extent at place k
unfoldable pub extent_step : (a : PickRequest) (k : ℕ) (walked : ExtentWalk) → ExtentWalk
extent_step a k walked =
    let s = walked.work.picker in
    let e = nth 0 s.recent_extents k in
    let w = walk (visit_outside a extent_affinity) spent (range (extent_start s e) (extent_end s e)) walked.work in
    record { work = w; finished = found_finished w k walked.finished }

-- the extent at place k goes
unfoldable pub forget_extent : (place : Option ℕ) (w : PickState) → PickState
forget_extent none w = w
forget_extent (some k) w = with_picker (with_recent_extents (remove_nth k w.picker.recent_extents) w.picker) w.used w

-- the recent extents in turn; one finished extent is forgotten, the last found
unfoldable pub pick_extents : (a : PickRequest) (w : PickState) → PickState
pick_extents a w =
    let x = walk (extent_step a) (λ y. spent y.work) (from 0 (len w.picker.recent_extents)) (record { work = w; finished = none }) in
    forget_extent x.finished x.work

-- recent extents where asked for, then the list
unfoldable pub pick_forward : (a : PickRequest) (w : PickState) → PickState
pick_forward a w =
    let v = when (option piece_extent_affinity a) (pick_extents a) w in
    unless (spent v) (λ u. walk (rare_step a) spent (list_of u.picker.listing) u) v

-- the list, backwards under REVERSE
unfoldable pub pick_rarest : (a : PickRequest) (w : PickState) → PickState
pick_rarest a w =
    branch (option reverse a) (walk (reverse_rare_step a) spent (reversed (list_of w.picker.listing))) (pick_forward a) w

-- ---- random: round the torrent from a drawn piece
-- piece i may be visited: it is free, and not ignored
unfoldable pub stands_open : (a : PickRequest) (i : ℕ) (w : PickState) → Bool
stands_open a i w = is_piece_free a w.picker i && not (is_ignored i w)

-- the piece after i, round the torrent
unfoldable pub onward : (s : Picker) (i : ℕ) → ℕ
onward s i = cond (leb (pieces_in s) (suc i)) 0 (suc i)

-- what tells whether a lap did anything: blocks appended, blocks set aside, pieces ignored
pub record Trace : Type 0 where
  pub taken : ℕ
  pub aside : ℕ
  pub ignored : ℕ

-- of a pick
unfoldable pub trace : (w : PickState) → Trace
trace w = record { taken = len w.out; aside = len w.backup; ignored = count (λ b. b) w.ignored }

-- nothing was done in between
unfoldable pub same_trace : (before now : Trace) → Bool
same_trace before now = eqb before.taken now.taken && (eqb before.aside now.aside && eqb before.ignored now.ignored)

-- where the walk stands; whether skipping brought it back to the start; what it had come to when it last stood there; whether it is over
pub record RandomWalk : Type 0 where
  pub work : PickState
  pub place : ℕ
  pub back : Bool
  pub seen : Trace
  pub over : Bool

-- one piece passed over, and counted
unfoldable pub skip_step : (start : ℕ) (x : RandomWalk) → RandomWalk
skip_step start x =
    let i = onward x.work.picker x.place in
    record { work = steps 1 rand_start_loops x.work; place = i; back = eqb i start; seen = x.seen; over = x.over }

-- at a piece that may be visited, or back at the start
unfoldable pub skip_done : (a : PickRequest) (x : RandomWalk) → Bool
skip_done a x = x.back || stands_open a x.place x.work

-- on to the next piece that may be visited, or round to the start
unfoldable pub skip : (a : PickRequest) (start : ℕ) (x : RandomWalk) → RandomWalk
skip a start x =
    repeat (pieces_in x.work.picker) (skip_step start) (skip_done a)
    (record { work = x.work; place = x.place; back = false; seen = x.seen; over = x.over })

-- block j of piece k counted, and taken
unfoldable pub rand_step : (k j : ℕ) (w : PickState) → PickState
rand_step k j w = took k j (steps 1 rand_loops w)

-- all blocks of piece k, pads too, up to where run and N are over
unfoldable pub take_all : (k : ℕ) (w : PickState) → PickState
take_all k w = walk (rand_step k) contiguous_over (from 0 (blocks_in_piece w.picker k)) (flagged random_pieces w)

-- the walk goes on at piece i; onto the start ends it
unfoldable pub arrive : (start i : ℕ) (x : RandomWalk) (w : PickState) → RandomWalk
arrive start i x w = record { work = w; place = i; back = false; seen = x.seen; over = eqb i start }

-- the whole span around the piece, and on behind it
unfoldable pub random_span : (a : PickRequest) (start : ℕ) (x : RandomWalk) → RandomWalk
random_span a start x =
    let w = x.work in
    let span = expand_piece a x.place w in
    arrive start (onward w.picker (span.end - 1)) x (take_span take_all (pieces_of span) w)

-- what the piece adds, and on to the next
unfoldable pub random_piece : (a : PickRequest) (start : ℕ) (x : RandomWalk) → RandomWalk
random_piece a start x =
    let w = x.work in
    arrive start (onward w.picker x.place) x (add_blocks a x.place (flagged random_pieces w))

-- the span around an Open piece where a run is wanted, else the piece
unfoldable pub random_visit : (a : PickRequest) (start : ℕ) (x : RandomWalk) → RandomWalk
random_visit a start x =
    let w = x.work in
    let whole = contiguous_above 1 w.contiguous && is_open (piece_at w.picker x.place).state in
    branch whole (random_span a start) (random_piece a start) x

-- the walk is over
unfoldable pub ended : (x : RandomWalk) → RandomWalk
ended x = record { work = x.work; place = x.place; back = x.back; seen = x.seen; over = true }

-- back at the start a new lap begins: what the pick has come to is seen anew
unfoldable pub marked : (x : RandomWalk) → RandomWalk
marked x =
    let seen = cond x.back (trace x.work) x.seen in
    record { work = x.work; place = x.place; back = x.back; seen = seen; over = x.over }

-- no piece may be visited, or a lap did nothing
unfoldable pub lap_ends : (a : PickRequest) (x : RandomWalk) → Bool
lap_ends a x = not (stands_open a x.place x.work) || (x.back && same_trace (trace x.work) x.seen)

-- the end, or a visit
unfoldable pub lap_from : (a : PickRequest) (start : ℕ) (x : RandomWalk) → RandomWalk
lap_from a start x = branch (lap_ends a x) ended (λ y. random_visit a start (marked y)) x

-- skipping, then a visit
unfoldable pub lap_step : (a : PickRequest) (start : ℕ) (x : RandomWalk) → RandomWalk
lap_step a start x = lap_from a start (skip a start x)

-- it is over, or N is spent
unfoldable pub walk_over : (x : RandomWalk) → Bool
walk_over x = x.over || spent x.work

-- more visits than a walk can make: each lap but the last takes, sets aside or ignores something
abbrev pub ring_fuel : ℕ
ring_fuel = max_pieces * 8200

-- the whole walk
unfoldable pub ring : (a : PickRequest) (start : ℕ) (w : PickState) → PickState
ring a start w =
    (repeat ring_fuel (lap_step a start) walk_over (record { work = w; place = start; back = false; seen = trace w; over = false })).work

-- the walk from a drawn piece
unfoldable pub pick_random : (draws : Draws) (a : PickRequest) (w : PickState) → PickState
pick_random draws a w = ring a (draw draws w.used (pieces_in w.picker - 1)) (with_picker w.picker (suc w.used) w)

-- ---- end game
-- the blocks that are requested, and that not this peer asked for last
unfoldable pub busy_blocks : (a : PickRequest) (d : DownloadingPiece) → List ℕ
busy_blocks a d =
    filter (λ j. same_block_state (block_at d j).state Requested && not (same_peer (block_at d j).peer a.peer)) (from 0 (len d.blocks))

-- the Rust's `cap`: of the pieces that the end game tries
abbrev pub max_end_game_pieces : ℕ
max_end_game_pieces = 200

-- the first of the Full pieces that the peer has
unfoldable pub full_partials : (a : PickRequest) (s : Picker) → List DownloadingPiece
full_partials a s = take max_end_game_pieces (filter (λ d. has_bit a d.piece) (in_queue Full s))

-- what the end game has come to, and the pieces it has not tried
pub record EndGame : Type 0 where
  pub work : PickState
  pub pieces : List DownloadingPiece
  pub found : Bool

-- a partial past the last
unfoldable pub no_partial : DownloadingPiece
no_partial = record { piece = 0; passed_hash_check = false; locked = false; hashing = false; blocks = [] }

-- `swap_remove`: the last takes the place of the one that goes
unfoldable pub swap_remove : (k : ℕ) (ds : List DownloadingPiece) → List DownloadingPiece
swap_remove k ds = take (len ds - 1) (set_nth k (last_or no_partial ds) ds)

-- partial d at place k, by its blocks for this peer: one of them is drawn and picked; where there is none the partial goes
unfoldable pub end_game_try : (draws : Draws) (k : ℕ) (d : DownloadingPiece) (js : List ℕ) (game : EndGame) → EndGame
end_game_try draws k d [] game = record { work = game.work; pieces = swap_remove k game.pieces; found = false }
end_game_try draws k d (j ∷ js) game =
    let w = game.work in
    let chosen = nth 0 (j ∷ js) (draw draws w.used (len js)) in
    let v = with_out w.left w.contiguous (w.out ++ (piece_block d.piece chosen ∷ [])) w in
    record { work = flagged end_game (with_picker w.picker (suc w.used) v); pieces = game.pieces; found = true }

-- a Full piece is drawn, counted and tried
unfoldable pub end_game_step : (draws : Draws) (a : PickRequest) (game : EndGame) → EndGame
end_game_step draws a game =
    let w = game.work in
    let k = draw draws w.used (len game.pieces - 1) in
    let d = nth no_partial game.pieces k in
    end_game_try draws k d (busy_blocks a d)
    (record { work = with_picker w.picker (suc w.used) (steps 1 busy_loops w); pieces = game.pieces; found = false })

-- a block was found, or no piece is left
unfoldable pub end_game_done : (game : EndGame) → Bool
end_game_done game = game.found || eqb (len game.pieces) 0

-- the end game
unfoldable pub pick_end_game : (draws : Draws) (a : PickRequest) (w : PickState) → PickState
pick_end_game draws a w =
    (repeat max_end_game_pieces (end_game_step draws a) end_game_done
    (record { work = w; pieces = full_partials a w.picker; found = false })).work

-- ---- the pick
-- `update_pieces`, where the list is dirty
unfoldable pub with_list_updated : (draws : Draws) (w : PickState) → PickState
with_list_updated draws w =
    let x = update_pieces draws (drawing w.used w.picker) in
    with_picker x.picker x.used w

-- the phases that go by the list
unfoldable pub pick_listed : (draws : Draws) (a : PickRequest) (w : PickState) → PickState
pick_listed draws a w =
    let v = when (option sequential a) (pick_sequential a) (with_list_updated draws w) in
    unless (spent v) (pick_rarest a) v

-- sequential and rarest, or random
unfoldable pub pick_main : (draws : Draws) (a : PickRequest) (w : PickState) → PickState
pick_main draws a w = branch (option sequential a || option rarest_first a) (pick_listed draws a) (pick_random draws a) w

-- backup blocks, then the end game
unfoldable pub pick_rest : (draws : Draws) (a : PickRequest) (w : PickState) → PickState
pick_rest draws a w =
    let v = append_blocks (flagged backup1 w) in
    unless (spent v || option on_parole a) (pick_end_game draws a) v

-- partials, suggestions, the main phase and the rest, up to where N is spent
unfoldable pub phases : (draws : Draws) (a : PickRequest) (w : PickState) → PickState
phases draws a w =
    let w₁ = pick_partials a w in
    let w₂ = unless (spent w₁) (pick_suggested a) w₁ in
    let w₃ = unless (spent w₂) (pick_main draws a) w₂ in
    unless (spent w₃) (pick_rest draws a) w₃

-- `pick_pieces`: what the pick has come to; its picker is the next state
unfoldable pub pick_pieces : (draws : Draws) (s : Picker) (a : PickRequest) → PickState
pick_pieces draws s a = phases draws (effective_request s a) (start_pick s a)
