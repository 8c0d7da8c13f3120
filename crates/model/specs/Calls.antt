-- Calls: every question, change and pick with all that is lent to it, the refusals in the table's order, a step, and lists of calls.
-- Assumes nothing.
use Rattle.std.specs.Prelude.{ℕ, ◌+◌, ◌%◌, ◌^◌, Bool, true, false, cond, not, ◌&&◌, List, [], ◌∷◌, eqb, ltb, leb}
use Rattle.std.proofs.Math.Option.{Option, none, some}
use Rattle.types.specs.declared.block.BlockState.TheVariants.{Requested}
use Rattle.types.specs.declared.refusal.Refusal.{Refusal}
use Rattle.types.specs.declared.refusal.Refusal.TheVariants.{Geometry, ShortMemory, FewDraws, OutOfRange, TooManyPeers, NoPeerToTake}
use Rattle.types.specs.declared.refusal.Refusal.TheVariants.{HavePiece, NotWriting, TooManyPartials, PickArguments, ShortOutput}
use Rattle.types.specs.declared.refusal.Refusal.TheVariants.{IllFormedImage}
use Rattle.model.specs.Lists.{any, len}
use Rattle.model.specs.Bep3.{bitfield_bytes}
use Rattle.model.specs.State.{Piece, Block, Picker, Listing, dirty, fresh, max_peers, max_partials, max_priority, max_wanted}
use Rattle.model.specs.State.{max_contiguous, max_suggestions, spare_output, min_draws, is_open, same_block_state, valid_geometry, new}
use Rattle.model.specs.State.{piece_at, pieces_in, blocks_per_piece, blocks_in_piece}
use Rattle.model.specs.Memory.{Memory, partials_needed, memory_needed, is_short}
use Rattle.model.specs.Options.{rarest_first, sequential}
use Rattle.model.specs.list.Order.{Draws, Drawing, drawing}
use Rattle.model.specs.change.Partials.{partial_of}
use Rattle.model.specs.change.Changes.{Change, quietly, inc_refcount, dec_refcount, inc_refcount_all, dec_refcount_all, set_piece_priority}
use Rattle.model.specs.change.Changes.{mark_as_downloading, mark_as_writing, mark_as_finished, mark_as_canceled, abort_download, lock_piece}
use Rattle.model.specs.change.Changes.{piece_passed, received}
use Rattle.model.specs.ask.Questions.{ListOfPicker, get_availability_vec, piece_priorities, get_download_queue, Question, of_picker}
use Rattle.model.specs.ask.Questions.{list_of_picker, of_piece, list_of_piece, of_block, partial_at, recent_extent, ask_list_place, Reply}
use Rattle.model.specs.ask.Questions.{block_in, block_test, reply}
use Rattle.model.specs.pick.Blocks.{PickRequest, option, PieceBlock, PickState}
use Rattle.model.specs.pick.Pick.{pick_pieces}
use Rattle.model.specs.image.Image.{image, Read, accepted, fault_at, read_image}

-- ---- calls
-- what a call does, with its arguments; `draws` are the lent words, `free` the output places that a pick finds free
pub data Action : Type 0 where
  question : Question → Action
  do_inc_refcount do_dec_refcount : (piece : ℕ) → (draws : Draws) → Action
  do_inc_refcount_all do_dec_refcount_all : Action
  do_set_piece_priority : (piece priority : ℕ) → (draws : Draws) → Action
  do_mark_as_downloading : (piece block : ℕ) → (peer : Option ℕ) → (options : ℕ) → (draws : Draws) → Action
  do_mark_as_writing do_mark_as_finished do_mark_as_canceled do_abort_download : (piece block : ℕ) → (peer : Option ℕ) → (draws : Draws) → Action
  do_lock_piece do_piece_passed : (piece : ℕ) → Action
  do_pick_pieces : PickRequest → (free : ℕ) → (draws : Draws) → Action

-- `lent` is the memory that the picker stands in
pub record Call : Type 0 where
  pub lent : Memory
  pub action : Action

-- a refusal; a change done, or answered true or false, with the draws used; what a question is told; what a pick gives
pub data Answer : Type 0 where
  refused : Refusal → Answer
  done : (used : ℕ) → Answer
  said : Bool → (used : ℕ) → Answer
  replied : Reply → Answer
  picked : List PieceBlock → (flags : ℕ) → (loops : List ℕ) → (used : ℕ) → Answer

-- ---- records of an answer
unfoldable pub records_needed : (s : Picker) (list : ListOfPicker) → ℕ
records_needed s get_availability_vec = pieces_in s
records_needed s piece_priorities = pieces_in s
records_needed s get_download_queue = partials_needed (pieces_in s)

-- ---- refusals: the first of the table that holds
-- a refusal that is met, or what the rest of the table says
unfoldable pub check : (test : Bool) (first : Refusal) (rest : Option Refusal) → Option Refusal
check true first rest = some first
check false first rest = rest

-- 4: too few draws
unfoldable pub refuse_few_draws : (draws : Draws) (r : Option Refusal) → Option Refusal
refuse_few_draws draws r = check (ltb (len draws) min_draws) FewDraws r

-- 5: no such piece
unfoldable pub refuse_bad_piece : (s : Picker) (i : ℕ) (r : Option Refusal) → Option Refusal
refuse_bad_piece s i r = check (leb (pieces_in s) i) OutOfRange r

-- 5: no such piece, or no such block of it
unfoldable pub refuse_bad_block : (s : Picker) (i j : ℕ) (r : Option Refusal) → Option Refusal
refuse_bad_block s i j r = refuse_bad_piece s i (check (leb (blocks_in_piece s i) j) OutOfRange r)

-- the piece has as many peers with the seeds as may be
unfoldable pub peers_full : (s : Picker) (p : Piece) → Bool
peers_full s p = leb max_peers (p.peer_count + s.seeds)

-- the block, which a request would count up, has as many peers as may be
unfoldable pub num_peers_full : (b : Block) → Bool
num_peers_full b = not (received b) && leb max_peers b.num_peers

-- the block, where a partial stands
unfoldable pub block_there : (s : Picker) (i j : ℕ) → Option Block
block_there s i j = block_in (partial_of s i) j

-- a partial more than may stand would be opened
unfoldable pub no_partial_left : (s : Picker) (i : ℕ) → Bool
no_partial_left s i = is_open (piece_at s i).state && (not (piece_at s i).flushed && leb max_partials (len s.partials))

-- past the end of a list that is not dirty
unfoldable pub no_place : (listing : Listing) (k : ℕ) → Bool
no_place dirty k = false
no_place (fresh l) k = leb (len l) k

-- 2 of the room for a list, and 5
unfoldable pub question_refusal : (s : Picker) (q : Question) → Option Refusal
question_refusal s (of_picker q) = none
question_refusal s (list_of_picker q room) = check (ltb room (records_needed s q)) ShortMemory none
question_refusal s (of_piece q i) = refuse_bad_piece s i none
question_refusal s (list_of_piece q i room) = check (ltb room (blocks_per_piece s)) ShortMemory (refuse_bad_piece s i none)
question_refusal s (of_block q i j) = refuse_bad_block s i j none
question_refusal s (partial_at k) = none
question_refusal s (recent_extent k) = none
question_refusal s (ask_list_place k) = check (no_place s.listing k) OutOfRange none

-- the bitfield has a bit for each piece, and the bytes that they need
unfoldable pub bitfield_fits : (s : Picker) (request : PickRequest) → Bool
bitfield_fits s request = eqb request.bits (pieces_in s) && eqb (len request.bytes) (bitfield_bytes request.bits)

-- the arguments of a pick are in range
unfoldable pub request_fits : (s : Picker) (request : PickRequest) → Bool
request_fits s request =
    leb 1 request.wanted
    && (leb request.wanted max_wanted
    && (leb request.contiguous max_contiguous
    && (leb request.peers max_peers
    && (leb (len request.suggestions) max_suggestions && (not (option rarest_first request && option sequential request) && bitfield_fits s request)))))

-- the table's refusals of a picker in memory enough: 2 of the room for a list, then 4 to 12. A picker is well-formed here: 3 is of memory
-- that holds none
unfoldable pub refusal : (s : Picker) (action : Action) → Option Refusal
refusal s (question q) = question_refusal s q
refusal s (do_inc_refcount i draws) = refuse_few_draws draws (refuse_bad_piece s i (check (peers_full s (piece_at s i)) TooManyPeers none))
refusal s (do_dec_refcount i draws) =
    refuse_few_draws draws (refuse_bad_piece s i (check (eqb s.seeds 0 && eqb (piece_at s i).peer_count 0) NoPeerToTake none))
refusal s do_inc_refcount_all = check (any (peers_full s) s.pieces) TooManyPeers none
refusal s do_dec_refcount_all = check (eqb s.seeds 0 && any (λ p. eqb p.peer_count 0) s.pieces) NoPeerToTake none
refusal s (do_set_piece_priority i priority draws) = refuse_few_draws draws (refuse_bad_piece s i (check (ltb max_priority priority) OutOfRange none))
refusal s (do_mark_as_downloading i j peer options draws) =
    refuse_few_draws draws
    (refuse_bad_block s i j
    (check (block_test num_peers_full (block_there s i j)) TooManyPeers
    (check (piece_at s i).flushed HavePiece (check (no_partial_left s i) TooManyPartials none))))
refusal s (do_mark_as_writing i j peer draws) = refuse_few_draws draws (refuse_bad_block s i j (check (no_partial_left s i) TooManyPartials none))
refusal s (do_mark_as_finished i j peer draws) =
    refuse_few_draws draws
    (refuse_bad_block s i j
    (check (block_test (λ b. same_block_state b.state Requested) (block_there s i j)) NotWriting
    (check (no_partial_left s i) TooManyPartials none)))
refusal s (do_mark_as_canceled i j peer draws) = refuse_few_draws draws (refuse_bad_block s i j none)
refusal s (do_abort_download i j peer draws) = refuse_few_draws draws (refuse_bad_block s i j none)
refusal s (do_lock_piece i) = refuse_bad_piece s i none
refusal s (do_piece_passed i) = refuse_bad_piece s i none
refusal s (do_pick_pieces request free draws) =
    refuse_few_draws draws
    (check (not (request_fits s request)) PickArguments
    (check (ltb free (request.wanted + request.contiguous + spare_output)) ShortOutput none))

-- ---- a step
pub record Step : Type 0 where
  pub answer : Answer
  pub after : Picker

-- an answer, and the picker after it
unfoldable pub answering : (answer : Answer) (s : Picker) → Step
answering answer s = record { answer = answer; after = s }

-- true, false or done, with the draws used
unfoldable pub change_answer : (answer : Option Bool) (n : ℕ) → Answer
change_answer none n = done n
change_answer (some truth) n = said truth n

-- a change as a step
unfoldable pub changing : (change : Change) → Step
changing change = answering (change_answer change.answer change.after.used) change.after.picker

-- a change that answers nothing
unfoldable pub doing : (w : Drawing) → Step
doing w = changing (quietly w)

-- a lent peer is a number of 64 bits
unfoldable pub lent_peer : (peer : Option ℕ) → Option ℕ
lent_peer none = none
lent_peer (some n) = some (n % 2 ^ 64)

-- so is the one that a pick is for
unfoldable pub lent_request : (request : PickRequest) → PickRequest
lent_request request =
    record {
      options = request.options;
      wanted = request.wanted;
      contiguous = request.contiguous;
      peers = request.peers;
      peer = lent_peer request.peer;
      bits = request.bits;
      bytes = request.bytes;
      suggestions = request.suggestions;
    }

-- a pick as a step
unfoldable pub picking : (at_end : PickState) → Step
picking at_end = answering (picked at_end.out at_end.flags at_end.loops at_end.used) at_end.picker

-- what a call does that is not refused
unfoldable pub act : (s : Picker) (action : Action) → Step
act s (question q) = answering (replied (reply s q)) s
act s (do_inc_refcount i draws) = doing (inc_refcount draws i (drawing 0 s))
act s (do_dec_refcount i draws) = doing (dec_refcount draws i (drawing 0 s))
act s do_inc_refcount_all = doing (drawing 0 (inc_refcount_all s))
act s do_dec_refcount_all = doing (drawing 0 (dec_refcount_all s))
act s (do_set_piece_priority i priority draws) = changing (set_piece_priority draws i priority (drawing 0 s))
act s (do_mark_as_downloading i j peer options draws) = changing (mark_as_downloading draws i j (lent_peer peer) options (drawing 0 s))
act s (do_mark_as_writing i j peer draws) = changing (mark_as_writing draws i j (lent_peer peer) (drawing 0 s))
act s (do_mark_as_finished i j peer draws) = doing (mark_as_finished draws i j (lent_peer peer) (drawing 0 s))
act s (do_mark_as_canceled i j peer draws) = doing (mark_as_canceled draws i j (lent_peer peer) (drawing 0 s))
act s (do_abort_download i j peer draws) = doing (abort_download draws i j (lent_peer peer) (drawing 0 s))
act s (do_lock_piece i) = doing (drawing 0 (lock_piece i s))
act s (do_piece_passed i) = doing (drawing 0 (piece_passed i s))
act s (do_pick_pieces request free draws) = picking (pick_pieces draws s (lent_request request))

-- refused, the picker stays as it is
unfoldable pub unless_refused : (why : Option Refusal) (s : Picker) (action : Action) → Step
unless_refused none s action = act s action
unless_refused (some why) s action = answering (refused why) s

-- 2 of the picker's memory first
unfoldable pub step : (s : Picker) (c : Call) → Step
step s c = unless_refused (check (is_short c.lent (memory_needed s)) ShortMemory (refusal s c.action)) s c.action

-- ---- lists of calls
-- what they answer, each led by those before it
unfoldable pub answers : (s : Picker) (calls : List Call) → List Answer
answers s [] = []
answers s (c ∷ cs) = (step s c).answer ∷ answers (step s c).after cs

-- the picker after them
unfoldable pub run : (s : Picker) (calls : List Call) → Picker
run s [] = s
run s (c ∷ cs) = run (step s c).after cs

-- ---- calls that make a picker, and the one that takes its image
-- a picker, or why there is none
pub data Made : Type 0 where
  made : Picker → Made
  not_made : Refusal → Made

-- the picker, given memory enough
unfoldable pub within : (lent : Memory) (s : Picker) → Made
within lent s = cond (is_short lent (memory_needed s)) (not_made ShortMemory) (made s)

-- `new`
unfoldable pub new_picker : (lent : Memory) (total_size piece_size : ℕ) → Made
new_picker lent total_size piece_size = cond (valid_geometry total_size piece_size) (within lent (new total_size piece_size)) (not_made Geometry)

-- the picker of an accepted image
unfoldable pub read_within : (lent : Memory) (read : Read Picker) → Made
read_within lent (accepted s) = within lent s
read_within lent (fault_at k) = not_made (IllFormedImage k)

-- a reader of bytes looks at them before it looks at the memory
unfoldable pub read_picker : (lent : Memory) (bs : List ℕ) → Made
read_picker lent bs = read_within lent (read_image bs)

-- the image, or why it is not taken
pub data Taken : Type 0 where
  taken : List ℕ → Taken
  not_taken : Refusal → Taken

-- taking the image needs room for it
unfoldable pub take_image : (s : Picker) (lent : Memory) (room : ℕ) → Taken
take_image s lent room =
    cond (is_short lent (memory_needed s)) (not_taken ShortMemory) (cond (ltb room (len (image s))) (not_taken ShortMemory) (taken (image s)))
