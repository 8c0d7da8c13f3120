-- The bucket of a piece, and the bucket list: what adding, removing, a changed bucket and a rebuild make of it. Assumes nothing.
-- `r` gives the rank of each piece. A group is a run of pieces of one rank; ranks never fall along the list, so each rank is one group.
-- Nothing stores where a group starts: that is the number of pieces of lower rank.
-- `i` is a piece, `l` a list of pieces, `k` and `m` are places of it; `used` is the number of the next draw.
use Rattle.std.specs.Prelude.{ℕ, zero, suc, ◌+◌, ◌-◌, ◌*◌, ◌%◌, Bool, cond, ◌||◌, List, [], ◌∷◌, ◌++◌, take, drop, eqb, ltb}
use Rattle.std.proofs.Math.Option.{Option, none, some}
use Rattle.std.proofs.Math.Seq.{slice}
use Rattle.types.specs.declared.queue.DownloadQueue.{DownloadQueue}
use Rattle.types.specs.declared.queue.DownloadQueue.TheVariants.{Full, Finished as FinishedQueue}
use Rattle.types.specs.Queue.{is_reverse}
use Rattle.model.specs.Lists.{bit, count, filter, nth, set_nth, each, place_of, from}
use Rattle.model.specs.State.{Piece, Picker, Listing, dirty, fresh, same_queue, is_open, piece_at, pieces_in, with_listing}

-- ---- sorts
-- the words lent to draw from
abbrev pub Draws : Type 0
Draws = List ℕ

-- one more than a bucket, and 0 for none
abbrev pub Rank : Type 0
Rank = ℕ

-- a rank for each piece
abbrev pub Ranks : Type 0
Ranks = ℕ → Rank

-- ---- the bucket
-- the piece is in no bucket: document 01's −1
unfoldable pub unlisted : (seeds : ℕ) (p : Piece) → Bool
unlisted seeds p =
    eqb p.priority 0 || (p.flushed || (eqb (p.peer_count + seeds) 0 || (same_queue p.state Full || same_queue p.state FinishedQueue)))

-- what the state takes off
unfoldable pub adjustment : (q : DownloadQueue) → ℕ
adjustment q = cond (is_reverse q) 1 (cond (is_open q) 2 3)

-- document 01's formula
unfoldable pub bucket_number : (p : Piece) → ℕ
bucket_number p = (p.peer_count + 1) * (8 - p.priority) * 3 - adjustment p.state

-- document 01's bucket, none for its −1
unfoldable pub bucket : (seeds : ℕ) (p : Piece) → Option ℕ
bucket seeds p = cond (unlisted seeds p) none (some (bucket_number p))

-- one more than the bucket, and 0 where there is none
unfoldable pub rank_of : (bucket : Option ℕ) → Rank
rank_of none = 0
rank_of (some k) = suc k

-- the rank of piece i
unfoldable pub rank : (s : Picker) (i : ℕ) → Rank
rank s i = rank_of (bucket s.seeds (piece_at s i))

-- ---- draws
-- the next draw, from 0 to the limit: the word modulo one more than the limit
unfoldable pub draw : (draws : Draws) (used limit : ℕ) → ℕ
draw draws used limit = nth 0 draws used % suc limit

-- ---- where a rank's group stands
-- the first place of the group of i's rank: as many stand before it as are of lower rank
unfoldable pub group_start : (r : Ranks) (i : ℕ) (l : List ℕ) → ℕ
group_start r i l = count (λ other. ltb (r other) (r i)) l

-- how many are of i's rank
unfoldable pub group_size : (r : Ranks) (i : ℕ) (l : List ℕ) → ℕ
group_size r i l = count (λ other. eqb (r other) (r i)) l

-- ---- every group turned by one place
-- the held piece goes to the end of its group; from there the next group's first is held
unfoldable pub carry : (r : Ranks) (held : ℕ) (l : List ℕ) → List ℕ
carry r held [] = held ∷ []
carry r held (i ∷ is) = cond (eqb (r i) (r held)) (i ∷ carry r held is) (held ∷ carry r i is)

-- in every group the first goes to the end
unfoldable pub turn_left : (r : Ranks) (l : List ℕ) → List ℕ
turn_left r [] = []
turn_left r (i ∷ is) = carry r i is

-- i in front of a list whose groups are turned right, so that its own is too: behind the group's first, which was its last
unfoldable pub bring : (r : Ranks) (i : ℕ) (l : List ℕ) → List ℕ
bring r i [] = i ∷ []
bring r i (held ∷ is) = cond (eqb (r i) (r held)) (held ∷ i ∷ is) (i ∷ held ∷ is)

-- in every group the last goes to the front
unfoldable pub turn_right : (r : Ranks) (l : List ℕ) → List ℕ
turn_right r [] = []
turn_right r (i ∷ is) = bring r i (turn_right r is)

-- ---- the moves, by places
-- i comes in at place k: what stood there goes to its group's end, and in every later group the first goes to the end
unfoldable pub placed : (r : Ranks) (k i : ℕ) (l : List ℕ) → List ℕ
placed r k i l = take k l ++ (i ∷ turn_left r (drop k l))

-- place k is taken out: the last of its group fills it, and in every later group the last goes to the front
unfoldable pub removed : (r : Ranks) (k : ℕ) (l : List ℕ) → List ℕ
removed r k l = take k l ++ turn_right r (drop (suc k) l)

-- what stands at `from` goes forward to place `to`, past the groups between, each turned left
unfoldable pub earlier : (r : Ranks) (to from : ℕ) (l : List ℕ) → List ℕ
earlier r to from l = take to l ++ (nth 0 l from ∷ (turn_left r (slice to from l) ++ drop (suc from) l))

-- what stands at `from` goes back to place `to`, past the groups between, each turned right
unfoldable pub later : (r : Ranks) (from to : ℕ) (l : List ℕ) → List ℕ
later r from to l = take from l ++ (turn_right r (slice (suc from) (suc to) l) ++ (nth 0 l from ∷ drop (suc to) l))

-- the elements at two places change places
unfoldable pub swap : (l : List ℕ) (k m : ℕ) → List ℕ
swap l k m = set_nth m (nth 0 l k) (set_nth k (nth 0 l m) l)

-- ---- `add`, `remove`, `update`
-- `add`: i takes a drawn place of its group, or the place behind it
unfoldable pub added : (r : Ranks) (draws : Draws) (used i : ℕ) (l : List ℕ) → List ℕ
added r draws used i l = placed r (group_start r i l + draw draws used (group_size r i l)) i l

-- an empty group takes no draw
unfoldable pub add_draws : (r : Ranks) (i : ℕ) (l : List ℕ) → ℕ
add_draws r i l = bit (ltb 0 (group_size r i l))

-- the last place of i's group
unfoldable pub group_last : (r : Ranks) (i : ℕ) (l : List ℕ) → ℕ
group_last r i l = group_start r i l + group_size r i l - 1

-- a drawn place of i's group
unfoldable pub group_drawn : (r : Ranks) (draws : Draws) (used i : ℕ) (l : List ℕ) → ℕ
group_drawn r draws used i l = group_start r i l + draw draws used (group_size r i l - 1)

-- `update`: i, of rank `old` until now, goes to the near end of its new group and changes places with a drawn one of it
unfoldable pub changed : (r : Ranks) (draws : Draws) (used : ℕ) (old : Rank) (i : ℕ) (l : List ℕ) → List ℕ
changed r draws used old i l =
    cond (ltb (r i) old)
    (swap (earlier r (group_last r i l) (place_of i l) l) (group_last r i l) (group_drawn r draws used i l))
    (swap (later r (place_of i l) (group_start r i l) l) (group_start r i l) (group_drawn r draws used i l))

-- a piece alone in its new group takes no draw
unfoldable pub change_draws : (r : Ranks) (i : ℕ) (l : List ℕ) → ℕ
change_draws r i l = bit (ltb 1 (group_size r i l))

-- the list after i came from rank `old` to the one that `r` gives it
unfoldable pub updated : (r : Ranks) (draws : Draws) (used : ℕ) (old : Rank) (i : ℕ) (l : List ℕ) → List ℕ
updated r draws used old i l =
    cond (eqb (r i) old) l
    (cond (eqb old 0) (added r draws used i l) (cond (eqb (r i) 0) (removed r (place_of i l) l) (changed r draws used old i l)))

-- the draws that it takes
unfoldable pub update_draws : (r : Ranks) (old : Rank) (i : ℕ) (l : List ℕ) → ℕ
update_draws r old i l =
    cond (eqb (r i) old) 0 (cond (eqb old 0) (add_draws r i l) (cond (eqb (r i) 0) 0 (change_draws r i l)))

-- ---- `update_pieces`
-- i behind all of its rank and of lower ones, so that equal ranks stay as they came
unfoldable pub inserted : (r : Ranks) (i : ℕ) (l : List ℕ) → List ℕ
inserted r i l = take (group_start r i l + group_size r i l) l ++ (i ∷ drop (group_start r i l + group_size r i l) l)

-- pieces put in one by one
unfoldable pub sorted : (r : Ranks) (is l : List ℕ) → List ℕ
sorted r [] l = l
sorted r (i ∷ is) l = sorted r is (inserted r i l)

-- `shuffle`, of Fisher and Yates: the places `first` to `first` + n, the last one first
unfoldable pub shuffled : (draws : Draws) (used first n : ℕ) (l : List ℕ) → List ℕ
shuffled draws used first zero l = l
shuffled draws used first (suc n) l = shuffled draws (suc used) first n (swap l (first + suc n) (first + draw draws used (suc n)))

-- how many in front have rank k
unfoldable pub run_length : (old : Rank) (ranks : List Rank) → ℕ
run_length old [] = 0
run_length old (first ∷ ranks) = cond (eqb first old) (suc (run_length old ranks)) 0

-- each group from place k on shuffled, group by group; `ranks` are those from k on, the first `skip` of the group that is done
unfoldable pub groups_shuffled : (draws : Draws) (used k skip : ℕ) (ranks : List Rank) (l : List ℕ) → List ℕ
groups_shuffled draws used k skip [] l = l
groups_shuffled draws used k (suc skip) (first ∷ ranks) l = groups_shuffled draws used (suc k) skip ranks l
groups_shuffled draws used k zero (first ∷ ranks) l = groups_shuffled draws (used + run_length first ranks) (suc k) (run_length first ranks) ranks (shuffled draws used k (run_length first ranks) l)

-- the draws that it takes
unfoldable pub group_draws : (skip : ℕ) (ranks : List Rank) → ℕ
group_draws skip [] = 0
group_draws (suc skip) (first ∷ ranks) = group_draws skip ranks
group_draws zero (first ∷ ranks) = run_length first ranks + group_draws (run_length first ranks) ranks

-- the pieces with a bucket, rising
unfoldable pub with_bucket : (s : Picker) → List ℕ
with_bucket s = filter (λ i. ltb 0 (rank s i)) (from 0 (pieces_in s))

-- all of them by rank, equals by rising piece
unfoldable pub sorted_pieces : (s : Picker) → List ℕ
sorted_pieces s = sorted (rank s) (with_bucket s) []

-- the list made anew
unfoldable pub rebuilt : (draws : Draws) (used : ℕ) (s : Picker) → List ℕ
rebuilt draws used s = groups_shuffled draws used 0 0 (each (rank s) (sorted_pieces s)) (sorted_pieces s)

-- the draws that it takes
unfoldable pub rebuild_draws : (s : Picker) → ℕ
rebuild_draws s = group_draws 0 (each (rank s) (sorted_pieces s))

-- ---- on a picker that takes draws
-- a picker on its way through a call, and the draws used so far
pub record Drawing : Type 0 where
  pub picker : Picker
  pub used : ℕ

-- with so many draws used
unfoldable pub drawing : (used : ℕ) (s : Picker) → Drawing
drawing used s = record { picker = s; used = used }

-- a change that takes no draw
unfoldable pub no_draw : (change : Picker → Picker) (w : Drawing) → Drawing
no_draw change w = drawing w.used (change w.picker)

-- by what the list is
unfoldable pub update_in : (listing : Listing) (draws : Draws) (old : Rank) (i : ℕ) (w : Drawing) → Drawing
update_in dirty draws old i w = w
update_in (fresh l) draws old i w =
    drawing (w.used + update_draws (rank w.picker) old i l)
    (with_listing (fresh (updated (rank w.picker) draws w.used old i l)) w.picker)

-- `update`: the list mended after piece i came from rank `old` to the one it has; a dirty list stays so
unfoldable pub update : (draws : Draws) (old : Rank) (i : ℕ) (w : Drawing) → Drawing
update draws old i w = update_in w.picker.listing draws old i w

-- by what the list is
unfoldable pub update_pieces_in : (listing : Listing) (draws : Draws) (w : Drawing) → Drawing
update_pieces_in dirty draws w = drawing (w.used + rebuild_draws w.picker) (with_listing (fresh (rebuilt draws w.used w.picker)) w.picker)
update_pieces_in (fresh l) draws w = w

-- `update_pieces`: the list rebuilt where it is dirty
unfoldable pub update_pieces : (draws : Draws) (w : Drawing) → Drawing
update_pieces draws w = update_pieces_in w.picker.listing draws w

-- a piece changed, and the list mended after it
unfoldable pub change_and_update : (draws : Draws) (i : ℕ) (change : Picker → Picker) (w : Drawing) → Drawing
change_and_update draws i change w = update draws (rank w.picker i) i (no_draw change w)
