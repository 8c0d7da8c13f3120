-- Each reason is needed: for each a picker and a request with a free block of a free piece that is not given, while blocks are wanted, and
-- that reason alone holds. Without it the theorem would be false. Computed by the checker; docs/PASSING-OVER.md has them as scripts.
use mathlib.Core.Path.{◌≡◌, refl, sym, ap, subst}
use Prim.Native.Nat.{ℕ}
use native.Mathlib.Omega.{arith}
use mathlib.Core.Bool.{true, false, true≢false}
use mathlib.Core.List.{[], ◌∷◌}
use mathlib.Core.Option.{Option, none, some}
use lib.ListN.{replicate}
use lib.Dec.{ltb}
use Rattle.types.specs.declared.queue.DownloadQueue.TheVariants.{Full}
use Rattle.types.specs.declared.block.BlockState.TheVariants.{None}
use Rattle.model.specs.State.{DownloadingPiece, Picker, dirty, new}
use Rattle.model.specs.list.Order.{Draws}
use Rattle.model.specs.change.Partials.{progress}
use Rattle.model.specs.pick.Blocks.{PickRequest, is_piece_free}
use Rattle.model.specs.pick.Pick.{no_partial, pick_pieces}
use Rattle.model.specs.image.WellFormed.{well_formed}
use Rattle.model.specs.Calls.{Action, do_inc_refcount, do_inc_refcount_all, do_set_piece_priority, do_mark_as_downloading, do_lock_piece, Call, run}
use Rattle.model.proofs.cases.Everything.{everything}
use Rattle.agreement.specs.Complete.{free_in, is_free, is_given, by_list, PassedOver, not_counted, is_locked, held_by_another, at_rest}
use Rattle.agreement.specs.Complete.{top_in_range}

-- ---- what an example shows
-- the reasons by number, in the order of the data type
unfoldable pub number_of : (s : Picker) (a : PickRequest) (i : ℕ) → PassedOver s a i → ℕ
number_of s a i (not_counted l r p) = 1
number_of s a i (is_locked d e l) = 2
number_of s a i (held_by_another d e o h) = 3
number_of s a i (at_rest d e p q) = 4
number_of s a i (top_in_range r p) = 5

-- block j of piece i is passed over, and reason k alone holds
pub record Needed (k : ℕ) (s : Picker) (a : PickRequest) (i j : ℕ) : Type 0 where
  pub stands : well_formed s ≡ true
  pub wants : ltb 0 (pick_pieces [] s a).left ≡ true
  pub piece : is_piece_free a s i ≡ true
  pub block : is_free s i j ≡ true
  pub missing : is_given i j (pick_pieces [] s a).out ≡ false
  pub alone : (why : PassedOver s a i) → number_of s a i why ≡ k

abbrev call : Action → Call
call x = record { lent = record { words = 1000000; cells = 1000000; partials = 1000000 }; action = x }

abbrev draws : Draws
draws = replicate 4352 0

-- a peer with all of n pieces, whose bits fill one byte
abbrev asking : ℕ → ℕ → ℕ → Option ℕ → PickRequest
asking options n bits peer =
    record { options = options; wanted = 2; contiguous = 0; peers = 10; peer = peer; bits = n; bytes = bits ∷ []; suggestions = [] }

-- the partial that is found
the : Option DownloadingPiece → DownloadingPiece
the none = no_partial
the (some d) = d

no_partial_lem : (d : DownloadingPiece) → none ≡ some d → ⊥
no_partial_lem d e = let z : ◌≡◌ {A = ℕ} 0 1 = cc in omega arith

-- ---- 1: RAREST_FIRST, and nobody has the piece
unfoldable pub lonely : Picker
lonely = new 16384 16384

pub not_counted_lem : Needed 1 lonely (asking 1 1 128 (some 7)) 0 0
unfolding everything free_in is_free is_given by_list lonely number_of
not_counted_lem = record { stands = refl; wants = refl; piece = refl; block = refl; missing = refl; alone = alone }
  where
    alone : (why : PassedOver lonely (asking 1 1 128 (some 7)) 0) → number_of lonely (asking 1 1 128 (some 7)) 0 why ≡ 1
    alone (not_counted l r p) = refl
    alone (is_locked d e l) = absurd (no_partial_lem d e)
    alone (held_by_another d e o h) = absurd (no_partial_lem d e)
    alone (at_rest d e p q) = absurd (no_partial_lem d e)
    alone (top_in_range r p) = absurd (true≢false (sym r))

-- ---- 2: a piece with a block at work, locked
unfoldable pub locked : Picker
locked = run (new 32768 32768) (call (do_mark_as_downloading 0 0 (some 7) 0 draws) ∷ call (do_lock_piece 0) ∷ [])

pub is_locked_lem : Needed 2 locked (asking 0 1 128 (some 7)) 0 1
unfolding everything free_in is_free is_given by_list locked number_of the
is_locked_lem = record { stands = refl; wants = refl; piece = refl; block = refl; missing = refl; alone = alone }
  where
    alone : (why : PassedOver locked (asking 0 1 128 (some 7)) 0) → number_of locked (asking 0 1 128 (some 7)) 0 why ≡ 2
    alone (not_counted l r p) = absurd (true≢false (sym l))
    alone (is_locked d e l) = refl
    alone (held_by_another d e o h) = absurd (true≢false (sym o))
    alone (at_rest d e p q) = let z : ◌≡◌ {A = ℕ} 1 0 = subst (λ x. progress x ≡ 0) (sym (ap the e)) p in absurd (omega arith)
    alone (top_in_range r p) = absurd (true≢false (sym r))

-- ---- 3: peer 8 on parole, and peer 7 has a block
unfoldable pub shared : Picker
shared = run (new 32768 32768) (call (do_mark_as_downloading 0 0 (some 7) 0 draws) ∷ [])

pub held_by_another_lem : Needed 3 shared (asking 4 1 128 (some 8)) 0 1
unfolding everything free_in is_free is_given by_list shared number_of the
held_by_another_lem = record { stands = refl; wants = refl; piece = refl; block = refl; missing = refl; alone = alone }
  where
    alone : (why : PassedOver shared (asking 4 1 128 (some 8)) 0) → number_of shared (asking 4 1 128 (some 8)) 0 why ≡ 3
    alone (not_counted l r p) = absurd (true≢false (sym l))
    alone (is_locked d e l) = absurd (true≢false (sym (subst (λ x. x.locked ≡ true) (sym (ap the e)) l)))
    alone (held_by_another d e o h) = refl
    alone (at_rest d e p q) = let z : ◌≡◌ {A = ℕ} 1 0 = subst (λ x. progress x ≡ 0) (sym (ap the e)) p in absurd (omega arith)
    alone (top_in_range r p) = absurd (true≢false (sym r))

-- ---- 4: a Full piece without a block at work
unfoldable pub resting : Picker
resting =
    record {
      total_size = 16384;
      piece_size = 16384;
      seeds = 0;
      cursor = 0;
      reverse_cursor = 1;
      pieces = record { peer_count = 0; state = Full; priority = 4; flushed = false; pad_bytes = 0 } ∷ [];
      partials = record {
        piece = 0;
        passed_hash_check = false;
        locked = false;
        hashing = false;
        blocks = record { state = None; num_peers = 0; peer = none } ∷ [];
      } ∷ [];
      recent_extents = [];
      listing = dirty;
    }

pub at_rest_lem : Needed 4 resting (asking 0 1 128 (some 7)) 0 0
unfolding everything free_in is_free is_given by_list resting number_of the
at_rest_lem = record { stands = refl; wants = refl; piece = refl; block = refl; missing = refl; alone = alone }
  where
    alone : (why : PassedOver resting (asking 0 1 128 (some 7)) 0) → number_of resting (asking 0 1 128 (some 7)) 0 why ≡ 4
    alone (not_counted l r p) = absurd (true≢false (sym l))
    alone (is_locked d e l) = absurd (true≢false (sym (subst (λ x. x.locked ≡ true) (sym (ap the e)) l)))
    alone (held_by_another d e o h) = absurd (true≢false (sym o))
    alone (at_rest d e p q) = refl
    alone (top_in_range r p) = absurd (true≢false (sym r))

-- ---- 5: SEQUENTIAL, and a piece of priority 7 behind one of priority 6 in the list
unfoldable pub uneven : Picker
uneven =
    run (new 32768 16384)
    (call do_inc_refcount_all
    ∷ call (do_inc_refcount 0 draws)
    ∷ call (do_inc_refcount 0 draws)
    ∷ call (do_set_piece_priority 0 7 draws)
    ∷ call (do_set_piece_priority 1 6 draws)
    ∷ [])

pub top_in_range_lem : Needed 5 uneven (asking 16 2 192 (some 7)) 0 0
unfolding everything free_in is_free is_given by_list uneven number_of
top_in_range_lem = record { stands = refl; wants = refl; piece = refl; block = refl; missing = refl; alone = alone }
  where
    alone : (why : PassedOver uneven (asking 16 2 192 (some 7)) 0) → number_of uneven (asking 16 2 192 (some 7)) 0 why ≡ 5
    alone (not_counted l r p) = absurd (true≢false r)
    alone (is_locked d e l) = absurd (no_partial_lem d e)
    alone (held_by_another d e o h) = absurd (no_partial_lem d e)
    alone (at_rest d e p q) = absurd (no_partial_lem d e)
    alone (top_in_range r p) = refl
