-- What a piece adds to a pick, in numbers: with `left` blocks wanted of N, N less what is appended are left, a piece appends at most 255
-- past N, and a run at most its own length more; at most 2,303 blocks are set aside. Assumes nothing.
use mathlib.Core.Path.{◌≡◌, refl}
use Prim.Native.Nat.{ℕ, ◌+◌, ◌-◌, ◌*◌, ◌≤◌}
use native.Mathlib.Omega.{arith}
use mathlib.Core.Bool.{Bool, true, false, cond, not, ◌&&◌, ◌||◌}
use mathlib.Core.List.{List, [], ◌∷◌, ◌++◌}
use mathlib.Core.Option.{Option, none, some}
use lib.ListN.{length, take, length-append, length-take}
use lib.Dec.{leb}
use borrow.Author.Tests.{eqb-false, leb-true, le-leb}
use Rattle.types.specs.declared.queue.DownloadQueue.TheVariants.{Downloading}
use Rattle.types.specs.Queue.{unreverse}
use Rattle.model.specs.Lists.{least, from, each, every, len, when, branch, walk, for_each}
use Rattle.model.specs.Bep3.{whole_piece_blocks, piece_blocks}
use Rattle.model.specs.State.{DownloadingPiece, Picker, same_queue, is_open, piece_at, blocks_per_piece, blocks_in_piece}
use Rattle.model.specs.State.{payload_blocks_in_piece}
use Rattle.model.specs.Options.{on_parole, prioritize_partials, random_pieces, rand_loops}
use Rattle.model.specs.change.Partials.{find_dl_piece, partial_of}
use Rattle.model.specs.pick.Blocks.{PickRequest, option, has_bit, Contiguous, PickState, spent, with_out, with_contiguous, with_backup}
use Rattle.model.specs.pick.Blocks.{ignore, flagged, steps, is_ignored, contiguous_is_zero, contiguous_above, shorter, expand_piece}
use Rattle.model.specs.pick.Blocks.{pieces_of, piece_block, took, contiguous_met, contiguous_over, span_step, take_span, take_payload}
use Rattle.model.specs.pick.Blocks.{add_new_piece, RequestedFrom, requested_from, free_from, set_aside, free_halt, take_free}
use Rattle.model.specs.pick.Blocks.{keeping_contiguous, use_free, add_blocks_downloading, add_partial_of, add_standing, add_blocks}
use Rattle.model.specs.pick.Blocks.{append_blocks, PieceBlock}
use Rattle.model.specs.pick.Pick.{rand_step, take_all}
use Rattle.model.specs.image.Sound.{Sound}
use Rattle.model.proofs.base.Bep3Laws.{blocks_per_piece_pos, blocks_per_piece_le, blocks_in_piece_le}
use Rattle.model.proofs.base.Counts.{length-from}
use Rattle.model.proofs.base.WalkLaws.{unless_keeps, when_keeps, walk_until_counts, walk_counts, for_each_counts}
use Rattle.pick_laws.proofs.SpanLaws.{least_left, least_right, span_blocks}
use Rattle.model.proofs.pick.SoundPick.{sound_sized}
use Rattle.model.proofs.base.Phases.{branch_arms}
use Rattle.pick_laws.proofs.AsideLaws.{aside_arms, free_size, added_most, most_aside}
use Rattle.model.proofs.pick.FoundLaws.{every_found, found_every}

-- ---- the geometry
-- at most 256 blocks
unfoldable pub small : DownloadingPiece → Bool
small d = leb (len d.blocks) 256

-- a whole piece has b blocks, at most 256, no piece has more, and no partial has more than 256
pub record Fits (b total_size piece_size : ℕ) (ds : List DownloadingPiece) : Type 0 where
  pub per : whole_piece_blocks piece_size ≡ b
  pub some : 1 ≤ b
  pub most : b ≤ 256
  pub piece : (i : ℕ) → piece_blocks total_size piece_size i ≤ b
  pub partials : every small ds ≡ true

sound_small : (s : Picker) → Sound s → (i : ℕ) (d : DownloadingPiece) → find_dl_piece i s.partials ≡ some d → small d ≡ true
unfolding small partial_of blocks_in_piece
sound_small s h i d e =
    let z = sound_sized s h in
    let l = blocks_in_piece_le s.total_size s.piece_size i z.some in
    let m = blocks_per_piece_le s.piece_size z.some z.most in
    le-leb (len d.blocks) 256 (omega (arith, (h.partial i d e).blocks))

-- a sound picker fits
pub sound_fits : (s : Picker) → Sound s → Fits (blocks_per_piece s) s.total_size s.piece_size s.partials
unfolding blocks_per_piece
sound_fits s h =
    let z = sound_sized s h in
    record {
      per = refl;
      some = blocks_per_piece_pos s.piece_size z.some;
      most = blocks_per_piece_le s.piece_size z.some z.most;
      piece = λ i. blocks_in_piece_le s.total_size s.piece_size i z.some;
      partials = every_found small 0 s.partials h.rising (λ i d e. sound_small s h i d e);
    }

-- ---- the accounting
-- of N blocks wanted, `left` are left and `taken` are appended, at most m; `aside` are set aside, and the run asked is at most R
pub record Lean (N R m left taken aside asked : ℕ) : Type 0 where
  pub rest : left ≡ N - taken
  pub few : taken ≤ m
  pub backup : aside ≤ most_aside 2048
  pub contiguous : asked ≤ R

-- the geometry and the accounting of a work
unfoldable pub Tight : ℕ → ℕ → ℕ → ℕ → PickState → Type 0
Tight b N R m w =
    Fits b w.picker.total_size w.picker.piece_size w.picker.partials × Lean N R m w.left (len w.out) (len w.backup) w.contiguous.asked

module _ (b N R : ℕ) where
  -- ---- one block
  -- a greater bound
  pub tight_more : (m n : ℕ) (w : PickState) → m ≤ n → Tight b N R m w → Tight b N R n w
  unfolding Tight
  tight_more m n w l h = (h.0, record { rest = h.1.rest; few = omega (arith, h.1.few); backup = h.1.backup; contiguous = h.1.contiguous })

  -- no more are left than were wanted
  pub tight_left : (m : ℕ) (w : PickState) → Tight b N R m w → w.left ≤ N
  unfolding Tight
  tight_left m w h = omega (arith, h.1.rest)

  -- as few as are appended
  tight_now : (m : ℕ) (w : PickState) → Tight b N R m w → Tight b N R (len w.out) w
  unfolding Tight
  tight_now m w h = (h.0, record { rest = h.1.rest; few = omega arith; backup = h.1.backup; contiguous = h.1.contiguous })

  -- where blocks are wanted, fewer than N are appended
  pub tight_unspent : (m : ℕ) (w : PickState) → spent w ≡ false → Tight b N R m w → (1 ≤ N) × Tight b N R (N - 1) w
  unfolding Tight spent
  tight_unspent m w z h =
      let e = h.1.rest in
      let l : 1 ≤ w.left = nonzero w.left (eqb-false w.left 0 z) in
      (omega arith, (h.0, record { rest = e; few = omega arith; backup = h.1.backup; contiguous = h.1.contiguous }))
    where
      nonzero : (n : ℕ) → (n ≡ 0 → ⊥) → 1 ≤ n
      nonzero n f = omega arith

  took_tight : (m i j : ℕ) (w : PickState) → Tight b N R m w → Tight b N R (m + 1) (took i j w)
  unfolding Tight took with_out shorter len
  took_tight m i j w h =
      let e = length-append w.out (piece_block i j ∷ []) in
      (h.0, record { rest = omega (arith, h.1.rest); few = omega (arith, h.1.few); backup = h.1.backup; contiguous = h.1.contiguous })

  run_tight : (m : ℕ) (r : Contiguous) (w : PickState) → r.asked ≤ R → Tight b N R m w → Tight b N R m (with_contiguous r w)
  unfolding Tight with_contiguous with_out
  run_tight m r w l h = (h.0, record { rest = h.1.rest; few = h.1.few; backup = h.1.backup; contiguous = l })

  asked_le : (m : ℕ) (w : PickState) → Tight b N R m w → w.contiguous.asked ≤ R
  unfolding Tight
  asked_le m w h = h.1.contiguous

  -- a mark
  pub mark_tight : (m i : ℕ) (w : PickState) → Tight b N R m w → Tight b N R m (ignore i w)
  unfolding Tight ignore
  mark_tight m i w h = h

  -- a flag
  pub flag_tight : (m f : ℕ) (w : PickState) → Tight b N R m w → Tight b N R m (flagged f w)
  unfolding Tight flagged
  flag_tight m f w h = h

  -- steps on a counter
  pub step_tight : (m n c : ℕ) (w : PickState) → Tight b N R m w → Tight b N R m (steps n c w)
  unfolding Tight steps
  step_tight m n c w h = h

  -- ---- a piece, and a run of pieces
  counted_tight : (i n m : ℕ) (w : PickState) → Tight b N R m w → Tight b N R (m + n) (for_each (took i) (from 0 n) w)
  unfolding len
  counted_tight i n m w h =
      tight_more (m + length (from 0 n) * 1) (m + n) (for_each (took i) (from 0 n) w) (omega (arith, length-from 0 n))
      (for_each_counts (Tight b N R) tight_more (took i) 1 (λ k j t g. took_tight k i j t g) (from 0 n) m w h)

  payload_le : (m i : ℕ) (w : PickState) → Tight b N R m w → payload_blocks_in_piece w.picker i ≤ b
  unfolding Tight payload_blocks_in_piece blocks_in_piece
  payload_le m i w h = omega (arith, h.0.piece i)

  blocks_le : (m i : ℕ) (w : PickState) → Tight b N R m w → blocks_in_piece w.picker i ≤ b
  unfolding Tight blocks_in_piece
  blocks_le m i w h = h.0.piece i

  payload_tight : (m i : ℕ) (w : PickState) → Tight b N R m w → Tight b N R (m + b) (take_payload i w)
  unfolding take_payload len
  payload_tight m i w h =
      let n = payload_blocks_in_piece w.picker i in
      tight_more (m + length (from 0 n) * 1) (m + b) (walk (took i) contiguous_met (from 0 n) w) (omega (arith, length-from 0 n, payload_le m i w h))
      (walk_counts (Tight b N R) tight_more (took i) 1 contiguous_met (λ k j t g. took_tight k i j t g) (from 0 n) m w h)

  -- all blocks of a piece, at most b
  pub all_tight : (m i : ℕ) (w : PickState) → Tight b N R m w → Tight b N R (m + b) (take_all i w)
  unfolding take_all rand_step len
  all_tight m i w h =
      let n = blocks_in_piece w.picker i in
      tight_more (m + length (from 0 n) * 1) (m + b) (walk (rand_step i) contiguous_over (from 0 n) (flagged random_pieces w))
      (omega (arith, length-from 0 n, blocks_le m i w h))
      (walk_counts (Tight b N R) tight_more (rand_step i) 1 contiguous_over (λ k j t g. took_tight k i j (steps 1 rand_loops t) (step_tight k 1 rand_loops t g))
      (from 0 n) m (flagged random_pieces w) (flag_tight m random_pieces w h))

  -- a run of pieces of at most b blocks
  pub take_span_tight : (takes : ℕ → PickState → PickState) → ((m i : ℕ) (w : PickState) → Tight b N R m w → Tight b N R (m + b) (takes i w))
      → (is : List ℕ) (m : ℕ) (w : PickState) → Tight b N R m w → Tight b N R (m + len is * b) (take_span takes is w)
  unfolding take_span span_step shorter
  take_span_tight takes f is m w h =
      for_each_counts (Tight b N R) tight_more (span_step takes) b
      (λ k i t g. branch_arms (Tight b N R (k + b)) (is_ignored i t) (λ v. with_contiguous (shorter v.contiguous) v) (λ v. takes i (ignore i v)) t
      (λ e. tight_more k (k + b) (with_contiguous (shorter t.contiguous) t) (omega arith) (run_tight k (shorter t.contiguous) t (asked_le k t g) g))
      (λ e. f k i (ignore i t) (mark_tight k i t g)))
      is m w h

  span_count : (a : PickRequest) (i m : ℕ) (w : PickState) → Tight b N R m w → len (pieces_of (expand_piece a i w)) * b ≤ R + b
  unfolding expand_piece Tight blocks_per_piece
  span_count a i m w h =
      let l = span_blocks a w.picker i b w.contiguous h.0.some in
      let r = h.1.contiguous in
      rw h.0.per (omega arith)

  b_most : (m : ℕ) (w : PickState) → Tight b N R m w → b ≤ 256
  unfolding Tight
  b_most m w h = h.0.most

  -- the run around a piece, where fewer than N are appended
  pub span_tight : (a : PickRequest) (takes : ℕ → PickState → PickState) → ((m i : ℕ) (w : PickState) → Tight b N R m w → Tight b N R (m + b) (takes i w))
      → (i : ℕ) (w : PickState) → 1 ≤ N → Tight b N R (N - 1) w → Tight b N R (N + R + 255) (take_span takes (pieces_of (expand_piece a i w)) w)
  span_tight a takes f i w p h =
      let is = pieces_of (expand_piece a i w) in
      tight_more (N - 1 + len is * b) (N + R + 255) (take_span takes is w) (omega (arith, span_count a i (N - 1) w h, b_most (N - 1) w h))
      (take_span_tight takes f is (N - 1) w h)

  -- ---- new pieces
  left_le : (m : ℕ) (w : PickState) → Tight b N R m w → m ≤ N → len w.out + w.left ≤ N
  unfolding Tight
  left_le m w h l = omega (arith, h.1.rest, h.1.few)

  new_tight : (a : PickRequest) (i : ℕ) (w : PickState) → 1 ≤ N → Tight b N R (N - 1) w → Tight b N R (N + R + 255) (add_new_piece a i w)
  unfolding add_new_piece
  new_tight a i w p h =
      let n = least (payload_blocks_in_piece w.picker i) w.left in
      let is = pieces_of (expand_piece a i w) in
      branch_arms (Tight b N R (N + R + 255)) (contiguous_is_zero w.contiguous) (for_each (took i) (from 0 n)) (take_span take_payload is) w
      (λ e. tight_more (len w.out + n) (N + R + 255) (for_each (took i) (from 0 n) w)
      (omega (arith, left_le (N - 1) w h (omega arith), least_right (payload_blocks_in_piece w.picker i) w.left))
      (counted_tight i n (len w.out) w (tight_now (N - 1) w h)))
      (λ e. span_tight a take_payload payload_tight i w p h)

  -- ---- partials
  small_le : (d : DownloadingPiece) → small d ≡ true → len d.blocks ≤ 256
  unfolding small
  small_le d o = leb-true (len d.blocks) 256 o

  free_tight : (d : DownloadingPiece) (first : ℕ) (w : PickState) → small d ≡ true → 1 ≤ N → Tight b N R (N - 1) w → Tight b N R (N + R + 255) (take_free d first w)
  unfolding take_free
  free_tight d first w o p h =
      tight_more (N - 1 + len (free_from d first) * 1) (N + R + 255) (take_free d first w) (omega (arith, free_size d first, small_le d o))
      (walk_until_counts (Tight b N R) tight_more (took d.piece) 1 (free_halt d.piece) (λ k j t g. took_tight k d.piece j t g)
      (free_from d first) (N - 1) w h)

  -- other blocks set aside, few enough
  backup_tight_by : (m : ℕ) (bs : List PieceBlock) (w : PickState) → len bs ≤ most_aside 2048 → Tight b N R m w → Tight b N R m (with_backup bs w)
  unfolding Tight with_backup
  backup_tight_by m bs w l h = (h.0, record { rest = h.1.rest; few = h.1.few; backup = l; contiguous = h.1.contiguous })

  module _ (most : N ≤ 2048) where
    aside_tight : (d : DownloadingPiece) (first m : ℕ) (w : PickState) → small d ≡ true → Tight b N R m w → Tight b N R m (set_aside d first w)
    aside_tight d first m w o h =
        aside_arms (Tight b N R m) d first w h
        (λ e. backup_tight_by m (w.backup ++ each (piece_block d.piece) (free_from d first)) w
        (added_most 2048 d first w e (omega (arith, tight_left m w h)) (small_le d o)) h)

    use_tight : (d : DownloadingPiece) (held : RequestedFrom) (w : PickState) → small d ≡ true → 1 ≤ N → Tight b N R (N - 1) w
        → Tight b N R (N + R + 255) (use_free d held w)
    unfolding use_free keeping_contiguous
    use_tight d held w o p h =
        let first = cond (contiguous_is_zero w.contiguous) 0 held.first in
        branch_arms (Tight b N R (N + R + 255)) (contiguous_above held.longest w.contiguous && held.active) (set_aside d first)
        (keeping_contiguous (take_free d first)) w
        (λ e. tight_more (N - 1) (N + R + 255) (set_aside d first w) (omega arith) (aside_tight d first (N - 1) w o h))
        (λ e. run_tight (N + R + 255) w.contiguous (take_free d first w) (asked_le (N - 1) w h) (free_tight d first w o p h))

    -- what a partial adds
    pub downloading_tight : (a : PickRequest) (d : DownloadingPiece) (w : PickState) → small d ≡ true → 1 ≤ N → Tight b N R (N - 1) w
        → Tight b N R (N + R + 255) (add_blocks_downloading a d w)
    unfolding add_blocks_downloading
    downloading_tight a d w o p h =
        let held = requested_from a.peer d in
        when_keeps (Tight b N R (N + R + 255)) (has_bit a d.piece && (not d.locked && (not (option on_parole a) || held.exclusive)))
        (use_free d held) w (tight_more (N - 1) (N + R + 255) w (omega arith) h) (λ e. use_tight d held w o p h)

    partial_small : (m i : ℕ) (d : DownloadingPiece) (w : PickState) → Tight b N R m w → partial_of w.picker i ≡ some d → small d ≡ true
    unfolding Tight partial_of
    partial_small m i d w h e = found_every small w.picker.partials h.0.partials i d e

    standing_tight : (a : PickRequest) (i : ℕ) (w : PickState) → 1 ≤ N → Tight b N R (N - 1) w → Tight b N R (N + R + 255) (add_standing a i w)
    unfolding add_standing add_partial_of
    standing_tight a i w p h =
        let k = tight_more (N - 1) (N + R + 255) w (omega arith) h in
        unless_keeps (Tight b N R (N + R + 255)) (option prioritize_partials a) (add_partial_of a (partial_of w.picker i)) w k
        (λ e. go (partial_of w.picker i) refl k)
      where
        go : (o : Option DownloadingPiece) → partial_of w.picker i ≡ o → Tight b N R (N + R + 255) w → Tight b N R (N + R + 255) (add_partial_of a o w)
        go none e k = k
        go (some d) e k = downloading_tight a d w (partial_small (N - 1) i d w h e) p h

    -- what a piece adds
    pub blocks_tight : (a : PickRequest) (i : ℕ) (w : PickState) → 1 ≤ N → Tight b N R (N - 1) w → Tight b N R (N + R + 255) (add_blocks a i w)
    unfolding add_blocks keeping_contiguous
    blocks_tight a i w p h =
        let q = (piece_at w.picker i).state in
        let k = tight_more (N - 1) (N + R + 255) w (omega arith) h in
        unless_keeps (Tight b N R (N + R + 255)) (is_ignored i w)
        (branch (is_open q) (keeping_contiguous (add_new_piece a i)) (when (same_queue (unreverse q) Downloading) (add_standing a i))) w k
        (λ e. branch_arms (Tight b N R (N + R + 255)) (is_open q) (keeping_contiguous (add_new_piece a i))
        (when (same_queue (unreverse q) Downloading) (add_standing a i)) w
        (λ o. run_tight (N + R + 255) w.contiguous (add_new_piece a i w) (asked_le (N - 1) w h) (new_tight a i w p h))
        (λ o. when_keeps (Tight b N R (N + R + 255)) (same_queue (unreverse q) Downloading) (add_standing a i) w k (λ g. standing_tight a i w p h)))

    -- the blocks set aside, appended
    pub backup_tight : (w : PickState) → 1 ≤ N → Tight b N R (N - 1) w → Tight b N R N (append_blocks w)
    unfolding append_blocks with_backup with_out Tight len
    backup_tight w p h =
        let n = least (len w.backup) w.left in
        let e1 = length-append w.out (take n w.backup) in
        let e2 = length-take n w.backup in
        let l1 = least_left (len w.backup) w.left in
        let l2 = least_right (len w.backup) w.left in (
          h.0,
          record {
            rest = omega (arith, h.1.rest);
            few = omega (arith, h.1.rest, h.1.few);
            backup = omega arith;
            contiguous = h.1.contiguous;
          },
        )
