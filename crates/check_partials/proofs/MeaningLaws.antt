-- What the numbers of a record and its blocks mean in the picker: the tests on the numbers are those on the partial. Assumes nothing.
use mathlib.Core.Path.{◌≡◌, refl, sym, ap, ◌∙◌}
use mathlib.Core.Bool.{Bool, true, false, cond, ◌&&◌}
use mathlib.Core.List.{List}
use mathlib.Core.Option.{Option, none, some}
use Prim.Native.Nat.{ℕ, zero, suc, ◌+◌, ◌-◌, ◌^◌, ◌≤◌, ◌<◌}
use native.Mathlib.Omega.{arith}
use lib.Dec.{eqb, leb}
use borrow.Author.Tests.{leb-true, lt-ltb}
use Rattle.types.specs.declared.block.BlockState.{BlockState}
use Rattle.types.specs.declared.block.BlockState.TheVariants.{None, Requested}
use Rattle.types.specs.declared.queue.DownloadQueue.TheVariants.{Open}
use Rattle.types.specs.Block.{block_state_number}
use Rattle.model.specs.Lists.{bit, count, every, from, len}
use Rattle.model.specs.Bep3.{bit_of}
use Rattle.model.specs.State.{Piece, Block, DownloadingPiece, max_peers, same_block_state, same_queue, is_open}
use Rattle.model.specs.change.Partials.{blocks_in_state, progress, new_state, in_direction}
use Rattle.model.specs.image.WellFormed.{peer_ok, block_ok, state_ok}
use Rattle.model.proofs.base.Truths.{both_true, true_both}
use Rattle.memory_records.specs.declared.record.DownloadingPiece.{DownloadingPiece as Record}
use Rattle.memory_layout.specs.Tables.{tabulate}
use Rattle.memory_layout.specs.Decode.{piece_cell, block_cell, peer_word, blocks_of, queue_from, yes?, peer_from, piece_held, block_from, block_held}
use Rattle.memory_layout.specs.Decode.{blocks_held, partial_from, partial_held}
use Rattle.memory_layout.specs.Good.{block_raw}
use Rattle.memory_layout.proofs.TableLaws.{tabulate-len}
use Rattle.memory_layout.proofs.Numbers.{queue_number_lem, state_number}
use Rattle.check_blocks.specs.Below.{count_below}
use Rattle.check_blocks.specs.Rows.{row_ok, row_cells, rows_ok, in_state, busy_in}
use Rattle.check_partials.specs.States.{due_by, state_by}
use Rattle.check_blocks.proofs.BelowLaws.{all_at, all_from, count_same, count_tab, every_at, every_all, every_tab, tab_every}

-- the third flag
pub hashing_is : (w : ℕ) → w ≤ 7 → bit_of w 2 ≡ leb 4 w
unfolding bit_of
hashing_is zero h = refl
hashing_is (suc zero) h = refl
hashing_is (suc (suc zero)) h = refl
hashing_is (suc (suc (suc zero))) h = refl
hashing_is (suc (suc (suc (suc zero)))) h = refl
hashing_is (suc (suc (suc (suc (suc zero))))) h = refl
hashing_is (suc (suc (suc (suc (suc (suc zero)))))) h = refl
hashing_is (suc (suc (suc (suc (suc (suc (suc zero))))))) h = refl
hashing_is (suc (suc (suc (suc (suc (suc (suc (suc w)))))))) h = absurd (omega arith)

-- Open has the number 4
pub open_is : (w : ℕ) → w ≤ 6 → is_open (queue_from w) ≡ eqb w 4
unfolding is_open same_queue
open_is w h = ap (λ (x : ℕ). eqb x 4) (queue_number_lem w (omega arith))

-- the state that is due to a partial, and the rule for its piece, by the numbers of its blocks
due_is : (d : DownloadingPiece) (priority : ℕ)
    → new_state d priority Open ≡ due_by priority (blocks_in_state Requested d) (progress d) (len d.blocks) d.hashing
unfolding new_state due_by in_direction
due_is d priority = refl

state_is : (p : Piece) (d : DownloadingPiece) (w : ℕ) → p.state ≡ queue_from w
    → state_ok p d ≡ state_by w p.priority (blocks_in_state Requested d) (progress d) (len d.blocks) d.hashing
unfolding state_ok state_by
state_is p d w e = rw (e, due_is d p.priority)

-- ---- numbers of four states
one_of_four : (x : ℕ) → x ≤ 3 → bit (eqb x 0) + (bit (eqb x 1) + bit (eqb x 2) + bit (eqb x 3)) ≡ 1
one_of_four zero h = refl
one_of_four (suc zero) h = refl
one_of_four (suc (suc zero)) h = refl
one_of_four (suc (suc (suc zero))) h = refl
one_of_four (suc (suc (suc (suc x)))) h = absurd (omega arith)

-- each is counted once
count_four : (f : ℕ → ℕ) (m : ℕ) → ((j : ℕ) → j < m → f j ≤ 3)
    → count_below (λ j. eqb (f j) 0) m + (count_below (λ j. eqb (f j) 1) m + count_below (λ j. eqb (f j) 2) m + count_below (λ j. eqb (f j) 3)
    m)
    ≡ m
unfolding count_below
count_four f zero h = refl
count_four f (suc m) h = omega (arith, count_four f m (λ j l. h j (omega arith)), one_of_four (f m) (h m (omega arith)))

-- ---- a peer is a number of 64 bits
peer_fits_lem : (has peer : ℕ) → peer < 2 ^ 64 → peer_ok (peer_from has peer) ≡ true
unfolding peer_from
peer_fits_lem has peer l = go (yes? has)
  where
    go : (t : Bool) → peer_ok (cond {A = Option ℕ} t (some peer) none) ≡ true
    go true = unfold peer_ok in (lt-ltb peer (2 ^ 64) l)
    go false = unfold peer_ok in refl

shuffle : (a b c t : Bool) → t ≡ true → ((a && b) && c) ≡ ((a && c) && (b && t))
shuffle true true c t e = rw e (turn c)
  where
    turn : (x : Bool) → x ≡ (x && true)
    turn true = refl
    turn false = refl
shuffle true false true t e = refl
shuffle true false false t e = refl
shuffle false b c t e = refl

module _ (words cells : List ℕ) (n b : ℕ) (fits : (p j : ℕ) → peer_word words n b p j < 2 ^ 64) where
  -- ---- blocks
  row_parts : (p j : ℕ) → row_cells cells n b p j ≡ (block_raw cells n b p j && block_ok (block_held words cells n b p j))
  unfolding row_cells row_ok block_raw block_held block_from block_ok
  row_parts p j =
      shuffle (leb (block_cell cells n b 0 p j) 3) (leb (block_cell cells n b 1 p j) max_peers) (leb (block_cell cells n b 2 p j) 1)
      (peer_ok (peer_from (block_cell cells n b 2 p j) (peer_word words n b p j)))
      (peer_fits_lem (block_cell cells n b 2 p j) (peer_word words n b p j) (fits p j))

  low_cell : (p j : ℕ) → block_raw cells n b p j ≡ true → block_cell cells n b 0 p j ≤ 3
  unfolding block_raw
  low_cell p j h = leb-true (block_cell cells n b 0 p j) 3 (both_true (leb (block_cell cells n b 0 p j) 3) _ h).0

  low_state : (p j : ℕ) → block_raw cells n b p j ≡ true
      → block_state_number (block_held words cells n b p j).state ≡ block_cell cells n b 0 p j
  unfolding block_held block_from
  low_state p j h = state_number (block_cell cells n b 0 p j) (omega (arith, low_cell p j h))

  module _ (p m : ℕ) where
    pub rows_raw : rows_ok cells n b p m ≡ true → every (block_raw cells n b p) (from 0 m) ≡ true
    unfolding rows_ok
    rows_raw h =
        every_all (block_raw cells n b p) m (λ j l.
        (both_true (block_raw cells n b p j) _ (sym (row_parts p j) ∙ all_at (row_cells cells n b p) m h j l)).0)

    pub rows_each : rows_ok cells n b p m ≡ true → every block_ok (tabulate m (block_held words cells n b p)) ≡ true
    unfolding rows_ok
    rows_each h =
        every_tab block_ok m (block_held words cells n b p) (λ j l.
        (both_true (block_raw cells n b p j) _ (sym (row_parts p j) ∙ all_at (row_cells cells n b p) m h j l)).1)

    pub rows_both : every (block_raw cells n b p) (from 0 m) ≡ true → every block_ok (tabulate m (block_held words cells n b p)) ≡ true
        → rows_ok cells n b p m ≡ true
    unfolding rows_ok
    rows_both h g =
        all_from (row_cells cells n b p) m (λ j l.
        row_parts p j
        ∙ true_both (block_raw cells n b p j) _ (every_at (block_raw cells n b p) m h j l)
        (tab_every block_ok m (block_held words cells n b p) g j l))

    module _ (raw : every (block_raw cells n b p) (from 0 m) ≡ true) where
      -- the numbers of the pass are the model's
      pub state-count : (q : BlockState)
          → count (λ x. same_block_state x.state q) (tabulate m (block_held words cells n b p)) ≡ in_state cells n b p (block_state_number q) m
      unfolding in_state same_block_state
      state-count q =
          count_tab (λ (x : Block). same_block_state x.state q) (block_held words cells n b p) m
          ∙ count_same (λ j. same_block_state (block_held words cells n b p j).state q)
          (λ j. eqb (block_cell cells n b 0 p j) (block_state_number q))
          m (λ j l. ap (λ (x : ℕ). eqb x (block_state_number q)) (low_state p j (every_at (block_raw cells n b p) m raw j l)))

      all_counted : in_state cells n b p 0 m + busy_in cells n b p m ≡ m
      unfolding busy_in in_state
      all_counted = count_four (block_cell cells n b 0 p) m (λ j l. low_cell p j (every_at (block_raw cells n b p) m raw j l))

      pub busy_count : len (tabulate m (block_held words cells n b p))
          - count (λ x. same_block_state x.state None) (tabulate m (block_held words cells n b p)) ≡ busy_in cells n b p m
      busy_count =
          let e = all_counted in
          rw (tabulate-len m (block_held words cells n b p), state-count None) (omega (arith, e))

  -- ---- a partial and its piece
  module _ (r : Record) (m : ℕ) (em : m ≡ blocks_of words r.index) where
    blocks_are : (partial_held words cells n b r).blocks ≡ tabulate m (block_held words cells n b r.info_idx)
    unfolding partial_held partial_from blocks_held
    blocks_are = ap (λ (x : ℕ). tabulate x (block_held words cells n b r.info_idx)) (sym em)

    hashing_here : leb r.flags 7 ≡ true → (partial_held words cells n b r).hashing ≡ leb 4 r.flags
    unfolding partial_held partial_from
    hashing_here h = hashing_is r.flags (leb-true r.flags 7 h)

    module _ (raw : every (block_raw cells n b r.info_idx) (from 0 m) ≡ true) where
      pub counts_are : (q : BlockState) → blocks_in_state q (partial_held words cells n b r)
          ≡ in_state cells n b r.info_idx (block_state_number q) m
      unfolding blocks_in_state
      counts_are q = ap (count (λ (x : Block). same_block_state x.state q)) blocks_are ∙ state-count r.info_idx m raw q

      module _ (lf : leb r.flags 7 ≡ true) where
        pub state_words : (i : ℕ) → state_ok (piece_held words cells n i) (partial_held words cells n b r)
            ≡ state_by (piece_cell cells n 1 i) (piece_cell cells n 2 i) (in_state cells n b r.info_idx 1 m)
            (busy_in cells n b r.info_idx m) m (leb 4 r.flags)
        unfolding blocks_in_state progress piece_held
        state_words i =
            state_is (piece_held words cells n i) (partial_held words cells n b r) (piece_cell cells n 1 i) refl
            ∙ rw (
              blocks_are,
              state-count r.info_idx m raw Requested,
              busy_count r.info_idx m raw,
              tabulate-len m (block_held words cells n b r.info_idx),
              hashing_here lf,
            )
