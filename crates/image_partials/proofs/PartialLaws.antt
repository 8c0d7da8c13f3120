-- One partial: its state by the numbers of its blocks, and where its reader comes to. Assumes nothing.
use Rattle.std.specs.Prelude.{Err, Ok}
use mathlib.Core.Path.{◌≡◌, sym, ap, ◌∙◌}
use mathlib.Core.Bool.{Bool, true, false}
use mathlib.Core.List.{List, []}
use Prim.Native.Nat.{ℕ, ◌+◌, ◌*◌, ◌-◌, ◌/◌, ◌%◌, ◌≤◌}
use native.Mathlib.Omega.{arith}
use native.Mathlib.Decide.{dec_le}
use lib.Dec.{eqb, leb}
use lib.ListN.{length, drop}
use borrow.Author.Tests.{eq-eqb, ne_eqb, le-leb, lt-leb}
use Rattle.types.specs.declared.queue.DownloadQueue.TheVariants.{Open}
use Rattle.types.specs.declared.block.BlockState.TheVariants.{Requested}
use Rattle.model.specs.Lists.{nth, len}
use Rattle.model.specs.State.{Piece, Block, Picker, blocks_in_piece}
use Rattle.model.specs.change.Partials.{blocks_in_state, progress, in_direction, new_state}
use Rattle.model.specs.image.WellFormed.{state_ok}
use Rattle.model.specs.image.Image.{body_length, partial_kind, Got, fault, ret, next, judged, all_flags, read_partial, get_blocks}
use Rattle.model.specs.image.Image.{partial_with}
use Rattle.model.specs.image.Image.{get_partial}
use Rattle.memory_layout.specs.Decode.{queue_from}
use Rattle.check_partials.specs.States.{due_by, state_by}
use Rattle.image_records.proofs.FoundLaws.{NumberGot, flags_most}
use Rattle.image_pieces.specs.Places.{Went}
use Rattle.image_pieces.proofs.NextLaws.{next-got, next-fault}
use Rattle.image_pass.specs.declared.tally.Tally.{Tally}
use Rattle.image_pass.specs.Blocks.{in_state, Tallied, left_blocks, BlocksStand, BlockFails}

-- ---- the state
hashing_is : (flags : ℕ) → flags ≤ all_flags → eqb (flags / 4 % 2) 1 ≡ leb 4 flags
hashing_is flags h = elim (dec_le 4 flags) [
  | yes l ↦ eq-eqb (flags / 4 % 2) 1 (omega arith) ∙ sym (le-leb 4 flags l)
  | no l ↦ ne_eqb (flags / 4 % 2) 1 (λ e. absurd (omega arith)) ∙ sym (lt-leb 4 flags (omega arith))
]

module _ (p : Piece) (i flags : ℕ) (blocks : List Block) (state priority many : ℕ) (t : Tally) (es : p.state ≡ queue_from state)
    (ep : p.priority ≡ priority) (el : len blocks ≡ many) (et : Tallied t blocks) (h : flags ≤ all_flags) where
  busy_is : progress (partial_with i flags blocks) ≡ many - t.free
  unfolding progress partial_with blocks_in_state in_state
  busy_is = rw (el, et.free)

  requested_is : blocks_in_state Requested (partial_with i flags blocks) ≡ t.requested
  unfolding partial_with blocks_in_state in_state
  requested_is = sym et.requested

  due_is : new_state (partial_with i flags blocks) priority Open ≡ due_by priority t.requested (many - t.free) many (leb 4 flags)
  unfolding new_state due_by in_direction
  due_is =
      rw (busy_is, requested_is) (unfold partial_with in rw (el, hashing_is flags h))

  pub state_same : state_ok p (partial_with i flags blocks) ≡ state_by state priority t.requested (many - t.free) many (leb 4 flags)
  unfolding state_ok state_by
  state_same = rw (es, ep, busy_is, due_is)

-- ---- the reader
module _ (s : Picker) (i n at : ℕ) (p : Piece) (bytes : List ℕ) where
  abbrev fits_by : (flags : ℕ) (blocks : List Block) → Bool
  fits_by flags blocks = state_ok p (partial_with i flags blocks)

  -- its own record is at fault
  pub record_fails : judged partial_kind (read_partial i n) (drop at bytes) ≡ fault (drop at bytes) → at ≤ length bytes
      → Went (get_partial s i n p (drop at bytes)) bytes (Err at)
  unfolding get_partial Went
  record_fails e h = record {
    is =
        next-fault (judged partial_kind (read_partial i n) (drop at bytes))
        (λ flags. λ l. next (get_blocks (λ blocks. state_ok p (partial_with i flags blocks)) [] (blocks_in_piece s i) l)
        (λ blocks. ret (partial_with i flags blocks)))
        (drop at bytes) e;
    within = h;
  }

  module _ (flags : ℕ) (g : NumberGot partial_kind (read_partial i n) at bytes flags) (many : ℕ) (em : blocks_in_piece s i ≡ many) where
    partial_blocks : get_partial s i n p (drop at bytes)
        ≡ next (get_blocks (λ blocks. state_ok p (partial_with i flags blocks)) [] many (drop (at + 6) bytes))
        (λ blocks. ret (partial_with i flags blocks))
    unfolding get_partial body_length nth
    partial_blocks =
        next-got (judged partial_kind (read_partial i n) (drop at bytes))
        (λ x. λ l. next (get_blocks (λ blocks. state_ok p (partial_with i x blocks)) [] (blocks_in_piece s i) l)
        (λ blocks. ret (partial_with i x blocks)))
        flags (drop (at + 6) bytes) g.is
        ∙ ap (λ (m : ℕ). next (get_blocks (λ blocks. state_ok p (partial_with i flags blocks)) [] m (drop (at + 6) bytes))
        (λ blocks. ret (partial_with i flags blocks))) em

    -- a block of it is
    pub block_fails : (k : ℕ) → BlockFails (at + 6) many bytes k → Went (get_partial s i n p (drop at bytes)) bytes (Err k)
    unfolding Went
    block_fails k f =
        let e = f (λ blocks. state_ok p (partial_with i flags blocks)) in
        record {
          is = partial_blocks ∙ next-fault _ (λ blocks. ret (partial_with i flags blocks)) (drop k bytes) e.is;
          within = e.within;
        }

    module _ (t : Tally) (b : BlocksStand (at + 6) many bytes t) where
      left_is : get_partial s i n p (drop at bytes)
          ≡ next (left_blocks (λ blocks. state_ok p (partial_with i flags blocks)) b.blocks 0 (at + 6 + 13 * many) bytes)
          (λ blocks. ret (partial_with i flags blocks))
      left_is =
          partial_blocks
          ∙ ap (λ (x : Got (List Block)). next x (λ blocks. ret (partial_with i flags blocks)))
          (b.is (λ blocks. state_ok p (partial_with i flags blocks)))

      module _ (state priority : ℕ) (es : p.state ≡ queue_from state) (ep : p.priority ≡ priority) where
        fits_is : state_ok p (partial_with i flags b.blocks) ≡ state_by state priority t.requested (many - t.free) many (leb 4 flags)
        fits_is = state_same p i flags b.blocks state priority many t es ep b.long b.tallied (flags_most i n at bytes flags g)

        -- the state fits
        pub partial_ends : state_by state priority t.requested (many - t.free) many (leb 4 flags) ≡ true
            → Went (get_partial s i n p (drop at bytes)) bytes (Ok (at + 6 + 13 * many))
        unfolding Went left_blocks
        partial_ends f =
            let e : state_ok p (partial_with i flags b.blocks) ≡ true = fits_is ∙ f in
            record {
              value = partial_with i flags b.blocks;
              is = left_is ∙ next-got _ (λ blocks. ret (partial_with i flags blocks)) b.blocks (drop (at + 6 + 13 * many) bytes) (rw e);
              within = b.room;
            }

        -- it does not: the last block is at fault
        pub partial_stops : state_by state priority t.requested (many - t.free) many (leb 4 flags) ≡ false
            → Went (get_partial s i n p (drop at bytes)) bytes (Err (at + 6 + 13 * many - 13))
        unfolding Went left_blocks
        partial_stops f =
            let e : state_ok p (partial_with i flags b.blocks) ≡ false = fits_is ∙ f in
            record {
              is = left_is ∙ next-fault _ (λ blocks. ret (partial_with i flags blocks)) (drop (at + 6 + 13 * many - 13) bytes) (rw e);
              within = omega (arith, b.room);
            }
