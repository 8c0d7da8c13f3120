-- A block of a standing partial that a peer brought: only its peer changes where it was received before. Assumes nothing.
use mathlib.Core.Path.{◌≡◌, refl, ap, subst}
use mathlib.Core.Bool.{true, false}
use mathlib.Core.List.{List}
use mathlib.Core.Option.{some}
use Prim.Native.Nat.{ℕ, ◌≤◌, ◌<◌}
use native.Mathlib.Omega.{arith}
use Rattle.types.specs.Peer.{named_peer}
use Rattle.model.specs.Lists.{nth}
use Rattle.model.specs.State.{Block, with_peer}
use Rattle.model.specs.list.Order.{Draws, drawing, no_draw}
use Rattle.model.specs.change.Partials.{block_at, replace_block}
use Rattle.model.specs.change.Changes.{saying, set_block, written_by, mark_writing_in}
use Rattle.memory_layout.specs.declared.shape.Shape.{Shape}
use Rattle.memory_layout.specs.Decode.{decode, state_from}
use Rattle.memory_layout.specs.Changes.{partial_in}
use Rattle.memory_blocks.specs.declared.info.BlockInfo.{BlockInfo}
use Rattle.memory_blocks.specs.Blocks.{block_of, BlockRead, BlockStored}
use Rattle.change_steps.proofs.WorkLaws.{went_named}
use Rattle.change_state.specs.declared.states.Tally.{Tally}
use Rattle.change_blocks.specs.Replacing.{Retallied, BlockSet}
use Rattle.change_blocks.proofs.SetLaws.{put_went}
use Rattle.change_blocks.proofs.StandingLaws.{block_there, set_there}
use Rattle.change_receipts.specs.Marking.{Written}
use Rattle.change_receipts.proofs.BlockLaws.{was_received, not-received}

-- the block of the numbers that are stored
kept_is : (x b : BlockInfo) (y : Block) → x.state ≡ b.state → x.num_peers ≡ b.num_peers → block_of b ≡ y
    → block_of x ≡ with_peer (named_peer x.has_peer x.peer) y
unfolding block_of with_peer
kept_is x b y e f h = subst (λ (z : Block). block_of x ≡ with_peer (named_peer x.has_peer x.peer) z) h (rw (e, f) refl)

written_is : (x : BlockInfo) → x.state ≡ 2 → x.num_peers ≡ 0 → block_of x ≡ written_by (named_peer x.has_peer x.peer)
unfolding block_of written_by state_from nth
written_is x e f = rw (e, f) refl

module _ (s : Shape) (draws : Draws) (i p j : ℕ) (t : Tally) (words cells : List ℕ) (used : ℕ) (b : BlockInfo)
    (r : BlockRead s words cells p j b) where
  -- received before
  pub write_kept : 2 ≤ b.state → (x : BlockInfo) → x.state ≡ b.state → x.num_peers ≡ b.num_peers → (words' cells' : List ℕ)
      → BlockStored s words cells words' cells' p j x
      → Written s draws i p j x.has_peer x.peer t words cells used words' cells' (record { answer = false; used = used })
  unfolding mark_writing_in saying drawing no_draw
  write_kept h x e f words' cells' g = record {
    marks = record {
      went = λ records k a.
          let d = partial_in (decode records words cells) k in
          let z = block_there s words cells i p j t b r records k a in
          went_named s records words cells used records words' cells' used (no_draw (λ q. replace_block (partial_in q k) j (block_of x) q))
          (λ w. (mark_writing_in draws i (some d) j (named_peer x.has_peer x.peer) w).after)
          (rw (was_received s words cells i p j t b r records k a h)
          (ap (λ (q : Block). drawing used (replace_block d j q (decode records words cells))) (kept_is x b (block_at d j) e f z.is)))
          (put_went s i p j x words cells words' cells' g records k a.stands used);
      answer = λ records k a. rw (was_received s words cells i p j t b r records k a h) refl;
    };
  }

  -- not before
  pub write_made : b.state < 2 → (after : Tally) → Retallied t b.state 2 after → (x : BlockInfo) → x.state ≡ 2 → x.num_peers ≡ 0
      → (words' cells' : List ℕ) (next : ℕ) → BlockSet s draws i p j x after words cells used words' cells' next
      → Written s draws i p j x.has_peer x.peer t words cells used words' cells' (record { answer = true; used = next })
  unfolding mark_writing_in saying drawing
  write_made h after y x e f words' cells' next g = record {
    marks = record {
      went = λ records k a.
          let d = partial_in (decode records words cells) k in
          went_named s records words cells used records words' cells' next (set_block draws i d j (block_of x))
          (λ w. (mark_writing_in draws i (some d) j (named_peer x.has_peer x.peer) w).after)
          (rw (not-received s words cells i p j t b r records k a h)
          (ap (λ (q : Block). set_block draws i d j q (drawing used (decode records words cells))) (written_is x e f)))
          (set_there s words cells i p j t b r draws used 2 (omega arith) after y x e words' cells' next g records k a);
      answer = λ records k a. rw (not-received s words cells i p j t b r records k a h) refl;
    };
  }
