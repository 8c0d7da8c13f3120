-- The first block of a piece that is opened: finished by its pad bytes, or replaced. Assumes nothing.
use mathlib.Core.Path.{◌≡◌, refl, sym, ap, subst, ◌∙◌}
use mathlib.Core.Logic.{◌≢◌}
use mathlib.Core.Bool.{true, false}
use mathlib.Core.Option.{Option, some}
use mathlib.Core.List.{List}
use Prim.Native.Nat.{ℕ, ◌≤◌, ◌<◌}
use native.Mathlib.Omega.{arith}
use lib.Dec.{eqb, ltb}
use borrow.Author.Tests.{eq-eqb, ne_eqb}
use Rattle.types.specs.declared.block.BlockState.TheVariants.{Requested}
use Rattle.types.specs.Block.{block_state_number}
use Rattle.model.specs.Lists.{bit, len}
use Rattle.model.specs.State.{Block, DownloadingPiece, same_block_state}
use Rattle.model.specs.list.Order.{Draws, Drawing, drawing}
use Rattle.model.specs.change.Partials.{partial_of, block_at, blocks_in_state, progress}
use Rattle.model.specs.change.Changes.{Change, saying, set_block, mark_first}
use Rattle.model.proofs.base.Counts.{count_le}
use Rattle.memory_records.specs.declared.record.DownloadingPiece.{DownloadingPiece as Record}
use Rattle.memory_layout.specs.declared.shape.Shape.{Shape}
use Rattle.memory_layout.specs.Decode.{blocks_of, decode}
use Rattle.memory_layout.specs.Changes.{partial_in}
use Rattle.memory_layout.proofs.Numbers.{state_number}
use Rattle.memory_layout.proofs.Meanings.{blocks_number}
use Rattle.memory_layout.proofs.BoundsLaws.{blocks_within}
use Rattle.memory_blocks.specs.declared.info.BlockInfo.{BlockInfo}
use Rattle.memory_blocks.specs.Blocks.{block_of, BlockIs, BlockRead}
use Rattle.memory_partials.proofs.MarkLaws.{standing_found}
use Rattle.change_steps.specs.Working.{Works}
use Rattle.change_steps.proofs.WorkLaws.{went_nowhere, went_named}
use Rattle.change_state.specs.declared.states.Tally.{Tally}
use Rattle.change_blocks.specs.Replacing.{Retallied, PartialAt, PartialBeside, BlockSet}
use Rattle.change_blocks.proofs.TallyLaws.{busy_counts, requested_counts}
use Rattle.change_adding.specs.declared.adding.Opening.{Opening}
use Rattle.change_adding.specs.Adding.{Held}
use Rattle.change_first_mark.specs.declared.marks.Marked.{Marked}
use Rattle.change_first_mark.specs.Marking.{HeldBeside, FirstMarked}

-- ---- the definition, by the number of the block's state
module _ (draws : Draws) (i : ℕ) (d : DownloadingPiece) (j : ℕ) (b : Block) (w : Drawing) where
  first_pad : block_state_number (block_at d j).state ≡ 3 → mark_first draws i (some d) j b w ≡ saying false w
  unfolding mark_first same_block_state
  first_pad e = rw (eq-eqb (block_state_number (block_at d j).state) 3 e) refl

  first_free : block_state_number (block_at d j).state ≢ 3 → mark_first draws i (some d) j b w ≡ saying true (set_block draws i d j b w)
  unfolding mark_first same_block_state
  first_free e = rw (ne_eqb (block_state_number (block_at d j).state) 3 e) refl

requested_most : (d : DownloadingPiece) → blocks_in_state Requested d ≤ len d.blocks
unfolding blocks_in_state len
requested_most d = count_le (λ b. same_block_state b.state Requested) d.blocks

busy_most : (d : DownloadingPiece) → progress d ≤ len d.blocks
unfolding progress
busy_most d = omega arith

-- ---- the block at the partial's place
module _ (s : Shape) (i : ℕ) (o : Opening) (j p : ℕ) (ep : p ≡ o.partial.info_idx) (words cells : List ℕ)
    (block : j < blocks_of words i) where
  module _ (records : List Record) (w : Works s records words cells) (h : Held i o.partial.info_idx o.tally records words cells)
    where
      held_at_lem : PartialAt s records words cells i p j h.k
      held_at_lem = record {
        works = w;
        rising = h.rising;
        low = h.low;
        index = h.index;
        place = h.place ∙ sym ep;
        block = block;
      }

      pub held_found : partial_of (decode records words cells) i ≡ some (partial_in (decode records words cells) h.k)
      held_found =
          standing_found s records words cells i p h.k (record { low = h.low; index = h.index; place = h.place ∙ sym ep }) w.bounds
          h.rising

      held_blocks : len (partial_in (decode records words cells) h.k).blocks ≡ blocks_of words i
      held_blocks = blocks_number s records words cells w.bounds h.k h.low ∙ ap (blocks_of words) h.index

      block_there : j < len (partial_in (decode records words cells) h.k).blocks
      block_there = omega (arith, held_blocks, block)

      module _ (y : BlockInfo) (b : BlockRead s words cells p j y) where
        block_is : BlockIs y (block_at (partial_in (decode records words cells) h.k) j)
        block_is =
            b.live records h.k w.bounds (record {
              low = h.low;
              place = h.place ∙ sym ep;
              block = subst (λ (n : ℕ). j < blocks_of words n) (sym h.index) block;
            })

  -- what replacing asks
  pub first_beside : HeldBeside s i o.partial.info_idx o.tally j words cells → PartialBeside s words cells i p j
  first_beside v = record { records = v.records; k = v.held.k; stands = held_at_lem v.records v.works v.held }

  module _ (y : BlockInfo) (b : BlockRead s words cells p j y) where
    -- what tallying asks
    pub first_tally : HeldBeside s i o.partial.info_idx o.tally j words cells
        → ((bit (ltb 0 y.state) ≤ o.tally.busy) × (o.tally.busy ≤ 256))
        × ((bit (eqb y.state 1) ≤ o.tally.requested) × (o.tally.requested ≤ 256))
    first_tally v =
        let d = partial_in (decode v.records words cells) v.held.k in
        let t = v.held.tally in
        let there = block_there v.records v.works v.held in
        let e = (block_is v.records v.works v.held y b).state in
        let bounds = v.works.bounds in
        let many = held_blocks v.records v.works v.held in
        let few = blocks_within s v.records words cells bounds i in
        let wide = bounds.spans.in_words.sizes.wide in (
          (rw (e, t.busy) (busy_counts d j there), omega (arith, t.busy, busy_most d, many, few, wide)),
          (rw (e, t.requested) (requested_counts d j there), omega (arith, t.requested, requested_most d, many, few, wide)),
        )

    module _ (draws : Draws) (x : BlockInfo) where
      -- pad bytes finished it
      pub first_left : y.state ≡ 3 → (r : Marked) → r.answer ≡ false → r.used ≡ o.used → r.partial ≡ o.partial
          → FirstMarked s draws i o j x words cells words cells r
      unfolding saying drawing
      first_left e r ea eu er = record {
        partial = er;
        answer = λ records w h. ap (λ (c : Change). c.answer) (is records w h) ∙ ap some (sym ea);
        went = λ records w h. rw eu (went_nowhere s records words cells o.used
            (λ v. (mark_first draws i (partial_of v.picker i) j (block_of x) v).after) w (ap (λ (c : Change). c.after) (is records w h)));
      }
        where
          is : (records : List Record) (w : Works s records words cells)
              (h : Held i o.partial.info_idx o.tally records words cells)
              → mark_first draws i (partial_of (decode records words cells) i) j (block_of x) (drawing o.used (decode records words cells))
              ≡ saying false (drawing o.used (decode records words cells))
          is records w h =
              let v = drawing o.used (decode records words cells) in
              ap (λ (f : Option DownloadingPiece). mark_first draws i f j (block_of x) v) (held_found records w h)
              ∙ first_pad draws i (partial_in (decode records words cells) h.k) j (block_of x) v
              (sym (block_is records w h y b).state ∙ e)

      -- it is replaced
      pub first_set : y.state ≢ 3 → x.state ≤ 3 → (t : Tally) → Retallied o.tally y.state x.state t
          → (words' cells' : List ℕ) (next : ℕ) → BlockSet s draws i p j x t words cells o.used words' cells' next
          → (r : Marked) → r.answer ≡ true → r.used ≡ next → r.partial ≡ o.partial
          → FirstMarked s draws i o j x words cells words' cells' r
      unfolding saying drawing block_of
      first_set n low t a words' cells' next g r ea eu er = record {
        partial = er;
        answer = λ records w h. ap (λ (c : Change). c.answer) (is records w h) ∙ ap some (sym ea);
        went = λ records w h.
            let d = partial_in (decode records words cells) h.k in
            rw eu (went_named s records words cells o.used records words' cells' next (set_block draws i d j (block_of x))
            (λ v. (mark_first draws i (partial_of v.picker i) j (block_of x) v).after) (sym (ap (λ (c : Change). c.after) (is records w h)))
            (g.went records h.k (held_at_lem records w h)
            (a.is d j (block_of x) h.tally (block_there records w h) (block_is records w h y b).state
            (sym (state_number x.state (omega arith))))));
      }
        where
          is : (records : List Record) (w : Works s records words cells)
              (h : Held i o.partial.info_idx o.tally records words cells)
              → mark_first draws i (partial_of (decode records words cells) i) j (block_of x) (drawing o.used (decode records words cells))
              ≡ saying true (set_block draws i (partial_in (decode records words cells) h.k) j (block_of x) (drawing o.used
              (decode records words cells)))
          is records w h =
              let v = drawing o.used (decode records words cells) in
              ap (λ (f : Option DownloadingPiece). mark_first draws i f j (block_of x) v) (held_found records w h)
              ∙ first_free draws i (partial_in (decode records words cells) h.k) j (block_of x) v
              (λ e. n ((block_is records w h y b).state ∙ e))
