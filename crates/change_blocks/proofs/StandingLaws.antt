-- The block that a change reads of a standing partial: it is the partial's, and what the steps after it ask. Assumes nothing.
use mathlib.Core.Path.{◌≡◌, sym, ap, ◌∙◌, subst}
use mathlib.Core.List.{List}
use Prim.Native.Nat.{ℕ, ◌≤◌, ◌<◌}
use native.Mathlib.Omega.{arith}
use lib.Dec.{eqb, ltb}
use Rattle.types.specs.declared.block.BlockState.TheVariants.{Requested}
use Rattle.types.specs.Block.{block_state_number}
use Rattle.model.specs.Lists.{bit, len}
use Rattle.model.specs.State.{Block, same_block_state}
use Rattle.model.specs.list.Order.{Draws}
use Rattle.model.specs.change.Partials.{block_at, blocks_in_state, progress}
use Rattle.model.specs.change.Changes.{set_block}
use Rattle.model.proofs.image.Records.{state_below}
use Rattle.memory_records.specs.declared.record.DownloadingPiece.{DownloadingPiece as Record}
use Rattle.memory_layout.specs.declared.shape.Shape.{Shape}
use Rattle.memory_layout.specs.Decode.{blocks_of, decode, record_at, state_from}
use Rattle.memory_layout.specs.Bounds.{Spans}
use Rattle.memory_layout.specs.Changes.{partial_in}
use Rattle.memory_layout.proofs.BoundsLaws.{blocks_within}
use Rattle.memory_layout.proofs.Meanings.{blocks_number}
use Rattle.memory_layout.proofs.Numbers.{state_number}
use Rattle.memory_blocks.specs.declared.info.BlockInfo.{BlockInfo}
use Rattle.memory_blocks.specs.Blocks.{block_of, BlockIs, BlockRead}
use Rattle.change_steps.specs.Working.{WorksBeside, Went}
use Rattle.change_state.specs.declared.states.Tally.{Tally}
use Rattle.change_blocks.specs.Replacing.{Retallied, PartialBeside, TallyAt, TallyBeside, BlockSet}
use Rattle.change_blocks.proofs.SetLaws.{put_places}
use Rattle.change_blocks.proofs.TallyLaws.{count_most, busy_counts, requested_counts}

-- the number of a state is that of the block's
pub state_of : (x : BlockInfo) (n : ℕ) → x.state ≡ n → n < 4 → n ≡ block_state_number (block_of x).state
unfolding block_of
state_of x n e h = sym (ap (λ (v : ℕ). block_state_number (state_from v)) e ∙ state_number n h)

module _ (s : Shape) (words cells : List ℕ) (i p j : ℕ) (t : Tally) where
  pub works_there : TallyBeside s words cells i p j t → WorksBeside s words cells
  works_there b = record { records = b.records; works = b.there.stands.works }

  pub stands_there : TallyBeside s words cells i p j t → PartialBeside s words cells i p j
  stands_there b = record { records = b.records; k = b.k; stands = b.there.stands }

  -- what reading or storing the block asks
  pub block_places : TallyBeside s words cells i p j t → Spans s words cells × ((p < s.places) × (j < s.blocks))
  block_places b = (b.there.stands.works.bounds.spans, put_places s i p j words cells (stands_there b))

  -- the partial has it
  pub block_within : (records : List Record) (k : ℕ) → TallyAt s records words cells i p j t k
      → j < len (partial_in (decode records words cells) k).blocks
  block_within records k a =
      let q = a.stands in
      omega (arith, q.block, blocks_number s records words cells q.works.bounds k q.low, ap (blocks_of words) q.index)

  module _ (x : BlockInfo) (r : BlockRead s words cells p j x) where
    -- the numbers read are those of the partial's block
    pub block_there : (records : List Record) (k : ℕ) → TallyAt s records words cells i p j t k
        → BlockIs x (block_at (partial_in (decode records words cells) k) j)
    block_there records k a =
        let q = a.stands in
        r.live records k q.works.bounds
        (record { low = q.low; place = q.place; block = subst (λ (n : ℕ). j < blocks_of words n) (sym q.index) q.block })

    pub state_low : TallyBeside s words cells i p j t → x.state ≤ 3
    state_low b =
        subst (λ (n : ℕ). n ≤ 3) (sym (block_there b.records b.k b.there).state)
        (state_below (block_at (partial_in (decode b.records words cells) b.k) j).state)

    -- what taking it out of the numbers asks
    pub retally_asks : (old : ℕ) → x.state ≡ old → TallyBeside s words cells i p j t
        → ((bit (ltb 0 old) ≤ t.busy) × (t.busy ≤ 256)) × ((bit (eqb old 1) ≤ t.requested) × (t.requested ≤ 256))
    unfolding progress blocks_in_state
    retally_asks old is b =
        let records = b.records in
        let k = b.k in
        let a = b.there.stands in
        let y = b.there.tally in
        let q = partial_in (decode records words cells) k in
        let h = block_within records k b.there in
        let n = blocks_number s records words cells a.works.bounds k a.low in
        let m = blocks_within s records words cells a.works.bounds (record_at records k).index in
        let w = a.works.bounds.spans.in_words.sizes.wide in
        let was = sym is ∙ (block_there records k b.there).state in
        let e = ap (λ (v : ℕ). bit (ltb 0 v)) was in
        let f = ap (λ (v : ℕ). bit (eqb v 1)) was in
        let c = count_most (λ (z : Block). same_block_state z.state Requested) q.blocks in (
          (omega (arith, e, y.busy, busy_counts q j h), omega (arith, y.busy, n, m, w)),
          (omega (arith, f, y.requested, requested_counts q j h), omega (arith, y.requested, c, n, m, w)),
        )

    -- the block replaced
    pub set_there : (draws : Draws) (used n : ℕ) → n < 4 → (after : Tally) → Retallied t x.state n after → (y : BlockInfo)
        → y.state ≡ n → (words' cells' : List ℕ) (next : ℕ) → BlockSet s draws i p j y after words cells used words' cells' next
        → (records : List Record) (k : ℕ) → TallyAt s records words cells i p j t k
        → Went s (set_block draws i (partial_in (decode records words cells) k) j (block_of y)) records words cells used
        records words' cells' next
    set_there draws used n h after c y e words' cells' next g records k a =
        g.went records k a.stands
        (c.is (partial_in (decode records words cells) k) j (block_of y) a.tally (block_within records k a)
        (block_there records k a).state (state_of y n e h))
