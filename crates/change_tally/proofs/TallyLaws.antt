-- A partial's blocks by state: what is not free is requested, being written or finished. Assumes nothing.
use mathlib.Core.Path.{◌≡◌, refl, sym, ap, ◌∙◌}
use mathlib.Core.Bool.{Bool}
use mathlib.Core.List.{List, [], ◌∷◌}
use Prim.Native.Nat.{ℕ, ◌+◌, ◌<◌, ◌≤◌}
use native.Mathlib.Omega.{arith}
use Rattle.types.specs.declared.block.BlockState.{BlockState}
use Rattle.types.specs.declared.block.BlockState.TheVariants.{None, Requested, Writing, Finished}
use Rattle.model.specs.Bep3.{bit_of}
use Rattle.model.specs.Lists.{bit, count, len}
use Rattle.model.specs.State.{Block, DownloadingPiece, same_block_state}
use Rattle.model.specs.change.Partials.{blocks_in_state, progress}
use Rattle.memory_records.specs.declared.record.DownloadingPiece.{DownloadingPiece as Record}
use Rattle.memory_records.specs.Rows.{row_at, records_in}
use Rattle.memory_records.proofs.laws.RowLaws.{records_at}
use Rattle.memory_layout.specs.declared.shape.Shape.{Shape}
use Rattle.memory_layout.specs.Decode.{head_word, record_at, blocks_of}
use Rattle.memory_layout.specs.Changes.{partial_in}
use Rattle.memory_layout.specs.Bounds.{WordsSpan, ShapeOf}
use Rattle.memory_layout.proofs.OffsetLaws.{places_min}
use Rattle.memory_layout.proofs.BoundsLaws.{blocks_within}
use Rattle.memory_layout.proofs.StandingLaws.{stands_shape}
use Rattle.memory_layout.proofs.Meanings.{hashing_is, blocks_number}
use Rattle.check_partials.specs.Records.{CountsHeld}
use Rattle.memory_counts.specs.Counted.{CountSays}
use Rattle.memory_rows.specs.Lookup.{LiveRows, picker_in}
use Rattle.change_tally.specs.Tallied.{TalliesBeside, Tallied}

-- ---- blocks by state
one_state : (q : BlockState)
    → bit (same_block_state q None)
    + (bit (same_block_state q Requested) + bit (same_block_state q Writing) + bit (same_block_state q Finished))
    ≡ 1
unfolding same_block_state
one_state None = refl
one_state Requested = refl
one_state Writing = refl
one_state Finished = refl

all_states : (bs : List Block)
    → count (λ b. same_block_state b.state None) bs
    + (count (λ b. same_block_state b.state Requested) bs + count (λ b. same_block_state b.state Writing) bs
    + count (λ b. same_block_state b.state Finished) bs)
    ≡ len bs
unfolding count len
all_states [] = refl
all_states (b ∷ bs) = omega (arith, one_state b.state, all_states bs)

-- what is at work
pub progress_is : (d : DownloadingPiece) → blocks_in_state Requested d + blocks_in_state Writing d + blocks_in_state Finished d ≡ progress d
unfolding progress blocks_in_state
progress_is d = omega (arith, all_states d.blocks)

pub progress_low : (d : DownloadingPiece) → progress d ≤ len d.blocks
unfolding progress
progress_low d = omega arith

-- ---- one row
module _ (s : Shape) (words rows counts : List ℕ) (k i : ℕ) (b : TalliesBeside s words rows counts k i) where
  pub row_low : k < 512
  row_low =
      let g = b.rows_live in
      omega (arith, b.there, g.many, g.bounds.partials, g.bounds.spans.in_words.sizes.places, places_min s.pieces)

  pub row_shape : WordsSpan s words × ShapeOf s words
  row_shape = let g = b.rows_live in (g.bounds.spans.in_words, stands_shape s _ words _ g.bounds)

  pub blocks_few : blocks_of words i ≤ 256
  blocks_few =
      let g = b.rows_live in
      omega (arith, blocks_within s (records_in b.live rows) words b.cells g.bounds i, g.bounds.spans.in_words.sizes.wide)

  -- of every picker that they may stand in
  module _ (live : ℕ) (cells : List ℕ) (g : LiveRows s live rows words cells) where
    in_picker : k < head_word words 7
    in_picker = omega (arith, b.there, b.rows_live.many)

    record_is : record_at (records_in live rows) k ≡ row_at rows k
    unfolding record_at
    record_is = records_at live rows k (omega (arith, in_picker, g.many))

    pub row_blocks : len (partial_in (picker_in live rows words cells) k).blocks ≡ blocks_of words i
    row_blocks =
        blocks_number s (records_in live rows) words cells g.bounds k in_picker
        ∙ ap (λ (r : Record). blocks_of words r.index) record_is ∙ ap (blocks_of words) b.piece

    pub row_hashing : (partial_in (picker_in live rows words cells) k).hashing ≡ bit_of (row_at rows k).flags 2
    row_hashing =
        hashing_is s (records_in live rows) words cells g.bounds k in_picker ∙ ap (λ (r : Record). bit_of r.flags 2) record_is

  -- ---- the counts
  module _ (asked came held : ℕ) (a : CountSays counts k Requested asked) (c : CountSays counts k Writing came)
      (h : CountSays counts k Finished held) where
    busy_is : (live : ℕ) (cells : List ℕ) → LiveRows s live rows words cells → CountsHeld (picker_in live rows words cells) live counts
        → asked + came + held ≡ progress (partial_in (picker_in live rows words cells) k)
    busy_is live cells g o =
        let d = picker_in live rows words cells in
        let l : k < live = omega (arith, b.there, b.rows_live.many, g.many) in
        omega (arith, a.is d live o l, c.is d live o l, h.is d live o l, progress_is (partial_in d k))

    pub busy_few : asked + came + held ≤ 256
    busy_few =
        let d = picker_in b.live rows words b.cells in
        omega (
          arith,
          busy_is b.live b.cells b.rows_live b.counted,
          progress_low (partial_in d k),
          row_blocks b.live b.cells b.rows_live,
          blocks_few,
        )

    pub tallied : (many : ℕ) → many ≡ blocks_of words i → (hashed : Bool) → hashed ≡ bit_of (row_at rows k).flags 2
        → Tallied s words rows counts k (record { blocks = many; busy = asked + came + held; requested = asked; hashing = hashed })
    tallied many e hashed f = record {
      is = λ live cells g o. record {
        blocks = e ∙ sym (row_blocks live cells g);
        busy = busy_is live cells g o;
        requested = a.is (picker_in live rows words cells) live o (omega (arith, b.there, b.rows_live.many, g.many));
        hashing = f ∙ sym (row_hashing live cells g);
      };
    }
