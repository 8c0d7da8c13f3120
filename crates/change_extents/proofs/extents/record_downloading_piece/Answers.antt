-- `record_downloading_piece` meets its contract. Assumes nothing.
use borrow.Author.Tests.{not-true, not-false}
use Rattle.change_extents.proofs.RecordLaws.{recorded_wide, recorded_known, recorded_full, recorded_unworthy, recorded_new}
use borrow.Author.Rules.{rules}
use Rattle.change_extents.proofs.extents.record_downloading_piece.Goals as goal

pub returns-then-b-ge-MAX_PIECE_AFFINITY_EXTENT : goal.returns-then-b-ge-MAX_PIECE_AFFINITY_EXTENT
returns-then-b-ge-MAX_PIECE_AFFINITY_EXTENT c = recorded_wide c.args.s c.args.words.now c.args.cells.now c.args.i _ c.usize_to_u64-b.ensures c.if-b-ge-MAX_PIECE_AFFINITY_EXTENT.true

pub returns-then-is_recent : goal.returns-then-is_recent
returns-then-is_recent c = recorded_known c.args.s c.args.words.now c.args.cells.now c.args.i _ c.usize_to_u64-b.ensures c.if-b-ge-MAX_PIECE_AFFINITY_EXTENT.false _ _
    c.at.ensures.1 c.extent_for-e.ensures _ c.is_recent.ensures c.if-is_recent.true

pub returns-then-usize_to_u64-ge-MAX_EXTENTS : goal.returns-then-usize_to_u64-ge-MAX_EXTENTS
returns-then-usize_to_u64-ge-MAX_EXTENTS c = recorded_full c.args.s c.args.words.now c.args.cells.now c.args.i _ c.usize_to_u64-b.ensures c.if-b-ge-MAX_PIECE_AFFINITY_EXTENT.false _ _
    c.at.ensures.1 c.extent_for-e.ensures _ c.is_recent.ensures c.if-is_recent.false _
    c.num_recent_extents.ensures.1 _ c.usize_to_u64.ensures c.if-usize_to_u64-ge-MAX_EXTENTS.true

pub returns-then-not-worth_recording : goal.returns-then-not-worth_recording
returns-then-not-worth_recording c = recorded_unworthy c.args.s c.args.words.now c.args.cells.now c.args.i _ c.usize_to_u64-b.ensures c.if-b-ge-MAX_PIECE_AFFINITY_EXTENT.false _ _
    c.at.ensures.1 c.extent_for-e.ensures _ c.is_recent.ensures c.if-is_recent.false _
    c.num_recent_extents.ensures.1 _ c.usize_to_u64.ensures c.if-usize_to_u64-ge-MAX_EXTENTS.false _
    c.worth_recording.ensures (not-true _ c.if-not-worth_recording.true-raw)

pub returns : goal.returns
returns c = recorded_new c.args.s c.args.words.now c.args.cells.now c.args.i _ c.usize_to_u64-b.ensures c.if-b-ge-MAX_PIECE_AFFINITY_EXTENT.false _ _
    c.at.ensures.1 c.extent_for-e.ensures _ c.is_recent.ensures c.if-is_recent.false _
    c.num_recent_extents.ensures.1 _ c.usize_to_u64.ensures c.if-usize_to_u64-ge-MAX_EXTENTS.false _
    c.worth_recording.ensures (not-false _ c.if-not-worth_recording.false-raw) _ c.push_recent_extent.ensures
