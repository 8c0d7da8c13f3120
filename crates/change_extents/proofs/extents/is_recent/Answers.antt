-- `is_recent` meets its contract. Assumes nothing.
use Prim.Native.Nat.{◌-◌}
use native.Mathlib.Omega.{arith}
use Rattle.change_extents.proofs.RecordLaws.{Sought, seek_begins, seek_found, seek_passes, seek_ends}
use borrow.Author.Rules.{rules}
use Rattle.change_extents.proofs.extents.is_recent.Goals as goal

pub num_recent_extents-many-requires : goal.num_recent_extents-many-requires
num_recent_extents-many-requires c = c.requires.words_span

pub loop-k-init : goal.loop-k-init
loop-k-init c = seek_begins _ _

pub recent_extent-requires : goal.recent_extent-requires
recent_extent-requires c = record {
  words_span = c.requires.words_span;
  k_bound = (omega (arith, c.num_recent_extents-many.ensures.0), c.requires.words_bound);
}

pub returns-then-e-recent_extent : goal.returns-then-e-recent_extent
returns-then-e-recent_extent c = seek_found _ _ _ c.loop-k.k c.num_recent_extents-many.ensures.1 c.loop-k.invariant (omega arith) c.recent_extent.result c.recent_extent.ensures c.if-e-recent_extent.true

pub loop-k-preserved : goal.loop-k-preserved
loop-k-preserved c = seek_passes _ _ _ c.loop-k.k c.num_recent_extents-many.ensures.1 c.loop-k.invariant (omega arith) c.recent_extent.result c.recent_extent.ensures c.if-e-recent_extent.false

pub returns : goal.returns
returns c = seek_ends _ _ _ c.loop-k.k c.num_recent_extents-many.ensures.1 c.loop-k.invariant (omega arith)
