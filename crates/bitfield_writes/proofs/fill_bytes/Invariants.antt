-- `fill_bytes` meets its contract. The invariant: the bytes from the first up to j are written. Assumes nothing.
use mathlib.Core.Path.{◌≡◌}
use Prim.Native.Nat.{◌*◌, ◌≤◌, max}
use lib.ListN.{length}
use Rattle.bitfield_writes.specs.Writing.{put_run}
use Rattle.bitfield_writes.proofs.fill_bytes.Given as goal

abbrev pub invariant-loop-j : goal.invariant-loop-j
invariant-loop-j l = (l.buf ≡ put_run (8 * l.from) (8 * l.j) (λ i. l.v) l.initial.buf) × (length l.buf ≡ length l.initial.buf) × (l.from ≤ l.j) × (l.j ≤ max l.from l.end)
