-- `copy_bytes` meets its contract. The invariant: the bytes below j are copied. Assumes nothing.
use mathlib.Core.Path.{◌≡◌}
use Prim.Native.Nat.{◌*◌, ◌≤◌}
use lib.ListN.{length}
use Rattle.model.specs.Bep3.{bit_at}
use Rattle.bitfield_writes.specs.Writing.{put_run}
use Rattle.bitfield_writes.proofs.copy_bytes.Given as goal

abbrev pub invariant-loop-j : goal.invariant-loop-j
invariant-loop-j l = (l.buf ≡ put_run 0 (8 * l.j) (bit_at l.src) l.initial.buf) × (length l.buf ≡ length l.initial.buf) × (l.j ≤ l.end)
