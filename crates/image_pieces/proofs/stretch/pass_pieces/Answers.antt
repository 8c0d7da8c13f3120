-- `pass_pieces` meets its contract. The loop's invariant: so many pieces are read, and what is left decides.
use Prim.Native.Nat.{◌+◌, ◌*◌, ◌-◌}
use native.Mathlib.Omega.{arith}
use borrow.Author.Tests.{not-false}
use Rattle.geometry.proofs.ValidLaws.{bounds}
use Rattle.image_pieces.specs.Stretches.{StretchPassed}
use Rattle.image_pieces.proofs.HeadLaws.{head_seeds, head_pieces, head_valid}
use Rattle.image_pieces.proofs.PassLaws.{reading_start, reading_at, part_long, reading_part, reading_stretch, whole_size}
use Rattle.image_pieces.proofs.stretch.pass_pieces.Goals as goal

pub overflow_sub-bytes : goal.overflow_sub-bytes
overflow_sub-bytes c = omega (arith, c.requires.headed.room)

pub overflow_mul-n : goal.overflow_mul-n
overflow_mul-n c = omega (arith, head_pieces _ c.requires.headed.ok, c.requires.n_value.0)

pub returns-then-bytes-n : goal.returns-then-bytes-n
returns-then-bytes-n c = reading_start _ _ _ _ c.requires.headed c.requires.n_value.1

pub overflow_sub-stretches : goal.overflow_sub-stretches
overflow_sub-stretches c = omega (arith, (bounds _ _ (head_valid c.args.head c.requires.headed.ok)).some_pieces, c.requires.n_value.0)

pub loop-k-init : goal.loop-k-init
loop-k-init c = reading_start _ _ _ _ c.requires.headed c.requires.n_value.1

pub overflow_mul-i : goal.overflow_mul-i
overflow_mul-i c = omega (arith, head_pieces _ c.requires.headed.ok, c.requires.n_value.0)

pub overflow_mul-i-in-loop-k : goal.overflow_mul-i-in-loop-k
overflow_mul-i-in-loop-k c = omega (arith, head_pieces _ c.requires.headed.ok, c.requires.n_value.0)

pub overflow_add-i : goal.overflow_add-i
overflow_add-i c = omega (arith, head_pieces _ c.requires.headed.ok, c.requires.n_value.0)

pub overflow_add-i-in-loop-k : goal.overflow_add-i-in-loop-k
overflow_add-i-in-loop-k c = omega (arith, head_pieces _ c.requires.headed.ok, c.requires.n_value.0)

pub offset_bounds-ranks-i : goal.offset_bounds-ranks-i
offset_bounds-ranks-i c = omega (arith, head_pieces _ c.requires.headed.ok, c.requires.n_value.0)

pub slice_bounds-pass_stretch-start : goal.slice_bounds-pass_stretch-start
slice_bounds-pass_stretch-start c = omega (arith, c.loop-k.invariant.long, c.loop-k.invariant.wide)

pub slice_bounds-pass_stretch-end : goal.slice_bounds-pass_stretch-end
slice_bounds-pass_stretch-end c = omega (arith, c.loop-k.invariant.long, c.loop-k.invariant.wide)

pub pass_stretch-requires : goal.pass_stretch-requires
pass_stretch-requires c = let i = 128 * c.loop-k.k in (
  omega (arith, c.if-bytes-n.false),
  head_seeds _ c.requires.headed.ok,
  omega (arith, part_long i (i + 128 - i) c.loop-k.ranks (omega (arith, c.loop-k.invariant.long, c.loop-k.invariant.wide))),
)

pub returns-then-not-pass_stretch : goal.returns-then-not-pass_stretch
returns-then-not-pass_stretch c = let i = 128 * c.loop-k.k in
    reading_part _ _ _ _ c.loop-k.ranks i c.loop-k.invariant (i + 128 - i) 128 (omega arith) (omega arith)
    c.pass_stretch.new.ranks c.ranks-1.given.0

pub loop-k-preserved : goal.loop-k-preserved
unfolding StretchPassed
loop-k-preserved c = let i = 128 * c.loop-k.k in
    reading_at _ _ _ _ _ (i + 128) _
    (reading_stretch _ _ _ _ c.loop-k.ranks i c.loop-k.invariant (i + 128 - i) 128 (omega arith) (omega arith)
    c.pass_stretch.new.ranks c.ranks-1.given.0
    (omega (arith, c.if-bytes-n.false))
    (λ j k. whole_size c.args.head _ c.requires.headed.ok c.requires.n_value.0 _ (omega arith))
    (c.pass_stretch.ensures (not-false _ c.if-not-pass_stretch.false-raw)))
    (omega arith)

pub returns : goal.returns
returns c = reading_at _ _ _ _ _ _ _ c.loop-k.invariant (omega arith)
