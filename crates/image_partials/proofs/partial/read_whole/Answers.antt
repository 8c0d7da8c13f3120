-- `read_whole` meets its contract: its record, its blocks, and the state at the last one.
use mathlib.Core.Path.{sym, ap, ◌∙◌, subst}
use Prim.Native.Nat.{ℕ, ◌+◌, ◌-◌}
use native.Mathlib.Omega.{arith}
use lib.Dec.{leb}
use Rattle.model.specs.Lists.{nth}
use Rattle.model.specs.image.Image.{body_length, partial_kind, read_partial}
use Rattle.check_partials.specs.States.{state_by}
use Rattle.image_records.proofs.FoundLaws.{number_got, number_bad}
use Rattle.image_pass.proofs.BlockLaws.{tallied_few}
use Rattle.image_partials.specs.Blocks.{BlocksJudged}
use Rattle.image_partials.proofs.PartialLaws.{record_fails, block_fails, partial_ends, partial_stops}
use borrow.Author.Tests.{not-true, not-false}
use Rattle.image_pieces.proofs.PassedOn.{passed_on}
use Rattle.image_partials.proofs.partial.read_whole.Goals as goal

pub returns-in_default : goal.returns-in_default
returns-in_default c = λ s p em es ep. record_fails s c.args.i c.args.n c.args.at p c.args.bytes.now
    (number_bad partial_kind (read_partial c.args.i c.args.n) c.args.at c.args.bytes.now
    (sym c.in_default.is ∙ c.read_partial.ensures)) c.requires.at_in_bounds

pub overflow_add-start : goal.overflow_add-start
unfolding body_length nth
overflow_add-start c = let g = number_got partial_kind (read_partial c.args.i c.args.n) c.args.at c.args.bytes.now _
    (sym c.in-Some.is ∙ c.read_partial.ensures) in
    omega (arith, g.room)

pub read_blocks-requires : goal.read_blocks-requires
unfolding body_length nth
read_blocks-requires c = let g = number_got partial_kind (read_partial c.args.i c.args.n) c.args.at c.args.bytes.now _
    (sym c.in-Some.is ∙ c.read_partial.ensures) in
    (omega (arith, g.room), omega arith, omega arith)

pub overflow_add-end : goal.overflow_add-end
unfolding body_length nth BlocksJudged
overflow_add-end c = let g = number_got partial_kind (read_partial c.args.i c.args.n) c.args.at c.args.bytes.now _
    (sym c.in-Some.is ∙ c.read_partial.ensures) in
    let b = subst (BlocksJudged (c.args.at + 6) c.args.many c.args.bytes.now) c.in_ok-t.was c.read_blocks.ensures in
    omega (arith, b.room)

pub state_fits-requires : goal.state_fits-requires
unfolding BlocksJudged
state_fits-requires c = let g = number_got partial_kind (read_partial c.args.i c.args.n) c.args.at c.args.bytes.now _
    (sym c.in-Some.is ∙ c.read_partial.ensures) in
    let b = subst (BlocksJudged (c.args.at + 6) c.args.many c.args.bytes.now) c.in_ok-t.was c.read_blocks.ensures in
    let few = tallied_few _ b.blocks b.tallied in (
      omega arith,
      omega arith,
      omega (arith, c.usize_to_u64.ensures),
      omega (arith, c.usize_to_u64.ensures, b.long, few.0),
      omega (arith, c.usize_to_u64.ensures, b.long, few.1),
    )

pub returns : goal.returns
unfolding BlocksJudged
returns c = let g = number_got partial_kind (read_partial c.args.i c.args.n) c.args.at c.args.bytes.now _
    (sym c.in-Some.is ∙ c.read_partial.ensures) in
    let b = subst (BlocksJudged (c.args.at + 6) c.args.many c.args.bytes.now) c.in_ok-t.was c.read_blocks.ensures in
    let m = ap (λ (k : ℕ). state_by c.args.state c.args.priority c.in_ok-t.t.requested (k - c.in_ok-t.t.free) k
    (leb 4 c.in-Some.flags))
    c.usize_to_u64.ensures in
    λ s p em es ep. partial_ends s c.args.i c.args.n c.args.at p c.args.bytes.now _ g c.args.many em _ b _ _ es ep
    (sym (c.state_fits.ensures ∙ m) ∙ not-false _ c.if-not-state_fits.false-raw)

pub returns-then-not-state_fits : goal.returns-then-not-state_fits
unfolding BlocksJudged
returns-then-not-state_fits c = let g = number_got partial_kind (read_partial c.args.i c.args.n) c.args.at c.args.bytes.now _
    (sym c.in-Some.is ∙ c.read_partial.ensures) in
    let b = subst (BlocksJudged (c.args.at + 6) c.args.many c.args.bytes.now) c.in_ok-t.was c.read_blocks.ensures in
    let m = ap (λ (k : ℕ). state_by c.args.state c.args.priority c.in_ok-t.t.requested (k - c.in_ok-t.t.free) k
    (leb 4 c.in-Some.flags))
    c.usize_to_u64.ensures in
    λ s p em es ep. partial_stops s c.args.i c.args.n c.args.at p c.args.bytes.now _ g c.args.many em _ b _ _ es ep
    (sym (c.state_fits.ensures ∙ m) ∙ not-true _ c.if-not-state_fits.true-raw)

pub returns-in_err-t : goal.returns-in_err-t
unfolding BlocksJudged
returns-in_err-t c = let g = number_got partial_kind (read_partial c.args.i c.args.n) c.args.at c.args.bytes.now _
    (sym c.in-Some.is ∙ c.read_partial.ensures) in
    let b = subst (BlocksJudged (c.args.at + 6) c.args.many c.args.bytes.now) c.in_err-t.was c.read_blocks.ensures in
    λ s p em es ep. rw (passed_on c.from_residual.result c.in_err-t.field-0.0 c.from_residual.ensures.1)
    (block_fails s c.args.i c.args.n c.args.at p c.args.bytes.now _ g c.args.many em _ b)
