-- `read_image` meets its contract: the core's rows are put into the records. Assumes nothing.
use mathlib.Core.Path.{sym, subst}
use native.Mathlib.Omega.{arith}
use Rattle.std.specs.Prelude.{Ok, Result}
use Rattle.memory_records.specs.Rows.{packed}
use Rattle.types.specs.declared.refusal.Refusal.{Refusal}
use Rattle.image_pieces.proofs.PassedOn.{passed_on}
use Rattle.picker_images.specs.Answers.{why_not_read, count_read}
use Rattle.picker_images.specs.Making.{ReadDone}
use borrow.Author.Rules.{rules}
use Rattle.picker_images.proofs.reading.read_image.Goals as goal

pub returns-in_err-count : goal.returns-in_err-count
unfolding packed
returns-in_err-count c = let r = rw c.in_err-count.was at c.read_image_core.ensures in
    rw (passed_on c.from_residual.result c.in_err-count.field-0.0 c.from_residual.ensures.1)
    (r.done _ (sym c.unpack-lent.ensures.0))

pub pack-requires : goal.pack-requires
pack-requires c = let r = rw c.in_ok-count.was at c.read_image_core.ensures in
    let f = r.fits _ (sym c.unpack-lent.ensures.0) in
    (f.0, f.1, search (rules, arith))

pub returns : goal.returns
returns c = let r = rw c.in_ok-count.was at c.read_image_core.ensures in
    rw c.pack.ensures (r.done _ (sym c.unpack-lent.ensures.0))
