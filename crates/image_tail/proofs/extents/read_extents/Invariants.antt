-- `read_extents` meets its contract. The loop's invariant: so many extents were read, and what is left decides.
use mathlib.Core.Path.{sym, ◌∙◌}
use Prim.Native.Nat.{◌-◌}
use native.Mathlib.Omega.{arith}
use borrow.Author.Tests.{not-true, not-false}
use Rattle.model.specs.Lists.{nth}
use Rattle.model.specs.image.Image.{body_length, extent_kind}
use Rattle.image_records.specs.Records.{number_in}
use Rattle.image_records.proofs.FoundLaws.{number_got, number_bad}
use Rattle.image_tail.proofs.ExtentLaws.{Reading, reading_start, reading_ends, reading_full, reading_fault, reading_breaks}
use Rattle.image_tail.proofs.ExtentLaws.{reading_next}
use borrow.Author.Rules.{rules}
use Rattle.image_tail.proofs.extents.read_extents.Given as goal

abbrev pub invariant-loop-k : goal.invariant-loop-k
invariant-loop-k l = Reading l.start l.limit l.bytes l.at l.k
