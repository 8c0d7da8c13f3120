-- `take_place` meets its contract: each way out by one law. Assumes nothing.
use Rattle.std.specs.Prelude.{None}
use mathlib.Core.Path.{◌≡◌, sym, ◌∙◌, refl}
use native.Mathlib.Omega.{arith}
use Rattle.model.specs.image.Image.{place_kind}
use Rattle.image_records.specs.Records.{number_in}
use Rattle.image_records.proofs.FoundLaws.{number_got, number_bad}
use Rattle.image_tail.proofs.PlaceLaws.{no_place, past_pieces, too_low, taken}
use borrow.Author.Rules.{rules}
use Rattle.image_tail.proofs.order.take_place.Goals as goal

pub returns-in_err-i : goal.returns-in_err-i
returns-in_err-i c = let gone : c.from_residual.result ≡ None = grind arith in
    rw gone (no_place _ _ c.args.at c.args.bytes.now _
    (number_bad place_kind number_in c.args.at c.args.bytes.now (sym c.in_err-i.was ∙ c.read_number.ensures)))

pub returns-then-usize_to_u64-i : goal.returns-then-usize_to_u64-i
returns-then-usize_to_u64-i c = let g = number_got place_kind number_in c.args.at c.args.bytes.now _ (sym c.in_ok-i.was ∙ c.read_number.ensures) in
    past_pieces _ _ c.args.at c.args.bytes.now _ _ g _ c.usize_to_u64.ensures c.if-usize_to_u64-i.true

pub returns-then-rank-last : goal.returns-then-rank-last
returns-then-rank-last c = let g = number_got place_kind number_in c.args.at c.args.bytes.now _ (sym c.in_ok-i.was ∙ c.read_number.ensures) in
    too_low _ _ c.args.at c.args.bytes.now _ _ g _ c.u64_to_usize-piece.ensures (omega (arith, c.usize_to_u64.ensures)) _
    refl c.if-rank-last.true

pub returns : goal.returns
returns c = let g = number_got place_kind number_in c.args.at c.args.bytes.now _ (sym c.in_ok-i.was ∙ c.read_number.ensures) in
    taken _ _ c.args.at c.args.bytes.now _ _ g _ c.u64_to_usize-piece.ensures (omega (arith, c.usize_to_u64.ensures)) _
    refl c.if-rank-last.false
