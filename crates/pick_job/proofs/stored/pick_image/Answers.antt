-- `pick_image` meets its contract. Assumes nothing.
use mathlib.Core.Path.{refl, sym, ap, ◌∙◌}
use borrow.Author.Tests.{not-true, not-false}
use Rattle.model.specs.State.{Picker}
use Rattle.image_pieces.proofs.HeadLaws.{head_got}
use Rattle.image_store.proofs.PartLaws.{head_there}
use Rattle.pick_job.specs.Jobs.{program_pick}
use Rattle.pick_job.proofs.StoredLaws.{past_told, within_told, few_pieces, room_there, own_is, stored_here}
use borrow.Author.Rules.{rules}
use Rattle.pick_job.proofs.stored.pick_image.Goals as goal

pub returns-in_default : goal.returns-in_default
returns-in_default c = λ d e. head_there _ c.requires.0 (sym c.in_default.is ∙ c.read_head.ensures)

pub returns-then-not-within_limits : goal.returns-then-not-within_limits
returns-then-not-within_limits c = let g = head_got c.args.image.now _ (sym c.in-Some.is ∙ c.read_head.ensures) in
    λ d e. past_told c.args.image.now _ g d e c.args.p (sym c.within_limits.ensures ∙ not-true _ c.if-not-within_limits.true-raw)

pub store_image-live-requires : goal.store_image-live-requires
store_image-live-requires c = let g = head_got c.args.image.now _ (sym c.in-Some.is ∙ c.read_head.ensures) in
    let f = sym c.within_limits.ensures ∙ not-false _ c.if-not-within_limits.false-raw in
    record {
      image = (c.requires.0, room_there c.args.image.now _ g f);
      rows_len = refl;
    }

pub pick_stored-requires : goal.pick_stored-requires
pick_stored-requires c = let g = head_got c.args.image.now _ (sym c.in-Some.is ∙ c.read_head.ensures) in
    let f = sym c.within_limits.ensures ∙ not-false _ c.if-not-within_limits.false-raw in (
      stored_here (c.store_image-live.ensures c.requires.0.picker c.requires.0.is) c.rows-2-1.given
          (few_pieces c.args.image.now _ g c.requires.0.picker c.requires.0.is f).0,
      c.requires.1,
      c.requires.2,
    )

pub returns : goal.returns
returns c = let g = head_got c.args.image.now _ (sym c.in-Some.is ∙ c.read_head.ensures) in
    let f = sym c.within_limits.ensures ∙ not-false _ c.if-not-within_limits.false-raw in
    λ d e.
    c.pick_stored.ensures
    ∙ ap (λ (x : Picker). program_pick x c.args.p) (own_is (c.store_image-live.ensures d e))
    ∙ within_told c.args.image.now _ g d e c.args.p f
