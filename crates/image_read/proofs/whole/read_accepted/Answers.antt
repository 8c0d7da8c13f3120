-- `read_accepted` meets its contract: lengths, then the image. Assumes nothing.
use mathlib.Core.Path.{sym, ◌∙◌}
use Rattle.memory_layout.specs.Good.{lengths}
use Rattle.image_pieces.proofs.HeadLaws.{head_got}
use Rattle.image_store.proofs.PartLaws.{head_found}
use Rattle.image_read.specs.Reading.{ImageTold}
use Rattle.image_read.proofs.ReadLaws.{short_told, room_told, read_told}
use borrow.Author.Rules.{rules}
use Rattle.image_read.proofs.whole.read_accepted.Goals as goal

pub unwrap-head-requires : goal.unwrap-head-requires
unwrap-head-requires c = head_found _ c.requires.0 _ c.read_head.ensures

pub returns-then-is_short : goal.returns-then-is_short
unfolding ImageTold lengths
returns-then-is_short c = let g = head_got c.args.bytes.now _ (sym c.unwrap-head.ensures ∙ c.read_head.ensures) in
    short_told c.args.lent c.args.bytes.now c.args.words.now c.args.cells.now _ g c.requires.0 _ (sym c.is_short.ensures ∙ c.if-is_short.true)

pub store_image-count-requires : goal.store_image-count-requires
unfolding lengths
store_image-count-requires c = let g = head_got c.args.bytes.now _ (sym c.unwrap-head.ensures ∙ c.read_head.ensures) in
    let t = sym c.is_short.ensures ∙ c.if-is_short.false in
    record {
      image = (c.requires.0, room_told c.args.lent c.args.bytes.now c.args.words.now c.args.cells.now _ g t);
      rows_len = c.requires.1;
    }

pub returns : goal.returns
unfolding ImageTold lengths
returns c = let g = head_got c.args.bytes.now _ (sym c.unwrap-head.ensures ∙ c.read_head.ensures) in
    let t = sym c.is_short.ensures ∙ c.if-is_short.false in
    read_told c.args.lent c.args.bytes.now c.args.words.now c.args.cells.now _ g c.requires.0 _ _ _ _ t c.store_image-count.ensures
