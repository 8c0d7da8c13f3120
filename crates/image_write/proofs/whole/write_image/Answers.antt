-- `write_image` meets its contract: each part stands behind the one before it. Assumes nothing.
use mathlib.Core.Path.{◌≡◌, ◌∙◌}
use Rattle.model.specs.Lists.{nth}
use Rattle.model.specs.image.Image.{body_length}
use Rattle.memory_layout.proofs.OffsetLaws.{head_in}
use Rattle.image_write.proofs.WholeLaws.{lengths, parts_written}
use borrow.Author.Rules.{rules}
use native.Mathlib.Omega.{arith}
use Rattle.image_write.proofs.whole.write_image.Goals as goal

pub put_head_of-requires : goal.put_head_of-requires
put_head_of-requires c = let w = lengths _ _ _ _ _ c.requires.asked in
    (head_in _ _ c.requires.asked.stands.bounds.spans.in_words, omega (arith, c.requires.cells_in_bounds, w.whole))

pub overflow_add-head : goal.overflow_add-head
unfolding body_length nth
overflow_add-head c = let e : c.body_length-head.result ≡ 23 = c.body_length-head.ensures in omega arith

pub put_pieces-pieces-requires : goal.put_pieces-pieces-requires
unfolding body_length nth
put_pieces-pieces-requires c = let w = lengths _ _ _ _ _ c.requires.asked in
    let e : c.body_length-head.result ≡ 23 = c.body_length-head.ensures in
    record {
      spans = (c.requires.asked.stands.bounds.spans, c.requires.asked.stands.plain.pieces);
      pieces_in_bounds = omega (arith, c.requires.cells_in_bounds, w.whole, c.put_head_of.ensures.long);
    }

pub put_partials-partials-requires : goal.put_partials-partials-requires
unfolding body_length nth
put_partials-partials-requires c = let w = lengths _ _ _ _ _ c.requires.asked in
    let e : c.body_length-head.result ≡ 23 = c.body_length-head.ensures in
    record {
      asked = c.requires.asked;
      blocks_in_bounds = omega (arith, c.requires.cells_in_bounds, w.whole, w.pieces, c.put_head_of.ensures.long, c.put_pieces-pieces.ensures.put.long, c.put_pieces-pieces.ensures.place);
    }

pub put_extents-extents-requires : goal.put_extents-extents-requires
unfolding body_length nth
put_extents-extents-requires c = let w = lengths _ _ _ _ _ c.requires.asked in
    let e : c.body_length-head.result ≡ 23 = c.body_length-head.ensures in record {
      in_bounds = (head_in _ _ c.requires.asked.stands.bounds.spans.in_words, c.requires.asked.stands.bounds.recent_extents);
      words_in_bounds = omega (
        arith,
        c.requires.cells_in_bounds,
        w.whole,
        w.pieces,
        c.put_head_of.ensures.long,
        c.put_pieces-pieces.ensures.put.long,
        c.put_pieces-pieces.ensures.place,
        c.put_partials-partials.ensures.put.long,
        c.put_partials-partials.ensures.place,
      );
    }

pub put_list-requires : goal.put_list-requires
unfolding body_length nth
put_list-requires c = let w = lengths _ _ _ _ _ c.requires.asked in
    let e : c.body_length-head.result ≡ 23 = c.body_length-head.ensures in record {
      words_span = (c.requires.asked.stands.bounds.spans.in_words, c.requires.asked.stands.bounds.list);
      words_in_bounds = omega (
        arith,
        c.requires.cells_in_bounds,
        w.whole,
        w.pieces,
        w.extents,
        c.put_head_of.ensures.long,
        c.put_pieces-pieces.ensures.put.long,
        c.put_pieces-pieces.ensures.place,
        c.put_partials-partials.ensures.put.long,
        c.put_partials-partials.ensures.place,
        c.put_extents-extents.ensures.put.long,
        c.put_extents-extents.ensures.place,
      );
    }

pub shape_of-bytes : goal.shape_of-bytes
shape_of-bytes c = c.put_list.ensures.put.long ∙ c.put_extents-extents.ensures.put.long ∙ c.put_partials-partials.ensures.put.long
    ∙ c.put_pieces-pieces.ensures.put.long ∙ c.put_head_of.ensures.long

pub returns : goal.returns
unfolding body_length nth
returns c = let e : c.body_length-head.result ≡ 23 = c.body_length-head.ensures in
    parts_written _ _ _ _ _ c.requires.asked _ _ _ _ _ _ _ _ _ _ _ (omega arith) c.put_head_of.ensures c.put_pieces-pieces.ensures c.put_partials-partials.ensures
    c.put_extents-extents.ensures c.put_list.ensures
