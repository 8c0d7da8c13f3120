-- `store_image` meets its contract: part by part. Assumes nothing.
use mathlib.Core.Path.{sym, ◌∙◌}
use Rattle.image_pieces.proofs.HeadLaws.{head_got, head_seeds}
use Rattle.image_store.proofs.PartLaws.{head_found}
use Rattle.image_store.proofs.RankLaws.{cells_ranked, ranks_are}
use Rattle.image_store.proofs.StandLaws.{head_long, head_room, mid_room, mid_valid, shaped_parts, words_wide, cells_wide, begun}
use Rattle.image_store.proofs.StandLaws.{partials_got, tail_there, few_live, tail_room, standing}
use native.Mathlib.Omega.{arith}
use borrow.Author.Rules.{rules}
use Rattle.image_store.proofs.whole.store_image.Goals as goal

pub unwrap-head-requires : goal.unwrap-head-requires
unwrap-head-requires c = head_found _ c.requires.image.0 _ c.read_head.ensures

pub store_head-requires : goal.store_head-requires
store_head-requires c = let g = head_got c.args.bytes.now _ (sym c.unwrap-head.ensures ∙ c.read_head.ensures) in
    head_room c.args.bytes.now c.args.words.now c.args.cells.now c.requires.image.0.picker c.requires.image.0.is c.requires.image.1 _ g

pub shape_of-s-requires : goal.shape_of-s-requires
shape_of-s-requires c = let g = head_got c.args.bytes.now _ (sym c.unwrap-head.ensures ∙ c.read_head.ensures) in
    record {
      in_bounds = mid_room c.args.bytes.now c.args.words.now c.args.cells.now c.requires.image.0.picker c.requires.image.0.is c.requires.image.1 _ g _ c.store_head.ensures;
      words_value = mid_valid c.args.bytes.now
          c.args.words.now c.args.cells.now c.requires.image.0.picker c.requires.image.0.is c.requires.image.1 _ g _ c.store_head.ensures;
    }

pub store_pieces-requires : goal.store_pieces-requires
store_pieces-requires c = let g = head_got c.args.bytes.now _ (sym c.unwrap-head.ensures ∙ c.read_head.ensures) in
    record {
      n_bound = (
        c.shape_of-s.ensures.sizes.many,
        (shaped_parts c.args.bytes.now c.args.words.now c.args.cells.now c.requires.image.0.picker c.requires.image.0.is
            c.requires.image.1 _ g _ c.store_head.ensures _ c.shape_of-s.ensures).told.room,
      );
      n_in_bounds = (
        omega (arith, words_wide c.args.bytes.now c.args.words.now c.args.cells.now c.requires.image.0.picker c.requires.image.0.is c.requires.image.1 _ g _ c.store_head.ensures _ c.shape_of-s.ensures),
        cells_wide c.args.bytes.now c.args.words.now c.args.cells.now c.requires.image.0.picker c.requires.image.0.is c.requires.image.1 _ g _ c.store_head.ensures _ c.shape_of-s.ensures,
      );
    }

pub rank_pieces-requires : goal.rank_pieces-requires
rank_pieces-requires c = let g = head_got c.args.bytes.now _ (sym c.unwrap-head.ensures ∙ c.read_head.ensures) in
    let b = begun c.args.bytes.now c.args.words.now c.args.cells.now c.requires.image.0.picker c.requires.image.0.is c.requires.image.1 _ g _ c.store_head.ensures _ c.shape_of-s.ensures _ _ c.store_pieces.ensures in record {
      cells_span = (b.spans.in_cells, cells_ranked _ _ _ _ _ _ c.store_pieces.ensures b.told);
      seeds_bound = (omega (arith, head_seeds _ g.headed.ok), omega (arith, c.shape_of-s.ensures.sizes.many));
    }

pub store_partials-w-requires : goal.store_partials-w-requires
store_partials-w-requires c = let g = head_got c.args.bytes.now _ (sym c.unwrap-head.ensures ∙ c.read_head.ensures) in
    record {
      begun = (
        begun c.args.bytes.now c.args.words.now c.args.cells.now c.requires.image.0.picker c.requires.image.0.is c.requires.image.1 _ g _ c.store_head.ensures _ c.shape_of-s.ensures _ _ c.store_pieces.ensures,
        partials_got c.args.bytes.now c.args.words.now c.args.cells.now c.requires.image.0.picker c.requires.image.0.is c.requires.image.1 _ g _ c.store_head.ensures _ c.shape_of-s.ensures _ _ c.store_pieces.ensures,
      );
      rows_len = c.requires.rows_len;
    }

pub store_tail-requires : goal.store_tail-requires
store_tail-requires c = let g = head_got c.args.bytes.now _ (sym c.unwrap-head.ensures ∙ c.read_head.ensures) in
    record {
      n_in_bounds = (
        omega (arith, c.shape_of-s.ensures.sizes.many, c.rank_pieces.ensures.long),
        c.shape_of-s.ensures.sizes.many,
        tail_there c.args.bytes.now c.args.words.now c.args.cells.now c.requires.image.0.picker c.requires.image.0.is c.requires.image.1 _ g _ c.store_head.ensures _ c.shape_of-s.ensures _ _ c.store_pieces.ensures _ _ _ _ _ c.store_partials-w.ensures,
      );
      n_in_bounds_2 = (
        tail_room c.args.bytes.now c.args.words.now c.args.cells.now c.requires.image.0.picker c.requires.image.0.is c.requires.image.1 _ g _ c.store_head.ensures _ c.shape_of-s.ensures _ _ c.store_pieces.ensures _ _ _ _ _ c.store_partials-w.ensures,
        few_live c.args.bytes.now c.args.words.now c.args.cells.now c.requires.image.0.picker c.requires.image.0.is c.requires.image.1 _ g _ c.store_head.ensures _ c.shape_of-s.ensures _ _ c.store_pieces.ensures _ _ _ _ _ c.store_partials-w.ensures,
      );
    }

pub shape_of-words : goal.shape_of-words
shape_of-words c = let g = head_got c.args.bytes.now _ (sym c.unwrap-head.ensures ∙ c.read_head.ensures) in
    c.store_tail.ensures.long ∙ c.store_partials-w.ensures.moved.words_long ∙ c.store_pieces.ensures.words_long
    ∙ head_long _ c.args.words.now _ (head_room c.args.bytes.now c.args.words.now c.args.cells.now c.requires.image.0.picker c.requires.image.0.is c.requires.image.1 _ g)
    c.store_head.ensures

pub returns : goal.returns
returns c = let g = head_got c.args.bytes.now _ (sym c.unwrap-head.ensures ∙ c.read_head.ensures) in
    let rs = ranks_are _ _ _ _ _ _ c.store_pieces.ensures _ _ _ c.rank_pieces.ensures in
    λ p e. standing c.args.bytes.now c.args.words.now c.args.cells.now p e c.requires.image.1 _ g _ c.store_head.ensures _ c.shape_of-s.ensures _ _ c.store_pieces.ensures _ _ _ _ _ c.store_partials-w.ensures _ _ rs c.store_tail.ensures
