-- `store_partial` meets its contract: a row, then the blocks. Assumes nothing.
use mathlib.Core.Path.{refl, ◌∙◌}
use native.Mathlib.Omega.{arith}
use Rattle.memory_records.specs.Rows.{row_put}
use Rattle.memory_layout.proofs.OffsetLaws.{places_min}
use Rattle.image_columns.proofs.ColumnLaws.{flags_read}
use Rattle.image_columns.proofs.partial.store_partial.Goals as goal

pub usize_to_u32-requires-2 : goal.usize_to_u32-requires-2
usize_to_u32-requires-2 c = omega (arith, c.requires.i_lt_pieces.1, c.requires.spans.in_words.sizes.places, places_min c.args.s.pieces)

pub set_row-requires : goal.set_row-requires
set_row-requires c = (omega (arith, c.requires.i_lt_pieces.1, c.requires.spans.in_words.sizes.places, places_min c.args.s.pieces), c.requires.many_in_bounds.1)

pub returns : goal.returns
returns c = let f = c.usize_to_u32-flags.ensures ∙ c.u64_to_usize.ensures ∙ flags_read c.args.at _ c.args.bytes.now _ refl c.read1.ensures in
    record {
      row =
          c.set_row.ensures
          ∙ (λ t. row_put c.args.rows.now c.args.k
          (record { index = c.usize_to_u32.ensures t; info_idx = c.usize_to_u32-2.ensures t; flags = f t }));
      blocks = c.store_blocks.ensures;
    }
