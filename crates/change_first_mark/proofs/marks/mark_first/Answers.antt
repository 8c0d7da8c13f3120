-- `mark_first` meets its contract. Assumes nothing.
use mathlib.Core.Path.{refl}
use Rattle.change_blocks.proofs.SetLaws.{put_places}
use Rattle.change_first_mark.proofs.FirstLaws.{first_beside, first_tally, first_left, first_set}
use Rattle.change_first_mark.proofs.marks.mark_first.Goals as goal

pub get_block-b-requires : goal.get_block-b-requires
get_block-b-requires c = record {
  spans = c.requires.held_beside.works.bounds.spans;
  p_lt_places = put_places c.args.s c.args.i _ c.args.j c.args.words.now c.args.cells.now
      (first_beside c.args.s c.args.i c.args.o c.args.j _ c.u32_to_usize-p.ensures c.args.words.now c.args.cells.now c.requires.held_beside.block
      c.requires.held_beside);
}

pub returns-then-b : goal.returns-then-b
returns-then-b c = first_left c.args.s c.args.i c.args.o c.args.j _ c.u32_to_usize-p.ensures c.args.words.now c.args.cells.now c.requires.held_beside.block
    c.get_block-b.result c.get_block-b.ensures _ c.args.x c.if-b.true _ refl refl refl

pub retally-t-requires : goal.retally-t-requires
retally-t-requires c = let all = first_tally c.args.s c.args.i c.args.o c.args.j _ c.u32_to_usize-p.ensures c.args.words.now c.args.cells.now c.requires.held_beside.block
    c.get_block-b.result c.get_block-b.ensures c.requires.held_beside in
    record {
      bound = all.0;
      bound_2 = all.1;
    }

pub set_block-next-requires : goal.set_block-next-requires
set_block-next-requires c = record {
  partial_beside = first_beside c.args.s c.args.i c.args.o c.args.j _ c.u32_to_usize-p.ensures c.args.words.now c.args.cells.now c.requires.held_beside.block
      c.requires.held_beside;
  i_lt_pieces = c.requires.i_lt_pieces;
  state_bound = c.requires.state_bound;
  used_in_bounds = c.requires.used_in_bounds;
}

pub returns : goal.returns
returns c = first_set c.args.s c.args.i c.args.o c.args.j _ c.u32_to_usize-p.ensures c.args.words.now c.args.cells.now c.requires.held_beside.block
    c.get_block-b.result c.get_block-b.ensures _ c.args.x c.if-b.false c.requires.state_bound _ c.retally-t.ensures _ _
    c.set_block-next.result c.set_block-next.ensures _ refl refl refl
