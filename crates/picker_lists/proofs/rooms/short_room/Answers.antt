-- `short_room` meets its contract. Assumes nothing.
use Rattle.check_memory.proofs.VerdictLaws.{geometry_read}
use Rattle.picker_lists.proofs.RoomLaws.{no_head, no_geometry, room_tested}
use borrow.Author.Rules.{rules}
use Rattle.picker_lists.proofs.rooms.short_room.Goals as goal

pub returns-then-words-lt16 : goal.returns-then-words-lt16
returns-then-words-lt16 c = no_head _ _ _ c.if-words-lt16.true

pub returns-then-not-valid_geometry : goal.returns-then-not-valid_geometry
returns-then-not-valid_geometry c = no_geometry _ _ _ c.if-words-lt16.false
    (geometry_read _ _ _ _ c.head_word.ensures c.head_word-2.ensures
    c.valid_geometry.ensures _
    c.if-not-valid_geometry.true)

pub shape_of-requires : goal.shape_of-requires
shape_of-requires c = record {
  in_bounds = c.if-words-lt16.false;
  words_value = (geometry_read _ _ _ _ c.head_word.ensures c.head_word-2.ensures
      c.valid_geometry.ensures _
      c.if-not-valid_geometry.false);
}

pub returns : goal.returns
returns c = room_tested _ _ _ c.if-words-lt16.false
    (geometry_read _ _ _ _ c.head_word.ensures
    c.head_word-2.ensures
    c.valid_geometry.ensures _
    c.if-not-valid_geometry.false)
    c.shape_of.result c.shape_of.ensures _ c.needed.ensures
