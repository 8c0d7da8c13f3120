-- `pick_pieces` meets its contract. Assumes nothing.
use Prim.Native.Nat.{ℕ}
use native.Mathlib.Omega.{arith}
use lib.ListN.{length-replicate}
use borrow.Author.Rules.{rules}
use Rattle.pick_pieces.proofs.pieces.pick_pieces.Goals as goal

pub pick_with-requires : goal.pick_with-requires
pick_with-requires c = record {
  picks = c.requires.picks;
  counts_held = c.requires.counts_held;
  pick_room = c.requires.pick_room;
  wanted_in_bounds = omega (arith, c.if-q-le64.true, length-replicate {A = ℕ} 320 0);
}

pub shape_of-words-then-q-le64 : goal.shape_of-words-then-q-le64
shape_of-words-then-q-le64 c = c.pick_with.ensures.pick_left.words_kept.long

pub shape_of-out-then-q-le64 : goal.shape_of-out-then-q-le64
shape_of-out-then-q-le64 c = c.pick_with.ensures.pick_gave.long

pub returns-then-q-le64 : goal.returns-then-q-le64
returns-then-q-le64 c = record {
  pick_gave = c.pick_with.ensures.pick_gave;
  pick_left = c.pick_with.ensures.pick_left;
}

pub pick_with-requires-2 : goal.pick_with-requires-2
pick_with-requires-2 c = record {
  picks = c.requires.picks;
  counts_held = c.requires.counts_held;
  pick_room = c.requires.pick_room;
  wanted_in_bounds = omega (arith, c.requires.pick_room.wanted, length-replicate {A = ℕ} 2304 0);
}

pub shape_of-words : goal.shape_of-words
shape_of-words c = c.pick_with-2.ensures.pick_left.words_kept.long

pub shape_of-out : goal.shape_of-out
shape_of-out c = c.pick_with-2.ensures.pick_gave.long

pub returns : goal.returns
returns c = record {
  pick_gave = c.pick_with-2.ensures.pick_gave;
  pick_left = c.pick_with-2.ensures.pick_left;
}
