-- `piece_word` meets its contract: the offset is in the words. Assumes nothing.
use mathlib.Core.Path.{ap}
use Prim.Native.Nat.{ℕ}
use native.Mathlib.Omega.{arith}
use lib.ListN.{get_or}
use Rattle.memory_layout.specs.Decode.{piece_word}
use Rattle.memory_layout.proofs.OffsetLaws.{piece_word_in}
use borrow.Author.Rules.{rules}
use Rattle.memory_layout.proofs.words.piece_word.Goals as goal

pub offset_bounds-words-at : goal.offset_bounds-words-at
offset_bounds-words-at c = omega (
  arith,
  c.piece_word_at-at.ensures,
  piece_word_in _ c.args.words.now c.requires.words_span
      c.args.f c.args.i (omega arith) (omega arith),
)

pub bounds-words-at : goal.bounds-words-at
bounds-words-at c = omega (
  arith,
  c.piece_word_at-at.ensures,
  piece_word_in _ c.args.words.now
      c.requires.words_span c.args.f c.args.i (omega arith)
      (omega arith),
)

pub returns : goal.returns
unfolding piece_word
returns c = ap (λ (k : ℕ). get_or c.args.words.now k 0) c.piece_word_at-at.ensures
