-- `peer_word` meets its contract: the offset is in the words. Assumes nothing.
use mathlib.Core.Path.{ap}
use Prim.Native.Nat.{ℕ}
use native.Mathlib.Omega.{arith}
use lib.ListN.{get_or}
use Rattle.memory_layout.specs.Decode.{peer_word}
use Rattle.memory_layout.proofs.OffsetLaws.{peer_in}
use borrow.Author.Rules.{rules}
use Rattle.memory_layout.proofs.words.peer_word.Goals as goal

pub offset_bounds-words-at : goal.offset_bounds-words-at
offset_bounds-words-at c = omega (
  arith,
  c.peer_at-at.ensures,
  peer_in _ c.args.words.now c.requires.words_span
      c.args.p c.args.j (omega arith) (omega arith),
)

pub bounds-words-at : goal.bounds-words-at
bounds-words-at c = omega (
  arith,
  c.peer_at-at.ensures,
  peer_in _ c.args.words.now c.requires.words_span
      c.args.p c.args.j (omega arith) (omega arith),
)

pub returns : goal.returns
unfolding peer_word
returns c = ap (λ (k : ℕ). get_or c.args.words.now k 0) c.peer_at-at.ensures
