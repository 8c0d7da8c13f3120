-- `set_peer_word` meets its contract: the offset is in the words. Assumes nothing.
use mathlib.Core.Path.{ap}
use Prim.Native.Nat.{ℕ}
use native.Mathlib.Omega.{arith}
use lib.ListN.{set}
use Rattle.memory_layout.proofs.OffsetLaws.{peer_in}
use borrow.Author.Rules.{rules}
use Rattle.memory_layout.proofs.words.set_peer_word.Goals as goal

pub offset_bounds-words-at : goal.offset_bounds-words-at
offset_bounds-words-at c = omega (
  arith,
  c.peer_at-at.ensures,
  peer_in _ c.args.words.now c.requires.words_span
      c.args.p c.args.j (omega arith) (omega arith),
)

pub bounds-words-at : goal.bounds-words-at
bounds-words-at c = omega (
  arith,
  c.peer_at-at.ensures,
  peer_in _ c.args.words.now c.requires.words_span
      c.args.p c.args.j (omega arith) (omega arith),
)

pub returns : goal.returns
returns c = ap (λ (k : ℕ). set c.args.words.now k c.args.v) c.peer_at-at.ensures
