-- `store_list` meets its contract. The loop's invariant: so many words are stored.
use Prim.Native.Nat.{◌+◌, ◌-◌, ◌≤◌}
use native.Mathlib.Omega.{arith}
use Rattle.image_lay.specs.Laid.{Laid}
use Rattle.image_lay.proofs.LaidLaws.{laid_start, laid_next, laid_end}
use Rattle.image_store.specs.Given.{place_word}
use Rattle.image_store.proofs.TailLaws.{place_read, word_at}
use borrow.Author.Rules.{rules}
use Rattle.image_store.proofs.list.store_list.Given as goal

abbrev pub invariant-loop-j : goal.invariant-loop-j
invariant-loop-j l = (l.j ≤ l.many) × Laid (16 + l.n) l.j (place_word l.ranks l.at l.bytes) l.initial.words l.words
