-- `store_list` meets its contract. The loop's invariant: so many words are stored.
use Prim.Native.Nat.{◌+◌, ◌-◌, ◌≤◌}
use native.Mathlib.Omega.{arith}
use Rattle.image_lay.specs.Laid.{Laid}
use Rattle.image_lay.proofs.LaidLaws.{laid_start, laid_next, laid_end}
use Rattle.image_store.specs.Given.{place_word}
use Rattle.image_store.proofs.TailLaws.{place_read, word_at}
use borrow.Author.Rules.{rules}
use Rattle.image_store.proofs.list.store_list.Goals as goal

pub loop-j-init : goal.loop-j-init
loop-j-init c = (omega arith, laid_start _ _ _)

pub offset_bounds-ranks-u64_to_usize : goal.offset_bounds-ranks-u64_to_usize
offset_bounds-ranks-u64_to_usize c = omega (arith, c.requires.n_in_bounds.1, c.requires.n_in_bounds.2.low c.loop-j.j (omega arith), place_read _ _ c.loop-j.j _ c.read4-piece.ensures, c.u64_to_usize.ensures)

pub bounds-ranks-u64_to_usize : goal.bounds-ranks-u64_to_usize
bounds-ranks-u64_to_usize c = omega (arith, c.requires.n_in_bounds.0, c.requires.n_in_bounds.2.low c.loop-j.j (omega arith), place_read _ _ c.loop-j.j _ c.read4-piece.ensures, c.u64_to_usize.ensures)

pub list_word-requires : goal.list_word-requires
list_word-requires c = omega (arith, c.requires.n_in_bounds.1, c.requires.n_in_bounds.2.low c.loop-j.j (omega arith), place_read _ _ c.loop-j.j _ c.read4-piece.ensures)

pub loop-j-preserved : goal.loop-j-preserved
loop-j-preserved c = (
  omega arith,
  laid_next _ c.loop-j.j _ _ _ c.loop-j.invariant.1 (omega (arith, c.requires.n_in_bounds_2, c.requires.n_in_bounds.2.few)) _
      (word_at _ _ _ c.loop-j.j _ _ _ c.read4-piece.ensures c.u64_to_usize.ensures c.list_word.ensures),
)

pub returns : goal.returns
returns c = laid_end _ c.loop-j.j _ _ _ _ c.loop-j.invariant.1 (omega arith)
