-- `lengths::fits` meets its contract: nothing wraps, and each test is one of the definition's. Assumes nothing.
use native.Mathlib.Omega.{arith}
use Rattle.memory_layout.proofs.OffsetLaws.{small}
use Rattle.check_memory.proofs.LengthLaws.{few_words, few_cells, by_lent}
use borrow.Author.Rules.{rules}
use Rattle.check_memory.proofs.lengths.fits.Goals as goal

pub overflow_mul-blocks : goal.overflow_mul-blocks
overflow_mul-blocks c = let m = small c.args.s 0 0 c.requires.sizes (omega arith) (omega arith) in omega arith

pub overflow_add-s-2 : goal.overflow_add-s-2
overflow_add-s-2 c = let m = small c.args.s 0 0 c.requires.sizes (omega arith) (omega arith) in omega arith

pub returns-then-words-s : goal.returns-then-words-s
returns-then-words-s c = few_words _ _ _ _ c.requires c.if-words-s.true

pub overflow_mul-blocks-2 : goal.overflow_mul-blocks-2
overflow_mul-blocks-2 c = let m = small c.args.s 0 0 c.requires.sizes
    (omega arith) (omega arith) in omega arith

pub overflow_add-s-3 : goal.overflow_add-s-3
overflow_add-s-3 c = let m = small c.args.s 0 0 c.requires.sizes
    (omega arith) (omega arith) in omega arith

pub returns-then-cells-s : goal.returns-then-cells-s
returns-then-cells-s c = few_cells _ _ _ _ c.requires c.if-words-s.false c.if-cells-s.true

pub returns : goal.returns
returns c = by_lent _ _ _ _ c.requires c.if-words-s.false
    c.if-cells-s.false
