-- `put_info` meets its contract. Assumes nothing.
use Rattle.ask_queue.proofs.InfoRecords.{info_row}
use native.Mathlib.Omega.{arith}
use borrow.Author.Rules.{rules}
use Rattle.ask_queue.proofs.put_info.Goals as goal

pub overflow_mul-n : goal.overflow_mul-n
overflow_mul-n c = omega (arith, c.requires)

pub put_words-requires : goal.put_words-requires
put_words-requires c = omega (arith, c.requires)

pub shape_of-out : goal.shape_of-out
shape_of-out c = c.put_words.ensures.long

pub returns : goal.returns
returns c = info_row c.args.x _ _ _ _ _ _ _ _ _ _ c.usize_to_u64.ensures c.u16_to_u64.ensures c.bit_of.ensures
    c.u16_to_u64-2.ensures
    c.bit_of-2.ensures c.u16_to_u64-3.ensures c.bit_of-3.ensures c.put_words.ensures
