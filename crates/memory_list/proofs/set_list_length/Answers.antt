-- `set_list_length` meets its contract. Assumes nothing.
use borrow.Author.Rules.{rules}
use Rattle.memory_list.proofs.set_list_length.Goals as goal

pub returns : goal.returns
returns c = rw (c.set_head_word-2.ensures, c.set_head_word.ensures, c.usize_to_u64.ensures)
