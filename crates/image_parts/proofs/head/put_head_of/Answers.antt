-- `put_head_of` meets its contract. Assumes nothing.
use Rattle.image_parts.proofs.RecordMeanings.{head_put}
use Rattle.image_parts.proofs.head.put_head_of.Goals as goal

pub returns : goal.returns
returns c = head_put _ _ _ _ _ _ _ _ _ c.head_word.ensures c.head_word-2.ensures
    c.head_word-3.ensures c.head_word-4.ensures c.head_word-5.ensures
    c.head_word-6.ensures c.put_head.ensures
