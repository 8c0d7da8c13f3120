-- `aq_passed_hash_check` asks what `passed_hash_check` asks, and hands its answer on as a kind and a number. Assumes nothing.
use borrow.Author.Rules.{rules}
use Rattle.link_piece_questions.proofs.flags.aq_passed_hash_check.Goals as goal

pub returns : goal.returns
returns c = rw c.from.ensures c.passed_hash_check.ensures
