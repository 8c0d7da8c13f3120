-- The definition of the piece picker: what every call answers and what it leaves behind, on a state of lists and numbers. The code is
-- proved equal to it, and the laws under `proofs` hold of it. Nothing here is assumed.
--
-- Names are the Rust's, in this language's spelling (`mark_as_writing` is `mark_as_writing`); docs/MAP.md finds the definition of each Rust
-- function. `Rattle.types` has the enums (queues, block states) and the bits of options and flags.
--
-- Reading order; each file stands on those before it, State alone on the two behind it:
--   State            the fields of a picker, exactly those of its image; limits, lengths, extents, a new picker
--   Bep3             pieces, blocks and the bit order, as BEP 3 has them; State takes its lengths from here
--   Lists            lists beyond the library: places, tests, walks that stop, turns that end
--   Options          the bits that a pick is asked with, those that it answers, the places of its counters
--   list/Order       the bucket of a piece; the bucket list after `add`, `remove`, `update` and `update_pieces`; draws
--   list/Listed      what that list is to be: each piece with a bucket once, buckets never falling
--   change/Partials  partials: found, opened, closed; their queues, and the state that their blocks give
--   change/Changes   the changes: availability, cursors, priorities, extents, marks
--   ask/Questions    the questions and their answers; totals are counted from the fields
--   pick/Blocks      what a pick is asked and has come to; which pieces may be picked, and what a piece adds
--   pick/Pick        the pick: partials, suggestions, sequential, rarest or random, backup blocks, end game
--   image/WellFormed the rules of a well-formed picker, record by record
--   image/Sound      the same field by field, as the laws use them
--   image/Image      the bytes of a picker, and the reader that accepts them or says where they are at fault
--   Memory           the lent memory: the lengths of its three buffers, and how long they have to be
--   Calls            calls with all that is lent to them, the table of refusals, a step, lists of calls
--   image/Program    the pick program: an image and a pick record in, an answer or a refusal out
-- For what the picker does read State, list/Order, change, pick and Calls; for terms 1 and 3 also image.
pub mod Lists
pub mod Bep3
pub mod State
pub mod Options
pub mod list
pub mod change
pub mod ask
pub mod pick
pub mod image
pub mod Memory
pub mod Calls
