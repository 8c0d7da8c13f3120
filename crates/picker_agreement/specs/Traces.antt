-- Lists of public calls on lent memory, each related to the next by what the calls' contracts say alone. Assumes nothing.
use Rattle.std.specs.Prelude.{◌≡◌, List, [], ◌∷◌, ◌++◌, ℕ, ◌-◌, ◌<◌, ℤ, length, get_or, take, drop}
use Rattle.std.proofs.Math.Option.{none}
use Rattle.model.specs.list.Order.{Draws}
use Rattle.model.specs.ask.Questions.{Question}
use Rattle.model.specs.pick.Blocks.{PickRequest}
use Rattle.model.specs.Calls.{Action, question, do_pick_pieces, Call, Answer}
use Rattle.memory_records.specs.Records.{no_record}
use Rattle.picker_calls.specs.Calling.{Lent, answer_on, Called}
use Rattle.picker_calls.specs.Starting.{lengths_on, NewCalled, ReadCalled, wrote, ImageCalled}
use Rattle.picker_output.specs.Picking.{PickAnswer, pick_answer, PickCalled}

-- ---- what a call is lent
-- buffers of any lengths, each with the contents of m as far as both go; what they hold beyond m is anything
pub record LentFrom (m entry : Lent) : Type 0 where
  pub words : (k : ℕ) → k < length m.words → k < length entry.words → get_or entry.words k 0 ≡ get_or m.words k 0
  pub cells : (k : ℕ) → k < length m.cells → k < length entry.cells → get_or entry.cells k 0 ≡ get_or m.cells k 0
  pub partials : (k : ℕ) → k < length m.partials → k < length entry.partials
      → get_or entry.partials k no_record ≡ get_or m.partials k no_record

-- the memory after a call: what the call left, and behind it the part of m that it was not lent
unfoldable pub put_back : (exit m : Lent) → Lent
put_back exit m =
    record {
      words = exit.words ++ drop (length exit.words) m.words;
      cells = exit.cells ++ drop (length exit.cells) m.cells;
      partials = exit.partials ++ drop (length exit.partials) m.partials;
    }

-- ---- a call
-- by its contract: a question only reads the buffers; a change; a pick, whose output with its contents is the call's own argument
pub data Public : (entry : Lent) (a : Action) (exit : Lent) (r : Answer) → Type 0 where
  asked : {m : Lent} {q : Question} {r : Answer} → r ≡ answer_on m (question q) → Public m (question q) m r
  changed : {entry exit : Lent} {a : Action} {r : Answer} → Called entry a exit r → Public entry a exit r
  picked : {entry exit : Lent} {request : PickRequest} {draws : Draws} {start : ℕ} {out out' : List ℕ} {r : PickAnswer}
      → PickCalled entry request draws start out exit out' r
      → Public entry (do_pick_pieces request (length out - start) draws) exit (pick_answer start out' r)

-- ---- lists of calls
-- Memory m is z after the calls, with their answers. Each call gets the picker as the one before left it, in buffers of any lengths, and
-- nobody else writes it meanwhile
pub data Trace : Lent → List Call → List Answer → Lent → Type 0 where
  end : {m : Lent} → Trace m [] [] m
  next : {m entry exit z : Lent} {a : Action} {r : Answer} {calls : List Call} {rs : List Answer} → LentFrom m entry → Public entry a exit r
      → Trace (put_back exit m) calls rs z
      → Trace m (record { lent = lengths_on entry; action = a } ∷ calls) (r ∷ rs) z

-- memory as an accepted `new` or reading leaves it
pub data StartedOn : Lent → Type 0 where
  from_new : {entry exit : Lent} (total_size piece_size : ℤ) → NewCalled entry total_size piece_size exit none → StartedOn exit
  from_image : {entry exit : Lent} (bytes : List ℕ) → ReadCalled entry bytes exit none → StartedOn exit

-- and then after any calls
pub data ReachedOn : Lent → Type 0 where
  after : {m z : Lent} {calls : List Call} {rs : List Answer} → StartedOn m → Trace m calls rs z → ReachedOn z

-- ---- images
-- the bytes are an image that the public call gave of the picker in m
pub record ImageOf (m : Lent) (bytes : List ℕ) : Type 0 where
  pub entry : Lent
  pub before : List ℕ
  pub after : List ℕ
  pub many : ℕ
  pub lent : LentFrom m entry
  pub called : ImageCalled entry before after (wrote many)
  pub is : bytes ≡ take many after
