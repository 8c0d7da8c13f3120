-- What the pick program answers to an image and a pick, in the definition's terms. Assumes nothing.
use Rattle.std.specs.Prelude.{ℕ, ◌%◌, ◌≤◌, ◌≡◌, cond, ◌&&◌, List, [], leb, replicate, Err, Ok, Result}
use Rattle.pick_pieces.specs.declared.pieces.Picked.{Picked}
use Rattle.std.proofs.Math.Option.{Option, none, some}
use Rattle.types.specs.declared.refusal.Refusal.{Refusal}
use Rattle.types.specs.declared.refusal.Refusal.TheVariants.{ShortMemory}
use Rattle.model.specs.Bep3.{bitfield_bytes}
use Rattle.model.specs.State.{Picker, pieces_in, blocks_per_piece}
use Rattle.model.specs.list.Order.{Draws}
use Rattle.model.specs.pick.Blocks.{PickRequest, PickState}
use Rattle.model.specs.pick.Pick.{pick_pieces}
use Rattle.model.specs.Calls.{do_pick_pieces, Answer, refused, picked, refusal}
use Rattle.model.specs.image.Image.{accepted, read_image}
use Rattle.memory_layout.specs.declared.shape.Shape.{Shape}
use Rattle.image_records.specs.declared.pick.Pick.{Pick}
use Rattle.ask_picker.specs.Asked.{Asked}
use Rattle.pick_state.specs.declared.request.PickRequest.{PickRequest as Request}
use Rattle.pick_state.specs.PickStates.{blocks_between}
use Rattle.pick_start.specs.Starting.{request_with}
use Rattle.pick_pieces.specs.Whole.{loops_of}

-- the blocks are those that stand in the output up to its end
abbrev pub answer_of : (out : List ℕ) (r : Result Picked Refusal) → Answer
answer_of out (Err why) = refused why
answer_of out (Ok p) = picked (blocks_between 0 p.end out) p.flags (loops_of p) p.used

-- ---- a pick
-- where it ended
unfoldable pub ended : (w : PickState) → Answer
ended w = picked w.out w.flags w.loops w.used

-- refused, or where it ended
unfoldable pub unless : (why : Option Refusal) (w : PickState) → Answer
unless none w = ended w
unless (some why) w = refused why

-- what a pick answers whose peer is a number of 64 bits
unfoldable pub pick_answered : (d : Picker) (a : PickRequest) (free : ℕ) (draws : Draws) → Answer
pick_answered d a free draws = unless (refusal d (do_pick_pieces a free draws)) (pick_pieces draws d a)

-- ---- what the program asks
-- the numbers of a pick record, for n pieces
unfoldable pub request_numbers : (p : Pick) (n : ℕ) → Request
request_numbers p n =
    record {
      options = record { 0 = p.options };
      wanted = p.wanted;
      contiguous = p.contiguous;
      peers = p.peers;
      has_peer = p.has_peer;
      peer = p.peer % 18446744073709551616;
      bits = n;
    }

-- a bitfield of ones, no suggestions
unfoldable pub request_ones : (p : Pick) (n : ℕ) → PickRequest
request_ones p n = request_with (request_numbers p n) (replicate (bitfield_bytes n) 255) []

-- the largest pick's output, every draw 0
unfoldable pub program_pick : (d : Picker) (p : Pick) → Answer
program_pick d p = pick_answered d (request_ones p (pieces_in d)) 4351 (replicate 4352 0)

-- 2 past the program's limits
unfoldable pub limited : (d : Picker) (p : Pick) → Answer
limited d p = cond (leb (pieces_in d) 64 && leb (blocks_per_piece d) 16) (program_pick d p) (refused ShortMemory)

-- ---- what stands
-- a picker of at most 64 pieces stands in the buffers
pub record Stored (live : ℕ) (rows words cells : List ℕ) : Type 0 where
  pub shape : Shape
  pub asked : Asked shape live rows words cells
  pub few : shape.pieces ≤ 64

-- the answer to the picker of an image
abbrev pub ImageTold : (bytes : List ℕ) (p : Pick) (out : List ℕ) (r : Result Picked Refusal) → Type 0
ImageTold bytes p out r = (d : Picker) → read_image bytes ≡ accepted d → answer_of out r ≡ limited d p
