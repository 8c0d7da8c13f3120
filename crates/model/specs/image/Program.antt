-- The pick program of document 01: an image and one pick record, a bitfield of ones, every draw 0. Assumes nothing.
use Rattle.std.specs.Prelude.{ℕ, ◌+◌, cond, ◌&&◌, List, [], replicate, leb}
use Rattle.std.proofs.Math.Option.{Option}
use Rattle.types.specs.declared.refusal.Refusal.TheVariants.{ShortMemory, IllFormedImage}
use Rattle.model.specs.Lists.{len}
use Rattle.model.specs.Bep3.{bitfield_bytes}
use Rattle.model.specs.State.{Picker, max_wanted, max_contiguous, spare_output, min_draws, pieces_in, blocks_per_piece}
use Rattle.model.specs.pick.Blocks.{PickRequest}
use Rattle.model.specs.image.Image.{pick_kind, Reader, ret, ◌>>=◌, field, judged, obeying, peer_fits, peer_of, Read, accepted, fault_at}
use Rattle.model.specs.image.Image.{whole, get_picker}
use Rattle.model.specs.Calls.{Action, do_pick_pieces, Answer, refused, unless_refused, refusal}

-- ---- the pick record
-- options, N, P, peers, peer; the bitfield has a one for each of n pieces
unfoldable pub request_of : (n : ℕ) (b : List ℕ) → PickRequest
request_of n b =
    record {
      options = field 0 2 b;
      wanted = field 2 2 b;
      contiguous = field 4 2 b;
      peers = field 6 2 b;
      peer = peer_of (field 8 1 b) (field 9 8 b);
      bits = n;
      bytes = replicate (bitfield_bytes n) 255;
      suggestions = [];
    }

-- has-peer and peer must fit
unfoldable pub read_request : (n : ℕ) (b : List ℕ) → Option PickRequest
read_request n b = obeying (peer_fits (field 8 1 b) (field 9 8 b)) (request_of n b)

-- an image and a pick record
pub record Job : Type 0 where
  pub picker : Picker
  pub ask : PickRequest

-- and nothing between
unfoldable pub get_job : Reader Job
get_job = do
  s ← get_picker
  a ← judged pick_kind (read_request (pieces_in s))
  ret (record { picker = s; ask = a })

-- ---- what the program answers
-- it lends what the largest pick needs
unfoldable pub pick_of : (a : PickRequest) → Action
pick_of a = do_pick_pieces a (max_wanted + max_contiguous + spare_output) (replicate min_draws 0)

-- the program's own limits, of pieces and of the blocks of one
abbrev pub program_pieces : ℕ
program_pieces = 64

abbrev pub program_blocks : ℕ
program_blocks = 16

-- 2 past them, then what the pick answers
unfoldable pub job_answer : (x : Job) → Answer
job_answer x =
    cond (leb (pieces_in x.picker) program_pieces && leb (blocks_per_piece x.picker) program_blocks)
    (unless_refused (refusal x.picker (pick_of x.ask)) x.picker (pick_of x.ask)).answer
    (refused ShortMemory)

-- what was read, or a fault
unfoldable pub program_answer : (read : Read Job) → Answer
program_answer (accepted x) = job_answer x
program_answer (fault_at k) = refused (IllFormedImage k)

-- the answer to the bytes on standard input. A refusal is printed as its number, with the place of the fault for 13: `refusal_number` and
-- `refusal_values`
unfoldable pub program : (bs : List ℕ) → Answer
program bs = program_answer (whole (len bs) (get_job bs))
