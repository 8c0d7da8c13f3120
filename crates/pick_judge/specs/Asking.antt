-- What the public pick is asked, in the definition's terms, and what its judge says. Assumes nothing.
use Rattle.std.specs.Prelude.{ℕ, ◌%◌, ◌≤◌, ◌≡◌, Bool, true, not, ◌&&◌, List, leb, length, Result, ⊤}
use Rattle.types.specs.declared.refusal.Refusal.{Refusal}
use Rattle.types.specs.Piece.{number_of}
use Rattle.types.specs.Bits.{meets}
use Rattle.types.specs.Peer.{named_peer}
use Rattle.model.specs.Lists.{len}
use Rattle.model.specs.State.{Picker, pieces_in}
use Rattle.model.specs.Options.{rarest_first, sequential}
use Rattle.model.specs.pick.Blocks.{PickRequest}
use Rattle.model.specs.Calls.{Action, refusal, request_fits}
use Rattle.memory_layout.specs.declared.shape.Shape.{Shape}
use Rattle.pick_state.specs.declared.request.PickRequest.{PickRequest as Request}
use Rattle.pick_start.specs.Starting.{request_with}
use Rattle.picker_calls.specs.Outcomes.{judged}
use Rattle.pick_judge.specs.declared.arguments.PickInput.{PickInput}

-- ---- what is asked
-- the definition's request: a negative number is past all that there can be
unfoldable pub request_asked : (a : PickInput) (bytes suggestions : List ℕ) → PickRequest
request_asked a bytes suggestions =
    record {
      options = a.options.0;
      wanted = number_of a.num_blocks;
      contiguous = number_of a.prefer_contiguous_blocks;
      peers = number_of a.num_peers;
      peer = named_peer a.has_peer a.peer;
      bits = a.bits;
      bytes = bytes;
      suggestions = suggestions;
    }

-- the same in the code's numbers
unfoldable pub request_numbers : (a : PickInput) → Request
request_numbers a =
    record {
      options = a.options;
      wanted = number_of a.num_blocks;
      contiguous = number_of a.prefer_contiguous_blocks;
      peers = number_of a.num_peers;
      has_peer = a.has_peer;
      peer = a.peer % 18446744073709551616;
      bits = a.bits;
    }

-- ---- the judge
-- N is 1 to 2,048, P and the peers are not too many, and the list is walked one way
unfoldable pub numbers_fit : (q : Request) → Bool
numbers_fit q =
    (((leb 1 q.wanted && leb q.wanted 2048) && leb q.contiguous 2048) && leb q.peers 1000)
    && not (meets q.options.0 rarest_first && meets q.options.0 sequential)

-- whether 11 lets the request pass, for any picker of these pieces and any lists of these lengths
pub record RequestSays (s : Shape) (q : Request) (many suggested : ℕ) (r : Bool) : Type 0 where
  pub is : (d : Picker) → pieces_in d ≡ s.pieces → (bytes suggestions : List ℕ) → length bytes ≡ many → len suggestions ≡ suggested
      → r ≡ request_fits d (request_with q bytes suggestions)
  pub few : r ≡ true → (q.wanted ≤ 2048) × (q.contiguous ≤ 2048)

-- the definition's refusal, of any picker of these pieces
pub record PickJudged (s : Shape) (a : Action) (r : Result ⊤ Refusal) : Type 0 where
  pub is : (d : Picker) → pieces_in d ≡ s.pieces → judged r ≡ refusal d a
