-- What the reader of each record answers: the numbers of what the definition's reader finds, or that it finds a fault. Assumes nothing.
use Rattle.std.specs.Prelude.{ℕ, ◌≡◌, Bool, ◌&&◌, List, length, take, drop, leb, None, Option as Optional, Some}
use Rattle.std.proofs.Math.Option.{Option, none, some}
use Rattle.types.specs.Block.{block_state_number}
use Rattle.model.specs.State.{Block as BlockRecord, max_peers, has_peer}
use Rattle.model.specs.pick.Blocks.{PickRequest}
use Rattle.model.specs.image.Image.{body_length, pick_kind, Got, got, fault, field, last_block_state, peer_fits, judged}
use Rattle.model.specs.image.Program.{read_request}
use Rattle.image_records.specs.declared.block.Block.{Block}
use Rattle.image_records.specs.declared.pick.Pick.{Pick}

-- ---- the body of a record at a place
unfoldable pub body_at : (kind at : ℕ) (bytes : List ℕ) → List ℕ
body_at kind at bytes = take (body_length kind) (drop 1 (drop at bytes))

-- lent as a part of the bytes
pub record Body (kind at : ℕ) (bytes body : List ℕ) : Type 0 where
  pub is : body ≡ body_at kind at bytes
  pub long : length body ≡ body_length kind

-- ---- one number
-- under no rule
unfoldable pub number_in : (body : List ℕ) → Option ℕ
number_in body = some (field 0 4 body)

-- the number found
unfoldable pub number_step : (found : Got ℕ) → Optional ℕ
number_step (got n rest) = Some n
number_step (fault rest) = None

-- ---- a block
-- its numbers are in range; a peer of 64 bits is
unfoldable pub block_test : (state num_peers has peer : ℕ) → Bool
block_test state num_peers has peer = leb state last_block_state && (peer_fits has peer && leb num_peers max_peers)

-- the number of a peer, 0 where there is none
unfoldable pub peer_number : (peer : Option ℕ) → ℕ
peer_number none = 0
peer_number (some n) = n

-- its numbers
unfoldable pub block_numbers : (b : BlockRecord) → Block
block_numbers b =
    record {
      state = block_state_number b.state;
      num_peers = b.num_peers;
      has_peer = has_peer b.peer;
      peer = peer_number b.peer;
    }

-- the block found
unfoldable pub block_step : (found : Got BlockRecord) → Optional Block
block_step (got b rest) = Some (block_numbers b)
block_step (fault rest) = None

-- ---- a pick
-- the numbers of a request
unfoldable pub pick_numbers : (a : PickRequest) → Pick
pick_numbers a =
    record {
      options = a.options;
      wanted = a.wanted;
      contiguous = a.contiguous;
      peers = a.peers;
      has_peer = has_peer a.peer;
      peer = peer_number a.peer;
    }

-- the request found
unfoldable pub pick_step : (found : Got PickRequest) → Optional Pick
pick_step (got a rest) = Some (pick_numbers a)
pick_step (fault rest) = None

-- the same for every number of pieces, which only the bitfield of ones knows
abbrev pub PickJudged : (at : ℕ) (bytes : List ℕ) (r : Optional Pick) → Type 0
PickJudged at bytes r = (n : ℕ) → r ≡ pick_step (judged pick_kind (read_request n) (drop at bytes))
