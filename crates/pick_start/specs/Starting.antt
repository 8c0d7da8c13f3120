-- How a pick begins, as the code's numbers mean it. Assumes nothing.
use Rattle.std.specs.Prelude.{ℕ, ◌≡◌, Bool, cond, List, ltb}
use Rattle.types.specs.Bits.{union}
use Rattle.types.specs.Peer.{named_peer}
use Rattle.model.specs.Options.{prioritize_partials, partial_ratio, prefer_contiguous}
use Rattle.model.specs.pick.Blocks.{PickRequest}
use Rattle.model.specs.pick.Pick.{is_forced}
use Rattle.memory_layout.specs.declared.shape.Shape.{Shape}
use Rattle.memory_rows.specs.Lookup.{LiveRows, picker_in}
use Rattle.pick_state.specs.declared.numbers.PickNumbers.{PickNumbers}
use Rattle.pick_state.specs.declared.request.PickRequest.{PickRequest as Request}
use Rattle.pick_state.specs.PickStates.{with_flags}

-- ---- the forcing rule
-- beside any words: what the definition says of a request with these peers
pub record ForcedSays (s : Shape) (live : ℕ) (rows cells : List ℕ) (peers : ℕ) (r : Bool) : Type 0 where
  pub is : (words : List ℕ) → LiveRows s live rows words cells → (a : PickRequest) → a.peers ≡ peers → r ≡ is_forced
      (picker_in live rows words cells) a

-- ---- what is asked
-- the definition's request, with the pieces suggested
unfoldable pub request_with : (q : Request) (bytes suggestions : List ℕ) → PickRequest
request_with q bytes suggestions =
    record {
      options = q.options.0;
      wanted = q.wanted;
      contiguous = q.contiguous;
      peers = q.peers;
      peer = named_peer q.has_peer q.peer;
      bits = q.bits;
      bytes = bytes;
      suggestions = suggestions;
    }

-- PRIORITIZE_PARTIALS set, and no run
unfoldable pub forced_numbers : (q : Request) → Request
forced_numbers q =
    record {
      options = record { 0 = union q.options.0 prioritize_partials };
      wanted = q.wanted;
      contiguous = 0;
      peers = q.peers;
      has_peer = q.has_peer;
      peer = q.peer;
      bits = q.bits;
    }

-- after the rule
unfoldable pub effective_numbers : (forced : Bool) (q : Request) → Request
effective_numbers forced q = cond forced (forced_numbers q) q

-- ---- the start
-- nothing picked yet
unfoldable pub first_numbers : (q : Request) (end : ℕ) → PickNumbers
first_numbers q end = record { left = q.wanted; asked = q.contiguous; given = 0; used = 0; flags = 0; end = end; aside = 0 }

-- a flag set where a test holds
unfoldable pub flagged_where : (test : Bool) (flag : ℕ) (t : PickNumbers) → PickNumbers
flagged_where test flag t = cond test (with_flags (union t.flags flag) t) t

-- with its flags
unfoldable pub start_numbers : (q : Request) (forced : Bool) (end : ℕ) → PickNumbers
start_numbers q forced end = flagged_where forced partial_ratio (flagged_where (ltb 0 q.contiguous) prefer_contiguous (first_numbers q end))
