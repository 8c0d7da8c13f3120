-- What a pick is asked, from the code's numbers and the lent bitfield. Assumes nothing.
use Rattle.std.specs.Prelude.{ℕ, List, []}
use Rattle.types.specs.Peer.{named_peer}
use Rattle.model.specs.pick.Blocks.{PickRequest}
use Rattle.pick_state.specs.declared.request.PickRequest.{PickRequest as Request}

-- the definition's request, without suggestions: they belong to their own phase
unfoldable pub request_of : (q : Request) (bytes : List ℕ) → PickRequest
request_of q bytes =
    record {
      options = q.options.0;
      wanted = q.wanted;
      contiguous = q.contiguous;
      peers = q.peers;
      peer = named_peer q.has_peer q.peer;
      bits = q.bits;
      bytes = bytes;
      suggestions = [];
    }
