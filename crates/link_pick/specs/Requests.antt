-- What the numbers of a lent request and of an answer are to the pick itself. Assumes nothing.
use Rattle.pick_state.specs.declared.request.PickRequest.{PickRequest}
use Rattle.pick_pieces.specs.declared.pieces.Picked.{Picked}
use Rattle.link_pick.specs.declared.Request.{Request}
use Rattle.link_pick.specs.declared.PickEnd.{PickEnd}

-- the request, field by field
abbrev pub asked : (r : Request) → PickRequest
asked r =
    record {
      options = record { 0 = r.options };
      wanted = r.wanted;
      contiguous = r.contiguous;
      peers = r.peers;
      has_peer = r.has_peer;
      peer = r.peer;
      bits = r.bits;
    }

-- the answer, field by field
abbrev pub gave : (r : PickEnd) → Picked
gave r =
    record {
      end = r.end;
      flags = r.flags;
      used = r.used;
      partial_loops = r.partial_loops;
      suggest_loops = r.suggest_loops;
      reverse_rare_loops = r.reverse_rare_loops;
      rare_loops = r.rare_loops;
      rand_start_loops = r.rand_start_loops;
      rand_loops = r.rand_loops;
      busy_loops = r.busy_loops;
    }
