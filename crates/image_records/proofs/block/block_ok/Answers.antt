-- `block_ok` meets its contract. Assumes nothing.
use mathlib.Core.Path.{ap, ◌∙◌}
use mathlib.Core.Bool.{Bool, ◌&&◌, and_assoc}
use lib.Dec.{leb}
use Rattle.image_records.specs.Records.{block_test}
use Rattle.image_records.proofs.block.block_ok.Goals as goal

pub returns : goal.returns
unfolding block_test
returns c = and_assoc (leb c.args.state 3) c.peer_fits.result (leb c.args.num_peers 1000) ∙ ap
    (λ (t : Bool). leb c.args.state 3 && (t && leb c.args.num_peers 1000)) c.peer_fits.ensures
