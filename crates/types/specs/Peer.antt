-- A peer as it is lent, a flag and a number, where the Rust has an `Option<u64>`. Assumes nothing.
use Rattle.std.specs.Prelude.{ℕ, Bool, cond}
use Rattle.std.proofs.Math.Option.{Option, none, some}

-- none where the flag is false: the number means nothing then
abbrev pub named_peer : (has : Bool) (peer : ℕ) → Option ℕ
named_peer has peer = cond has (some peer) none
