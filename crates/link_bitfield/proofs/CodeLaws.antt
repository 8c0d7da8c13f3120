-- An exported function answers the number of what the function behind it answers. Assumes nothing.
use mathlib.Core.Path.{◌≡◌, ap, ◌∙◌}
use Prim.Native.Nat.{ℕ}
use mathlib.Core.List.{List}
use Rattle.std.specs.Prelude.{⊤, Result}
use Rattle.bitfield_writes.specs.declared.StoreError.{StoreError}
use Rattle.bitfield_writes.specs.Writing.{Did}
use Rattle.link_bitfield.specs.Codes.{code_of, Coded}

pub coded : {want answer : Result ⊤ StoreError} {new old exit : List ℕ} {k : ℕ}
    → Did want new old answer exit → k ≡ code_of answer → Coded want new old k exit
coded d e = record { answers = e ∙ ap code_of d.answers; leaves = d.leaves }
