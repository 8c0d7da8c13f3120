-- A public call: it unpacks the live records into rows and calls its core, which speaks of all records that the rows are. Assumes nothing.
use mathlib.Core.Path.{◌≡◌, sym, subst}
use mathlib.Core.List.{List}
use Prim.Native.Nat.{ℕ, ◌≤◌}
use native.Mathlib.Omega.{arith}
use mir.ValLaws.{to_z-of_z}
use lib.ListN.{length, replicate}
use Rattle.memory_records.specs.declared.record.DownloadingPiece.{DownloadingPiece as Record}
use Rattle.memory_records.specs.Rows.{live_records, rows_of, unpacked}
use Rattle.memory_records.proofs.laws.LiveLaws.{live_most}

-- the live records fit the rows
pub live_fits : (words : List ℕ) (live : ℕ) → live ≡ live_records words → live ≤ 512
live_fits words live l = omega (arith, l, live_most words)

-- what is unpacked are the rows that the core works on, and so many records are lent
pub rows_are : (words : List ℕ) (partials : List Record) (live lent : ℕ) (rows : List ℕ) → live ≡ live_records words
    → (lent ≡ length partials) × (rows ≡ unpacked live partials (replicate 1536 0))
    → (length partials ≡ lent) × (rows ≡ rows_of words partials)
rows_are words partials live lent rows l u =
    (sym u.0, subst (λ (n : ℕ). rows ≡ unpacked n partials (replicate 1536 0)) l u.1)

-- what the proofs of public calls cite
pub ruleset public_calls = (live_fits, rows_are, to_z-of_z)
