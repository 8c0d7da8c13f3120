-- The parts behind the head one after another: what each return says of all of them. Assumes nothing.
use Prim.Native.Nat.{ℕ, ◌≤◌}
use mathlib.Core.Path.{◌≡◌, sym}
use mathlib.Core.Bool.{Bool, true, false, true≢false}
use mathlib.Core.List.{List}
use lib.ListN.{length}
use Rattle.memory_records.specs.Rows.{records_in}
use Rattle.memory_layout.specs.Decode.{decode}
use Rattle.memory_layout.specs.Good.{good_pieces, good_places, good_partials, good_extents, good_list}
use Rattle.check_partials.specs.Records.{CountsHeld}
use Rattle.memory_layout.specs.declared.shape.Shape.{Shape}
use Rattle.check_pieces.proofs.HeadLaws.{headed}
use Rattle.check_memory.specs.Verdicts.{good_rows, Begun, RowTest}

-- no more records are live than there are places
pub few : (s : Shape) (live : ℕ) (words cells : List ℕ) → Begun s live words cells → live ≤ s.places
few s live words cells g =
    rw (g.many, g.shape.sizes.places, g.shape.pieces) (headed s words g.passed).partials

module _ (live : ℕ) (rows words cells counts : List ℕ) (long : length counts ≡ 1536) where
  -- no, whatever the counts
  no : false ≡ good_rows (records_in live rows) words cells → RowTest false live rows words cells counts
  no e = record { is = e; counted = λ h. absurd (true≢false (sym h)); long = long }

  pub bad_pieces : good_pieces (records_in live rows) words cells ≡ false → RowTest false live rows words cells counts
  bad_pieces a = no (unfold good_rows in rw a)

  module _ (a : good_pieces (records_in live rows) words cells ≡ true) where
    pub bad_places : good_places (records_in live rows) words ≡ false → RowTest false live rows words cells counts
    bad_places b = no (unfold good_rows in rw (a, b))

    module _ (b : good_places (records_in live rows) words ≡ true) where
      pub bad_partials : good_partials (records_in live rows) words cells ≡ false → RowTest false live rows words cells counts
      bad_partials d = no (unfold good_rows in rw (a, b, d))

      module _ (d : good_partials (records_in live rows) words cells ≡ true) where
        pub bad_extents : good_extents (records_in live rows) words cells ≡ false → RowTest false live rows words cells counts
        bad_extents e = no (unfold good_rows in rw (a, b, d, e))

        -- the list decides
        pub by_list : good_extents (records_in live rows) words cells ≡ true → CountsHeld (decode
            (records_in live rows) words cells) live counts
            → (r : Bool) → r ≡ good_list (records_in live rows) words cells → RowTest r live rows words cells counts
        by_list e held r f =
            record { is = unfold good_rows in rw (a, b, d, e) f; counted = λ h. held; long = long }
