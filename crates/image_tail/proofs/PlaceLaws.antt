-- One place of the list, judged by the ranks that are left. Assumes nothing.
use Rattle.std.specs.Prelude.{None, Some}
use mathlib.Core.Path.{◌≡◌, refl, ap, ◌∙◌}
use mathlib.Core.Bool.{true, false, and-false}
use mathlib.Core.List.{List}
use Prim.Native.Nat.{ℕ, ◌≤◌, ◌<◌}
use native.Mathlib.Omega.{arith}
use lib.Dec.{ltb}
use lib.ListN.{get_or, set, drop, length-set}
use borrow.Author.Tests.{lt-ltb, le-ltb, le-leb, lt-leb}
use Rattle.model.specs.Lists.{nth}
use Rattle.model.specs.image.Image.{body_length, place_kind, fault, judged}
use Rattle.image_records.specs.Records.{number_in}
use Rattle.image_records.proofs.FoundLaws.{NumberGot}
use Rattle.image_tail.specs.Order.{place_in, place_by, Found, Taken}
use Rattle.image_tail.proofs.ExtentLaws.{ruled, ruled_found, ruled_breaks, ruled-fault}

module _ (n last at : ℕ) (bytes entry : List ℕ) where
  fails : judged place_kind (place_by n last entry) (drop at bytes) ≡ fault (drop at bytes) → Taken n last at bytes entry entry None
  unfolding Found
  fails e = record { found = e; long = refl }

  -- no record of a number stands there
  pub no_place : judged place_kind number_in (drop at bytes) ≡ fault (drop at bytes) → Taken n last at bytes entry entry None
  unfolding place_by ruled number_in
  no_place e = fails (ruled-fault place_kind at bytes (place_in n last entry) e)

  module _ (i : ℕ) (g : NumberGot place_kind number_in at bytes i) where
    breaks : place_in n last entry i ≡ false → Taken n last at bytes entry entry None
    unfolding place_by ruled number_in
    breaks e = fails (ruled_breaks place_kind at bytes (place_in n last entry) i g e)

    -- no such piece
    pub past_pieces : (m : ℕ) → m ≡ n → m ≤ i → Taken n last at bytes entry entry None
    unfolding place_in
    past_pieces m e h = breaks (rw (le-ltb i n (omega arith)))

    module _ (piece : ℕ) (ep : piece ≡ i) (l : i < n) (rank : ℕ) (er : rank ≡ get_or entry piece 0) where
      rank_is : rank ≡ get_or entry i 0
      rank_is = er ∙ ap (λ (k : ℕ). get_or entry k 0) ep

      -- listed before, with no rank, or of too low a one
      pub too_low : rank < last → Taken n last at bytes entry entry None
      unfolding place_in
      too_low h = breaks (rw (lt-leb last (get_or entry i 0) (omega (arith, rank_is)), and-false (ltb i n)))

      pub taken : last ≤ rank → Taken n last at bytes entry (set entry piece 0) (Some rank)
      unfolding Found place_in place_by ruled number_in body_length nth
      taken h =
          let e : place_in n last entry i ≡ true = rw (lt-ltb i n l, le-leb last (get_or entry i 0) (omega (arith, rank_is))) in
          record {
            found = record {
              piece = i;
              is = ruled_found place_kind at bytes (place_in n last entry) i g e;
              room = g.room;
              passes = e;
              rank = rank_is;
              taken = ap (λ (k : ℕ). set entry k 0) ep;
            };
            long = length-set entry piece 0;
          }
