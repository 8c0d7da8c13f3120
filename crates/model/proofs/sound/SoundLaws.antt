-- The test that reads a picker record by record and the statement field by field say the same.
use mathlib.Core.Path.{◌≡◌}
use native.Mathlib.Omega.{arith}
use mathlib.Core.Bool.{true}
use mathlib.Core.List.{[]}
use lib.Dec.{eqb}
use borrow.Author.Tests.{eqb-true, eq-eqb}
use Rattle.model.specs.Bep3.{num_pieces}
use Rattle.model.specs.State.{Picker, pieces_in}
use Rattle.model.specs.change.Partials.{partial_of}
use Rattle.model.specs.image.WellFormed.{head_ok, pieces_ok, partials_ok, extents_ok, well_formed}
use Rattle.model.specs.image.Sound.{Sound}
use Rattle.model.proofs.base.Truths.{both_true}
use Rattle.model.proofs.sound.SoundPieces.{pieces_ok_each, each_pieces_ok}
use Rattle.model.proofs.sound.SoundPartials.{partials_ok_standing, standing_partials_ok}
use Rattle.model.proofs.sound.SoundListing.{listing_test}

-- a picker that passes the test is sound
pub well_formed_sound : (s : Picker) → well_formed s ≡ true → Sound s
unfolding well_formed partial_of
well_formed_sound s h =
    let a = both_true (head_ok s) _ h in
    let b = both_true (eqb (pieces_in s) (num_pieces s.total_size s.piece_size)) _ a.1 in
    let c = both_true (pieces_ok s 0 s.pieces) _ b.1 in
    let d = both_true (partials_ok s 0 0 s.pieces s.partials) _ c.1 in
    let e = both_true (extents_ok s [] s.recent_extents) _ d.1 in
    let p = partials_ok_standing s d.0 in record {
      head = a.0;
      many = eqb-true (pieces_in s) (num_pieces s.total_size s.piece_size) b.0;
      piece = pieces_ok_each s c.0;
      rising = p.1.rising;
      few = p.0;
      vacant = λ i. p.1.vacant i (omega arith);
      standing = λ i. p.1.standing i (omega arith);
      partial = λ i x. p.1.partial i x (omega arith);
      recent_extents = e.0;
      list = (listing_test s).0 e.1;
    }

-- a sound picker passes the test
pub sound_well_formed : (s : Picker) → Sound s → well_formed s ≡ true
unfolding well_formed partial_of
sound_well_formed s g = rw (
  g.head,
  eq-eqb (pieces_in s) (num_pieces s.total_size s.piece_size) g.many,
  each_pieces_ok s g.piece,
  standing_partials_ok s g.few (record {
    rising = g.rising;
    vacant = λ i l. g.vacant i;
    standing = λ i l. g.standing i;
    partial = λ i d l. g.partial i d;
  }),
  g.recent_extents,
  (listing_test s).1 g.list,
)
