-- The test on pieces and partials side by side, and what it says of each piece by its number, are the same.
use mathlib.Core.Path.{◌≡◌, refl, sym, ◌∙◌}
use mathlib.Core.Logic.{inl, inr}
use Prim.Native.Nat.{ℕ, suc, ◌+◌, ◌≤◌, ◌<◌}
use native.Mathlib.Decide.{ℕ_discrete}
use native.Mathlib.Omega.{arith}
use mathlib.Core.Bool.{true, false, ◌&&◌, true≢false}
use mathlib.Core.List.{List, [], ◌∷◌}
use mathlib.Core.Option.{none, some, some-injective, none-ne-some}
use lib.ListN.{drop}
use lib.Dec.{eqb, ltb}
use borrow.Author.Tests.{eqb-true, eq-eqb, ltb-true, lt-ltb}
use Rattle.model.specs.Lists.{len, every}
use Rattle.model.specs.State.{Piece, DownloadingPiece, Picker, max_partials, no_piece, is_open, same_queue, piece_at, pieces_in}
use Rattle.model.specs.State.{blocks_in_piece}
use Rattle.model.specs.change.Partials.{find_dl_piece}
use Rattle.model.specs.image.WellFormed.{block_ok, state_ok, partial_ok, partials_ok}
use Rattle.model.specs.image.Sound.{partials_from, PartialSound}
use Rattle.model.proofs.base.Truths.{both_true, true_both, true_or_false, not_both}
use Rattle.model.proofs.sound.PieceLaws.{piece_at_beyond}
use Rattle.model.proofs.sound.PartialLaws.{find_dl_piece_here, find_dl_piece_there, find_dl_piece_below, from_head, from_tail, from_cons}
use Rattle.model.proofs.sound.PartialLaws.{from_lower}
use Rattle.model.proofs.sound.SoundPieces.{drop_next, left_piece, left_none}

-- ---- the test on one partial
partial_ok_lem : (s : Picker) (i n : ℕ) (p : Piece) (d : DownloadingPiece) → piece_at s i ≡ p → partial_ok s i n p d ≡ true → (n < max_partials) × PartialSound s i d
unfolding partial_ok
partial_ok_lem s i n p d e h =
    let a = both_true (eqb d.piece i) _ h in
    let b = both_true (ltb n max_partials) _ a.1 in
    let c = both_true (eqb (len d.blocks) (blocks_in_piece s i)) _ b.1 in
    let f = both_true (every block_ok d.blocks) (state_ok p d) c.1 in (
      ltb-true n max_partials b.0,
      record {
        piece = eqb-true d.piece i a.0;
        blocks = eqb-true (len d.blocks) (blocks_in_piece s i) c.0;
        each = f.0;
        state = rw e f.1;
      },
    )

ok_partial : (s : Picker) (i n : ℕ) (p : Piece) (d : DownloadingPiece) → piece_at s i ≡ p → n < max_partials → PartialSound s i d → partial_ok s i n p d ≡ true
unfolding partial_ok
ok_partial s i n p d e h g = rw (
  eq-eqb d.piece i g.piece,
  lt-ltb n max_partials h,
  eq-eqb (len d.blocks) (blocks_in_piece s i) g.blocks,
  g.each,
) (rw e at g.state)

-- ---- from piece i on
-- what Sound says of the partials, of the pieces from i on
pub record Standing (s : Picker) (i : ℕ) (ds : List DownloadingPiece) : Type 0 where
  pub rising : partials_from i ds ≡ true
  pub vacant : (k : ℕ) → i ≤ k → is_open (piece_at s k).state ≡ true → find_dl_piece k ds ≡ none
  pub standing : (k : ℕ) → i ≤ k → find_dl_piece k ds ≡ none → is_open (piece_at s k).state ≡ true
  pub partial : (k : ℕ) (d : DownloadingPiece) → i ≤ k → find_dl_piece k ds ≡ some d → PartialSound s k d

no_piece_open : (s : Picker) (k : ℕ) → pieces_in s ≤ k → is_open (piece_at s k).state ≡ true
unfolding no_piece is_open same_queue
no_piece_open s k h = rw (piece_at_beyond s k h)

-- ---- the test's steps
-- past an Open piece
ok_open : (s : Picker) (i n : ℕ) (p : Piece) (ps : List Piece) (ds : List DownloadingPiece) → is_open p.state ≡ true → partials_ok s i n (p ∷ ps) ds ≡ partials_ok s (suc i) n ps ds
unfolding partials_ok
ok_open s i n p ps [] e = rw e
ok_open s i n p ps (d ∷ ds) e = rw e

-- past another one
ok_shut : (s : Picker) (i n : ℕ) (p : Piece) (ps : List Piece) (d : DownloadingPiece) (ds : List DownloadingPiece) → is_open p.state ≡ false
    → partials_ok s i n (p ∷ ps) (d ∷ ds) ≡ (partial_ok s i n p d && partials_ok s (suc i) (suc n) ps ds)
unfolding partials_ok
ok_shut s i n p ps d ds e = rw e

-- which has a partial
ok_missing : (s : Picker) (i n : ℕ) (p : Piece) (ps : List Piece) → is_open p.state ≡ false → partials_ok s i n (p ∷ ps) [] ≡ false
unfolding partials_ok
ok_missing s i n p ps e = rw e

-- where the bound's own piece has no partial, the bound may rise
from_above : (i : ℕ) (ds : List DownloadingPiece) → find_dl_piece i ds ≡ none → partials_from i ds ≡ true → partials_from (suc i) ds ≡ true
unfolding partials_from
from_above i [] h r = refl
from_above i (d ∷ ds) h r =
    let a = from_head i d ds r in
    elim (ℕ_discrete d.piece i) [
      | yes e ↦ absurd (none-ne-some d (sym h ∙ find_dl_piece_here i d ds e))
      | no n ↦ from_cons (suc i) d ds (omega arith) (from_tail i d ds r)
    ]

module _ (s : Picker) where
  -- ---- Standing, one piece earlier
  -- an Open piece in front
  front_open : (i : ℕ) (ds : List DownloadingPiece) → is_open (piece_at s i).state ≡ true → Standing s (suc i) ds → Standing s i ds
  front_open i ds o g =
      let below = find_dl_piece_below (suc i) i ds g.rising (omega arith) in record {
        rising = from_lower (suc i) i ds (omega arith) g.rising;
        vacant = λ k l h. elim (ℕ_discrete i k) [ yes e ↦ rw e at below | no n ↦ g.vacant k (omega arith) h ];
        standing = λ k l h. elim (ℕ_discrete i k) [ yes e ↦ rw e at o | no n ↦ g.standing k (omega arith) h ];
        partial = λ k d l h. elim (ℕ_discrete i k) [
          | yes e ↦ absurd (none-ne-some d (sym (rw e at below) ∙ h))
          | no n ↦ g.partial k d (omega arith) h
        ];
      }

  -- a partial in front
  front_shut : (i : ℕ) (d : DownloadingPiece) (ds : List DownloadingPiece) → is_open (piece_at s i).state ≡ false → PartialSound s i d → Standing s (suc i) ds → Standing s i (d ∷ ds)
  front_shut i d ds o q g =
      let p = q.piece in record {
        rising = from_cons i d ds (omega arith) (rw p g.rising);
        vacant = λ k l h. elim (ℕ_discrete i k) [
          | yes e ↦ absurd (not_both (is_open (piece_at s i).state) (rw (← e) at h) o)
          | no n ↦ find_dl_piece_there k d ds (λ (e : d.piece ≡ k). n (sym p ∙ e)) ∙ g.vacant k (omega arith) h
        ];
        standing = λ k l h. elim (ℕ_discrete i k) [
          | yes e ↦ absurd (none-ne-some d (sym h ∙ find_dl_piece_here k d ds (p ∙ e)))
          | no n ↦ g.standing k (omega arith) (sym (find_dl_piece_there k d ds (λ (e : d.piece ≡ k). n (sym p ∙ e))) ∙ h)
        ];
        partial = λ k x l h. elim (ℕ_discrete i k) [
          | yes e ↦ rw (← e, ← (some-injective d x (sym (find_dl_piece_here k d ds (p ∙ e)) ∙ h))) q
          | no n ↦ g.partial k x (omega arith) (sym (find_dl_piece_there k d ds (λ (e : d.piece ≡ k). n (sym p ∙ e))) ∙ h)
        ];
      }

  -- ---- Standing, one piece later
  -- behind an Open piece
  rest_open : (i : ℕ) (ds : List DownloadingPiece) → is_open (piece_at s i).state ≡ true → Standing s i ds → Standing s (suc i) ds
  rest_open i ds o g = record {
    rising = from_above i ds (g.vacant i (omega arith) o) g.rising;
    vacant = λ k l h. g.vacant k (omega arith) h;
    standing = λ k l h. g.standing k (omega arith) h;
    partial = λ k d l h. g.partial k d (omega arith) h;
  }

  -- the partial in front is that of a piece that is not Open
  front_piece : (i : ℕ) (d : DownloadingPiece) (ds : List DownloadingPiece) → is_open (piece_at s i).state ≡ false → Standing s i (d ∷ ds) → d.piece ≡ i
  front_piece i d ds o g = elim (ℕ_discrete d.piece i) [
    | yes e ↦ e
    | no n ↦ (
        let a = from_head i d ds g.rising in
        let none_there = find_dl_piece_there i d ds n ∙ find_dl_piece_below (suc d.piece) i ds (from_tail i d ds g.rising) (omega arith) in
        absurd (not_both (is_open (piece_at s i).state) (g.standing i (omega arith) none_there) o)
        )
  ]

  -- behind it
  rest_shut : (i : ℕ) (d : DownloadingPiece) (ds : List DownloadingPiece) → d.piece ≡ i → Standing s i (d ∷ ds) → Standing s (suc i) ds
  rest_shut i d ds p g =
      let skip : (k : ℕ) → suc i ≤ k → find_dl_piece k (d ∷ ds) ≡ find_dl_piece k ds = λ k l. find_dl_piece_there k d ds (λ (e : d.piece ≡ k). absurd (omega arith)) in record {
        rising = rw p at (from_tail i d ds g.rising);
        vacant = λ k l h. sym (skip k l) ∙ g.vacant k (omega arith) h;
        standing = λ k l h. g.standing k (omega arith) (skip k l ∙ h);
        partial = λ k x l h. g.partial k x (omega arith) (skip k l ∙ h);
      }

  -- ---- the two, from piece i on
  tested : (i n : ℕ) (ps : List Piece) (ds : List DownloadingPiece) → drop i s.pieces ≡ ps → n ≤ max_partials → partials_ok s i n ps ds ≡ true
      → (n + len ds ≤ max_partials) × Standing s i ds
  unfolding partials_ok len partials_from find_dl_piece
  tested i n [] [] e m h =
      let z = left_none s i e in (
        omega arith,
        record {
          rising = refl;
          vacant = λ k l h. refl;
          standing = λ k l h. no_piece_open s k (omega arith);
          partial = λ k d l h. absurd (none-ne-some d h);
        },
      )
  tested i n [] (d ∷ ds) e m h = absurd (true≢false (sym h))
  tested i n (p ∷ ps) [] e m h = elim (true_or_false (is_open p.state)) [
    | inl o ↦ (
        let r = tested (suc i) n ps [] (drop_next s.pieces i p ps e) m (sym (ok_open s i n p ps [] o) ∙ h) in
        (r.0, front_open i [] (rw (left_piece s i p ps e) o) r.1)
        )
    | inr o ↦ absurd (not_both (partials_ok s i n (p ∷ ps) []) h (ok_missing s i n p ps o))
  ]
  tested i n (p ∷ ps) (d ∷ ds) e m h = elim (true_or_false (is_open p.state)) [
    | inl o ↦ (
        let r = tested (suc i) n ps (d ∷ ds) (drop_next s.pieces i p ps e) m (sym (ok_open s i n p ps (d ∷ ds) o) ∙ h) in
        (r.0, front_open i (d ∷ ds) (rw (left_piece s i p ps e) o) r.1)
        )
    | inr o ↦ (
        let b = both_true (partial_ok s i n p d) (partials_ok s (suc i) (suc n) ps ds) (sym (ok_shut s i n p ps d ds o) ∙ h) in
        let q = partial_ok_lem s i n p d (left_piece s i p ps e) b.0 in
        let r = tested (suc i) (suc n) ps ds (drop_next s.pieces i p ps e) q.0 b.1 in
        (omega (arith, r.0), front_shut i d ds (rw (left_piece s i p ps e) o) q.1 r.1)
        )
  ]

  passes : (i n : ℕ) (ps : List Piece) (ds : List DownloadingPiece) → drop i s.pieces ≡ ps → n + len ds ≤ max_partials → Standing s i ds
      → partials_ok s i n ps ds ≡ true
  unfolding partials_ok len find_dl_piece
  passes i n [] [] e m g = refl
  passes i n [] (d ∷ ds) e m g =
      let a = from_head i d ds g.rising in
      let z = left_none s i e in
      absurd (none-ne-some d (sym (g.vacant d.piece a (no_piece_open s d.piece (omega arith))) ∙ find_dl_piece_here d.piece d ds refl))
  passes i n (p ∷ ps) [] e m g = elim (true_or_false (is_open p.state)) [
    | inl o ↦
        ok_open s i n p ps [] o
        ∙ passes (suc i) n ps [] (drop_next s.pieces i p ps e) m (rest_open i [] (rw (left_piece s i p ps e) o) g)
    | inr o ↦ absurd (not_both (is_open p.state) (rw (left_piece s i p ps e) at (g.standing i (omega arith) refl)) o)
  ]
  passes i n (p ∷ ps) (d ∷ ds) e m g = elim (true_or_false (is_open p.state)) [
    | inl o ↦
        ok_open s i n p ps (d ∷ ds) o
        ∙ passes (suc i) n ps (d ∷ ds) (drop_next s.pieces i p ps e) m (rest_open i (d ∷ ds) (rw (left_piece s i p ps e) o) g)
    | inr o ↦ (
        let q = front_piece i d ds (rw (left_piece s i p ps e) o) g in
        ok_shut s i n p ps d ds o
        ∙ true_both (partial_ok s i n p d) (partials_ok s (suc i) (suc n) ps ds)
        (ok_partial s i n p d (left_piece s i p ps e) (omega arith) (g.partial i d (omega arith) (find_dl_piece_here i d ds q)))
        (passes (suc i) (suc n) ps ds (drop_next s.pieces i p ps e) (omega arith) (rest_shut i d ds q g))
        )
  ]

  -- ---- all pieces
  -- the test's partials are few, rise, and stand for the pieces that are not Open
  pub partials_ok_standing : partials_ok s 0 0 s.pieces s.partials ≡ true → (len s.partials ≤ max_partials) × Standing s 0 s.partials
  partials_ok_standing h = let r = tested 0 0 s.pieces s.partials refl (omega arith) h in (omega (arith, r.0), r.1)

  -- and such partials pass the test
  pub standing_partials_ok : len s.partials ≤ max_partials → Standing s 0 s.partials → partials_ok s 0 0 s.pieces s.partials ≡ true
  standing_partials_ok m g = passes 0 0 s.pieces s.partials refl (omega arith) g
