-- The recorded extents stay extents of the torrent, each once.
use mathlib.Core.Path.{◌≡◌, refl}
use Prim.Native.Nat.{ℕ, ◌/◌, ◌≤◌, ◌<◌}
use native.Mathlib.Nat.{div-mul-le_self, le-div_iff_mul-le}
use native.Mathlib.Omega.{arith}
use mathlib.Core.Bool.{true, not, ◌&&◌}
use mathlib.Core.List.{List, [], ◌∷◌, ◌++◌, append-nil, append_assoc}
use lib.Dec.{ltb}
use borrow.Author.Tests.{ltb-true, lt-ltb, ne_eqb}
use Rattle.model.specs.Lists.{len, member}
use Rattle.model.specs.Bep3.{parts_of}
use Rattle.model.specs.State.{Picker, max_extents, extent_blocks, with_recent_extents, piece_at, pieces_in, blocks_per_piece, extent_size}
use Rattle.model.specs.State.{num_extents, extent_for}
use Rattle.model.specs.list.Order.{rank}
use Rattle.model.specs.change.Changes.{worth_recording, recordable, record_downloading_piece}
use Rattle.model.specs.image.WellFormed.{extent_ok, extents_ok}
use Rattle.model.specs.list.Listed.{ListingOk}
use Rattle.model.specs.image.Sound.{Sound}
use Rattle.model.proofs.base.Bep3Laws.{lt_parts_of, blocks_per_piece_pos}
use Rattle.model.proofs.base.Truths.{both_true, true_both}
use Rattle.model.proofs.base.Phases.{when_arms}
use Rattle.model.proofs.list.ListingLaws.{ok_same}
use Rattle.model.proofs.sound.SoundBody.{Frame, At, sound_body, body_sound, geometry_in}
use Rattle.model.proofs.sound.SoundFields.{frame_extents, at_extents}

-- ---- one extent more
extents_behind : (s : Picker) (before es : List ℕ) (e : ℕ) → extents_ok s before es ≡ true → extent_ok s (before ++ es) e ≡ true
    → extents_ok s before (es ++ (e ∷ [])) ≡ true
unfolding extents_ok
extents_behind s before [] e h g = true_both (extent_ok s before e) true (rw append-nil at g) refl
extents_behind s before (x ∷ es) e h g =
    let t = both_true (extent_ok s before x) (extents_ok s (before ++ (x ∷ [])) es) h in
    true_both (extent_ok s before x) (extents_ok s (before ++ (x ∷ [])) (es ++ (e ∷ []))) t.0
    (extents_behind s (before ++ (x ∷ [])) es e t.1 (rw (append_assoc before (x ∷ []) es) g))

-- piece i lies in an extent of the torrent
pub extent_for_lt : (s : Picker) (i : ℕ) → Frame s → i < pieces_in s → blocks_per_piece s < extent_blocks
    → extent_for s i < num_extents (pieces_in s) (blocks_per_piece s)
unfolding extent_for num_extents extent_size blocks_per_piece parts_of
extent_for_lt s i f h b =
    let z = extent_blocks / blocks_per_piece s in
    let some : 1 ≤ blocks_per_piece s = blocks_per_piece_pos s.piece_size (geometry_in s f.head).piece_size in
    let whole : 1 ≤ z = (le-div_iff_mul-le some).1 (omega arith) in
    rw (ne_eqb (blocks_per_piece s) extent_blocks (λ (e : blocks_per_piece s ≡ extent_blocks). absurd (omega arith)))
    ((lt_parts_of (pieces_in s) z (i / z) whole).1 (omega (arith, div-mul-le_self i z)))

-- an extent that is worth recording is one more
extent_right : (i : ℕ) (s : Picker) → i < pieces_in s → Frame s → recordable s i ≡ true
    → extent_ok s s.recent_extents (extent_for s i) ≡ true
unfolding recordable extent_ok
extent_right i s h f e =
    let new = not (member (extent_for s i) s.recent_extents) in
    let few = ltb (len s.recent_extents) max_extents in
    let a = both_true (ltb (blocks_per_piece s) extent_blocks) (new && (few && worth_recording s i)) e in
    let b = both_true new (few && worth_recording s i) a.1 in
    let c = both_true few (worth_recording s i) b.1 in
    let lt = extent_for_lt s i f h (ltb-true (blocks_per_piece s) extent_blocks a.0) in
    rw (c.0, lt-ltb (extent_for s i) (num_extents (pieces_in s) (blocks_per_piece s)) lt) b.0

-- recording the extent of a piece keeps the extents right
pub record_downloading_piece_frame : (i : ℕ) (s : Picker) → i < pieces_in s → Frame s → Frame (record_downloading_piece i s)
unfolding record_downloading_piece
record_downloading_piece_frame i s h f =
    let es = s.recent_extents ++ (extent_for s i ∷ []) in
    when_arms Frame (recordable s i) (with_recent_extents es) s
    (λ e. frame_extents s f es (extents_behind s [] s.recent_extents (extent_for s i) f.recent_extents (extent_right i s h f e))) (λ e. f)

-- it touches nothing but the extents: what does not depend on them stays
pub record_blind : (P : Picker → Type 0) → ((es : List ℕ) (s : Picker) → P s → P (with_recent_extents es s))
    → (i : ℕ) (s : Picker) → P s → P (record_downloading_piece i s)
unfolding record_downloading_piece
record_blind P blind i s p =
    let es = s.recent_extents ++ (extent_for s i ∷ []) in
    when_arms P (recordable s i) (with_recent_extents es) s (λ e. blind es s p) (λ e. p)

extents_listed : (es : List ℕ) (s : Picker) → ListingOk s → ListingOk (with_recent_extents es s)
unfolding with_recent_extents pieces_in rank piece_at
extents_listed es s l = ok_same s (with_recent_extents es s) refl refl (λ y k. refl) l

-- such as the list
pub record_listed : (i : ℕ) (s : Picker) → ListingOk s → ListingOk (record_downloading_piece i s)
record_listed i s l = record_blind ListingOk extents_listed i s l

-- recording an extent keeps a picker well-formed
pub record_downloading_piece_keeps : (i : ℕ) (s : Picker) → i < pieces_in s → Sound s → Sound (record_downloading_piece i s)
record_downloading_piece_keeps i s h v =
    let b = sound_body s v in
    body_sound (record_downloading_piece i s) (record {
      frame = record_downloading_piece_frame i s h b.frame;
      all = λ k. record_blind (λ t. At t k) (λ es t a. at_extents t k a es) i s (b.all k);
    }) (record_listed i s v.list)
