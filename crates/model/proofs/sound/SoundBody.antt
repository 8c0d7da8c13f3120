-- A well-formed picker in parts: what holds of the whole, of each piece with its partial, and of the list.
use mathlib.Core.Path.{◌≡◌, refl, sym, ◌∙◌}
use mathlib.Core.Logic.{◌≢◌}
use Prim.Native.Nat.{ℕ, ◌+◌, ◌≤◌, ◌<◌}
use native.Mathlib.Decide.{dec_le}
use native.Mathlib.Omega.{arith}
use mathlib.Core.Bool.{Bool, true, false, not, ◌&&◌, ◌||◌, true≢false}
use mathlib.Core.List.{[]}
use mathlib.Core.Option.{Option, none, some, some-injective, none-ne-some}
use lib.Dec.{leb}
use borrow.Author.Tests.{leb-true, le-leb}
use Rattle.model.specs.Lists.{every, len}
use Rattle.model.specs.Bep3.{num_pieces}
use Rattle.model.specs.State.{Piece, DownloadingPiece, Picker, max_pieces, max_piece_size, max_peers, max_partials, is_open, no_piece}
use Rattle.model.specs.State.{same_queue, piece_at, pieces_in, piece_size_at, blocks_in_piece, valid_geometry}
use Rattle.model.specs.change.Partials.{partial_of}
use Rattle.model.specs.image.WellFormed.{head_ok, piece_ok, block_ok, state_ok, extents_ok}
use Rattle.model.specs.list.Listed.{ListingOk}
use Rattle.model.specs.image.Sound.{partials_from, PartialSound, Sound}
use Rattle.model.proofs.base.Truths.{four_true}
use Rattle.model.proofs.base.Bep3Laws.{num_pieces_pos, blocks_in_piece_pos}
use Rattle.model.proofs.sound.PieceLaws.{piece_at_beyond}

-- ---- four tests
true_four : (a b c d : Bool) → a ≡ true → b ≡ true → c ≡ true → d ≡ true → (a && (b && (c && d))) ≡ true
true_four a b c d p q r u = rw (p, q, r) u

-- ---- the parts
-- the whole, whatever the states of the pieces
pub record Frame (s : Picker) : Type 0 where
  pub head : head_ok s ≡ true
  pub many : pieces_in s ≡ num_pieces s.total_size s.piece_size
  pub piece : (i : ℕ) → i < pieces_in s → piece_ok s i (piece_at s i) ≡ true
  pub rising : partials_from 0 s.partials ≡ true
  pub few : len s.partials ≤ max_partials
  pub recent_extents : extents_ok s [] s.recent_extents ≡ true

-- piece i is Open and has no partial, or is not Open and has one, whose blocks and whose state are right
pub data At (s : Picker) (i : ℕ) : Type 0 where
  free : is_open (piece_at s i).state ≡ true → partial_of s i ≡ none → At s i
  taken : (d : DownloadingPiece) → is_open (piece_at s i).state ≡ false → partial_of s i ≡ some d → PartialSound s i d → At s i

-- all but the list
pub record Body (s : Picker) : Type 0 where
  pub frame : Frame s
  pub all : (i : ℕ) → At s i

-- the partial of piece i, which has n blocks; nothing is said of its state
pub record Fits (n i : ℕ) (d : DownloadingPiece) : Type 0 where
  pub piece : d.piece ≡ i
  pub blocks : len d.blocks ≡ n
  pub each : every block_ok d.blocks ≡ true

-- all but the list and the state of piece i, whose partial is d
pub record BodyBut (i : ℕ) (d : DownloadingPiece) (s : Picker) : Type 0 where
  pub frame : Frame s
  pub others : (k : ℕ) → k ≢ i → At s k
  pub standing : is_open (piece_at s i).state ≡ false
  pub found : partial_of s i ≡ some d
  pub fits : Fits (blocks_in_piece s i) i d

-- ---- taken apart and put together
sound_at : (s : Picker) → Sound s → (i : ℕ) → At s i
sound_at s v i = go (partial_of s i) refl (is_open (piece_at s i).state) refl
  where
    go : (o : Option DownloadingPiece) → partial_of s i ≡ o → (b : Bool) → is_open (piece_at s i).state ≡ b → At s i
    go none e b h = free (v.standing i e) e
    go (some d) e true h = absurd (none-ne-some d (sym (v.vacant i h) ∙ e))
    go (some d) e false h = taken d h e (v.partial i d e)

-- all but the list
pub sound_body : (s : Picker) → Sound s → Body s
sound_body s v = record {
  frame = record { head = v.head; many = v.many; piece = v.piece; rising = v.rising; few = v.few; recent_extents = v.recent_extents };
  all = sound_at s v;
}

at_vacant : (s : Picker) (i : ℕ) → At s i → is_open (piece_at s i).state ≡ true → partial_of s i ≡ none
at_vacant s i (free o n) h = n
at_vacant s i (taken d o n g) h = absurd (true≢false (sym h ∙ o))

at_standing : (s : Picker) (i : ℕ) → At s i → partial_of s i ≡ none → is_open (piece_at s i).state ≡ true
at_standing s i (free o n) h = o
at_standing s i (taken d o n g) h = absurd (none-ne-some d (sym h ∙ n))

at_partial : (s : Picker) (i : ℕ) (d : DownloadingPiece) → At s i → partial_of s i ≡ some d → PartialSound s i d
at_partial s i d (free o n) h = absurd (none-ne-some d (sym n ∙ h))
at_partial s i d (taken e o n g) h = rw (some-injective e d (sym n ∙ h)) at g

-- all of it
pub body_sound : (s : Picker) → Body s → ListingOk s → Sound s
body_sound s b l = record {
  head = b.frame.head;
  many = b.frame.many;
  piece = b.frame.piece;
  rising = b.frame.rising;
  few = b.frame.few;
  vacant = λ i. at_vacant s i (b.all i);
  standing = λ i. at_standing s i (b.all i);
  partial = λ i d. at_partial s i d (b.all i);
  recent_extents = b.frame.recent_extents;
  list = l;
}

-- the partial of a well-formed picker fits
pub partial_fits : (s : Picker) (i : ℕ) (d : DownloadingPiece) → PartialSound s i d → Fits (blocks_in_piece s i) i d
partial_fits s i d g = record { piece = g.piece; blocks = g.blocks; each = g.each }

-- and one that fits is right if the piece's state is
pub fits_partial : (s : Picker) (i : ℕ) (d : DownloadingPiece) → Fits (blocks_in_piece s i) i d → state_ok (piece_at s i) d ≡ true → PartialSound s i d
fits_partial s i d g o = record { piece = g.piece; blocks = g.blocks; each = g.each; state = o }

-- a piece that is not Open is one of the picker's
pub within : (s : Picker) (i : ℕ) → is_open (piece_at s i).state ≡ false → i < pieces_in s
unfolding is_open same_queue no_piece
within s i o = elim (dec_le (pieces_in s) i) [ yes h ↦ absurd (true≢false (sym (past h) ∙ o)) | no h ↦ omega arith ]
  where
    past : pieces_in s ≤ i → is_open (piece_at s i).state ≡ true
    past h = rw (piece_at_beyond s i h)

-- where a partial stands the piece is not Open
pub sound_standing : (s : Picker) (i : ℕ) (d : DownloadingPiece) → Sound s → partial_of s i ≡ some d → is_open (piece_at s i).state ≡ false
sound_standing s i d v e = go (is_open (piece_at s i).state) refl
  where
    go : (b : Bool) → is_open (piece_at s i).state ≡ b → is_open (piece_at s i).state ≡ false
    go true h = absurd (none-ne-some d (sym (v.vacant i h) ∙ e))
    go false h = h

-- ---- ranges as facts
-- the head
pub record HeadIn (s : Picker) : Type 0 where
  pub geometry : valid_geometry s.total_size s.piece_size ≡ true
  pub seeds : s.seeds ≤ max_peers
  pub cursor : s.cursor ≤ num_pieces s.total_size s.piece_size
  pub reverse_cursor : s.reverse_cursor ≤ num_pieces s.total_size s.piece_size

-- what the test on the head says
pub head_in : (s : Picker) → head_ok s ≡ true → HeadIn s
unfolding head_ok
head_in s h =
    let n = num_pieces s.total_size s.piece_size in
    let g = four_true (valid_geometry s.total_size s.piece_size) (leb s.seeds max_peers) (leb s.cursor n) (leb s.reverse_cursor n) h in
    record { geometry = g.0; seeds = leb-true _ _ g.1; cursor = leb-true _ _ g.2; reverse_cursor = leb-true _ _ g.3 }

-- and the other way
pub in_head : (s : Picker) → HeadIn s → head_ok s ≡ true
unfolding head_ok
in_head s h =
    true_four _ _ _ _ h.geometry (le-leb _ _ h.seeds) (le-leb _ _ h.cursor) (le-leb _ _ h.reverse_cursor)

-- the geometry
pub record GeometryIn (s : Picker) : Type 0 where
  pub total_size : 1 ≤ s.total_size
  pub piece_size : 1 ≤ s.piece_size
  pub short : s.piece_size ≤ max_piece_size
  pub few : num_pieces s.total_size s.piece_size ≤ max_pieces

-- what the test on the head says of the geometry
pub geometry_in : (s : Picker) → head_ok s ≡ true → GeometryIn s
unfolding valid_geometry
geometry_in s h =
    let n = num_pieces s.total_size s.piece_size in
    let g = four_true (leb 1 s.total_size) (leb 1 s.piece_size) (leb s.piece_size max_piece_size) (leb n max_pieces) (head_in s h).geometry in
    record { total_size = leb-true _ _ g.0; piece_size = leb-true _ _ g.1; short = leb-true _ _ g.2; few = leb-true _ _ g.3 }

-- piece i of the picker
pub record PieceIn (s : Picker) (i : ℕ) (p : Piece) : Type 0 where
  pub peers : p.peer_count + s.seeds ≤ max_peers
  pub priority : p.priority ≤ 7
  pub flushed : (not p.flushed || is_open p.state) ≡ true
  pub pad_bytes : p.pad_bytes ≤ piece_size_at s i

-- what the test on a piece says
pub piece_in : (s : Picker) (i : ℕ) (p : Piece) → piece_ok s i p ≡ true → PieceIn s i p
unfolding piece_ok
piece_in s i p h =
    let open_had = not p.flushed || is_open p.state in
    let g = four_true (leb (p.peer_count + s.seeds) max_peers) (leb p.priority 7) open_had (leb p.pad_bytes (piece_size_at s i)) h in
    record { peers = leb-true _ _ g.0; priority = leb-true _ _ g.1; flushed = g.2; pad_bytes = leb-true _ _ g.3 }

-- and the other way
pub in_piece : (s : Picker) (i : ℕ) (p : Piece) → PieceIn s i p → piece_ok s i p ≡ true
unfolding piece_ok
in_piece s i p h = true_four _ _ _ _ (le-leb _ _ h.peers) (le-leb _ _ h.priority) h.flushed (le-leb _ _ h.pad_bytes)

-- ---- none is empty
-- a picker has a piece
pub some_piece : (s : Picker) → Frame s → 1 ≤ pieces_in s
some_piece s f =
    let g = geometry_in s f.head in
    omega (arith, f.many, num_pieces_pos s.total_size s.piece_size g.total_size g.piece_size)

-- and a piece has a block
pub some_block : (s : Picker) (i : ℕ) → Frame s → i < pieces_in s → 1 ≤ blocks_in_piece s i
unfolding blocks_in_piece
some_block s i f h = blocks_in_piece_pos s.total_size s.piece_size i (geometry_in s f.head).piece_size (omega (arith, f.many))
