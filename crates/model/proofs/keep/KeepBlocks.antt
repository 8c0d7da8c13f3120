-- A partial replaced, one of its blocks replaced, and the piece's state after it.
use mathlib.Core.Path.{◌≡◌, refl, sym, ap, ◌∙◌}
use Prim.Native.Nat.{ℕ, zero, suc}
use native.Mathlib.Omega.{arith}
use mathlib.Core.Bool.{Bool, true, false}
use mathlib.Core.List.{List, [], ◌∷◌}
use mathlib.Core.Option.{Option, none, some}
use lib.ListN.{length-set}
use Rattle.types.specs.declared.block.BlockState.{BlockState}
use Rattle.types.specs.declared.block.BlockState.TheVariants.{None, Requested}
use Rattle.model.specs.Lists.{count, every, nth, set_nth, len}
use Rattle.model.specs.State.{Piece, Block, DownloadingPiece, Picker, no_block, same_block_state, with_blocks, with_flags, with_partials}
use Rattle.model.specs.State.{piece_at, pieces_in, blocks_in_piece}
use Rattle.model.specs.list.Order.{Drawing, drawing, no_draw, rank}
use Rattle.model.specs.change.Partials.{partial_of, block_at, blocks_in_state, progress, replace_in, replace_partial, replace_block}
use Rattle.model.specs.change.Partials.{new_state}
use Rattle.model.specs.change.Changes.{set_block, lock_in, lock_piece}
use Rattle.model.specs.image.WellFormed.{peer_ok, block_ok, state_ok}
use Rattle.model.specs.list.Listed.{ListingOk}
use Rattle.model.specs.image.Sound.{PartialSound, Sound}
use Rattle.model.proofs.base.Truths.{both_true, true_both}
use Rattle.model.proofs.sound.PartialLaws.{find_dl_piece_put_same, find_dl_piece_put_other, size_put, from_put}
use Rattle.model.proofs.list.ListingLaws.{ok_same}
use Rattle.model.proofs.sound.SoundBody.{Body, BodyBut, Fits, sound_body, body_sound, sound_standing, partial_fits}
use Rattle.model.proofs.sound.SoundFields.{frame_partials, at_partials}
use Rattle.model.proofs.keep.KeepState.{but_body, update_keeps}

-- ---- a partial replaced
-- the list does not depend on the partials
pub partials_listed : (ds : List DownloadingPiece) (s : Picker) → ListingOk s → ListingOk (with_partials ds s)
unfolding with_partials pieces_in rank piece_at
partials_listed ds s l = ok_same s (with_partials ds s) refl refl (λ y h. refl) l

module _ (s : Picker) (i : ℕ) (d e : DownloadingPiece) (v : Sound s) (found : partial_of s i ≡ some d) (fits : Fits (blocks_in_piece s i) i e) where
  -- all is right but, perhaps, the state of its piece
  put_but : BodyBut i e (replace_partial e s)
  unfolding replace_partial with_partials partial_of blocks_in_piece piece_at
  put_but = record {
    frame = frame_partials s b.frame es (from_put 0 e s.partials v.rising) (omega (arith, size_put e s.partials, v.few));
    others = λ k n. at_partials s k (b.all k) es (find_dl_piece_put_other k e s.partials (λ (q : e.piece ≡ k). n (sym q ∙ fits.piece)));
    standing = sound_standing s i d v found;
    found = find_dl_piece_put_same i e d s.partials fits.piece found;
    fits = fits;
  }
    where
      b : Body s
      b = sound_body s v

      es : List DownloadingPiece
      es = replace_in e s.partials

  -- and that too where the new blocks give the same
  pub put_keeps : state_ok (piece_at s i) e ≡ true → Sound (replace_partial e s)
  unfolding replace_partial with_partials piece_at
  put_keeps o =
      body_sound (replace_partial e s) (but_body i e (replace_partial e s) put_but o) (partials_listed (replace_in e s.partials) s v.list)

-- ---- flags
-- they do not matter to the state
flags_right : (p : Piece) (d : DownloadingPiece) (a b : Bool) → state_ok p (with_flags a b d) ≡ state_ok p d
unfolding state_ok new_state progress blocks_in_state with_flags
flags_right p d a b = refl

flags_fit : (n i : ℕ) (d : DownloadingPiece) (a b : Bool) → Fits n i d → Fits n i (with_flags a b d)
unfolding with_flags
flags_fit n i d a b g = record { piece = g.piece; blocks = g.blocks; each = g.each }

-- a partial gets other flags
pub flags_keep : (s : Picker) (i : ℕ) (d : DownloadingPiece) (a b : Bool) → partial_of s i ≡ some d → Sound s → Sound (replace_partial (with_flags a b d) s)
flags_keep s i d a b f v =
    let g = v.partial i d f in
    put_keeps s i d (with_flags a b d) v f (flags_fit (blocks_in_piece s i) i d a b (partial_fits s i d g)) (flags_right (piece_at s i) d a b ∙ g.state)

-- a piece locked
pub lock_piece_keeps : (i : ℕ) (s : Picker) → Sound s → Sound (lock_piece i s)
unfolding lock_piece lock_in
lock_piece_keeps i s v = go (partial_of s i) refl
  where
    go : (o : Option DownloadingPiece) → partial_of s i ≡ o → Sound (lock_in o s)
    go none e = v
    go (some d) e = flags_keep s i d false true e v

-- ---- lists of blocks
every_put : (t : Block → Bool) (j : ℕ) (b : Block) (l : List Block) → t b ≡ true → every t l ≡ true → every t (set_nth j b l) ≡ true
unfolding every set_nth
every_put t j b [] h g = refl
every_put t zero b (x ∷ xs) h g = true_both (t b) (every t xs) h (both_true (t x) (every t xs) g).1
every_put t (suc j) b (x ∷ xs) h g =
    let r = both_true (t x) (every t xs) g in
    true_both (t x) (every t (set_nth j b xs)) r.0 (every_put t j b xs h r.1)

every_at : (t : Block → Bool) (j : ℕ) (e : Block) (l : List Block) → t e ≡ true → every t l ≡ true → t (nth e l j) ≡ true
unfolding every nth
every_at t j e [] h g = h
every_at t zero e (x ∷ xs) h g = (both_true (t x) (every t xs) g).0
every_at t (suc j) e (x ∷ xs) h g = every_at t j e xs h (both_true (t x) (every t xs) g).1

count_put : (t : Block → Bool) (j : ℕ) (b e : Block) (l : List Block) → t b ≡ t (nth e l j) → count t (set_nth j b l) ≡ count t l
unfolding count set_nth nth
count_put t j b e [] h = refl
count_put t zero b e (x ∷ xs) h = rw h
count_put t (suc j) b e (x ∷ xs) h = rw (count_put t j b e xs h)

-- ---- a block replaced
-- each block of a partial is in range
pub block_in : (s : Picker) (i j : ℕ) (d : DownloadingPiece) → PartialSound s i d → block_ok (block_at d j) ≡ true
unfolding block_at block_ok no_block peer_ok
block_in s i j d g = every_at block_ok j no_block d.blocks refl g.each

module _ (d : DownloadingPiece) (j : ℕ) (b : Block) where
  -- the partial with block j replaced
  after : DownloadingPiece
  after = with_blocks (set_nth j b d.blocks) d

  after_fits : (n i : ℕ) → block_ok b ≡ true → Fits n i d → Fits n i after
  unfolding after with_blocks set_nth len
  after_fits n i o g = record {
    piece = g.piece;
    blocks = length-set d.blocks j b ∙ g.blocks;
    each = every_put block_ok j b d.blocks o g.each;
  }

  -- a block in the same state gives the same state of the piece
  after_right : (p : Piece) → b.state ≡ (block_at d j).state → state_ok p after ≡ state_ok p d
  unfolding after with_blocks blocks_in_state block_at len set_nth state_ok new_state progress
  after_right p e = rw (length-set d.blocks j b, as_many None, as_many Requested)
    where
      as_many : (k : BlockState) → count (λ c. same_block_state c.state k) (set_nth j b d.blocks) ≡ count (λ c. same_block_state c.state k) d.blocks
      as_many k = count_put (λ c. same_block_state c.state k) j b no_block d.blocks (ap (λ (q : BlockState). same_block_state q k) e)

-- a block replaced, and the piece's state after it
pub set_block_keeps : (ds : List ℕ) (i : ℕ) (d : DownloadingPiece) (j : ℕ) (b : Block) (w : Drawing)
    → partial_of w.picker i ≡ some d → block_ok b ≡ true → Sound w.picker → Sound (set_block ds i d j b w).picker
unfolding set_block no_draw drawing replace_block replace_partial after
set_block_keeps ds i d j b w f o v =
    update_keeps ds i e (no_draw (replace_block d j b) w)
    (put_but s i d e v f (after_fits d j b (blocks_in_piece s i) i o (partial_fits s i d (v.partial i d f))))
    (partials_listed (replace_in e s.partials) s v.list)
  where
    s : Picker
    s = w.picker

    e : DownloadingPiece
    e = after d j b

-- a block replaced by one in the same state
pub same_block_keeps : (i : ℕ) (d : DownloadingPiece) (j : ℕ) (b : Block) (s : Picker)
    → partial_of s i ≡ some d → block_ok b ≡ true → b.state ≡ (block_at d j).state → Sound s → Sound (replace_block d j b s)
unfolding replace_block after
same_block_keeps i d j b s f o e v =
    let g = v.partial i d f in
    put_keeps s i d (after d j b) v f (after_fits d j b (blocks_in_piece s i) i o (partial_fits s i d g)) (after_right d j b (piece_at s i) e ∙ g.state)
