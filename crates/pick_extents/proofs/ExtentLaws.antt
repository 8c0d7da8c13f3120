-- The walk over recent extents: the pieces of one, whether they are all flushed, and what is left of the walk. Assumes nothing.
use mathlib.Core.Path.{◌≡◌, refl, sym, ap, ◌∙◌}
use mathlib.Core.Bool.{Bool, true, false, cond, not, ◌&&◌}
use mathlib.Core.List.{List, [], ◌∷◌, ◌++◌}
use Prim.Native.Nat.{ℕ, zero, suc, ◌+◌, ◌-◌, ◌≤◌, ◌<◌}
use native.Mathlib.Nat.{le_of_suc-le-suc, not-suc-le-zero}
use native.Mathlib.Omega.{arith}
use lib.ListN.{length}
use lib.Dec.{eqb, ltb}
use borrow.Author.Tests.{ltb-true, ne_eqb, eq-eqb}
use Rattle.model.specs.Lists.{nth, len, from, range, every, unless, walk_until, walk}
use Rattle.model.specs.State.{Picker, max_extents, pieces_in, piece_at, blocks_per_piece, extent_size, num_extents, extent_start, extent_end}
use Rattle.model.specs.Options.{extent_affinity}
use Rattle.model.specs.pick.Blocks.{PickRequest, PickState, spent}
use Rattle.model.specs.pick.Pick.{ExtentWalk, visit_outside, all_flushed, found_finished, extent_step}
use Rattle.model.specs.image.WellFormed.{extent_ok, extents_ok}
use Rattle.model.specs.image.Sound.{Sound}
use Rattle.model.proofs.base.Truths.{and_left, and_right}
use Rattle.pick_laws.proofs.SpanLaws.{least_right}
use Rattle.geometry.specs.Numbers.{extent_begin}
use Rattle.geometry.specs.Numbers.{extent_end as end_of}
use Rattle.memory_records.specs.declared.record.DownloadingPiece.{DownloadingPiece as Record}
use Rattle.memory_layout.specs.declared.shape.Shape.{Shape}
use Rattle.memory_layout.specs.Decode.{decode}
use Rattle.memory_layout.specs.Bounds.{InBounds}
use Rattle.memory_fields.specs.Reading.{CellsSay}
use Rattle.pick_state.specs.declared.numbers.PickNumbers.{PickNumbers}
use Rattle.pick_state.specs.PickStates.{state_of, OutKept}
use Rattle.pick_state.specs.Room.{Underway}
use Rattle.pick_state.proofs.DidLaws.{kept_none, kept_then}
use Rattle.pick_state.proofs.RangeLaws.{range_next, range_none, range_all}
use Rattle.pick_extents.specs.declared.ExtentWalk.{ExtentWalk as Numbers}
use Rattle.pick_blocks.specs.Blocks.{PieceRoom}
use Rattle.pick_visits.specs.Steps.{SteppedBeside}
use Rattle.pick_extents.specs.Extents.{finished_at, walk_of, ExtentsBeside, FoundBelow, first_walk, walked_extents}

-- ---- all flushed
-- what is left of the range from `first` up to `end` is the range from i on
pub record FlushedLeft (s : Shape) (cells : List ℕ) (first i end : ℕ) : Type 0 where
  pub is : (records : List Record) (words : List ℕ) → InBounds s records words cells
      → every (λ k. (piece_at (decode records words cells) k).flushed) (range i end)
      ≡ every (λ k. (piece_at (decode records words cells) k).flushed) (range first end)

pub flushed_start : (s : Shape) (cells : List ℕ) (first end : ℕ) → FlushedLeft s cells first first end
flushed_start s cells first end = record { is = λ records words b. refl }

module _ {s : Shape} {cells : List ℕ} {first i end : ℕ} (c : FlushedLeft s cells first i end) where
  every_next : (test : ℕ → Bool) → i < end → every test (range i end) ≡ (test i && every test (range (i + 1) end))
  unfolding every
  every_next test h = ap (every test) (range_next i end h)

  module _ (h : i < end) (r : Bool) (told : CellsSay s cells (λ d. (piece_at d i).flushed) r) where
    pub flushed_next : not r ≡ false → FlushedLeft s cells first (i + 1) end
    flushed_next e = record {
      is = λ records words b.
          let test : ℕ → Bool = λ k. (piece_at (decode records words cells) k).flushed in
          sym (every_next test h ∙ ap (λ (x : Bool). x && every test (range (i + 1) end)) (sym (told.is records words b) ∙ is_set r e))
          ∙ c.is records words b;
    }
      where
        is_set : (x : Bool) → not x ≡ false → x ≡ true
        is_set true z = refl
        is_set false z = sym z

    pub flushed_stop : not r ≡ true → CellsSay s cells (λ d. every (λ k. (piece_at d k).flushed) (range first end)) false
    flushed_stop e = record {
      is = λ records words b.
          let test : ℕ → Bool = λ k. (piece_at (decode records words cells) k).flushed in
          sym (every_next test h ∙ ap (λ (x : Bool). x && every test (range (i + 1) end)) (sym (told.is records words b) ∙ unset r e))
          ∙ c.is records words b;
    }
      where
        unset : (x : Bool) → not x ≡ true → x ≡ false
        unset true z = sym z
        unset false z = refl

  pub flushed-end : end ≤ i → CellsSay s cells (λ d. every (λ k. (piece_at d k).flushed) (range first end)) true
  unfolding every
  flushed-end h = record {
    is = λ records words b.
        let test : ℕ → Bool = λ k. (piece_at (decode records words cells) k).flushed in
        sym (ap (every test) (range_none i end h)) ∙ c.is records words b;
  }

-- ---- an extent of the picker
extents_in : (d : Picker) (before es : List ℕ) → extents_ok d before es ≡ true → (k : ℕ) → k < len es
    → nth 0 es k < num_extents (pieces_in d) (blocks_per_piece d)
unfolding extents_ok extent_ok nth len
extents_in d before [] h k l = absurd (not-suc-le-zero l)
extents_in d before (e ∷ es) h zero l =
    let m = num_extents (pieces_in d) (blocks_per_piece d) in
    ltb-true e m (and_left (ltb e m) _ (and_right (ltb (len before) max_extents) _ (and_left (extent_ok d before e) _ h)))
extents_in d before (e ∷ es) h (suc k) l = extents_in d (before ++ (e ∷ [])) es (and_right (extent_ok d before e) _ h) k (le_of_suc-le-suc l)

-- a recent extent is one
pub extent_there : (d : Picker) → Sound d → (k : ℕ) → k < len d.recent_extents
    → nth 0 d.recent_extents k < num_extents (pieces_in d) (blocks_per_piece d)
extent_there d h k l = extents_in d [] d.recent_extents h.recent_extents k l

module _ (d : Picker) (n b e : ℕ) (en : n ≡ pieces_in d) (eb : b ≡ blocks_per_piece d) where
  -- its first piece, and the one past its last
  pub begins_at : (x : ℕ) → x ≡ extent_begin b e → x ≡ extent_start d e
  unfolding extent_begin extent_start
  begins_at x h = h ∙ rw eb refl

  pub ends_at : (x : ℕ) → x ≡ end_of n b e → (x ≡ extent_end d e) × (x ≤ pieces_in d)
  unfolding end_of extent_begin extent_end extent_start
  ends_at x h =
      let y : x ≡ extent_end d e = h ∙ rw (eb, en) refl in
      (y, omega (arith, y, least_right (extent_start d e + extent_size (blocks_per_piece d)) (pieces_in d)))

-- ---- one extent
-- its pieces are all flushed
flushed_is : (d : Picker) (k e first end : ℕ) → e ≡ nth 0 d.recent_extents k → first ≡ extent_start d e → end ≡ extent_end d e
    → (all : Bool) → all ≡ every (λ i. (piece_at d i).flushed) (range first end) → all ≡ all_flushed d (nth 0 d.recent_extents k)
unfolding all_flushed
flushed_is d k e first end ee ef el all ea = ea ∙ rw (ef, el, ee) refl

module _ {d : Picker} {x : Numbers} {out aside : List ℕ} {ignored : List Bool} (a : PickRequest) (k e first end : ℕ)
    (ee : e ≡ nth 0 d.recent_extents k) (ef : first ≡ extent_start d e) (el : end ≡ extent_end d e)
    {r : PickNumbers} {out' aside' : List ℕ} {ignored' : List Bool}
    (y : SteppedBeside (walk (visit_outside a extent_affinity) spent (range first end)) d x.numbers r out aside ignored out' aside' ignored') where
  -- what is found is the definition's
  extent_made : (found : Bool) (place : ℕ)
      → ((start : ℕ) (loops : List ℕ) → found_finished (state_of start d r out' aside' ignored' loops) k (finished_at x.found x.place) ≡ finished_at found place)
      → ExtentsBeside (extent_step a k) d x (record { numbers = r; found = found; place = place }) out aside ignored out' aside' ignored'
  unfolding extent_step walk_of state_of
  extent_made found place f loops u =
      let z = y loops u in
      record {
        is = λ start h.
            let w = state_of start d x.numbers out aside ignored loops in
            let g : state_of start d r out' aside' ignored' loops
            ≡ walk (visit_outside a extent_affinity) spent (range (extent_start d (nth 0 d.recent_extents k)) (extent_end d (nth 0 d.recent_extents k))) w =
            z.did.is start h ∙ rw (ef, el, ee) refl in
            λ m. record { work = g m; finished = (sym (f start loops) ∙ ap (λ (v : PickState). found_finished v k (finished_at x.found x.place)) g) m };
        kept = z.did.kept;
        long_aside = z.did.long_aside;
        long_ignored = z.did.long_ignored;
        underway = z.underway;
      }

  -- no block is wanted any more: none is looked at
  pub extent_spent : r.left ≡ 0
      → ExtentsBeside (extent_step a k) d x (record { numbers = r; found = x.found; place = x.place }) out aside ignored out' aside' ignored'
  unfolding found_finished spent state_of
  extent_spent z = extent_made x.found x.place (λ start loops. rw (eq-eqb r.left 0 z) refl)

  module _ (n : r.left ≡ 0 → ⊥) (all : Bool) (ea : all ≡ every (λ i. (piece_at d i).flushed) (range first end)) where
    -- a finished one
    pub extent_finished : all ≡ true
        → ExtentsBeside (extent_step a k) d x (record { numbers = r; found = true; place = k }) out aside ignored out' aside' ignored'
    unfolding found_finished spent state_of finished_at
    extent_finished t = extent_made true k (λ start loops. rw (ne_eqb r.left 0 n, sym (flushed_is d k e first end ee ef el all ea) ∙ t) refl)

    -- another
    pub extent_open : all ≡ false
        → ExtentsBeside (extent_step a k) d x (record { numbers = r; found = x.found; place = x.place }) out aside ignored out' aside' ignored'
    unfolding found_finished spent state_of
    extent_open t = extent_made x.found x.place (λ start loops. rw (ne_eqb r.left 0 n, sym (flushed_is d k e first end ee ef el all ea) ∙ t) refl)

-- ---- what was found stands before a place
pub found_none : (t : PickNumbers) (n : ℕ) → FoundBelow n (first_walk t)
unfolding first_walk
found_none t n = record { below = λ e. absurd (not_true e) }
  where
    not_true : false ≡ true → ⊥
    not_true e = let z : ◌≡◌ {A = ℕ} 0 1 = ap (λ (b : Bool). cond b 1 0) e in omega arith

pub found_more : {k : ℕ} {x : Numbers} (r : Numbers) → FoundBelow k x → r.found ≡ x.found → r.place ≡ x.place → FoundBelow (k + 1) r
found_more r h ef ep = record { below = λ e. let l = h.below (sym ef ∙ e) in omega arith }

pub found_here : (k : ℕ) (r : Numbers) → r.place ≡ k → FoundBelow (k + 1) r
found_here k r e = record { below = λ z. omega arith }

pub found_all : {k : ℕ} {x : Numbers} (n : ℕ) → k ≤ n → FoundBelow k x → FoundBelow n x
found_all n h f = record { below = λ e. let l = f.below e in omega arith }

-- ---- the walk
-- no block is wanted any more
pub extents_spent : (y : ExtentWalk) → Bool
extents_spent y = spent y.work

-- the extents from place k up to place n are left
pub record ExtentsLeft (a : PickRequest) (n k : ℕ) (d : Picker) (x cur : Numbers) (out aside : List ℕ) (ignored : List Bool)
    (out₁ aside₁ : List ℕ) (ignored₁ : List Bool) (loops : List ℕ) : Type 0 where
  pub is : (start : ℕ) → start ≤ x.numbers.end
      → walk (extent_step a) extents_spent (range k n) (walk_of start d cur out₁ aside₁ ignored₁ loops)
      ≡ walk (extent_step a) extents_spent (range 0 n) (walk_of start d x out aside ignored loops)
  pub kept : OutKept x.numbers cur.numbers out out₁
  pub long_aside : length aside₁ ≡ length aside
  pub long_ignored : length ignored₁ ≡ length ignored
  pub underway : Underway d cur.numbers out₁ aside₁ ignored₁ loops

pub record ExtentsGoing (a : PickRequest) (n k : ℕ) (d : Picker) (x cur : Numbers) (out aside : List ℕ) (ignored : List Bool)
    (out₁ aside₁ : List ℕ) (ignored₁ : List Bool) : Type 0 where
  pub now : PieceRoom d cur.numbers out₁ aside₁ ignored₁
  pub wanted : 1 ≤ cur.numbers.left
  pub found : FoundBelow k cur
  pub left : (loops : List ℕ) → Underway d x.numbers out aside ignored loops
      → ExtentsLeft a n k d x cur out aside ignored out₁ aside₁ ignored₁ loops

pub extents_start : (a : PickRequest) (n : ℕ) {d : Picker} {t : PickNumbers} {out aside : List ℕ} {ignored : List Bool}
    → PieceRoom d t out aside ignored → 1 ≤ t.left → ExtentsGoing a n 0 d (first_walk t) (first_walk t) out aside ignored out aside ignored
unfolding first_walk
extents_start a n {t = t} {out = out} u w =
    record {
      now = u;
      wanted = w;
      found = found_none t 0;
      left = λ loops v. record { is = λ start h. refl; kept = kept_none t out; long_aside = refl; long_ignored = refl; underway = v };
    }

module _ {a : PickRequest} {n k : ℕ} {d : Picker} {x cur : Numbers} {out aside : List ℕ} {ignored : List Bool} {out₁ aside₁ : List ℕ}
    {ignored₁ : List Bool} (c : ExtentsGoing a n k d x cur out aside ignored out₁ aside₁ ignored₁) where
  module _ (h : k < n) {r : Numbers} {out₂ aside₂ : List ℕ} {ignored₂ : List Bool}
      (y : ExtentsBeside (extent_step a k) d cur r out₁ aside₁ ignored₁ out₂ aside₂ ignored₂) where
    spent_after : (loops : List ℕ) → Underway d cur.numbers out₁ aside₁ ignored₁ loops → (start : ℕ) → start ≤ cur.numbers.end
        → extents_spent (extent_step a k (walk_of start d cur out₁ aside₁ ignored₁ loops)) ≡ eqb r.numbers.left 0
    unfolding extents_spent spent walk_of state_of
    spent_after loops u start l = sym (ap extents_spent ((y loops u).is start l))

    turn : (v : ExtentWalk) → walk (extent_step a) extents_spent (range k n) v
        ≡ unless (extents_spent (extent_step a k v)) (λ w. walk (extent_step a) extents_spent (range (k + 1) n) w) (extent_step a k v)
    unfolding walk walk_until
    turn v = ap (λ (l : List ℕ). walk (extent_step a) extents_spent l v) (range_next k n h)

    -- the next one
    pub extents_next : (r.numbers.left ≡ 0 → ⊥) → FoundBelow (k + 1) r
        → ExtentsGoing a n (k + 1) d x r out aside ignored out₂ aside₂ ignored₂
    unfolding unless
    extents_next z f =
        record {
          now = record { loops = c.now.loops; underway = (y c.now.loops c.now.underway).underway };
          wanted = above r.numbers.left z;
          found = f;
          left = λ loops u.
              let g = c.left loops u in
              let m = y loops g.underway in
              record {
                is = λ start l.
                    let i = g.kept.rises in
                    let v = walk_of start d cur out₁ aside₁ ignored₁ loops in
                    let s = spent_after loops g.underway start (omega arith) ∙ ne_eqb r.numbers.left 0 z in
                    ap (λ (w : ExtentWalk). walk (extent_step a) extents_spent (range (k + 1) n) w) (m.is start (omega arith))
                    ∙ (sym (turn v ∙ ap (λ (b : Bool). unless b (λ w. walk (extent_step a) extents_spent (range (k + 1) n) w) (extent_step a k v)) s)
                    ∙ g.is start l);
                kept = kept_then g.kept m.kept;
                long_aside = m.long_aside ∙ g.long_aside;
                long_ignored = m.long_ignored ∙ g.long_ignored;
                underway = m.underway;
              };
        }
      where
        above : (m : ℕ) → (m ≡ 0 → ⊥) → 1 ≤ m
        above m w = omega arith

    -- no block is wanted any more
    pub extents_stop : r.numbers.left ≡ 0
        → ExtentsBeside (walk (extent_step a) extents_spent (range 0 n)) d x r out aside ignored out₂ aside₂ ignored₂
    unfolding unless
    extents_stop z loops u =
        let g = c.left loops u in
        let m = y loops g.underway in
        record {
          is = λ start l.
              let i = g.kept.rises in
              let v = walk_of start d cur out₁ aside₁ ignored₁ loops in
              let s = spent_after loops g.underway start (omega arith) ∙ eq-eqb r.numbers.left 0 z in
              m.is start (omega arith)
              ∙ (sym (turn v ∙ ap (λ (b : Bool). unless b (λ w. walk (extent_step a) extents_spent (range (k + 1) n) w) (extent_step a k v)) s)
              ∙ g.is start l);
          kept = kept_then g.kept m.kept;
          long_aside = m.long_aside ∙ g.long_aside;
          long_ignored = m.long_ignored ∙ g.long_ignored;
          underway = m.underway;
        }

  -- no extent is left
  pub extents_end : n ≤ k → ExtentsBeside (walk (extent_step a) extents_spent (range 0 n)) d x cur out aside ignored out₁ aside₁ ignored₁
  unfolding walk walk_until
  extents_end h loops u =
      let g = c.left loops u in
      record {
        is = λ start l.
            sym (ap (λ (ks : List ℕ). walk (extent_step a) extents_spent ks (walk_of start d cur out₁ aside₁ ignored₁ loops)) (range_none k n h))
            ∙ g.is start l;
        kept = g.kept;
        long_aside = g.long_aside;
        long_ignored = g.long_ignored;
        underway = g.underway;
      }

  -- as long as before
  pub extents_lengths : PieceRoom d x.numbers out aside ignored
      → (length out₁ ≡ length out) × (length aside₁ ≡ length aside) × (length ignored₁ ≡ length ignored)
  extents_lengths u = let y = c.left u.loops u.underway in (y.kept.long, y.long_aside, y.long_ignored)

-- by its name
pub as_extents : (a : PickRequest) (n : ℕ) {d : Picker} {x r : Numbers} {out aside : List ℕ} {ignored : List Bool} {out' aside' : List ℕ}
    {ignored' : List Bool} → n ≡ len d.recent_extents
    → ExtentsBeside (walk (extent_step a) extents_spent (range 0 n)) d x r out aside ignored out' aside' ignored'
    → ExtentsBeside (walked_extents a d) d x r out aside ignored out' aside' ignored'
unfolding walked_extents extents_spent
as_extents a n {d = d} {x = x} {out = out} {aside = aside} {ignored = ignored} e y loops u =
    let z = y loops u in
    record {
      is = λ start h. z.is start h
          ∙ ap (λ (l : List ℕ). walk (extent_step a) extents_spent l (walk_of start d x out aside ignored loops)) (range_all n ∙ ap (from 0) e);
      kept = z.kept;
      long_aside = z.long_aside;
      long_ignored = z.long_ignored;
      underway = z.underway;
    }

pub extents_long : {f : ExtentWalk → ExtentWalk} {d : Picker} {x r : Numbers} {out aside : List ℕ} {ignored : List Bool} {out' aside' : List ℕ}
    {ignored' : List Bool} → ExtentsBeside f d x r out aside ignored out' aside' ignored' → PieceRoom d x.numbers out aside ignored
    → (length out' ≡ length out) × (length aside' ≡ length aside) × (length ignored' ≡ length ignored)
extents_long y u = let z = y u.loops u.underway in (z.kept.long, z.long_aside, z.long_ignored)
