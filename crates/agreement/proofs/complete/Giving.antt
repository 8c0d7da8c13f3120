-- A block that a pick is to give: it is given, or set aside, or as many blocks are set aside as are wanted. Everything that a pick does
-- keeps that, and where blocks are wanted at the end the block is given. Assumes nothing.
use mathlib.Core.Path.{◌≡◌, refl, sym}
use Prim.Native.Nat.{ℕ, ◌≤◌}
use native.Mathlib.Decide.{dec_le}
use native.Mathlib.Omega.{arith}
use mathlib.Core.Bool.{Bool, true, false, cond, ◌&&◌, ◌||◌, true≢false}
use mathlib.Core.List.{List, [], ◌∷◌, ◌++◌}
use mathlib.Core.Option.{Option, none, some}
use lib.ListN.{length, length-append, take}
use lib.Seq.{take-length}
use lib.Dec.{eqb, leb}
use borrow.Author.Tests.{eqb-true, eq-eqb, leb-true, le-leb}
use Rattle.model.specs.Lists.{least, any, from, each, len, walk}
use Rattle.model.specs.State.{DownloadingPiece, Picker, payload_blocks_in_piece}
use Rattle.model.specs.pick.Blocks.{PickRequest, Contiguous, PieceBlock, PickState, spent, with_out, with_contiguous, with_backup, with_picker}
use Rattle.model.specs.pick.Blocks.{ignore, flagged, steps, piece_block, took, free_from, set_aside, append_blocks, option, contiguous_met}
use Rattle.model.specs.pick.Blocks.{take_span, take_payload, add_blocks_downloading, add_partial_of, add_standing, add_blocks}
use Rattle.model.specs.pick.Pick.{take_all}
use Rattle.model.specs.Options.{prioritize_partials, rand_loops}
use Rattle.model.specs.change.Partials.{partial_of}
use Rattle.model.proofs.base.WalkLaws.{unless_keeps, walk_until_keeps}
use Rattle.pick_laws.proofs.AsideLaws.{aside_arms}
use Rattle.model.proofs.pick.FrameLaws.{Closed, any_partial, every_any, all_keeps, downloading_keeps, blocks_keeps, run_keeps}
use Rattle.model.proofs.pick.PhaseLaws.{Kept, closed_kept}
use Rattle.agreement.specs.Complete.{is_given}

-- ---- one of a list
module _ {A : Type 0} (t : A → Bool) where
  -- one of the front
  pub any_front : (l m : List A) → any t l ≡ true → any t (l ++ m) ≡ true
  unfolding any
  any_front [] m h = absurd (true≢false (sym h))
  any_front (x ∷ l) m h = go (t x) h (any_front l m)
    where
      go : (b : Bool) → (b || any t l) ≡ true → (any t l ≡ true → any t (l ++ m) ≡ true) → (b || any t (l ++ m)) ≡ true
      go true h f = refl
      go false h f = f h

  -- one of the back
  pub any_back : (l m : List A) → any t m ≡ true → any t (l ++ m) ≡ true
  unfolding any
  any_back [] m h = h
  any_back (x ∷ l) m h = go (t x) (any_back l m h)
    where
      go : (b : Bool) → any t (l ++ m) ≡ true → (b || any t (l ++ m)) ≡ true
      go true h = refl
      go false h = h

module _ (i j : ℕ) where
  -- the block itself, taken
  pub given_last : (l : List PieceBlock) → is_given i j (l ++ (piece_block i j ∷ [])) ≡ true
  unfolding is_given any piece_block
  given_last l = any_back (λ b. eqb b.piece i && eqb b.block j) l (piece_block i j ∷ []) (rw (eq-eqb i i refl, eq-eqb j j refl))

  pub given_front : (l m : List PieceBlock) → is_given i j l ≡ true → is_given i j (l ++ m) ≡ true
  unfolding is_given
  given_front l m h = any_front (λ b. eqb b.piece i && eqb b.block j) l m h

  pub given_back : (l m : List PieceBlock) → is_given i j m ≡ true → is_given i j (l ++ m) ≡ true
  unfolding is_given
  given_back l m h = any_back (λ b. eqb b.piece i && eqb b.block j) l m h

  -- ---- what every step keeps
  -- enough blocks are set aside, or the block is given, or it is set aside
  pub data Sure (w : PickState) : Type 0 where
    enough : w.left ≤ len w.backup → Sure w
    out : is_given i j w.out ≡ true → Sure w
    aside : is_given i j w.backup ≡ true → Sure w

  -- where N is spent
  pub spent_sure : (w : PickState) → spent w ≡ true → Sure w
  unfolding spent
  spent_sure w h = enough (let e = eqb-true w.left 0 h in omega arith)

  pub contiguous_sure : (r : Contiguous) (w : PickState) → Sure w → Sure (with_contiguous r w)
  unfolding with_contiguous with_out
  contiguous_sure r w (enough h) = enough h
  contiguous_sure r w (out h) = out h
  contiguous_sure r w (aside h) = aside h

  pub took_sure : (k n : ℕ) (w : PickState) → Sure w → Sure (took k n w)
  unfolding took with_out
  took_sure k n w (enough h) = enough (omega arith)
  took_sure k n w (out h) = out (given_front w.out (piece_block k n ∷ []) h)
  took_sure k n w (aside h) = aside h

  -- the block itself
  pub took_this : (w : PickState) → Sure (took i j w)
  unfolding took with_out
  took_this w = out (given_last w.out)

  pub marks_sure : (k : ℕ) (w : PickState) → Sure w → Sure (ignore k w)
  unfolding ignore
  marks_sure k w (enough h) = enough h
  marks_sure k w (out h) = out h
  marks_sure k w (aside h) = aside h

  pub flags_sure : (f : ℕ) (w : PickState) → Sure w → Sure (flagged f w)
  unfolding flagged
  flags_sure f w (enough h) = enough h
  flags_sure f w (out h) = out h
  flags_sure f w (aside h) = aside h

  pub steps_sure : (n c : ℕ) (w : PickState) → Sure w → Sure (steps n c w)
  unfolding steps
  steps_sure n c w (enough h) = enough h
  steps_sure n c w (out h) = out h
  steps_sure n c w (aside h) = aside h

  pub picker_sure : (s : Picker) (used : ℕ) (w : PickState) → Sure w → Sure (with_picker s used w)
  unfolding with_picker
  picker_sure s u w (enough h) = enough h
  picker_sure s u w (out h) = out h
  picker_sure s u w (aside h) = aside h

  more_sure : (bs : List PieceBlock) (w : PickState) → Sure w → Sure (with_backup (w.backup ++ bs) w)
  unfolding with_backup len
  more_sure bs w (enough h) = enough (omega (arith, length-append w.backup bs))
  more_sure bs w (out h) = out h
  more_sure bs w (aside h) = aside (given_front w.backup bs h)

  aside_sure : (d : DownloadingPiece) (first : ℕ) (w : PickState) → Sure w → Sure (set_aside d first w)
  aside_sure d first w h = aside_arms Sure d first w h (λ e. more_sure (each (piece_block d.piece) (free_from d first)) w h)

  -- ---- blocks set aside, appended
  least_first : (m n : ℕ) → m ≤ n → least m n ≡ m
  unfolding least
  least_first m n h = rw (le-leb m n h)

  least_second : (m n : ℕ) → n ≤ m → least m n ≡ n
  unfolding least
  least_second m n h = go (leb m n) refl
    where
      go : (b : Bool) → leb m n ≡ b → cond b m n ≡ n
      go true e = let l = leb-true m n e in omega arith
      go false e = refl

  -- enough are set aside: N is spent
  append_enough : (w : PickState) → w.left ≤ len w.backup → Sure (append_blocks w)
  unfolding append_blocks with_backup with_out
  append_enough w h = enough (let e = least_second (len w.backup) w.left h in omega arith)

  append_all : (w : PickState) → len w.backup ≤ w.left → is_given i j w.backup ≡ true → Sure (append_blocks w)
  unfolding append_blocks with_backup with_out len
  append_all w l h =
      out (rw (least_first (length w.backup) w.left l, take-length w.backup) (given_back w.out w.backup h))

  append_out : (w : PickState) → is_given i j w.out ≡ true → Sure (append_blocks w)
  unfolding append_blocks with_backup with_out
  append_out w h = out (given_front w.out (take (least (len w.backup) w.left) w.backup) h)

  pub append_sure : (w : PickState) → Sure w → Sure (append_blocks w)
  append_sure w (enough h) = append_enough w h
  append_sure w (out h) = append_out w h
  append_sure w (aside h) = elim (dec_le (len w.backup) w.left) [
    | yes l ↦ append_all w l h
    | no l ↦ append_enough w (omega arith)
  ]

  -- ---- all together
  sure_closed : Closed any_partial Sure
  sure_closed = record {
    ready = λ w h. every_any w.picker.partials;
    contiguous = contiguous_sure;
    takes = took_sure;
    marks = marks_sure;
    aside = λ d first w o h. aside_sure d first w h;
  }

  -- every part of a pick keeps it
  pub sure_kept : (a : PickRequest) → Kept a any_partial Sure
  sure_kept a = closed_kept a any_partial Sure sure_closed flags_sure (steps_sure 1 rand_loops) append_sure

  -- a part of it by itself: the blocks of a piece, with pads or without, and what a partial adds in a visit
  pub payload_sure : (k : ℕ) (w : PickState) → Sure w → Sure (take_payload k w)
  unfolding take_payload walk
  payload_sure k w h =
      walk_until_keeps Sure (took k) (λ n v. contiguous_met (took k n v)) (took_sure k) (from 0 (payload_blocks_in_piece w.picker k)) w h

  pub all_sure : (k : ℕ) (w : PickState) → Sure w → Sure (take_all k w)
  all_sure k w h = all_keeps any_partial Sure sure_closed (steps_sure 1 rand_loops) flags_sure k w h

  pub downloading_sure : (a : PickRequest) (d : DownloadingPiece) (w : PickState) → Sure w → Sure (add_blocks_downloading a d w)
  unfolding any_partial
  downloading_sure a d w h = downloading_keeps any_partial Sure sure_closed a d w refl h

  partial_sure : (a : PickRequest) (found : Option DownloadingPiece) (w : PickState) → Sure w → Sure (add_partial_of a found w)
  unfolding add_partial_of
  partial_sure a none w h = h
  partial_sure a (some d) w h = downloading_sure a d w h

  pub standing_sure : (a : PickRequest) (k : ℕ) (w : PickState) → Sure w → Sure (add_standing a k w)
  unfolding add_standing
  standing_sure a k w h =
      unless_keeps Sure (option prioritize_partials a) (add_partial_of a (partial_of w.picker k)) w h
      (λ e. partial_sure a (partial_of w.picker k) w h)

  pub blocks_sure : (a : PickRequest) (k : ℕ) (w : PickState) → Sure w → Sure (add_blocks a k w)
  blocks_sure a k w h = blocks_keeps any_partial Sure sure_closed a k w h

  -- a span in the random walk
  pub span_sure : (ks : List ℕ) (w : PickState) → Sure w → Sure (take_span take_all ks w)
  span_sure ks w h = run_keeps any_partial Sure sure_closed take_all all_sure ks w h

  -- ---- the end
  -- N is spent, or the block is given
  pub data Settled (w : PickState) : Type 0 where
    none_left : w.left ≡ 0 → Settled w
    given : is_given i j w.out ≡ true → Settled w

  append_empty : (w : PickState) → (append_blocks w).backup ≡ []
  unfolding append_blocks with_backup
  append_empty w = refl

  none_wanted : (v : PickState) → v.backup ≡ [] → v.left ≤ len v.backup → v.left ≡ 0
  unfolding len
  none_wanted v e l = let g = rw e at l in omega arith

  not_there : (v : PickState) → v.backup ≡ [] → is_given i j v.backup ≡ true → ⊥
  unfolding is_given any
  not_there v e g = true≢false (sym (rw e at g))

  settle : (v : PickState) → v.backup ≡ [] → Sure v → Settled v
  settle v e (enough l) = none_left (none_wanted v e l)
  settle v e (out g) = given g
  settle v e (aside g) = absurd (not_there v e g)

  -- once the blocks set aside are appended
  pub append_settled : (w : PickState) → Sure w → Settled (append_blocks w)
  append_settled w h = settle (append_blocks w) (append_empty w) (append_sure w h)
