-- A piece that adds without a span of its own marks at most itself. Assumes nothing.
use mathlib.Core.Path.{◌≡◌, refl, sym, ap, ◌∙◌}
use mathlib.Core.Bool.{Bool, true, false, cond, not, ◌&&◌, ◌||◌}
use mathlib.Core.List.{List, [], ◌∷◌}
use mathlib.Core.Option.{Option, none, some}
use Prim.Native.Nat.{ℕ, zero, suc, ◌+◌, ◌-◌, ◌≤◌, ◌<◌}
use native.Mathlib.Nat.{div-lt_iff_lt-mul}
use native.Mathlib.Omega.{arith}
use lib.ListN.{length}
use lib.Seq.{get_or-set_same}
use borrow.Author.Tests.{ltb-false}
use Rattle.types.specs.declared.queue.DownloadQueue.TheVariants.{Downloading}
use Rattle.types.specs.Queue.{unreverse}
use Rattle.model.specs.Lists.{bit, least, from, range, nth, set_nth, when, branch, for_each, walk}
use Rattle.model.specs.Options.{on_parole, prioritize_partials}
use Rattle.model.specs.State.{DownloadingPiece, is_open, same_queue, piece_at, blocks_per_piece, payload_blocks_in_piece}
use Rattle.model.specs.change.Partials.{partial_of}
use Rattle.model.specs.pick.Blocks.{PickRequest, PickState, option, has_bit, with_out, with_contiguous, with_backup, ignore, is_ignored}
use Rattle.model.specs.pick.Blocks.{contiguous_is_zero, contiguous_above, whole_pieces, expand_piece, pieces_of, took, contiguous_met}
use Rattle.model.specs.pick.Blocks.{span_step, take_span, take_payload, add_new_piece, requested_from, free_from, free_halt, set_aside, take_free}
use Rattle.model.specs.pick.Blocks.{keeping_contiguous, use_free, add_blocks_downloading, add_partial_of, add_standing, add_blocks, shorter}
use Rattle.model.proofs.base.WalkLaws.{unless_keeps, when_keeps, walk_until_keeps, for_each_keeps}
use Rattle.model.proofs.base.Phases.{branch_arms}
use Rattle.pick_laws.proofs.AsideLaws.{aside_arms}
use Rattle.pick_laws.proofs.SpanLaws.{span_around}
use Rattle.pick_runs.specs.Spans.{marks}
use Rattle.pick_runs.proofs.AllLaws.{marks_more}

-- ---- what leaves the marks alone
payload_marks : (i : ℕ) (w : PickState) → (take_payload i w).ignored ≡ w.ignored
unfolding take_payload walk took with_out
payload_marks i w =
    walk_until_keeps (λ v. v.ignored ≡ w.ignored) (took i) (λ j t. contiguous_met (took i j t)) (λ j t g. g)
    (from 0 (payload_blocks_in_piece w.picker i)) w refl

taken_marks : (i n : ℕ) (w : PickState) → (for_each (took i) (from 0 n) w).ignored ≡ w.ignored
unfolding took with_out
taken_marks i n w = for_each_keeps (λ v. v.ignored ≡ w.ignored) (took i) (λ j t g. g) (from 0 n) w refl

-- a partial
downloading_marks : (a : PickRequest) (p : DownloadingPiece) (w : PickState) → (add_blocks_downloading a p w).ignored ≡ w.ignored
unfolding add_blocks_downloading use_free keeping_contiguous with_contiguous with_out with_backup take_free took
downloading_marks a p w =
    let held = requested_from a.peer p in
    let first = cond (contiguous_is_zero w.contiguous) 0 held.first in
    let I : PickState → Type 0 = λ v. v.ignored ≡ w.ignored in
    when_keeps I (has_bit a p.piece && (not p.locked && (not (option on_parole a) || held.exclusive))) (use_free p held) w refl
    (λ e. branch_arms I (contiguous_above held.longest w.contiguous && held.active) (set_aside p first)
    (keeping_contiguous (take_free p first)) w
    (λ q. aside_arms I p first w refl (λ z. refl))
    (λ q. walk_until_keeps I (took p.piece) (free_halt p.piece) (λ j t g. g) (free_from p first) w refl))

partial_marks : (a : PickRequest) (o : Option DownloadingPiece) (w : PickState) → (add_partial_of a o w).ignored ≡ w.ignored
unfolding add_partial_of
partial_marks a none w = refl
partial_marks a (some p) w = downloading_marks a p w

-- ---- a span of one piece
module _ (a : PickRequest) (i : ℕ) (w : PickState) (some_block : 1 ≤ blocks_per_piece w.picker)
    (short : contiguous_above 1 w.contiguous ≡ false) where
  few_pieces : whole_pieces (blocks_per_piece w.picker) w.contiguous ≤ 1
  unfolding whole_pieces contiguous_above
  few_pieces =
      let b = blocks_per_piece w.picker in
      let x = w.contiguous.asked - w.contiguous.given + b - 1 in
      let l = ltb-false (w.contiguous.given + 1) w.contiguous.asked short in
      let e = div-lt_iff_lt-mul {k = b} {x = x} {y = 2} some_block in
      let d = e.1 (omega arith) in
      omega arith

  one_piece : ((expand_piece a i w).first ≡ i) × ((expand_piece a i w).end ≡ suc i)
  unfolding expand_piece
  one_piece =
      let p = span_around a w.picker i (whole_pieces (blocks_per_piece w.picker) w.contiguous) in
      let f = p.1.from in
      let t = p.1.to in
      let m = p.1.few in
      let n = p.2 in
      let k = few_pieces in
      (omega arith, omega arith)

  pieces_one : pieces_of (expand_piece a i w) ≡ i ∷ []
  unfolding pieces_of range from
  pieces_one =
      let o = one_piece in
      let e : (expand_piece a i w).end - (expand_piece a i w).first ≡ suc zero = omega arith in
      ap (from (expand_piece a i w).first) e ∙ ap (λ (k : ℕ). k ∷ []) o.0

  -- it is marked
  span_marks : is_ignored i w ≡ false → (take_span take_payload (pieces_of (expand_piece a i w)) w).ignored ≡ set_nth i true w.ignored
  unfolding take_span for_each span_step branch ignore
  span_marks e =
      ap (λ (l : List ℕ). (take_span take_payload l w).ignored) pieces_one
      ∙ (ap (λ (b : Bool). (branch b (λ v. with_contiguous (shorter v.contiguous) v) (λ v. take_payload i (ignore i v)) w).ignored) e
      ∙ payload_marks i (ignore i w))

-- ---- a piece
set_there : (l : List Bool) (i : ℕ) → i < length l → nth false (set_nth i true l) i ≡ true
unfolding nth set_nth
set_there l i k = get_or-set_same l i true false k

module _ (i : ℕ) (w : PickState) (e : is_ignored i w ≡ false) (inside : i < length w.ignored) where
  -- the marks are those of w, and of piece i where it is marked now
  AtMostOne : PickState → Type 0
  AtMostOne v = marks v.ignored ≡ marks w.ignored + bit (nth false v.ignored i)

  one_none : (v : PickState) → v.ignored ≡ w.ignored → AtMostOne v
  unfolding AtMostOne is_ignored
  one_none v h = rw (h, e) (omega arith)

  one_more : (v : PickState) → v.ignored ≡ set_nth i true w.ignored → AtMostOne v
  unfolding AtMostOne is_ignored
  one_more v h = rw (h, set_there w.ignored i inside) (marks_more w.ignored i inside e)

  -- a piece that has no run of two blocks to fill, or is not Open
  pub piece_marks : (a : PickRequest) → 1 ≤ blocks_per_piece w.picker
      → (contiguous_above 1 w.contiguous && is_open (piece_at w.picker i).state) ≡ false
      → marks (add_blocks a i w).ignored ≡ marks w.ignored + bit (nth false (add_blocks a i w).ignored i)
  unfolding AtMostOne add_blocks add_standing keeping_contiguous with_contiguous with_out add_new_piece
  piece_marks a b k =
      let q = (piece_at w.picker i).state in
      let n = least (payload_blocks_in_piece w.picker i) w.left in
      let is = pieces_of (expand_piece a i w) in
      let f = when (same_queue (unreverse q) Downloading) (add_standing a i) in
      unless_keeps AtMostOne (is_ignored i w) (branch (is_open q) (keeping_contiguous (add_new_piece a i)) f) w (one_none w refl)
      (λ z. branch_arms AtMostOne (is_open q) (keeping_contiguous (add_new_piece a i)) f w
      (λ o. branch_arms AtMostOne (contiguous_is_zero w.contiguous) (for_each (took i) (from 0 n)) (take_span take_payload is) w
      (λ c. one_none (for_each (took i) (from 0 n) w) (taken_marks i n w))
      (λ c. one_more (take_span take_payload is w) (span_marks a i w b (and_off (contiguous_above 1 w.contiguous) (is_open q) k o) e)))
      (λ o. when_keeps AtMostOne (same_queue (unreverse q) Downloading) (add_standing a i) w (one_none w refl)
      (λ g. unless_keeps AtMostOne (option prioritize_partials a) (add_partial_of a (partial_of w.picker i)) w (one_none w refl)
      (λ u. one_none (add_partial_of a (partial_of w.picker i) w) (partial_marks a (partial_of w.picker i) w)))))
    where
      and_off : (p r : Bool) → (p && r) ≡ false → r ≡ true → p ≡ false
      and_off true r h g = sym g ∙ h
      and_off false r h g = refl
