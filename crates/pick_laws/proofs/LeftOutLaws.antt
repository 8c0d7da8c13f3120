-- What the Rust does and the definition leaves out never matters: each law says that with it and without it the same comes out.
-- Assumes nothing.
use mathlib.Core.Path.{◌≡◌, refl, sym, ap, ◌∙◌}
use mathlib.Core.Logic.{◌⊎◌, inl, inr, ⊎_elim}
use Prim.Native.Nat.{ℕ, suc, ◌+◌, ◌-◌, ◌*◌, ◌/◌, ◌≤◌, ◌<◌}
use native.Mathlib.Nat.{div-mul-le_self, mul-le-mul_right}
use native.Mathlib.Omega.{arith}
use mathlib.Core.Bool.{Bool, true, false, cond, not, ◌&&◌, ◌||◌, true≢false}
use mathlib.Core.List.{List, [], ◌∷◌}
use lib.ListN.{length, drop, length-drop}
use lib.Dec.{eqb, leb}
use borrow.Author.Tests.{eqb-false, ne_eqb, ltb-false, le-ltb}
use Rattle.types.specs.declared.block.BlockState.TheVariants.{Requested}
use Rattle.model.specs.Lists.{least, from, any, len, unless, when, branch, for_each, walk, walk_until}
use Rattle.model.specs.State.{Block, DownloadingPiece, Picker, same_block_state, has_peer, blocks_per_piece, blocks_in_piece}
use Rattle.model.specs.State.{payload_blocks_in_piece}
use Rattle.model.specs.Options.{on_parole, suggest_loops, suggested_pieces, rand_loops, random_pieces}
use Rattle.model.specs.pick.Blocks.{PickRequest, option, has_bit, Contiguous, PickState, spent, with_out, with_contiguous, with_backup}
use Rattle.model.specs.pick.Blocks.{ignore, flagged, steps, is_ignored, contiguous_is_zero, contiguous_above, shorter, whole_pieces}
use Rattle.model.specs.pick.Blocks.{is_piece_free, span_of, expand_piece, pieces_of, took, contiguous_met, contiguous_over, span_step}
use Rattle.model.specs.pick.Blocks.{take_span, take_payload, RequestedFrom, by_another, requested_from, set_aside, free_halt, take_free}
use Rattle.model.specs.pick.Blocks.{keeping_contiguous, use_free, add_blocks_downloading, append_blocks, PieceBlock, add_blocks}
use Rattle.model.specs.pick.Pick.{visit, suggest, rand_step, take_all}
use Rattle.model.proofs.base.Counts.{length-from}
use Rattle.model.proofs.base.WalkLaws.{walk_counts}
use Rattle.model.proofs.base.Truths.{and_right}
use Rattle.model.proofs.base.Phases.{branch_arms}
use Rattle.pick_laws.proofs.SpanLaws.{span_around, pieces_size}
use mathlib.Core.Option.{Option}
use Rattle.model.proofs.base.Bep3Laws.{blocks_per_piece_pos, blocks_in_piece_le}

-- ---- blocks past the run
-- the Rust's step: the run falls only while it is above 0
module _ (i : ℕ) where
  unfoldable pub while_above : ℕ → PickState → PickState
  while_above j w = branch (contiguous_above 0 w.contiguous) (took i j) (keeping_contiguous (took i j)) w

  -- two works that differ in the run at most, and there only once it is over
  record Alike (c : Contiguous) (v u : PickState) : Type 0 where
    same : with_contiguous c v ≡ with_contiguous c u
    runs : (v.contiguous ≡ u.contiguous) ⊎ ((contiguous_above 0 v.contiguous ≡ false) × (contiguous_above 0 u.contiguous ≡ false))

  shorter_over : (r : Contiguous) → contiguous_above 0 r ≡ false → contiguous_above 0 (shorter r) ≡ false
  unfolding contiguous_above shorter
  shorter_over r h = le-ltb (suc r.given + 0) r.asked (let l = ltb-false (r.given + 0) r.asked h in omega arith)

  runs_above : (r q : Contiguous) → (r ≡ q) ⊎ ((contiguous_above 0 r ≡ false) × (contiguous_above 0 q ≡ false)) → contiguous_above 0 r ≡ contiguous_above 0 q
  runs_above r q (inl e) = ap (contiguous_above 0) e
  runs_above r q (inr h) = h.0 ∙ sym h.1

  taken_alike : (c : Contiguous) (j : ℕ) (v u : PickState) → with_contiguous c v ≡ with_contiguous c u → with_contiguous c (took i j v) ≡ with_contiguous c (took i j u)
  unfolding with_contiguous with_out took
  taken_alike c j v u e = ap (λ x. with_contiguous c (took i j x)) e

  alike_step : (c : Contiguous) (j : ℕ) (v u : PickState) → Alike c v u → Alike c (while_above j v) (took i j u)
  unfolding while_above keeping_contiguous with_contiguous with_out took
  alike_step c j v u h =
      branch_arms (λ x. Alike c x (took i j u)) (contiguous_above 0 v.contiguous) (took i j) (keeping_contiguous (took i j)) v
      (λ e. record {
        same = taken_alike c j v u h.same;
        runs = inl (⊎_elim (λ q. ap shorter q) (λ q. absurd (true≢false (sym e ∙ q.0))) h.runs);
      })
      (λ e. record {
        same = taken_alike c j v u h.same;
        runs = inr (e, shorter_over u.contiguous (sym (runs_above v.contiguous u.contiguous h.runs) ∙ e));
      })

  alike_halt : (c : Contiguous) (j : ℕ) (v u : PickState) → Alike c v u → free_halt i j v ≡ free_halt i j u
  unfolding free_halt spent took with_contiguous with_out
  alike_halt c j v u h =
      let l : v.left ≡ u.left = ap (λ x. x.left) h.same in
      rw (runs_above v.contiguous u.contiguous h.runs, l)

  alike_walk : (c : Contiguous) (js : List ℕ) (v u : PickState) → Alike c v u
      → Alike c (walk_until while_above (free_halt i) js v) (walk_until (took i) (free_halt i) js u)
  unfolding walk_until unless
  alike_walk c [] v u h = h
  alike_walk c (j ∷ js) v u h =
      rw (alike_halt c j v u h) (go (free_halt i j u) (alike_walk c js (while_above j v) (took i j u) (alike_step c j v u h)))
    where
      go : (b : Bool) → Alike c (walk_until while_above (free_halt i) js (while_above j v)) (walk_until (took i) (free_halt i) js (took i j u))
          → Alike c (unless b (λ t. walk_until while_above (free_halt i) js t) (while_above j v)) (unless b (λ t. walk_until (took i) (free_halt i) js t) (took i j u))
      go true k = alike_step c j v u h
      go false k = k

  -- the free blocks of a partial: it is the same whether those past the run count towards it
  pub past_run : (js : List ℕ) (w : PickState)
      → keeping_contiguous (walk_until while_above (free_halt i) js) w ≡ keeping_contiguous (walk_until (took i) (free_halt i) js) w
  unfolding keeping_contiguous
  past_run js w = (alike_walk w.contiguous js w w (record { same = refl; runs = inl refl })).same

-- ---- the end of a span
-- the Rust leaves the span at an ignored piece where the run and N are met
unfoldable pub span_break : ℕ → PickState → Bool
span_break k w = is_ignored k w && contiguous_met (with_contiguous (shorter w.contiguous) w)

-- the picker, the run asked, and at most so many blocks towards it
unfoldable Towards : Picker → ℕ → ℕ → PickState → Type 0
Towards s asked m w = (w.picker ≡ s) × (w.contiguous.asked ≡ asked) × (w.contiguous.given ≤ m)

module _ (s : Picker) (asked : ℕ) where
  towards_more : (m n : ℕ) (w : PickState) → m ≤ n → Towards s asked m w → Towards s asked n w
  unfolding Towards
  towards_more m n w l h = (h.0, h.1, let g = h.2 in omega arith)

  towards_took : (m i j : ℕ) (w : PickState) → Towards s asked m w → Towards s asked (m + 1) (took i j w)
  unfolding Towards took with_out shorter
  towards_took m i j w h = (h.0, h.1, let g = h.2 in omega arith)

  towards_shorter : (m : ℕ) (w : PickState) → Towards s asked m w → Towards s asked (m + 1) (with_contiguous (shorter w.contiguous) w)
  unfolding Towards with_contiguous with_out shorter
  towards_shorter m w h = (h.0, h.1, let g = h.2 in omega arith)

  towards_mark : (m i : ℕ) (w : PickState) → Towards s asked m w → Towards s asked m (ignore i w)
  unfolding Towards ignore
  towards_mark m i w h = h

  towards_flag : (m f : ℕ) (w : PickState) → Towards s asked m w → Towards s asked m (flagged f w)
  unfolding Towards flagged
  towards_flag m f w h = h

  towards_step : (m n c : ℕ) (w : PickState) → Towards s asked m w → Towards s asked m (steps n c w)
  unfolding Towards steps
  towards_step m n c w h = h

  towards_picker : (m : ℕ) (w : PickState) → Towards s asked m w → w.picker ≡ s
  unfolding Towards
  towards_picker m w h = h.0

  -- a piece of at most b blocks
  module _ (b : ℕ) (some : 1 ≤ b) (whole : (i : ℕ) → blocks_in_piece s i ≤ b) where
    payload_towards : (m i : ℕ) (w : PickState) → Towards s asked m w → Towards s asked (m + b) (take_payload i w)
    unfolding take_payload len payload_blocks_in_piece
    payload_towards m i w h =
        let n = payload_blocks_in_piece w.picker i in
        let l : n ≤ b = rw (towards_picker m w h) (omega (arith, whole i)) in
        towards_more (m + length (from 0 n) * 1) (m + b) (walk (took i) contiguous_met (from 0 n) w) (omega (arith, length-from 0 n))
        (walk_counts (Towards s asked) towards_more (took i) 1 contiguous_met (λ k j t g. towards_took k i j t g) (from 0 n) m w h)

    all_towards : (m i : ℕ) (w : PickState) → Towards s asked m w → Towards s asked (m + b) (take_all i w)
    unfolding take_all rand_step len
    all_towards m i w h =
        let n = blocks_in_piece w.picker i in
        let l : n ≤ b = rw (towards_picker m w h) (whole i) in
        towards_more (m + length (from 0 n) * 1) (m + b) (walk (rand_step i) contiguous_over (from 0 n) (flagged random_pieces w)) (omega (arith, length-from 0 n))
        (walk_counts (Towards s asked) towards_more (rand_step i) 1 contiguous_over
        (λ k j t g. towards_took k i j (steps 1 rand_loops t) (towards_step k 1 rand_loops t g)) (from 0 n) m (flagged random_pieces w) (towards_flag m random_pieces w h))

    module _ (takes : ℕ → PickState → PickState) (few : (m i : ℕ) (w : PickState) → Towards s asked m w → Towards s asked (m + b) (takes i w)) where
      towards_span : (m k : ℕ) (w : PickState) → Towards s asked m w → Towards s asked (m + b) (span_step takes k w)
      unfolding span_step
      towards_span m k w h =
          branch_arms (Towards s asked (m + b)) (is_ignored k w) (λ v. with_contiguous (shorter v.contiguous) v) (λ v. takes k (ignore k v)) w
          (λ e. towards_more (m + 1) (m + b) (with_contiguous (shorter w.contiguous) w) (omega arith) (towards_shorter m w h))
          (λ e. few m k (ignore k w) (towards_mark m k w h))

      -- before the last piece the run is not met
      not_met : (m k : ℕ) (w : PickState) → Towards s asked m w → m + 1 < asked → span_break k w ≡ false
      unfolding span_break Towards contiguous_met contiguous_is_zero with_contiguous with_out shorter
      not_met m k w h l =
          let z : eqb w.contiguous.asked (suc w.contiguous.given) ≡ false = ne_eqb w.contiguous.asked (suc w.contiguous.given) (λ e. let g = h.2 in let q = h.1 in omega arith) in
          rw z (never (is_ignored k w))
        where
          never : (t : Bool) → (t && false) ≡ false
          never true = refl
          never false = refl

      break_from : (ks : List ℕ) (m : ℕ) (w : PickState) → Towards s asked m w → (2 ≤ len ks → m + len ks * b < asked + b)
          → walk_until (span_step takes) span_break ks w ≡ for_each (span_step takes) ks w
      unfolding walk_until for_each unless len
      break_from [] m w h l = refl
      break_from (k ∷ []) m w h l = go (span_break k w)
        where
          go : (t : Bool) → unless t (λ v. v) (span_step takes k w) ≡ span_step takes k w
          go true = refl
          go false = refl
      break_from (k ∷ (j ∷ ks)) m w h l =
          rw (not_met m k w h (let g = l (omega arith) in omega arith))
          (break_from (j ∷ ks) (m + b) (span_step takes k w) (towards_span m k w h) (λ g. let q = l (omega arith) in omega arith))

-- a span of two pieces or more has fewer blocks past the run than a piece
span_short : (a : PickRequest) (s : Picker) (i b : ℕ) (r : Contiguous) → 1 ≤ b → 2 ≤ len (pieces_of (span_of a s i (whole_pieces b r)))
    → r.given + len (pieces_of (span_of a s i (whole_pieces b r))) * b < r.asked + b
unfolding whole_pieces
span_short a s i b r h two =
    let n = (r.asked - r.given + b - 1) / b in
    let x = span_of a s i n in
    let p = span_around a s i n in
    let f = p.1.few in
    let e = pieces_size x in
    let k : len (pieces_of x) ≤ n + (1 - n) = omega (arith, p.2) in
    let m = mul-le-mul_right {m = len (pieces_of x)} {n = n} b (omega arith) in
    let d = div-mul-le_self (r.asked - r.given + b - 1) b in
    let z = mul-le-mul_right {m = 2} {n = len (pieces_of x)} b two in
    omega arith

-- ---- spans with the break and without
module _ (a : PickRequest) (i : ℕ) (w : PickState) (sized : 1 ≤ w.picker.piece_size) where
  some : 1 ≤ blocks_per_piece w.picker
  unfolding blocks_per_piece
  some = blocks_per_piece_pos w.picker.piece_size sized

  whole : (k : ℕ) → blocks_in_piece w.picker k ≤ blocks_per_piece w.picker
  unfolding blocks_per_piece blocks_in_piece
  whole k = blocks_in_piece_le w.picker.total_size w.picker.piece_size k sized

  span_break_lem : (takes : ℕ → PickState → PickState)
      → ((m k : ℕ) (v : PickState) → Towards w.picker w.contiguous.asked m v → Towards w.picker w.contiguous.asked (m + blocks_per_piece w.picker) (takes k v))
      → walk_until (span_step takes) span_break (pieces_of (expand_piece a i w)) w ≡ take_span takes (pieces_of (expand_piece a i w)) w
  unfolding take_span expand_piece Towards
  span_break_lem takes few =
      break_from w.picker w.contiguous.asked (blocks_per_piece w.picker) some whole takes few
      (pieces_of (span_of a w.picker i (whole_pieces (blocks_per_piece w.picker) w.contiguous))) w.contiguous.given w (refl, refl, omega arith)
      (λ two. span_short a w.picker i (blocks_per_piece w.picker) w.contiguous some two)

  -- a new piece's span: the break skips nothing
  pub payload_break : walk_until (span_step take_payload) span_break (pieces_of (expand_piece a i w)) w ≡ take_span take_payload (pieces_of (expand_piece a i w)) w
  payload_break = span_break_lem take_payload (payload_towards w.picker w.contiguous.asked (blocks_per_piece w.picker) some whole)

  -- nor does it in the random walk
  pub random_break : walk_until (span_step take_all) span_break (pieces_of (expand_piece a i w)) w ≡ take_span take_all (pieces_of (expand_piece a i w)) w
  random_break = span_break_lem take_all (all_towards w.picker w.contiguous.asked (blocks_per_piece w.picker) some whole)

-- ---- a suggested piece
-- it need not be asked again whether it is free
pub suggest_once : (a : PickRequest) (i : ℕ) (w : PickState)
    → when (is_piece_free a w.picker i) (λ v. ignore i (visit a suggested_pieces i v)) (steps 1 suggest_loops w) ≡ suggest a i w
unfolding suggest visit steps when
suggest_once a i w = go (is_piece_free a w.picker i) refl
  where
    go : (t : Bool) → is_piece_free a w.picker i ≡ t → when t (λ v. ignore i (visit a suggested_pieces i v)) (steps 1 suggest_loops w)
        ≡ when t (λ v. ignore i (add_blocks a i (flagged suggested_pieces v))) (steps 1 suggest_loops w)
    go true e = rw e
    go false e = refl

-- ---- parole
any_weaker : (p q : Block → Bool) (bs : List Block) → any (λ b. p b && q b) bs ≡ true → any p bs ≡ true
unfolding any
any_weaker p q [] h = h
any_weaker p q (b ∷ bs) h = go (p b) (q b) h (any_weaker p q bs)
  where
    go : (s t : Bool) → ((s && t) || any (λ b. p b && q b) bs) ≡ true → (any (λ b. p b && q b) bs ≡ true → any p bs ≡ true) → (s || any p bs) ≡ true
    go true t h f = refl
    go false t h f = f h

-- where no other peer touched a partial none is at work on it
pub exclusive_idle : (peer : Option ℕ) (d : DownloadingPiece) → (requested_from peer d).exclusive ≡ true → (requested_from peer d).active ≡ false
unfolding requested_from
exclusive_idle peer d h =
    go (any (λ b. by_another peer b && (same_block_state b.state Requested && has_peer b.peer)) d.blocks) (any (by_another peer) d.blocks)
    (any_weaker (by_another peer) (λ b. same_block_state b.state Requested && has_peer b.peer) d.blocks) h
  where
    go : (x y : Bool) → (x ≡ true → y ≡ true) → not y ≡ true → x ≡ false
    go true true f g = absurd (true≢false (sym g))
    go true false f g = absurd (true≢false (sym (f refl)))
    go false y f g = refl

-- so a peer on parole, which gets here only then, need not be told apart
pub parole_idle : (a : PickRequest) (d : DownloadingPiece) → (not (option on_parole a) || (requested_from a.peer d).exclusive) ≡ true
    → ((requested_from a.peer d).active && not (option on_parole a)) ≡ (requested_from a.peer d).active
parole_idle a d h = go (option on_parole a) (requested_from a.peer d).exclusive (requested_from a.peer d).active h (exclusive_idle a.peer d)
  where
    go : (p x y : Bool) → (not p || x) ≡ true → (x ≡ true → y ≡ false) → (y && not p) ≡ y
    go true x y h f = rw (f h)
    go false x true h f = refl
    go false x false h f = refl

-- the whole, with the Rust's second question for parole
unfoldable pub use_free_asking : PickRequest → DownloadingPiece → RequestedFrom → PickState → PickState
use_free_asking a d h w =
    let first = cond (contiguous_is_zero w.contiguous) 0 h.first in
    branch (contiguous_above h.longest w.contiguous && (h.active && not (option on_parole a))) (set_aside d first) (keeping_contiguous (take_free d first)) w

-- a partial gives the same with it
pub parole_once : (a : PickRequest) (d : DownloadingPiece) (w : PickState)
    → when (has_bit a d.piece && (not d.locked && (not (option on_parole a) || (requested_from a.peer d).exclusive)))
    (use_free_asking a d (requested_from a.peer d)) w
    ≡ add_blocks_downloading a d w
unfolding add_blocks_downloading use_free_asking use_free when
parole_once a d w =
    let h = requested_from a.peer d in
    let g = not (option on_parole a) || h.exclusive in
    let t = has_bit a d.piece && (not d.locked && g) in
    when_alike t (use_free_asking a d h) (use_free d h) w
    (λ e. let q = parole_idle a d (and_right (not d.locked) g (and_right (has_bit a d.piece) (not d.locked && g) e)) in rw q)
  where
    when_alike : (t : Bool) (f g : PickState → PickState) (v : PickState) → (t ≡ true → f v ≡ g v) → when t f v ≡ when t g v
    when_alike true f g v h = h refl
    when_alike false f g v h = refl

-- ---- what append_blocks leaves
-- it leaves nothing, or no block is wanted any more
pub append_empties : (w : PickState) → spent (append_blocks w) ≡ false → drop (least (len w.backup) w.left) w.backup ≡ []
unfolding append_blocks spent with_backup with_out least len
append_empties w h =
    let n = least (length w.backup) w.left in
    no_length (drop n w.backup) (omega (arith, length-drop n w.backup, all (leb (length w.backup) w.left) refl))
  where
    no_length : (l : List PieceBlock) → length l ≡ 0 → l ≡ []
    no_length [] e = refl
    no_length (x ∷ l) e = absurd (omega arith)

    all : (t : Bool) → leb (length w.backup) w.left ≡ t → length w.backup ≤ least (length w.backup) w.left
    all true e = rw e (omega arith)
    all false e = absurd (eqb-false (w.left - least (length w.backup) w.left) 0 h (rw e (omega arith)))
