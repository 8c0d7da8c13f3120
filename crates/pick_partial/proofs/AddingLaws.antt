-- The free blocks of a partial used, and what they add where the peer is on parole. Assumes nothing.
use mathlib.Core.Path.{◌≡◌, refl, sym, ap, ◌∙◌}
use mathlib.Core.Bool.{Bool, true, false, true≢false, cond, not, ◌&&◌, ◌||◌}
use mathlib.Core.List.{List}
use Prim.Native.Nat.{ℕ, ◌<◌}
use native.Mathlib.Omega.{arith}
use lib.ListN.{length}
use Rattle.types.specs.Block.{block_state_number}
use Rattle.types.specs.Bits.{meets}
use Rattle.types.specs.Peer.{named_peer}
use Rattle.model.specs.Lists.{nth, len, when, branch}
use Rattle.model.specs.State.{Block, DownloadingPiece, Picker, no_block}
use Rattle.model.specs.Options.{on_parole}
use Rattle.model.specs.change.Partials.{block_at}
use Rattle.model.specs.pick.Blocks.{PickState, RequestedFrom, with_out, with_contiguous, contiguous_is_zero, contiguous_above, set_aside, take_free, keeping_contiguous, requested_from, use_free}
use Rattle.memory_layout.specs.declared.shape.Shape.{Shape}
use Rattle.memory_layout.specs.Tables.{tabulate}
use Rattle.memory_layout.specs.Decode.{block_cell, block_from, block_held}
use Rattle.memory_layout.specs.Bounds.{BlockColumn}
use Rattle.memory_layout.proofs.Numbers.{state_number}
use Rattle.memory_layout.proofs.TableLaws.{tabulate-len, tabulate-nth}
use Rattle.pick_state.specs.declared.request.PickRequest.{PickRequest}
use Rattle.pick_state.specs.declared.numbers.PickNumbers.{PickNumbers}
use Rattle.pick_state.specs.PickStates.{contiguous_of, state_of, OutDid, AsideDid}
use Rattle.pick_state.proofs.DidLaws.{out_did, aside_all, did_none, did_as}
use Rattle.pick_requested.specs.declared.requested.RequestedFrom.{RequestedFrom as Numbers}
use Rattle.pick_requested.specs.Requested.{found_is}
use Rattle.pick_requested.specs.Known.{Known}
use Rattle.pick_partial.specs.Free.{PlainStates, partial_by, StatesOf}
use Rattle.pick_partial.specs.Adding.{BlocksDid, PlainAt, FreeDid}
use Rattle.pick_partial.proofs.FreeLaws.{states_by, take_same, aside_same}

-- ---- on a copy of the run
pub keeping_did : (f : PickState → PickState) (t u : PickNumbers) (out out' : List ℕ) → OutDid f 256 t u out out'
    → OutDid (keeping_contiguous f) 256 t
    (record { left = u.left; asked = t.asked; given = t.given; used = u.used; flags = u.flags; end = u.end; aside = u.aside }) out out'
unfolding keeping_contiguous with_contiguous with_out state_of contiguous_of
keeping_did f t u out out' x = record {
  is = λ start d aside ignored loops h. ap (with_contiguous (contiguous_of t)) (x.is start d aside ignored loops h);
  kept = record { rises = x.kept.rises; long = x.kept.long; others = x.kept.others };
  few = x.few;
  given = omega arith;
}

-- ---- used
module _ (d : DownloadingPiece) (h : Numbers) (t : PickNumbers) (first : ℕ) (e : first ≡ cond (contiguous_is_zero (contiguous_of t)) 0 h.first)
    (above : Bool) (f : above ≡ contiguous_above h.longest (contiguous_of t)) where
  use_is : (b : Bool) → (above && h.active) ≡ b → (start : ℕ) (s : Picker) (out aside : List ℕ) (ignored : List Bool) (loops : List ℕ)
      → branch b (set_aside d first) (keeping_contiguous (take_free d first)) (state_of start s t out aside ignored loops)
      ≡ use_free d (found_is h) (state_of start s t out aside ignored loops)
  unfolding use_free found_is state_of
  use_is b z start s out aside ignored loops =
      λ k. branch ((sym z ∙ ap (λ (c : Bool). c && h.active) f) k) (set_aside d (e k)) (keeping_contiguous (take_free d (e k)))
      (state_of start s t out aside ignored loops)

  -- set aside
  pub use_aside : (above && h.active) ≡ true → (r : PickNumbers) (out aside aside' : List ℕ) → AsideDid (set_aside d first) 256 t r aside aside'
      → BlocksDid (use_free d (found_is h)) t r out aside out aside'
  unfolding branch
  use_aside z r out aside aside' x = record {
    is = λ s ignored loops. did_as (aside_all x s out ignored loops) (λ start l. use_is true z start s out aside ignored loops);
    few = let n = x.end in omega arith;
  }

  -- taken
  pub use_take : (above && h.active) ≡ false → (u : PickNumbers) (out aside out' : List ℕ) → OutDid (take_free d first) 256 t u out out'
      → BlocksDid (use_free d (found_is h)) t
      (record { left = u.left; asked = t.asked; given = t.given; used = u.used; flags = u.flags; end = u.end; aside = u.aside }) out
      aside out' aside
  unfolding branch
  use_take z u out aside out' x = record {
    is = λ s ignored loops. did_as (out_did (keeping_did (take_free d first) t u out out' x) s aside ignored loops)
        (λ start l. use_is false z start s out aside ignored loops);
    few = x.few;
  }

-- where the first block is
either_in : (b : Bool) (n k first : ℕ) → first ≡ cond b 0 n → n < k → first < k
either_in true n k first e h = omega arith
either_in false n k first e h = omega arith

pub first_in : (t : PickNumbers) (n k first : ℕ) → first ≡ cond (contiguous_is_zero (contiguous_of t)) 0 n → n < k → first < k
first_in t n k first e h = either_in (contiguous_is_zero (contiguous_of t)) n k first e h

pub first_zero : (t : PickNumbers) (n : ℕ) → contiguous_is_zero (contiguous_of t) ≡ true → 0 ≡ cond (contiguous_is_zero (contiguous_of t)) 0 n
first_zero t n e = ap (λ (b : Bool). cond b 0 n) (sym e)

pub first_run : (t : PickNumbers) (n : ℕ) → contiguous_is_zero (contiguous_of t) ≡ false → n ≡ cond (contiguous_is_zero (contiguous_of t)) 0 n
first_run t n e = ap (λ (b : Bool). cond b 0 n) (sym e)

-- ---- of a partial in the same states
use_same : (i : ℕ) (states : List ℕ) → 0 < length states → (d e : DownloadingPiece) → StatesOf d i states → StatesOf e i states
    → (h : RequestedFrom) (w : PickState) → use_free d h w ≡ use_free e h w
unfolding use_free keeping_contiguous branch with_contiguous
use_same i states some d e g f h w = go (contiguous_above h.longest w.contiguous && h.active) (cond (contiguous_is_zero w.contiguous) 0 h.first)
  where
    go : (b : Bool) (first : ℕ) → branch b (set_aside d first) (keeping_contiguous (take_free d first)) w
        ≡ branch b (set_aside e first) (keeping_contiguous (take_free e first)) w
    go true first = aside_same i states first some d g e f w
    go false first = ap (with_contiguous w.contiguous) (take_same i states first some d g e f w)

-- ---- the column of states
module _ (s : Shape) (cells : List ℕ) (p many : ℕ) (states : List ℕ) (c : BlockColumn cells s 0 p many states) (l : PlainAt s cells p many) where
  pub column_plain : PlainStates states
  column_plain = record {
    plain = λ j h. let m = c.long in omega (arith, c.cell j (omega arith), l.plain j (omega arith));
  }

  column_states : (words : List ℕ) (i : ℕ) (d : DownloadingPiece) → d.piece ≡ i
      → d.blocks ≡ tabulate many (block_held words cells s.pieces s.blocks p) → StatesOf d i states
  unfolding len block_at nth block_held block_from
  column_states words i d e g = record {
    piece = e;
    long = ap len g ∙ tabulate-len many (block_held words cells s.pieces s.blocks p) ∙ sym c.long;
    state = λ j h.
        let m = c.long in
        let n : j < many = omega arith in
        ap (λ (bs : List Block). block_state_number (nth no_block bs j).state) g
        ∙ ap (λ (b : Block). block_state_number b.state) (tabulate-nth many (block_held words cells s.pieces s.blocks p) j no_block n)
        ∙ state_number (block_cell cells s.pieces s.blocks 0 p j) (let x = l.plain j n in omega arith) ∙ sym (c.cell j n);
  }

-- ---- what they add
-- nothing
pub blocks_none : (f : PickState → PickState) (b : Bool) → b ≡ false → (t : PickNumbers) (out aside : List ℕ)
    → BlocksDid (when b f) t t out aside out aside
unfolding when
blocks_none f b e t out aside = record {
  is = λ d ignored loops.
      did_as (did_none d t out aside ignored loops)
      (λ start h. ap (λ (c : Bool). when c f (state_of start d t out aside ignored loops)) (sym e));
  few = omega arith;
}

-- by another name
pub blocks_as : {f : PickState → PickState} {t r : PickNumbers} {out aside out' aside' : List ℕ} → BlocksDid f t r out aside out' aside'
    → (g : PickState → PickState)
    → ((start : ℕ) (d : Picker) (ignored : List Bool) (loops : List ℕ)
    → f (state_of start d t out aside ignored loops) ≡ g (state_of start d t out aside ignored loops))
    → BlocksDid g t r out aside out' aside'
blocks_as x g e = record { is = λ d ignored loops. did_as (x.is d ignored loops) (λ start h. e start d ignored loops); few = x.few }

-- on parole, and another touched it: nothing is added
shut : (parole exclusive : Bool) → (parole && not exclusive) ≡ true → (not parole || exclusive) ≡ false
shut true true e = sym e
shut true false e = refl
shut false exclusive e = absurd (true≢false (sym e))

unshut : (parole exclusive : Bool) → (parole && not exclusive) ≡ false → (not parole || exclusive) ≡ true
unshut true true e = refl
unshut true false e = sym e
unshut false exclusive e = refl

module _ (words cells : List ℕ) (s : Shape) (q : PickRequest) (i p many : ℕ) (t : PickNumbers) (h : Numbers)
    (g : Known words cells s p many q t h) (parole : Bool) (f : parole ≡ meets q.options.0 on_parole) where
  pub free_shut : (parole && not h.exclusive) ≡ true → (out aside : List ℕ) → FreeDid words cells s q i p many t t out aside out aside
  free_shut e out aside = record {
    is = λ d x y.
        blocks_none _ _ (sym (g.exclusive d y) ∙ ap (λ (b : Bool). not b || h.exclusive) (sym f) ∙ shut parole h.exclusive e) t out aside;
  }

  pub free_used : (parole && not h.exclusive) ≡ false → (states : List ℕ) → BlockColumn cells s 0 p many states → PlainAt s cells p many
      → 0 < many → (r : PickNumbers) (out aside out' aside' : List ℕ)
      → BlocksDid (use_free (partial_by i states) (found_is h)) t r out aside out' aside'
      → FreeDid words cells s q i p many t r out aside out' aside'
  unfolding when state_of
  free_used e states c l some r out aside out' aside' x = record {
    is = λ d u y.
        let z = sym (g.exclusive d y) ∙ ap (λ (b : Bool). not b || h.exclusive) (sym f) ∙ unshut parole h.exclusive e in
        let m = c.long in
        blocks_as x _ (λ start v ignored loops. let w = state_of start v t out aside ignored loops in
        use_same i states (omega arith) (partial_by i states) d (states_by i states (column_plain s cells p many states c l))
        (column_states s cells p many states c l words i d u y) (found_is h) w
        ∙ g.uses d y w refl
        ∙ ap (λ (b : Bool). when b (use_free d (requested_from (named_peer q.has_peer q.peer) d)) w) (sym z));
  }
