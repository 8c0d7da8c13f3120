-- Without a run, and not on parole, the blocks of a partial need not be looked at. Assumes nothing.
use mathlib.Core.Path.{◌≡◌, refl, sym, ap, ◌∙◌}
use mathlib.Core.Bool.{Bool, true, false, cond, not, ◌&&◌, ◌||◌}
use mathlib.Core.List.{List}
use Prim.Native.Nat.{ℕ, ◌+◌}
use native.Mathlib.Omega.{arith}
use borrow.Author.Tests.{eqb-true, le-ltb, not-true}
use Rattle.types.specs.Bits.{meets}
use Rattle.types.specs.Peer.{named_peer}
use Rattle.model.specs.Lists.{branch}
use Rattle.model.specs.State.{DownloadingPiece}
use Rattle.model.specs.Options.{on_parole}
use Rattle.model.specs.pick.Blocks.{PickState, Contiguous, RequestedFrom, contiguous_is_zero, contiguous_above, set_aside, keeping_contiguous, take_free, use_free}
use Rattle.model.proofs.base.Truths.{and_left, and_right}
use Rattle.memory_layout.specs.declared.shape.Shape.{Shape}
use Rattle.pick_state.specs.declared.request.PickRequest.{PickRequest}
use Rattle.pick_state.specs.declared.numbers.PickNumbers.{PickNumbers}
use Rattle.pick_state.specs.PickStates.{contiguous_of}
use Rattle.pick_requested.specs.declared.requested.RequestedFrom.{RequestedFrom as Numbers}
use Rattle.pick_requested.specs.Requested.{found_is, Requested}
use Rattle.pick_requested.specs.Known.{Known}

-- a run that is over exactly is above nothing
none_above : (n : ℕ) (r : Contiguous) → contiguous_is_zero r ≡ true → contiguous_above n r ≡ false
unfolding contiguous_is_zero contiguous_above
none_above n r e = le-ltb (r.given + n) r.asked (let z = eqb-true r.asked r.given e in omega arith)

-- so the free blocks are taken from block 0 on, whatever is known of the partial
without_run : (d : DownloadingPiece) (h : RequestedFrom) (w : PickState) → contiguous_is_zero w.contiguous ≡ true
    → use_free d h w ≡ keeping_contiguous (take_free d 0) w
unfolding use_free branch
without_run d h w e =
    (λ k. branch (none_above h.longest w.contiguous e k && h.active) (set_aside d (cond (e k) 0 h.first))
    (keeping_contiguous (take_free d (cond (e k) 0 h.first))) w)

module _ (words cells : List ℕ) (s : Shape) (p many : ℕ) (q : PickRequest) (t : PickNumbers) where
  pub known_none : (zero parole : Bool) → zero ≡ contiguous_is_zero (contiguous_of t) → parole ≡ meets q.options.0 on_parole
      → (zero && not parole) ≡ true
      → Known words cells s p many q t (record { exclusive = true; active = false; longest = 0; first = 0 })
  known_none zero parole ez ep e =
      let z : contiguous_is_zero (contiguous_of t) ≡ true = sym ez ∙ and_left zero (not parole) e in
      let f : meets q.options.0 on_parole ≡ false = sym ep ∙ not-true parole (and_right zero (not parole) e) in
      record {
        exclusive = λ d g. rw f refl;
        uses = λ d g w c.
            let v : contiguous_is_zero w.contiguous ≡ true = ap contiguous_is_zero c ∙ z in
            without_run d _ w v ∙ sym (without_run d _ w v);
        longest = omega arith;
        first = omega arith;
      }

  pub known_all : (r : Numbers) → Requested words cells s p many (named_peer q.has_peer q.peer) r → Known words cells s p many q t r
  unfolding found_is
  known_all r h = record {
    exclusive = λ d g. ap (λ (x : RequestedFrom). not (meets q.options.0 on_parole) || x.exclusive) (h.is d g);
    uses = λ d g w c. ap (λ (x : RequestedFrom). use_free d x w) (h.is d g);
    longest = h.longest;
    first = h.first;
  }
