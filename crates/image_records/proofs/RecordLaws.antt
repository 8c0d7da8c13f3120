-- Each record by its numbers: its rule, and what its reader answers. Assumes nothing.
use Rattle.std.specs.Prelude.{None, Some}
use mathlib.Core.Path.{◌≡◌, refl, sym, ap, ◌∙◌}
use mathlib.Core.Bool.{Bool, true, false, cond, ◌&&◌, and-true, and_assoc}
use mathlib.Core.List.{List}
use mathlib.Core.Option.{none, some}
use Prim.Native.Nat.{ℕ, ◌^◌, ◌<◌}
use native.Mathlib.Omega.{arith}
use native.Mathlib.Decide.{ℕ_discrete}
use lib.Dec.{eqb, ltb, leb}
use lib.ListN.{drop}
use borrow.Author.Tests.{eq-eqb, ne_eqb, lt-ltb, leb-true, eqb-true}
use Rattle.types.specs.Block.{block_state_number}
use Rattle.model.specs.State.{max_peers, max_partials, has_peer}
use Rattle.model.specs.image.WellFormed.{block_ok, peer_ok}
use Rattle.model.specs.image.Image.{partial_kind, block_kind, pick_kind, starts_with, judged, field, obeying, last_block_state}
use Rattle.model.specs.image.Image.{all_flags}
use Rattle.model.specs.image.Image.{peer_fits, peer_of, block_of, read_block, read_partial}
use Rattle.model.specs.image.Program.{request_of, read_request}
use Rattle.model.proofs.base.Truths.{both_true}
use Rattle.memory_layout.specs.Decode.{state_from}
use Rattle.memory_layout.proofs.Numbers.{state_number}
use Rattle.image_records.specs.Records.{Body, number_in, number_step, block_test, peer_number, block_numbers, block_step, pick_numbers}
use Rattle.image_records.specs.Records.{pick_step, PickJudged}
use Rattle.image_records.proofs.FrontLaws.{judged_none, judged_found, judged-fault}

-- ---- a value under a rule
pub obeys : {A : Type 0} (t : Bool) (a : A) → t ≡ true → obeying t a ≡ some a
unfolding obeying
obeys t a e = rw e

pub breaks : {A : Type 0} (t : Bool) (a : A) → t ≡ false → obeying t a ≡ none
unfolding obeying
breaks t a e = rw e

-- ---- one number
module _ (kind at : ℕ) (bytes : List ℕ) where
  pub number_none : starts_with kind (drop at bytes) ≡ false → None ≡ number_step (judged kind number_in (drop at bytes))
  unfolding number_step
  number_none e = sym (ap number_step (judged_none kind number_in (drop at bytes) e))

  pub number_found : starts_with kind (drop at bytes) ≡ true → (body : List ℕ) → Body kind at bytes body → (n : ℕ) → n ≡ field 0 4 body
      → Some n ≡ number_step (judged kind number_in (drop at bytes))
  unfolding number_step number_in
  number_found e body b n f = ap Some f ∙ sym (ap number_step (judged_found kind number_in at bytes e body b (field 0 4 body) refl))

-- ---- a partial
module _ (i n at : ℕ) (bytes : List ℕ) where
  pub partial_none : starts_with partial_kind (drop at bytes) ≡ false
      → None ≡ number_step (judged partial_kind (read_partial i n) (drop at bytes))
  unfolding number_step
  partial_none e = sym (ap number_step (judged_none partial_kind (read_partial i n) (drop at bytes) e))

  module _ (e : starts_with partial_kind (drop at bytes) ≡ true) (body : List ℕ) (b : Body partial_kind at bytes body) (piece flags : ℕ)
      (ep : piece ≡ field 0 4 body) (ef : flags ≡ field 4 1 body) where
    partial_read : read_partial i n body ≡ obeying (eqb piece i && leb flags all_flags && ltb n max_partials) flags
    unfolding read_partial
    partial_read = rw (ep, ef, and_assoc (eqb (field 0 4 body) i) (leb (field 4 1 body) all_flags) (ltb n max_partials))

    pub partial_found : (eqb piece i && leb flags all_flags && ltb n max_partials) ≡ true
        → Some flags ≡ number_step (judged partial_kind (read_partial i n) (drop at bytes))
    unfolding number_step
    partial_found t =
        sym (ap number_step (judged_found partial_kind (read_partial i n) at bytes e body b flags (partial_read ∙ obeys _ flags t)))

    pub partial_fault : (eqb piece i && leb flags all_flags && ltb n max_partials) ≡ false
        → None ≡ number_step (judged partial_kind (read_partial i n) (drop at bytes))
    unfolding number_step
    partial_fault t =
        sym (ap number_step (judged-fault partial_kind (read_partial i n) at bytes e body b (partial_read ∙ breaks _ flags t)))

-- ---- a peer
peer_fits_none : (has peer : ℕ) → (has ≡ 1 → ⊥) → peer_fits has peer ≡ true → peer ≡ 0
unfolding peer_fits
peer_fits_none has peer n e =
    let f : (eqb has 0 && eqb peer 0) ≡ true = rw (ne_eqb has 1 n) at e in
    eqb-true peer 0 (both_true (eqb has 0) (eqb peer 0) f).1

pub peer_back : (has peer : ℕ) → peer_fits has peer ≡ true → peer_number (peer_of has peer) ≡ peer
unfolding peer_number peer_of
peer_back has peer e = elim (ℕ_discrete has 1) [
  | yes q ↦ rw (eq-eqb has 1 q)
  | no q ↦ rw (ne_eqb has 1 q) (sym (peer_fits_none has peer q e))
]

pub peer_there : (has peer : ℕ) → has_peer (peer_of has peer) ≡ eqb has 1
unfolding has_peer peer_of
peer_there has peer = go (eqb has 1)
  where
    go : (t : Bool) → has_peer (cond t (some peer) none) ≡ t
    go true = refl
    go false = refl

peer_ok_lem : (has peer : ℕ) → peer < 2 ^ 64 → peer_ok (peer_of has peer) ≡ true
unfolding peer_ok peer_of
peer_ok_lem has peer h = go (eqb has 1)
  where
    go : (t : Bool) → peer_ok (cond t (some peer) none) ≡ true
    go true = lt-ltb peer (2 ^ 64) h
    go false = refl

-- ---- a block
module _ (at : ℕ) (bytes : List ℕ) where
  pub block_none : starts_with block_kind (drop at bytes) ≡ false → None ≡ block_step (judged block_kind read_block (drop at bytes))
  unfolding block_step
  block_none e = sym (ap block_step (judged_none block_kind read_block (drop at bytes) e))

  module _ (e : starts_with block_kind (drop at bytes) ≡ true) (body : List ℕ) (b : Body block_kind at bytes body) (state peers has peer : ℕ)
      (es : state ≡ field 0 1 body) (en : peers ≡ field 1 2 body) (eh : has ≡ field 3 1 body) (ep : peer ≡ field 4 8 body)
      (h : peer < 2 ^ 64) where
    block_read_lem : read_block body ≡ obeying (block_test state peers has peer) (block_of body)
    unfolding read_block block_test block_ok block_of
    block_read_lem =
        let o : peer_ok (peer_of (field 3 1 body) (field 4 8 body)) ≡ true = rw (eh, ep) at (peer_ok_lem has peer h) in
        rw (es, en, eh, ep, o, and-true (leb (field 1 2 body) max_peers))

    pub block_fault : block_test state peers has peer ≡ false → None ≡ block_step (judged block_kind read_block (drop at bytes))
    unfolding block_step
    block_fault t = sym (ap block_step (judged-fault block_kind read_block at bytes e body b (block_read_lem ∙ breaks _ (block_of body) t)))

    block_numbers_lem : block_test state peers has peer ≡ true
        → block_numbers (block_of body) ≡ record { state = state; num_peers = peers; has_peer = eqb has 1; peer = peer }
    unfolding block_test block_numbers block_of state_from
    block_numbers_lem t =
        let f = both_true (leb state last_block_state) _ t in
        let g = both_true (peer_fits has peer) _ f.1 in
        let s : block_state_number (state_from state) ≡ state = state_number state (omega (arith, leb-true state last_block_state f.0)) in
        rw (← es, ← en, ← eh, ← ep, s, peer_there has peer, peer_back has peer g.0)

    pub block_found : block_test state peers has peer ≡ true
        → Some (record { state = state; num_peers = peers; has_peer = eqb has 1; peer = peer })
        ≡ block_step (judged block_kind read_block (drop at bytes))
    unfolding block_step
    block_found t =
        sym
        (ap block_step (judged_found block_kind read_block at bytes e body b (block_of body) (block_read_lem ∙ obeys _ (block_of body) t))
        ∙ ap Some (block_numbers_lem t))

-- ---- a pick
module _ (at : ℕ) (bytes : List ℕ) where
  pub pick_none : starts_with pick_kind (drop at bytes) ≡ false → PickJudged at bytes None
  unfolding pick_step
  pick_none e n = sym (ap pick_step (judged_none pick_kind (read_request n) (drop at bytes) e))

  module _ (e : starts_with pick_kind (drop at bytes) ≡ true) (body : List ℕ) (b : Body pick_kind at bytes body) (has peer : ℕ)
      (eh : has ≡ field 8 1 body) (ep : peer ≡ field 9 8 body) where
    pub pick_fault : peer_fits has peer ≡ false → PickJudged at bytes None
    unfolding pick_step read_request
    pick_fault t n =
        sym (ap pick_step (judged-fault pick_kind (read_request n) at bytes e body b (breaks _ (request_of n body) (rw (eh, ep) at t))))

    pub pick_found : peer_fits has peer ≡ true → (options wanted contiguous peers : ℕ) → options ≡ field 0 2 body → wanted ≡ field 2 2 body
        → contiguous ≡ field 4 2 body → peers ≡ field 6 2 body
        → PickJudged at bytes (Some (record {
          options = options;
          wanted = wanted;
          contiguous = contiguous;
          peers = peers;
          has_peer = eqb has 1;
          peer = peer;
        }))
    unfolding pick_step read_request pick_numbers request_of
    pick_found t options wanted contiguous peers eo ew ec en n =
        sym
        (ap pick_step (judged_found pick_kind (read_request n) at bytes e body b (request_of n body)
        (obeys _ (request_of n body) (rw (eh, ep) at t)))
        ∙ ap Some (rw (← eo, ← ew, ← ec, ← en, ← eh, ← ep, peer_there has peer, peer_back has peer t)))
