-- A pick judged and made: what it answers is what the definition answers to the same request. Assumes nothing.
use Rattle.std.specs.Prelude.{Err, Ok, Result, ⊤}
use mathlib.Core.Path.{◌≡◌, refl, sym, ap, ◌∙◌}
use mathlib.Core.Bool.{Bool, true, false}
use mathlib.Core.List.{List, ◌∷◌}
use mathlib.Core.Option.{Option, none, some, none-ne-some}
use Prim.Native.Nat.{ℕ, zero, suc, ◌+◌, ◌%◌, ◌≤◌}
use native.Mathlib.Omega.{arith}
use lib.Dec.{ltb, leb}
use lib.IntN.{ℤ}
use lib.ListN.{length, take, replicate}
use lib.Seq.{length-take-le}
use borrow.Author.Tests.{ltb-false, leb-true, not-false}
use Rattle.types.specs.Piece.{number_of}
use Rattle.types.specs.declared.refusal.Refusal.{Refusal}
use Rattle.types.specs.declared.refusal.Refusal.TheVariants.{FewDraws, PickArguments, ShortOutput}
use Rattle.types.specs.Peer.{named_peer}
use Rattle.model.specs.Lists.{len, each}
use Rattle.model.specs.Bep3.{parts_of, bitfield_bytes}
use Rattle.model.specs.State.{Picker, pieces_in, has_peer}
use Rattle.model.specs.list.Order.{Draws}
use Rattle.model.specs.pick.Blocks.{PickRequest, option}
use Rattle.model.specs.pick.Pick.{pick_pieces}
use Rattle.model.specs.Calls.{do_pick_pieces, refused, picked, check, refuse_few_draws, bitfield_fits, request_fits, refusal, answering, lent_peer}
use Rattle.model.specs.Calls.{lent_request, picking, act, unless_refused}
use Rattle.model.specs.image.Program.{pick_of}
use Rattle.model.proofs.base.Truths.{both}
use Rattle.memory_records.specs.Rows.{records_in}
use Rattle.memory_layout.specs.declared.shape.Shape.{Shape}
use Rattle.memory_layout.proofs.Meanings.{pieces_number}
use Rattle.memory_rows.specs.Lookup.{picker_in}
use Rattle.ask_picker.specs.Asked.{Asked}
use Rattle.image_records.specs.declared.pick.Pick.{Pick}
use Rattle.image_records.specs.Records.{peer_number}
use Rattle.pick_state.specs.declared.request.PickRequest.{PickRequest as Request}
use Rattle.pick_start.specs.Starting.{request_with}
use Rattle.pick_pieces.specs.declared.pieces.Picked.{Picked}
use Rattle.pick_pieces.specs.Whole.{PickRoom, PickGave}
use Rattle.picker_calls.specs.Outcomes.{judged}
use Rattle.pick_judge.specs.Asking.{PickJudged}
use Rattle.pick_judge.proofs.JudgeLaws.{many_each}
use Rattle.pick_job.specs.Jobs.{answer_of, ended, unless, pick_answered, request_numbers, request_ones, program_pick}

-- ---- what is asked
pub request_made : (p : Pick) (n o w c k l : ℕ) → o ≡ p.options → w ≡ p.wanted → c ≡ p.contiguous → k ≡ p.peers
    → l ≡ p.peer % 18446744073709551616
    → record { options = record { 0 = o }; wanted = w; contiguous = c; peers = k; has_peer = p.has_peer; peer = l; bits = n } ≡
    request_numbers p n
unfolding request_numbers
request_made p n o w c k l eo ew ec ek el = rw (eo, ew, ec, ek, el)

pub bits_are : (p : Pick) (n : ℕ) (q : Request) → q ≡ request_numbers p n → q.bits ≡ n
unfolding request_numbers
bits_are p n q e = ap (λ (r : Request). r.bits) e

-- the first of many ones
pub take_ones : (k n : ℕ) → k ≤ n → take k (replicate {A = ℕ} n 255) ≡ replicate {A = ℕ} k 255
take_ones zero n h = refl
take_ones (suc k) zero h = absurd (omega (arith, h))
take_ones (suc k) (suc n) h = ap (λ (l : List ℕ). 255 ∷ l) (take_ones k n (omega (arith, h)))

-- so many bits need few bytes
pub few_bytes : (n : ℕ) → n ≤ 64 → bitfield_bytes n ≤ 8
unfolding bitfield_bytes parts_of
few_bytes n h = omega (arith, h)

pub ones_are : (n k : ℕ) → n ≡ bitfield_bytes k → k ≤ 64 → take n (replicate {A = ℕ} 8 255) ≡ replicate {A = ℕ} (bitfield_bytes k) 255
ones_are n k e h = ap (λ (m : ℕ). take m (replicate {A = ℕ} 8 255)) e ∙ take_ones (bitfield_bytes k) 8 (few_bytes k h)

pub ones_long : (n k : ℕ) → n ≡ bitfield_bytes k → k ≤ 64 → n ≡ length (take n (replicate {A = ℕ} 8 255))
ones_long n k e h = sym (length-take-le n (replicate {A = ℕ} 8 255) (omega (arith, e, few_bytes k h)))

-- ---- judged
check-none : (t : Bool) (why : Refusal) (r : Option Refusal) → check t why r ≡ none → (t ≡ false) × (r ≡ none)
unfolding check
check-none true why r e = absurd (none-ne-some _ (sym e))
check-none false why r e = (refl, e)

-- a request that passes is in range, and the output has room
pub room_told : (d : Picker) (q : Request) (bytes : List ℕ) (lent : List ℤ) (free : ℕ) (draws : Draws)
    → refusal d (do_pick_pieces (request_with q bytes (each number_of lent)) free draws) ≡ none → PickRoom q (length lent) 0 free
unfolding refusal refuse_few_draws request_fits request_with
room_told d q bytes lent free draws h =
    let x = check-none _ FewDraws _ h in
    let y = check-none _ PickArguments _ x.1 in
    let z = check-none (ltb free (q.wanted + q.contiguous + 255)) ShortOutput none y.1 in
    both (leb 1 q.wanted) _ (not-false _ y.0) λ a f₁.
    both (leb q.wanted 2048) _ f₁ λ b f₂.
    both (leb q.contiguous 2048) _ f₂ λ c f₃.
    both (leb q.peers 1000) _ f₃ λ p f₄.
    both (leb (len (each number_of lent)) 256) _ f₄ λ m f₅.
    record {
      some = leb-true 1 q.wanted a;
      wanted = leb-true q.wanted 2048 b;
      contiguous = leb-true q.contiguous 2048 c;
      peers = leb-true q.peers 1000 p;
      suggestions = omega (arith, leb-true (len (each number_of lent)) 256 m, many_each lent);
      room = omega (arith, ltb-false free (q.wanted + q.contiguous + 255) z.0);
    }

-- the judge's word on a picker that stands
pub judged_here : (s : Shape) (live : ℕ) (rows words cells : List ℕ) → Asked s live rows words cells → (a : PickRequest) (free : ℕ)
    (draws : Draws) (j : Result ⊤ Refusal) → PickJudged s (do_pick_pieces a free draws) j
    → judged j ≡ refusal (picker_in live rows words cells) (do_pick_pieces a free draws)
judged_here s live rows words cells t a free draws j g =
    g.is (picker_in live rows words cells) (pieces_number s (records_in live rows) words cells t.stands.bounds)

module _ (d : Picker) (a : PickRequest) (free : ℕ) (draws : Draws) (j : Result ⊤ Refusal)
    (h : judged j ≡ refusal d (do_pick_pieces a free draws)) where
  pub refused_told : (why : Refusal) → j ≡ Err why → refused why ≡ pick_answered d a free draws
  unfolding pick_answered unless
  refused_told why e = ap (λ (r : Option Refusal). unless r (pick_pieces draws d a)) (ap judged (sym e) ∙ h)

  pub passed_none : j ≡ (Ok tt) → refusal d (do_pick_pieces a free draws) ≡ none
  passed_none e = sym h ∙ ap judged e

  -- ---- made
  pub done_told : j ≡ (Ok tt) → (after : Picker) (out out' : List ℕ) (p : Picked) → PickGave (pick_pieces draws d a) after 0 out out' p
      → answer_of out' (Ok p) ≡ pick_answered d a free draws
  unfolding pick_answered unless ended
  done_told e after out out' p g =
      (λ i. picked (g.blocks i) (g.flags i) (g.loops i) (g.used i))
      ∙ ap (λ (r : Option Refusal). unless r (pick_pieces draws d a)) (sym (passed_none e))

-- ---- the definition's request
-- a peer of 64 bits, as a flag and a number
pub lent_named : (o : Option ℕ) → lent_peer o ≡ named_peer (has_peer o) (peer_number o % 18446744073709551616)
unfolding lent_peer has_peer peer_number
lent_named none = refl
lent_named (some n) = refl

-- it is judged alike
same_refusal : (d : Picker) (a : PickRequest) (free : ℕ) (draws : Draws)
    → refusal d (do_pick_pieces a free draws) ≡ refusal d (do_pick_pieces (lent_request a) free draws)
unfolding refusal request_fits bitfield_fits option lent_request
same_refusal d a free draws = refl

-- the same pick, whose peer is one of 64 bits
pub asked_told : (d : Picker) (a : PickRequest) (p : Pick) → lent_request a ≡ request_ones p (pieces_in d)
    → (unless_refused (refusal d (pick_of a)) d (pick_of a)).answer ≡ program_pick d p
unfolding program_pick pick_answered pick_of unless_refused act picking answering unless ended
asked_told d a p e =
    go (refusal d (do_pick_pieces a 4351 (replicate 4352 0)))
    ∙ ap (λ (r : Option Refusal). unless r (pick_pieces (replicate 4352 0) d (lent_request a))) (same_refusal d a 4351 (replicate 4352 0))
    ∙ ap (λ (r : PickRequest). unless (refusal d (do_pick_pieces r 4351 (replicate 4352 0))) (pick_pieces (replicate 4352 0) d r)) e
  where
    go : (why : Option Refusal) → (unless_refused why d (do_pick_pieces a 4351 (replicate 4352 0))).answer
        ≡ unless why (pick_pieces (replicate 4352 0) d (lent_request a))
    go none = refl
    go (some why) = refl
