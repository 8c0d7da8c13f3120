-- The whole bytes: what is left over counts as a record, and its place is where it starts. Assumes nothing.
use Rattle.std.specs.Prelude.{Err, None, Ok, Result, Some}
use mathlib.Core.Path.{◌≡◌, sym, ap, ◌∙◌, subst}
use mathlib.Core.List.{List}
use Prim.Native.Nat.{ℕ, ◌+◌, ◌-◌, ◌≤◌, ◌<◌}
use native.Mathlib.Omega.{arith}
use lib.ListN.{length, drop, length-drop, drop_of_length-le}
use lib.Seq.{drop-cons}
use Rattle.model.specs.Lists.{nth, len}
use Rattle.model.specs.State.{pieces_in}
use Rattle.model.specs.pick.Blocks.{PickRequest}
use Rattle.model.specs.image.Image.{body_length, pick_kind, Got, got, fault, ret, next, judged, accepted, fault_at, whole, get_picker}
use Rattle.model.specs.image.Image.{read_image}
use Rattle.model.specs.image.Program.{read_request, Job, get_job}
use Rattle.image_records.specs.declared.pick.Pick.{Pick}
use Rattle.image_records.specs.Records.{pick_numbers, pick_step, PickJudged}
use Rattle.image_records.proofs.FrontLaws.{judged_cases}
use Rattle.image_pieces.specs.Places.{Ended, Went}
use Rattle.image_pieces.proofs.NextLaws.{next-got, next-fault}
use Rattle.image_judge.specs.Verdicts.{verdict_of, job_verdict, PickTold}

-- ---- any reader
place_is : (bytes : List ℕ) (k : ℕ) → k ≤ length bytes → len bytes - len (drop k bytes) ≡ k
unfolding len
place_is bytes k h = omega (arith, length-drop k bytes)

module _ {A : Type 0} (bytes : List ℕ) (k : ℕ) (within : k ≤ length bytes) where
  -- a fault at k
  pub whole-fault : (g : Got A) → g ≡ fault (drop k bytes) → whole (len bytes) g ≡ fault_at k
  unfolding whole
  whole-fault g e = ap (whole (len bytes)) e ∙ ap fault_at (place_is bytes k within)

  -- left-over bytes from k on
  pub whole_more : (g : Got A) (a : A) → g ≡ got a (drop k bytes) → k < length bytes → whole (len bytes) g ≡ fault_at k
  unfolding whole
  whole_more g a e h =
      ap (whole (len bytes)) (e ∙ ap (got a) (drop-cons bytes k 0 h))
      ∙ ap (λ (l : List ℕ). fault_at (len bytes - len l)) (sym (drop-cons bytes k 0 h)) ∙ ap fault_at (place_is bytes k within)

  -- nothing is left
  pub whole_done : (g : Got A) (a : A) → g ≡ got a (drop k bytes) → length bytes ≤ k → whole (len bytes) g ≡ accepted a
  unfolding whole
  whole_done g a e h = ap (whole (len bytes)) (e ∙ ap (got a) (drop_of_length-le bytes {i = k} h))

-- ---- an image
module _ (bytes : List ℕ) (read : Result ℕ ℕ) (h : Went (get_picker bytes) bytes read) (k : ℕ) where
  pub image_fault : read ≡ Err k → Err k ≡ verdict_of (read_image bytes)
  unfolding Went verdict_of read_image
  image_fault e =
      let w = subst (Went (get_picker bytes) bytes) e h in
      sym (ap verdict_of (whole-fault bytes k w.within (get_picker bytes) w.is))

  module _ (e : read ≡ Ok k) where
    pub image_ended : Ended (get_picker bytes) bytes k
    unfolding Went
    image_ended = subst (Went (get_picker bytes) bytes) e h

    pub image_more : k < length bytes → Err k ≡ verdict_of (read_image bytes)
    unfolding verdict_of read_image
    image_more l = sym (ap verdict_of (whole_more bytes k image_ended.within (get_picker bytes) image_ended.value image_ended.is l))

    pub image_done : length bytes ≤ k → (Ok tt) ≡ verdict_of (read_image bytes)
    unfolding verdict_of read_image
    image_done l = sym (ap verdict_of (whole_done bytes k image_ended.within (get_picker bytes) image_ended.value image_ended.is l))

-- ---- a pick behind it
module _ (at : ℕ) (bytes : List ℕ) where
  same_pick : (a : PickRequest) (x : Pick) (rest : List ℕ) (g : Got PickRequest) → g ≡ got a rest → Some x ≡ pick_step g →
      pick_numbers a ≡ x
  unfolding pick_step
  same_pick a x rest g e f = let z : Some x ≡ Some (pick_numbers a) = f ∙ ap pick_step e in cc

  no_pick : {X : Type 0} (x : Pick) (rest : List ℕ) (g : Got PickRequest) → g ≡ fault rest → Some x ≡ pick_step g → X
  unfolding pick_step
  no_pick x rest g e f =
      let z : Some x ≡ None = f ∙ ap pick_step e in
      let y : ◌≡◌ {A = ℕ} 0 1 = cc in
      absurd (omega arith)

  -- its record is at fault
  pub pick_fails : at ≤ length bytes → PickJudged at bytes None → PickTold at bytes (Err at)
  unfolding job_verdict pick_step
  pick_fails h f s =
      let n = pieces_in s in
      let e : judged pick_kind (read_request n) (drop at bytes) ≡ fault (drop at bytes)
      = judged_cases pick_kind (read_request n) at bytes (λ e. e)
      (λ a room r e.
      let z : None ≡ Some (pick_numbers a) = f n ∙ ap pick_step e in
      let y : ◌≡◌ {A = ℕ} 0 1 = cc in
      absurd (omega arith)) in
      sym (ap job_verdict (whole-fault bytes at h _ (next-fault (judged pick_kind (read_request n) (drop at bytes))
      (λ a. ret (record { picker = s; ask = a })) (drop at bytes) e)))

  -- found: what is behind it decides
  pub record PickGot (n : ℕ) (x : Pick) : Type 0 where
    pub ask : PickRequest
    pub is : judged pick_kind (read_request n) (drop at bytes) ≡ got ask (drop (at + 18) bytes)
    pub numbers : pick_numbers ask ≡ x
    pub room : at + 18 ≤ length bytes

  pub pick_got : (x : Pick) → PickJudged at bytes (Some x) → (n : ℕ) → PickGot n x
  unfolding body_length nth
  pick_got x f n =
      judged_cases pick_kind (read_request n) at bytes (λ e. no_pick x (drop at bytes) (judged pick_kind (read_request n) (drop at bytes)) e
      (f n))
      (λ a room r e.
      record { ask = a; is = e; numbers = same_pick a x _ (judged pick_kind (read_request n) (drop at bytes)) e (f n); room = room })

  module _ (x : Pick) (f : PickJudged at bytes (Some x)) where
    pub pick_more : at + 18 < length bytes → PickTold at bytes (Err (at + 18))
    unfolding job_verdict
    pick_more l s =
        let g = pick_got x f (pieces_in s) in
        sym
        (ap job_verdict
        (whole_more bytes (at + 18) g.room _ (record { picker = s; ask = g.ask })
        (next-got (judged pick_kind (read_request (pieces_in s)) (drop at bytes)) (λ a. ret (record { picker = s; ask = a })) g.ask
        (drop (at + 18) bytes) g.is) l))

    pub pick_done : length bytes ≤ at + 18 → PickTold at bytes (Ok x)
    unfolding job_verdict
    pick_done l s =
        let g = pick_got x f (pieces_in s) in
        sym
        (ap job_verdict
        (whole_done bytes (at + 18) g.room _ (record { picker = s; ask = g.ask })
        (next-got (judged pick_kind (read_request (pieces_in s)) (drop at bytes)) (λ a. ret (record { picker = s; ask = a })) g.ask
        (drop (at + 18) bytes) g.is) l)
        ∙ ap Ok g.numbers)

-- ---- an image with a pick
module _ (bytes : List ℕ) (read : Result ℕ ℕ) (h : Went (get_picker bytes) bytes read) (k : ℕ) where
  pub job_fault : read ≡ Err k → Err k ≡ job_verdict (whole (len bytes) (get_job bytes))
  unfolding Went job_verdict get_job
  job_fault e =
      let w = subst (Went (get_picker bytes) bytes) e h in
      sym
      (ap job_verdict
      (whole-fault bytes k w.within (get_job bytes)
      (next-fault (get_picker bytes) (λ s. λ l. next (judged pick_kind (read_request (pieces_in s)) l)
      (λ a. ret (record { picker = s; ask = a }))) (drop k bytes) w.is)))

  pub job_pick : (e : read ≡ Ok k) (r : Result Pick ℕ) → PickTold k bytes r → r ≡ job_verdict (whole (len bytes) (get_job bytes))
  unfolding get_job
  job_pick e r t =
      let w = image_ended bytes read h k e in
      t w.value
      ∙ sym
      (ap (λ (g : Got Job). job_verdict (whole (len bytes) g))
      (next-got (get_picker bytes) (λ s. λ l. next (judged pick_kind (read_request (pieces_in s)) l)
      (λ a. ret (record { picker = s; ask = a }))) w.value (drop k bytes) w.is))
