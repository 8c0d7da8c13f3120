-- An image with a pick behind it: the image on its own, and what the definition's program answers. Assumes nothing.
use Rattle.std.specs.Prelude.{Err, Ok}
use mathlib.Core.Path.{◌≡◌, refl, sym, ap, subst, ◌∙◌}
use mathlib.Core.Bool.{cond, ◌&&◌}
use mathlib.Core.List.{List, [], ◌∷◌}
use mathlib.Core.Option.{Option}
use Prim.Native.Nat.{ℕ, suc, ◌+◌, ◌-◌, ◌≤◌, ◌<◌}
use native.Mathlib.Omega.{arith}
use lib.Dec.{ltb, leb}
use lib.ListN.{length, take, length-append}
use lib.Seq.{take_at}
use borrow.Author.Tests.{ltb-true}
use Rattle.types.specs.declared.refusal.Refusal.TheVariants.{ShortMemory, IllFormedImage}
use Rattle.model.specs.Lists.{nth, len, every}
use Rattle.model.specs.State.{Picker, pieces_in, blocks_per_piece}
use Rattle.model.specs.pick.Blocks.{PickRequest}
use Rattle.model.specs.Calls.{Answer, refused, lent_request}
use Rattle.model.specs.image.Image.{body_length, pick_kind, Got, got, fault, judged, field, number_of, peer_of, peer_fits, image}
use Rattle.model.specs.image.Image.{Read, accepted, fault_at, whole, get_picker, read_image}
use Rattle.model.specs.image.Program.{request_of, read_request, Job, get_job, job_answer, program_answer, program}
use Rattle.model.proofs.image.Bytes.{Bytes}
use Rattle.model.proofs.image.Codec.{got_value, got_rest, next_back, judged_back, obeying_back}
use Rattle.model.proofs.image.ImageLaws.{image-accepted, written_read}
use Rattle.model.proofs.base.Truths.{both}
use Rattle.image_records.specs.declared.pick.Pick.{Pick}
use Rattle.image_records.specs.Records.{pick_numbers}
use Rattle.image_judge.specs.Verdicts.{job_verdict}
use Rattle.pick_start.specs.Starting.{request_with}
use Rattle.pick_job.specs.Jobs.{request_numbers, request_ones, limited}
use Rattle.pick_job.proofs.PickLaws.{lent_named, asked_told}

-- ---- a fault
pub fault_told : (bytes : List ℕ) (k : ℕ) → Err k ≡ job_verdict (whole (len bytes) (get_job bytes))
    → refused (IllFormedImage k) ≡ program bytes
unfolding program job_verdict program_answer
fault_told bytes k e = go (whole (len bytes) (get_job bytes)) e
  where
    go : (r : Read Job) → Err k ≡ job_verdict r → refused (IllFormedImage k) ≡ program_answer r
    go (accepted x) f = let z : ◌≡◌ {A = ℕ} 0 1 = cc in absurd (omega arith)
    go (fault_at m) f = let z : k ≡ m = cc in ap (λ (n : ℕ). refused (IllFormedImage n)) z

-- ---- found
pub record JobGot (bytes : List ℕ) (p : Pick) : Type 0 where
  pub picker : Picker
  pub long : 18 ≤ length bytes
  pub image : read_image (take (length bytes - 18) bytes) ≡ accepted picker
  pub is : program bytes ≡ limited picker p
  pub options : p.options < 65536

accepted_job : (n : ℕ) (g : Got Job) (x : Job) → whole n g ≡ accepted x → g ≡ got x []
unfolding whole
accepted_job n (got t []) x e = let z : t ≡ x = cc in ap (λ (y : Job). got y []) z
accepted_job n (got t (b ∷ bs)) x e = let z : ◌≡◌ {A = ℕ} 0 1 = cc in absurd (omega arith)
accepted_job n (fault bs) x e = let z : ◌≡◌ {A = ℕ} 0 1 = cc in absurd (omega arith)

-- a number in two bytes
low_two : (body : List ℕ) → len body ≡ 17 → Bytes body → field 0 2 body < 65536
unfolding len field number_of every
low_two [] h v = absurd (omega (arith, h))
low_two (x ∷ []) h v = absurd (omega (arith, h))
low_two (x ∷ y ∷ l) h v =
    both (ltb x 256) _ v λ a u.
    both (ltb y 256) (every (λ c. ltb c 256) l) u λ b w.
    omega (arith, ltb-true x 256 a, ltb-true y 256 b)

options_low : (n : ℕ) (body : List ℕ) → len body ≡ 17 → Bytes body → (pick_numbers (request_of n body)).options < 65536
unfolding pick_numbers request_of
options_low n body h v = low_two body h v

-- the request of a record's body is the one that the program asks
ones_is : (n : ℕ) (body : List ℕ) → lent_request (request_of n body) ≡ request_ones (pick_numbers (request_of n body)) n
unfolding lent_request request_of request_ones request_with request_numbers pick_numbers
ones_is n body =
    ap (λ (o : Option ℕ). record {
      options = field 0 2 body;
      wanted = field 2 2 body;
      contiguous = field 4 2 body;
      peers = field 6 2 body;
      peer = o;
      bits = n;
      bytes = (request_of n body).bytes;
      suggestions = [];
    }) (lent_named (peer_of (field 8 1 body) (field 9 8 body)))

-- the limits first
limited_is : (s : Picker) (a : PickRequest) (p : Pick) → lent_request a ≡ request_ones p (pieces_in s)
    → job_answer (record { picker = s; ask = a }) ≡ limited s p
unfolding job_answer limited
limited_is s a p e =
    ap (λ (r : Answer). cond (leb (pieces_in s) 64 && leb (blocks_per_piece s) 16) r (refused ShortMemory)) (asked_told s a p e)

module _ (bytes : List ℕ) (x : Job) (read : whole (len bytes) (get_job bytes) ≡ accepted x) where
  job_answer_lem : program bytes ≡ job_answer x
  unfolding program program_answer
  job_answer_lem = ap program_answer read

  -- the image, and the record behind it
  pub job_parts : JobGot bytes (pick_numbers x.ask)
  unfolding get_job read_request body_length nth len
  job_parts =
      next_back (get_picker bytes) _ x [] (accepted_job (len bytes) (get_job bytes) x read) λ s m e₁ q₁.
      next_back (judged pick_kind (read_request (pieces_in s)) m) _ x [] q₁ λ a m₂ e₂ q₂.
      judged_back pick_kind (read_request (pieces_in s)) m a m₂ e₂ λ body em lb v o.
      obeying_back (peer_fits (field 8 1 body) (field 9 8 body)) (request_of (pieces_in s) body) a o λ t ea.
      let w = written_read bytes s m e₁ in
      let y : record { picker = s; ask = a } ≡ x = got_value q₂ in
      let en : m₂ ≡ [] = got_rest q₂ in
      let lm : length m ≡ 18 = ap length em ∙ ap suc (length-append body m₂) ∙ omega (arith, lb, ap length en) in
      let lw : length bytes ≡ length (image s) + length m = ap length w.0 ∙ length-append (image s) m in
      subst (λ (z : Job). JobGot bytes (pick_numbers z.ask)) y (record {
        picker = s;
        long = omega (arith, lm, lw);
        image =
            ap read_image (ap (take (length bytes - 18)) w.0 ∙ take_at (image s) m (length bytes - 18) (omega (arith, lm, lw)))
            ∙ image-accepted s w.1;
        is = job_answer_lem ∙ ap job_answer (sym y) ∙ limited_is s a (pick_numbers a)
            (subst (λ (r : PickRequest). lent_request r ≡ request_ones (pick_numbers r) (pieces_in s)) ea (ones_is (pieces_in s) body));
        options = subst (λ (r : PickRequest). (pick_numbers r).options < 65536) ea (options_low (pieces_in s) body lb v);
      })

-- the judge's verdict
pub job_got : (bytes : List ℕ) (p : Pick) → Ok p ≡ job_verdict (whole (len bytes) (get_job bytes)) → JobGot bytes p
unfolding job_verdict
job_got bytes p e = go (whole (len bytes) (get_job bytes)) refl e
  where
    go : (r : Read Job) → whole (len bytes) (get_job bytes) ≡ r → Ok p ≡ job_verdict r → JobGot bytes p
    go (accepted x) q f = let z : pick_numbers x.ask ≡ p = cc in subst (JobGot bytes) z (job_parts bytes x q)
    go (fault_at k) q f = let z : ◌≡◌ {A = ℕ} 0 1 = cc in absurd (omega arith)
