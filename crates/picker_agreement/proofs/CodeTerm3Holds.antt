-- Term 3 of the code holds: lists of public calls follow the definition, of which term 3 holds. Assumes nothing.
use mathlib.Core.Path.{◌≡◌, refl, sym, ap, subst, ◌∙◌}
use mathlib.Core.Bool.{Bool, true, false}
use mathlib.Core.List.{List, [], ◌∷◌, ◌++◌}
use mathlib.Core.Option.{Option, none, some, none-ne-some}
use Prim.Native.Nat.{ℕ, ◌≤◌}
use native.Mathlib.Omega.{arith}
use lib.ListN.{length, take, drop}
use Rattle.types.specs.declared.refusal.Refusal.{Refusal}
use Rattle.types.specs.declared.refusal.Refusal.TheVariants.{ShortMemory}
use Rattle.types.specs.Piece.{number_of}
use Rattle.model.specs.Lists.{len}
use Rattle.model.specs.State.{Picker}
use Rattle.model.specs.image.Image.{image}
use Rattle.model.specs.Memory.{Memory, memory_needed, is_short}
use Rattle.model.specs.Calls.{Call, Answer, answers, Made, made, not_made, read_picker, Taken, taken, not_taken}
use Rattle.model.specs.Calls.{take_image}
use Rattle.agreement.specs.Term3.{Started, from_new as started_new, from_image as started_image, Reached, after as led_by}
use Rattle.agreement.proofs.Term3Holds.{term_3}
use Rattle.picker_calls.specs.Calling.{Lent, picker_on, memory_on}
use Rattle.picker_calls.specs.Starting.{lengths_on, why_not_made, ReadCalled, unless_ill, taken_on, Written, wrote}
use Rattle.picker_calls.specs.Starting.{written, ImageCalled}
use Rattle.picker_agreement.specs.Traces.{LentFrom, Trace, StartedOn, from_new, from_image, ReachedOn, after, ImageOf}
use Rattle.picker_agreement.specs.CodeTerm3.{AnswerAlike, SetBack, CodeTerm3}
use Rattle.picker_agreement.proofs.FrontLaws.{enough_on}
use Rattle.picker_agreement.proofs.StepLaws.{lent_good, lent_picker, few_memory}
use Rattle.picker_agreement.proofs.TraceLaws.{followed, joined, asked_same}

-- ---- what is made
-- a call that was not refused made a picker
made_picker : (m : Made) {B : Type 0} → none ≡ why_not_made m → ((s : Picker) → m ≡ made s → B) → B
unfolding why_not_made
made_picker (made s) e f = f s refl
made_picker (not_made why) e f = absurd (none-ne-some why e)

-- started memory is well-formed, and its picker is one that the definition's term speaks of
record Begun (m : Lent) : Type 0 where
  well : memory_on m ≡ none
  started : Started (picker_on m)

begun : {m : Lent} → StartedOn m → Begun m
begun (from_new {entry} {exit} total_size piece_size c) = made_picker _ c.answer (λ s e. record {
  well = c.good s e;
  started = started_new (lengths_on entry) (number_of total_size) (number_of piece_size) (picker_on exit) (e ∙ ap made (sym (c.after s e)));
})
begun (from_image {entry} {exit} bytes c) = made_picker _ c.answer (λ s e. record {
  well = c.good s e;
  started = started_image (lengths_on entry) bytes (picker_on exit) (e ∙ ap made (sym (c.after s e)));
})

reached_good : {m : Lent} → ReachedOn m → memory_on m ≡ none
reached_good (after s t) = (followed (begun s).well t).2

reached_picker : {m : Lent} → ReachedOn m → Reached (picker_on m)
reached_picker (after {m} {z} {calls} s t) = subst Reached (sym (followed (begun s).well t).1) (led_by (begun s).started calls)

reached_on : {m z : Lent} {calls : List Call} {rs : List Answer} → ReachedOn m → Trace m calls rs z → ReachedOn z
reached_on (after s t) u = after s (joined t u)

-- what a call that was not refused read
read_made : (entry exit : Lent) (bytes : List ℕ) → ReadCalled entry bytes exit none
    → read_picker (lengths_on entry) bytes ≡ made (picker_on exit)
read_made entry exit bytes c = made_picker _ c.answer (λ s e. e ∙ ap made (sym (c.after s e)))

-- ---- images
-- a front of a list
front_take : (xs ys : List ℕ) → take (length xs) (xs ++ ys) ≡ xs
front_take [] ys = refl
front_take (x ∷ xs) ys = ap (λ (l : List ℕ). x ∷ l) (front_take xs ys)

-- an answer of so many bytes means that the image was taken
took : (t : Taken) (k : ℕ) {B : Type 0} → wrote k ≡ written t → ((bytes : List ℕ) → t ≡ taken bytes → k ≡ length bytes → B) → B
unfolding written
took (taken bytes) k e f = f bytes refl cc
took (not_taken why) k e f = let z : ◌≡◌ {A = ℕ} 0 1 = cc in absurd (omega arith)

-- memory that is refused has none
ill_none : (o : Option Refusal) (t : Taken) (bytes : List ℕ) → unless_ill o t ≡ taken bytes → (o ≡ none) × (t ≡ taken bytes)
unfolding unless_ill
ill_none none t bytes e = (refl, e)
ill_none (some why) t bytes e = let z : ◌≡◌ {A = ℕ} 0 1 = cc in absurd (omega arith)

module _ (m : Lent) (good : memory_on m ≡ none) where
  image_is : (bytes : List ℕ) → ImageOf m bytes → bytes ≡ image (picker_on m)
  unfolding taken_on
  image_is bytes i = go (is_short (lengths_on i.entry) (memory_needed (picker_on m))) refl
    where
      -- the image that was taken of what was lent
      whole : picker_on i.entry ≡ picker_on m → bytes ≡ image (picker_on m)
      whole p = took (taken_on i.entry (length i.before)) i.many i.called.answer (λ bs e k.
          i.is ∙ ap (take i.many) (i.called.given bs e)
          ∙ ap (λ (n : ℕ). take n (bs ++ drop (length bs) i.before)) k
          ∙ front_take bs (drop (length bs) i.before)
          ∙ term_3.taken_image (picker_on i.entry) (lengths_on i.entry) (length i.before) bs
          (ill_none (memory_on i.entry) _ bs e).1
          ∙ ap image p)

      -- too little lent is refused
      nothing : memory_on i.entry ≡ some ShortMemory → bytes ≡ image (picker_on m)
      nothing n = took (taken_on i.entry (length i.before)) i.many i.called.answer (λ bs e k.
          absurd (none-ne-some _ (sym (ill_none (memory_on i.entry) _ bs e).0 ∙ n)))

      go : (t : Bool) → is_short (lengths_on i.entry) (memory_needed (picker_on m)) ≡ t → bytes ≡ image (picker_on m)
      go true e = nothing (few_memory m good i.entry i.lent e)
      go false e = whole (lent_picker m good i.entry i.lent e)

  -- it is taken where memory and room are enough
  image-taken : (entry : Lent) (before after : List ℕ) (r : Written) → LentFrom m entry
      → is_short (lengths_on entry) (memory_needed (picker_on m)) ≡ false → length (image (picker_on m)) ≤ length before
      → ImageCalled entry before after r → r ≡ wrote (length (image (picker_on m)))
  unfolding taken_on unless_ill written len
  image-taken entry before rest r lent long room c =
      let p = lent_picker m good entry lent long in
      let h = subst (λ (d : Picker). is_short (lengths_on entry) (memory_needed d) ≡ false) (sym p) long in
      let g = subst (λ (d : Picker). length (image d) ≤ length before) (sym p) room in
      c.answer
      ∙ ap (λ (o : Option Refusal). written (unless_ill o (take_image (picker_on entry) (lengths_on entry) (length before))))
      (lent_good m good entry lent long)
      ∙ ap written (term_3.image_taken (picker_on entry) (lengths_on entry) (length before) h g)
      ∙ ap (λ (d : Picker). wrote (length (image d))) p

-- ---- pickers that are reached
module _ (m : Lent) (rm : ReachedOn m) where
  gm : memory_on m ≡ none
  gm = reached_good rm

  -- reading its image in memory enough
  accepted : (entry exit : Lent) (bytes : List ℕ) (r : Option Refusal) → ImageOf m bytes
      → is_short (lengths_on entry) (memory_needed (picker_on m)) ≡ false → ReadCalled entry bytes exit r
      → (r ≡ none) × (picker_on exit ≡ picker_on m)
  unfolding why_not_made
  accepted entry exit bytes r i long c =
      let e : read_picker (lengths_on entry) bytes ≡ made (picker_on m) =
      ap (read_picker (lengths_on entry)) (image_is m gm bytes i)
      ∙ term_3.image_accepted (picker_on m) (reached_picker rm) (lengths_on entry) long in
      (c.answer ∙ ap why_not_made e, c.after (picker_on m) e)

  module _ (n : Lent) (rn : ReachedOn n) (a b : List ℕ) (i : ImageOf m a) (j : ImageOf n b) where
    gn : memory_on n ≡ none
    gn = reached_good rn

    images : a ≡ b → image (picker_on m) ≡ image (picker_on n)
    images e = sym (image_is m gm a i) ∙ e ∙ image_is n gn b j

    alike : a ≡ b → AnswerAlike m n
    alike e calls rs qs z w t u =
        (followed gm t).0
        ∙ (term_3.agree (picker_on m) (picker_on n) (reached_picker rm) (reached_picker rn)).0 (images e) calls
        ∙ sym (followed gn u).0

    stay : a ≡ b → (calls : List Call) (rs qs : List Answer) (z w : Lent) → Trace m calls rs z → Trace n calls qs w
        → (c d : List ℕ) → ImageOf z c → ImageOf w d → c ≡ d
    stay e calls rs qs z w t u c d k l =
        image_is z (followed gm t).2 c k
        ∙ ap image (followed gm t).1
        ∙ term_3.images_stay (picker_on m) (picker_on n) (reached_picker rm) (reached_picker rn) (images e) calls
        ∙ sym (ap image (followed gn u).1)
        ∙ sym (image_is w (followed gn u).2 d l)

    told : AnswerAlike m n → a ≡ b
    told f = image_is m gm a i ∙ ap image (asked_same m gm n gn f) ∙ sym (image_is n gn b j)

  -- a station set back
  back : (z entry : Lent) (bytes : List ℕ) (away : List Call) (rs : List Answer) → ImageOf m bytes → Trace m away rs z
      → is_short (lengths_on entry) (memory_needed (picker_on z)) ≡ false → SetBack m entry bytes
  back z entry bytes away rs i t long =
      let n : memory_needed (picker_on z) ≡ memory_needed (picker_on m) =
      ap memory_needed (followed gm t).1 ∙ term_3.memory_stays (picker_on m) away in
      let l : is_short (lengths_on entry) (memory_needed (picker_on m)) ≡ false =
      subst (λ (x : Memory). is_short (lengths_on entry) x ≡ false) n long in
      record {
        accepted = λ exit r c. (accepted entry exit bytes r i l c).0;
        answers_as = λ exit x y r later ps qs c u v.
            let k = accepted entry exit bytes r i l c in
            let g = (begun (from_image bytes (subst (ReadCalled entry bytes exit) k.0 c))).well in
            (followed g v).0 ∙ ap (λ (d : Picker). answers d later) k.1 ∙ sym (followed gm u).0;
      }

-- ---- the theorem
pub code_term_3 : CodeTerm3
code_term_3 = record {
  follows = λ m z calls rs r t. let f = followed (reached_good r) t in (f.0, f.1);
  well_formed = λ m r. reached_good r;
  reached = λ m r. reached_picker r;
  reached_stays = λ m z calls rs r t. reached_on r t;
  agree = λ m n a b rm rn i j. (alike m rm n rn a b i j, told m rm n rn a b i j);
  images_stay = λ m n a b rm rn i j. stay m rm n rn a b i j;
  image_kept = λ entry exit bytes b c i.
      image_is exit (begun (from_image bytes c)).well b i ∙ term_3.image_kept (lengths_on entry) bytes (picker_on exit)
      (read_made entry exit bytes c);
  image_is = λ m bytes r i. image_is m (reached_good r) bytes i;
  image_taken = λ m entry before rest r rm lent long room c. image-taken m (reached_good rm) entry before rest r lent long room c;
  image_accepted = λ m entry exit bytes r rm i long c. accepted m rm entry exit bytes r i long c;
  enough = λ m r. enough_on m (reached_good r);
  set_back = λ m z entry bytes away rs rm i t long. back m rm z entry bytes away rs i t long;
}
