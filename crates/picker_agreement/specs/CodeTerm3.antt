-- Term 3 of the code: what the public contracts alone say of whole lists of calls, whatever the torrents. Images are the bytes that the
-- public call gave.
use Rattle.std.specs.Prelude.{◌≡◌, ◌↔◌, false, List, ℕ, ◌≤◌, length}
use Rattle.std.proofs.Math.Option.{Option, none}
use Rattle.types.specs.declared.refusal.Refusal.{Refusal}
use Rattle.model.specs.image.Image.{image}
use Rattle.model.specs.Memory.{memory_needed, is_short}
use Rattle.model.specs.Calls.{Call, Answer, answers, run}
use Rattle.agreement.specs.Term3.{Reached}
use Rattle.picker_calls.specs.Calling.{Lent, picker_on, memory_on}
use Rattle.picker_calls.specs.Starting.{lengths_on, ReadCalled, Written, wrote, ImageCalled}
use Rattle.picker_agreement.specs.Traces.{LentFrom, Trace, ReachedOn, ImageOf}

-- every list of calls is answered alike
abbrev pub AnswerAlike : (m n : Lent) → Type 0
AnswerAlike m n = (calls : List Call) (rs qs : List Answer) (z w : Lent) → Trace m calls rs z → Trace n calls qs w → rs ≡ qs

-- whatever is read of the bytes into these buffers is accepted, and answers every later list of calls as m does
pub record SetBack (m entry : Lent) (bytes : List ℕ) : Type 0 where
  pub accepted : (exit : Lent) (r : Option Refusal) → ReadCalled entry bytes exit r → r ≡ none
  pub answers_as : (exit x y : Lent) (r : Option Refusal) (later : List Call) (rs qs : List Answer) → ReadCalled entry bytes exit r
      → Trace m later rs x → Trace exit later qs y → qs ≡ rs

pub record CodeTerm3 : Type 0 where
  -- calls answer, and leave the picker, as the definition says; the next call finds it well-formed, and it is one that term 3 of the
  -- definition speaks of
  pub follows : (m z : Lent) (calls : List Call) (rs : List Answer) → ReachedOn m → Trace m calls rs z
      → (rs ≡ answers (picker_on m) calls) × (picker_on z ≡ run (picker_on m) calls)
  pub well_formed : (m : Lent) → ReachedOn m → memory_on m ≡ none
  pub reached : (m : Lent) → ReachedOn m → Reached (picker_on m)
  pub reached_stays : (m z : Lent) (calls : List Call) (rs : List Answer) → ReachedOn m → Trace m calls rs z → ReachedOn z
  -- images are equal exactly when every later list of calls is answered alike
  pub agree : (m n : Lent) (a b : List ℕ) → ReachedOn m → ReachedOn n → ImageOf m a → ImageOf n b → (a ≡ b) ↔ AnswerAlike m n
  -- equal images stay equal after every list of calls
  pub images_stay : (m n : Lent) (a b : List ℕ) → ReachedOn m → ReachedOn n → ImageOf m a → ImageOf n b → a ≡ b
      → (calls : List Call) (rs qs : List Answer) (z w : Lent) → Trace m calls rs z → Trace n calls qs w
      → (c d : List ℕ) → ImageOf z c → ImageOf w d → c ≡ d
  -- a picker read from an accepted image has that image
  pub image_kept : (entry exit : Lent) (bytes b : List ℕ) → ReadCalled entry bytes exit none → ImageOf exit b → b ≡ bytes
  -- an image taken is the definition's, and it is taken wherever memory and room are enough
  pub image_is : (m : Lent) (bytes : List ℕ) → ReachedOn m → ImageOf m bytes → bytes ≡ image (picker_on m)
  pub image_taken : (m entry : Lent) (before after : List ℕ) (r : Written) → ReachedOn m → LentFrom m entry
      → is_short (lengths_on entry) (memory_needed (picker_on m)) ≡ false → length (image (picker_on m)) ≤ length before
      → ImageCalled entry before after r → r ≡ wrote (length (image (picker_on m)))
  -- an image taken is accepted, given memory enough, and gives that picker; a picker's own memory is enough for it
  pub image_accepted : (m entry exit : Lent) (bytes : List ℕ) (r : Option Refusal) → ReachedOn m → ImageOf m bytes
      → is_short (lengths_on entry) (memory_needed (picker_on m)) ≡ false → ReadCalled entry bytes exit r
      → (r ≡ none) × (picker_on exit ≡ picker_on m)
  pub enough : (m : Lent) → ReachedOn m → is_short (lengths_on m) (memory_needed (picker_on m)) ≡ false
  -- a station takes the image of its picker, goes away by any calls, and reads those bytes in the memory it has, which is enough for the
  -- picker it has by then: from there on it answers as if it had never left
  pub set_back : (m z entry : Lent) (bytes : List ℕ) (away : List Call) (rs : List Answer) → ReachedOn m → ImageOf m bytes
      → Trace m away rs z → is_short (lengths_on entry) (memory_needed (picker_on z)) ≡ false → SetBack m entry bytes
