-- Readers and writers: what it means that they fit, and that a record is read as it was written, and only so.
use mathlib.Core.Path.{◌≡◌, refl, sym, ap, ap₂, ◌∙◌}
use mathlib.Core.Bool.{Bool, true, false, ◌&&◌}
use mathlib.Core.List.{List, [], ◌∷◌, ◌++◌}
use mathlib.Core.Option.{Option, none, some}
use Prim.Native.Nat.{ℕ}
use native.Mathlib.Omega.{arith}
use lib.ListN.{length, take, drop, take-append-drop, length-append}
use lib.Seq.{take_at, drop_at, length-take-le}
use lib.Dec.{eqb, leb, ltb}
use borrow.Author.Tests.{eqb-true, eq-eqb, leb-true, le-leb}
use Rattle.model.specs.Lists.{len, every}
use Rattle.model.specs.image.Image.{body_length, Got, got, fault, Reader, next, starts_with, given, judged, obeying}
use Rattle.model.proofs.image.Bytes.{Bytes}
use Rattle.model.proofs.base.Truths.{both, true_both}

-- `get` reads what `put` writes, and nothing else; Ok says which values
pub record Codec {A : Type 0} (put : A → List ℕ) (get : Reader A) (Ok : A → Type 0) : Type 0 where
  pub there : (a : A) (rest : List ℕ) → Ok a → get (put a ++ rest) ≡ got a rest
  pub back : (bs : List ℕ) (a : A) (rest : List ℕ) → get bs ≡ got a rest → (bs ≡ put a ++ rest) × Ok a

-- ---- one reader after another
-- what was found, and what is behind it
pub got_value : {A : Type 0} {a b : A} {m n : List ℕ} → ◌≡◌ {A = Got A} (got a m) (got b n) → a ≡ b
got_value e = cc

pub got_rest : {A : Type 0} {a b : A} {m n : List ℕ} → ◌≡◌ {A = Got A} (got a m) (got b n) → m ≡ n
got_rest e = cc

-- what both found, where the two together found something
pub next_back : {A B X : Type 0} (g : Got A) (f : A → Reader B) (b : B) (rest : List ℕ)
    → next g f ≡ got b rest → ((a : A) (m : List ℕ) → g ≡ got a m → f a m ≡ got b rest → X) → X
unfolding next
next_back (got a m) f b rest e k = k a m refl e
next_back (fault at) f b rest e k = let z : ◌≡◌ {A = ℕ} 0 1 = cc in absurd (omega arith)

module _ {A B : Type 0} {put : A → List ℕ} {get : Reader A} {Ok : A → Type 0} (c : Codec put get Ok) (f : A → Reader B) where
  -- what was written in front is read, and the next reader goes on behind it
  pub seq_there : (a : A) (m : List ℕ) → Ok a → next (get (put a ++ m)) f ≡ f a m
  unfolding next
  seq_there a m v = rw (c.there a m v)

  -- what was read in front was written there, and the next reader went on behind it
  pub seq_back : {X : Type 0} (bs : List ℕ) (b : B) (rest : List ℕ) → next (get bs) f ≡ got b rest
      → ((a : A) (m : List ℕ) → bs ≡ put a ++ m → Ok a → f a m ≡ got b rest → X) → X
  seq_back bs b rest e k = next_back (get bs) f b rest e λ a m p q. k a m (c.back bs a m p).0 (c.back bs a m p).1 q

-- a value under a rule
pub obeying_there : {A : Type 0} (t : Bool) (x a : A) → t ≡ true → x ≡ a → obeying t x ≡ some a
unfolding obeying
obeying_there true x a p q = ap some q
obeying_there false x a p q = let z : ◌≡◌ {A = ℕ} 0 1 = cc in absurd (omega arith)

-- a value that was given obeys its rule
pub obeying_back : {A X : Type 0} (t : Bool) (x a : A) → obeying t x ≡ some a → (t ≡ true → x ≡ a → X) → X
unfolding obeying
obeying_back true x a e k = k refl (cc)
obeying_back false x a e k = let z : ◌≡◌ {A = ℕ} 0 1 = cc in absurd (omega arith)

-- ---- a record
-- `f` reads the bodies that `body` writes, and nothing else; all are bytes, as many as the table says
pub record Body {A : Type 0} (kind : ℕ) (f : List ℕ → Option A) (body : A → List ℕ) (Ok : A → Type 0) : Type 0 where
  pub sized : (a : A) → len (body a) ≡ body_length kind
  pub bytes : (a : A) → Bytes (body a)
  pub fits : (a : A) → Ok a → f (body a) ≡ some a
  pub only : (b : List ℕ) (a : A) → len b ≡ body_length kind → Bytes b → f b ≡ some a → (b ≡ body a) × Ok a

module _ {A : Type 0} (kind : ℕ) (f : List ℕ → Option A) where
  starts : (body rest : List ℕ) → len body ≡ body_length kind → Bytes body → starts_with kind (kind ∷ (body ++ rest)) ≡ true
  unfolding starts_with len
  starts body rest h v =
      let e : take (body_length kind) (body ++ rest) ≡ body = take_at body rest (body_length kind) h in
      true_both (eqb kind kind) (leb (body_length kind) (length (body ++ rest)) && every (λ c. ltb c 256) (take (body_length kind) (body ++ rest)))
      (eq-eqb kind kind refl)
      (true_both (leb (body_length kind) (length (body ++ rest))) (every (λ c. ltb c 256) (take (body_length kind) (body ++ rest)))
      (le-leb (body_length kind) (length (body ++ rest)) (omega (arith, length-append body rest)))
      (rw e v))

  judged_pass : (t : Bool) (here after rest : List ℕ) (o : Option A) (a : A) → t ≡ true → o ≡ some a → after ≡ rest
      → elim t [ true ↦ given here after o | false ↦ fault here ] ≡ got a rest
  unfolding given
  judged_pass true here after rest none a p q r = let z : ◌≡◌ {A = ℕ} 0 1 = cc in absurd (omega arith)
  judged_pass true here after rest (some x) a p q r = let y : x ≡ a = cc in ap₂ got y r
  judged_pass false here after rest o a p q r = let z : ◌≡◌ {A = ℕ} 0 1 = cc in absurd (omega arith)

  -- a record whose body is accepted is read, and no byte more
  pub judged_there : (body rest : List ℕ) (a : A) → len body ≡ body_length kind → Bytes body → f body ≡ some a
      → judged kind f (kind ∷ (body ++ rest)) ≡ got a rest
  unfolding judged len
  judged_there body rest a h v e =
      judged_pass (starts_with kind (kind ∷ (body ++ rest))) (kind ∷ (body ++ rest)) (drop (body_length kind) (body ++ rest)) rest
      (f (take (body_length kind) (body ++ rest))) a (starts body rest h v)
      (ap f (take_at body rest (body_length kind) h) ∙ e)
      (drop_at body rest (body_length kind) h)

  judged_test : {X : Type 0} (t : Bool) (here after rest : List ℕ) (o : Option A) (a : A)
      → elim t [ true ↦ given here after o | false ↦ fault here ] ≡ got a rest → (t ≡ true → o ≡ some a → after ≡ rest → X) → X
  unfolding given
  judged_test true here after rest none a e k = let z : ◌≡◌ {A = ℕ} 0 1 = cc in absurd (omega arith)
  judged_test true here after rest (some x) a e k =
      let p : x ≡ a = cc in
      k refl (ap some p) (cc)
  judged_test false here after rest o a e k = let z : ◌≡◌ {A = ℕ} 0 1 = cc in absurd (omega arith)

  -- where a record is read, it stands there whole, and its body is accepted
  pub judged_back : {X : Type 0} (bs : List ℕ) (a : A) (rest : List ℕ) → judged kind f bs ≡ got a rest
      → ((body : List ℕ) → bs ≡ kind ∷ (body ++ rest) → len body ≡ body_length kind → Bytes body → f body ≡ some a → X) → X
  unfolding judged starts_with len
  judged_back [] a rest e k = let z : ◌≡◌ {A = ℕ} 0 1 = cc in absurd (omega arith)
  judged_back (b ∷ bs) a rest e k =
      judged_test (starts_with kind (b ∷ bs)) (b ∷ bs) (drop (body_length kind) bs) rest (f (take (body_length kind) bs)) a e λ t o r.
      both (eqb b kind) (leb (body_length kind) (length bs) && every (λ c. ltb c 256) (take (body_length kind) bs)) t λ t₁ t₂.
      both (leb (body_length kind) (length bs)) (every (λ c. ltb c 256) (take (body_length kind) bs)) t₂ λ t₃ t₄.
      k (take (body_length kind) bs)
      (ap₂ ◌∷◌ (eqb-true b kind t₁) (sym (take-append-drop (body_length kind) bs) ∙ ap (λ (l : List ℕ). take (body_length kind) bs ++ l) r))
      (length-take-le (body_length kind) bs (leb-true (body_length kind) (length bs) t₃)) t₄ o

-- a record of a kind: the kind byte and the body
pub record_codec : {A : Type 0} (kind : ℕ) (f : List ℕ → Option A) (body : A → List ℕ) (Ok : A → Type 0)
    → Body kind f body Ok → Codec (λ a. kind ∷ body a) (judged kind f) Ok
record_codec kind f body Ok w = record {
  there = λ a rest v. judged_there kind f (body a) rest a (w.sized a) (w.bytes a) (w.fits a v);
  back = λ bs a rest e.
      judged_back kind f bs a rest e λ b p h v o.
      let q = w.only b a h v o in
      (p ∙ ap (λ (l : List ℕ). kind ∷ (l ++ rest)) q.0, q.1);
}
