-- Readers that look no further than they must: what one finds depends on the records that it reads and on the first byte behind them, and a
-- fault on the records before it and the record at fault.
use mathlib.Core.Path.{◌≡◌, refl, sym, ap, ap₂, ◌∙◌, subst}
use mathlib.Core.Bool.{Bool, true, false}
use mathlib.Core.List.{List, [], ◌∷◌, ◌++◌, append_assoc, append-nil}
use mathlib.Core.Option.{Option, none, some}
use Prim.Native.Nat.{ℕ, suc}
use native.Mathlib.Omega.{arith}
use lib.ListN.{take, drop, take-append-drop}
use lib.Seq.{take_at}
use lib.Dec.{eqb}
use Rattle.model.specs.Lists.{len}
use Rattle.model.specs.image.Image.{body_length, Got, got, fault, Reader, ret, next, starts_with, given, judged, comes}
use Rattle.model.proofs.image.Bytes.{Bytes}
use Rattle.model.proofs.image.Codec.{got_value, got_rest, next_back, judged_there, judged_back}
use Rattle.model.proofs.base.Truths.{by_test}

-- ---- records
-- whole records, one after another
pub data Whole : List ℕ → Type 0 where
  empty : Whole []
  another : (kind : ℕ) (body rest : List ℕ) → len body ≡ body_length kind → Whole rest → Whole (kind ∷ (body ++ rest))

whole_append : {xs : List ℕ} (ys : List ℕ) → Whole xs → Whole ys → Whole (xs ++ ys)
whole_append ys empty w = w
whole_append ys (another kind body rest h v) w =
    subst (λ (l : List ℕ). Whole (kind ∷ l)) (sym (append_assoc body rest ys)) (another kind body (rest ++ ys) h (whole_append ys v w))

whole_one : (kind : ℕ) (body : List ℕ) → len body ≡ body_length kind → Whole (kind ∷ body)
whole_one kind body h = subst (λ (l : List ℕ). Whole (kind ∷ l)) (append-nil body) (another kind body [] h empty)

-- the first byte, if any
abbrev pub first : List ℕ → Option ℕ
first [] = none
first (b ∷ bs) = some b

first_append : (xs ys zs : List ℕ) → first ys ≡ first zs → first (xs ++ ys) ≡ first (xs ++ zs)
first_append [] ys zs e = e
first_append (x ∷ xs) ys zs e = refl

first-comes : (kind : ℕ) (xs ys : List ℕ) → first xs ≡ first ys → comes kind xs ≡ comes kind ys
unfolding comes
first-comes kind [] [] e = refl
first-comes kind [] (y ∷ ys) e = let z : ◌≡◌ {A = ℕ} 0 1 = cc in absurd (omega arith)
first-comes kind (x ∷ xs) [] e = let z : ◌≡◌ {A = ℕ} 0 1 = cc in absurd (omega arith)
first-comes kind (x ∷ xs) (y ∷ ys) e = let z : x ≡ y = cc in ap (λ (b : ℕ). eqb b kind) z

-- the length of the record in front, by its kind; 1 where nothing is left
unfoldable pub front_length : List ℕ → ℕ
front_length [] = 1
front_length (kind ∷ bs) = suc (body_length kind)

-- the record in front of bs stands in front of cs too. Where bs ends within the record, cs ends with it
abbrev pub SameFront : List ℕ → List ℕ → Type 0
SameFront bs cs = take (front_length bs) cs ≡ take (front_length bs) bs

-- what starts with the same record starts with the same byte
pub same_first : (bs cs : List ℕ) → SameFront bs cs → first cs ≡ first bs
unfolding front_length
same_first [] [] e = refl
same_first [] (c ∷ cs) e = let z : ◌≡◌ {A = ℕ} 0 1 = cc in absurd (omega arith)
same_first (b ∷ bs) [] e = let z : ◌≡◌ {A = ℕ} 0 1 = cc in absurd (omega arith)
same_first (b ∷ bs) (c ∷ cs) e = let z : c ≡ b = cc in ap some z

-- ---- steady readers
-- nothing is left, and at most what would come next is missing
pub data Ended {A : Type 0} (g : Got A) : Type 0 where
  ends_got : (a : A) → g ≡ got a [] → Ended g
  ends_fault : g ≡ fault [] → Ended g

-- what was found is found again with another rest that starts with the same byte, and with none
pub record Found {A : Type 0} (r : Reader A) (bs : List ℕ) (a : A) (rest : List ℕ) : Type 0 where
  pub front : List ℕ
  pub splits : bs ≡ front ++ rest
  pub whole : Whole front
  pub again : (m : List ℕ) → first m ≡ first rest → r (front ++ m) ≡ got a m
  pub cut : r front ≡ got a []

-- a fault is met again with another rest that starts with the record at fault; without a rest nothing is at fault before the end
pub record Failed {A : Type 0} (r : Reader A) (bs at : List ℕ) : Type 0 where
  pub front : List ℕ
  pub splits : bs ≡ front ++ at
  pub whole : Whole front
  pub again : (m : List ℕ) → SameFront at m → r (front ++ m) ≡ fault m
  pub cut : Ended (r front)

-- all that a reader finds is steady so
pub record Steady {A : Type 0} (r : Reader A) : Type 0 where
  pub on_got : (bs : List ℕ) (a : A) (rest : List ℕ) → r bs ≡ got a rest → Found r bs a rest
  pub on_fault : (bs at : List ℕ) → r bs ≡ fault at → Failed r bs at

-- what a reader finds, either way
either_way : {A X : Type 0} (g : Got A) → ((a : A) (rest : List ℕ) → g ≡ got a rest → X) → ((at : List ℕ) → g ≡ fault at → X) → X
either_way (got a rest) f h = f a rest refl
either_way (fault at) f h = h at refl

nothing_left : (xs ys : List ℕ) → [] ≡ xs ++ ys → ys ≡ []
nothing_left [] ys e = sym e
nothing_left (x ∷ xs) ys e = let z : ◌≡◌ {A = ℕ} 0 1 = cc in absurd (omega arith)

steady_nil : {A : Type 0} (r : Reader A) → Steady r → Ended (r [])
steady_nil r w =
    either_way (r [])
    (λ a rest e. let f = w.on_got [] a rest e in ends_got a (e ∙ ap (got a) (nothing_left f.front rest f.splits)))
    (λ at e. let f = w.on_fault [] at e in ends_fault (e ∙ ap fault (nothing_left f.front at f.splits)))

-- a reader that finds what a steady one finds
pub steady_same : {A : Type 0} (r q : Reader A) → ((bs : List ℕ) → q bs ≡ r bs) → Steady r → Steady q
steady_same r q same w = record {
  on_got = λ bs a rest e.
      let f = w.on_got bs a rest (sym (same bs) ∙ e) in
      record {
        front = f.front;
        splits = f.splits;
        whole = f.whole;
        again = λ m h. same (f.front ++ m) ∙ f.again m h;
        cut = same f.front ∙ f.cut;
      };
  on_fault = λ bs at e.
      let f = w.on_fault bs at (sym (same bs) ∙ e) in
      record {
        front = f.front;
        splits = f.splits;
        whole = f.whole;
        again = λ m h. same (f.front ++ m) ∙ f.again m h;
        cut = subst Ended (sym (same f.front)) f.cut;
      };
}

-- a value without reading
pub steady_ret : {A : Type 0} (a : A) → Steady (ret a)
steady_ret a = record {
  on_got = λ bs b rest e.
      let p : a ≡ b = cc in
      let q : bs ≡ rest = cc in
      record {
        front = [];
        splits = q;
        whole = empty;
        again = λ m h. ap (λ (x : _). got x m) p;
        cut = ap (λ (x : _). got x []) p;
      };
  on_fault = λ bs at e. let z : ◌≡◌ {A = ℕ} 0 1 = cc in absurd (omega arith);
}

-- ---- one reader after another
next-fault : {A B X : Type 0} (g : Got A) (f : A → Reader B) (at : List ℕ) → next g f ≡ fault at
    → ((a : A) (m : List ℕ) → g ≡ got a m → f a m ≡ fault at → X) → (g ≡ fault at → X) → X
unfolding next
next-fault (got a m) f at e h k = h a m refl e
next-fault (fault m) f at e h k = let z : m ≡ at = cc in k (ap fault z)

module _ {A B : Type 0} (r : Reader A) (f : A → Reader B) (w : Steady r) (v : (a : A) → Steady (f a)) where
  -- what r found is found again with a part of what was behind it
  ahead : (bs : List ℕ) (a : A) (m : List ℕ) (x : Found r bs a m) (front tail : List ℕ) → m ≡ front ++ tail → r (x.front ++ front) ≡ got a front
  ahead bs a m x [] tail e = ap r (append-nil x.front) ∙ x.cut
  ahead bs a m x (b ∷ front) tail e = x.again (b ∷ front) (ap first (sym e))

  next-got_steady : (bs : List ℕ) (b : B) (rest : List ℕ) → next (r bs) f ≡ got b rest → Found (λ l. next (r l) f) bs b rest
  unfolding next
  next-got_steady bs b rest e =
      next_back (r bs) f b rest e λ a m p q.
      let x = w.on_got bs a m p in
      let y = (v a).on_got m b rest q in
      record {
        front = x.front ++ y.front;
        splits = x.splits ∙ ap (λ (l : List ℕ). x.front ++ l) y.splits ∙ sym (append_assoc x.front y.front rest);
        whole = whole_append y.front x.whole y.whole;
        again = λ n h.
            ap (λ (l : List ℕ). next (r l) f) (append_assoc x.front y.front n)
            ∙ ap (λ (g : Got A). next g f) (x.again (y.front ++ n) (first_append y.front n rest h ∙ sym (ap first y.splits)))
            ∙ y.again n h;
        cut = ap (λ (g : Got A). next g f) (ahead bs a m x y.front rest y.splits) ∙ y.cut;
      }

  next_ended : (g : Got A) → Ended g → Ended (next g f)
  unfolding next
  next_ended g (ends_got a e) = subst (λ (x : Got A). Ended (next x f)) (sym e) (steady_nil (f a) (v a))
  next_ended g (ends_fault e) = subst (λ (x : Got A). Ended (next x f)) (sym e) (ends_fault refl)

  next-fault_steady : (bs at : List ℕ) → next (r bs) f ≡ fault at → Failed (λ l. next (r l) f) bs at
  unfolding next
  next-fault_steady bs at e =
      next-fault (r bs) f at e
      (λ a m p q.
      let x = w.on_got bs a m p in
      let y = (v a).on_fault m at q in
      record {
        front = x.front ++ y.front;
        splits = x.splits ∙ ap (λ (l : List ℕ). x.front ++ l) y.splits ∙ sym (append_assoc x.front y.front at);
        whole = whole_append y.front x.whole y.whole;
        again = λ n h.
            ap (λ (l : List ℕ). next (r l) f) (append_assoc x.front y.front n)
            ∙ ap (λ (g : Got A). next g f)
            (x.again (y.front ++ n) (first_append y.front n at (same_first at n h) ∙ sym (ap first y.splits)))
            ∙ y.again n h;
        cut = subst (λ (g : Got A). Ended (next g f)) (sym (ahead bs a m x y.front at y.splits)) y.cut;
      })
      (λ p.
      let x = w.on_fault bs at p in
      record {
        front = x.front;
        splits = x.splits;
        whole = x.whole;
        again = λ n h. ap (λ (g : Got A). next g f) (x.again n h);
        cut = next_ended (r x.front) x.cut;
      })

  -- a steady reader after a steady one
  pub steady_next : Steady (λ bs. next (r bs) f)
  steady_next = record { on_got = next-got_steady; on_fault = next-fault_steady }

-- ---- a record
module _ {A : Type 0} (kind : ℕ) (f : List ℕ → Option A) where
  fault_here : (t : Bool) (here after at : List ℕ) (o : Option A)
      → ◌≡◌ {A = Got A} (elim t [ true ↦ given here after o | false ↦ fault here ]) (fault at) → here ≡ at
  unfolding given
  fault_here true here after at none e = cc
  fault_here true here after at (some a) e = cc
  fault_here false here after at o e = cc

  -- a record at fault is at fault where it starts
  judged-fault : (bs at : List ℕ) → judged kind f bs ≡ fault at → bs ≡ at
  unfolding judged
  judged-fault bs at e = fault_here (starts_with kind bs) bs _ at (f (take (body_length kind) (drop 1 bs))) e

  -- a record that is read where bs has the same bytes is read in bs
  read_too : {X : Type 0} (bs body rest : List ℕ) (a : A) → judged kind f bs ≡ fault bs → SameFront bs (kind ∷ (body ++ rest))
      → len body ≡ body_length kind → Bytes body → f body ≡ some a → X
  unfolding front_length len
  read_too [] body rest a e h k v o = let z : ◌≡◌ {A = ℕ} 0 1 = cc in absurd (omega arith)
  read_too (x ∷ u) body rest a e h k v o =
      let p : kind ≡ x = cc in
      let q : take (body_length x) (body ++ rest) ≡ take (body_length x) u = cc in
      let n = body_length kind in
      let t : take n u ≡ body = ap (λ (y : ℕ). take (body_length y) u) p ∙ sym q ∙ ap (λ (y : ℕ). take (body_length y) (body ++ rest)) (sym p) ∙ take_at body rest n k in
      let g : judged kind f (kind ∷ (body ++ drop n u)) ≡ got a (drop n u) = judged_there kind f body (drop n u) a k v o in
      let j : u ≡ body ++ drop n u = sym (take-append-drop n u) ∙ ap (λ (l : List ℕ). l ++ drop n u) t in
      let i : judged kind f (x ∷ u) ≡ judged kind f (kind ∷ (body ++ drop n u)) = ap₂ (λ (y : ℕ) (l : List ℕ). judged kind f (y ∷ l)) (sym p) j in
      no_both (judged kind f (x ∷ u)) e (i ∙ g)
    where
      no_both : {X : Type 0} {at rest : List ℕ} {a : A} (g : Got A) → g ≡ fault at → g ≡ got a rest → X
      no_both g d e = let z : ◌≡◌ {A = ℕ} 0 1 = cc in absurd (omega arith)

  fault_again : (bs m : List ℕ) → judged kind f bs ≡ fault bs → SameFront bs m → judged kind f m ≡ fault m
  fault_again bs m e h =
      either_way (judged kind f m)
      (λ a rest g. judged_back kind f m a rest g λ body p k v o. read_too bs body rest a e (ap (take (front_length bs)) (sym p) ∙ h) k v o)
      (λ at g. g ∙ ap fault (sym (judged-fault m at g)))

  -- a record that is judged
  pub steady_judged : Steady (judged kind f)
  unfolding judged starts_with
  steady_judged = record {
    on_got = λ bs a rest e.
        judged_back kind f bs a rest e λ body p k v o.
        record {
          front = kind ∷ body;
          splits = p;
          whole = whole_one kind body k;
          again = λ m h. judged_there kind f body m a k v o;
          cut = ap (λ (l : List ℕ). judged kind f (kind ∷ l)) (sym (append-nil body)) ∙ judged_there kind f body [] a k v o;
        };
    on_fault = λ bs at e.
        let p = judged-fault bs at e in
        record {
          front = [];
          splits = p;
          whole = empty;
          again = λ m h. fault_again at m (ap (judged kind f) (sym p) ∙ e) h;
          cut = ends_fault refl;
        };
  }

-- ---- a reader where a record of a kind comes, and a value where none comes
module _ {A : Type 0} (kind : ℕ) (a : A) (r g : Reader A) (some_comes : (bs : List ℕ) → comes kind bs ≡ true → g bs ≡ r bs)
    (none_comes : (bs : List ℕ) → comes kind bs ≡ false → g bs ≡ got a bs) (w : Steady r) (nil : r [] ≡ fault []) where
  comes_front : (front m rest : List ℕ) → first m ≡ first rest → comes kind (front ++ rest) ≡ true → comes kind (front ++ m) ≡ true
  comes_front front m rest h c = first-comes kind (front ++ m) (front ++ rest) (first_append front m rest h) ∙ c

  found_cut : (front rest : List ℕ) (b : A) → comes kind (front ++ rest) ≡ true → r front ≡ got b [] → g front ≡ got b []
  unfolding comes
  found_cut [] rest b c e = let z : ◌≡◌ {A = ℕ} 0 1 = cc in absurd (omega arith)
  found_cut (x ∷ front) rest b c e = some_comes (x ∷ front) c ∙ e

  failed_cut : (front at : List ℕ) → comes kind (front ++ at) ≡ true → Ended (r front) → Ended (g front)
  unfolding comes
  failed_cut [] at c e = ends_got a (none_comes [] refl)
  failed_cut (x ∷ front) at c e = subst Ended (sym (some_comes (x ∷ front) c)) e

  -- where the reader of those records is steady
  pub steady_where : Steady g
  unfolding comes
  steady_where = record {
    on_got = λ bs b rest e.
        by_test (comes kind bs)
        (λ c.
        let x = w.on_got bs b rest (sym (some_comes bs c) ∙ e) in
        let d : comes kind (x.front ++ rest) ≡ true = ap (comes kind) (sym x.splits) ∙ c in
        record {
          front = x.front;
          splits = x.splits;
          whole = x.whole;
          again = λ m h. some_comes (x.front ++ m) (comes_front x.front m rest h d) ∙ x.again m h;
          cut = found_cut x.front rest b d x.cut;
        })
        (λ c.
        let q = sym (none_comes bs c) ∙ e in
        record {
          front = [];
          splits = got_rest q;
          whole = empty;
          again = λ m h. none_comes m (first-comes kind m bs (h ∙ ap first (sym (got_rest q))) ∙ c) ∙ ap (λ (y : A). got y m) (got_value q);
          cut = none_comes [] refl ∙ ap (λ (y : A). got y []) (got_value q);
        });
    on_fault = λ bs at e.
        by_test (comes kind bs)
        (λ c.
        let x = w.on_fault bs at (sym (some_comes bs c) ∙ e) in
        let d : comes kind (x.front ++ at) ≡ true = ap (comes kind) (sym x.splits) ∙ c in
        record {
          front = x.front;
          splits = x.splits;
          whole = x.whole;
          again = λ m h. some_comes (x.front ++ m) (comes_front x.front m at (same_first at m h) d) ∙ x.again m h;
          cut = failed_cut x.front at d x.cut;
        })
        (λ c. let q = sym (none_comes bs c) ∙ e in let z : ◌≡◌ {A = ℕ} 0 1 = cc in absurd (omega arith));
  }
